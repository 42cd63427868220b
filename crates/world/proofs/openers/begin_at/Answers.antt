use Rattle.std.proofs.Common.{◌≡◌, length, arith}
use Rattle.std.specs.Prelude.{Some, slice_get}
use Rattle.std.proofs.lemmas.Option.{slice_get_read}
use Rattle.world.proofs.Turns.{calls_begun, lives_at, seated, world_begun, world_kept}
use Rattle.world.proofs.openers.begin_at.Goals as goal

pub begin-requires : goal.begin-requires
begin-requires c =
    let items = c.args.openers.now.items in
    let o = c.index_mut.result.now in
    let at : slice_get items c.args.place ≡ Some o = slice_get_read items (length items) c.args.place o (λ i. length items) (omega (arith, c.requires.inside, c.args.openers.now.ok.0)) c.index_mut.ensures.value in
    seated c.args.seat.now.region c.turn_to.new.self items c.args.answers.now.items c.args.place o c.requires.world at c.turn_to.ensures

pub returns-in-Ok-clause-world : goal.returns-in-Ok-clause-world
returns-in-Ok-clause-world c =
    let items = c.args.openers.now.items in
    let o = c.index_mut.result.now in
    let at : slice_get items c.args.place ≡ Some o = slice_get_read items (length items) c.args.place o (λ i. length items) (omega (arith, c.requires.inside, c.args.openers.now.ok.0)) c.index_mut.ensures.value in
    world_begun c.args.seat.now.region c.turn_to.new.self items c.args.answers.now.items c.args.place o c.begin.new.self c.requires.world at c.turn_to.ensures c.begin.ensures.tied c.in-Ok.ensures.settles c.in-Ok.ensures.counts

pub returns-in-Ok-clause-ok : goal.returns-in-Ok-clause-ok
returns-in-Ok-clause-ok c noted =
    let items = c.args.openers.now.items in
    let o = c.index_mut.result.now in
    let at : slice_get items c.args.place ≡ Some o = slice_get_read items (length items) c.args.place o (λ i. length items) (omega (arith, c.requires.inside, c.args.openers.now.ok.0)) c.index_mut.ensures.value in
    calls_begun c.args.seat.now.region c.turn_to.new.self items c.args.answers.now.items c.args.place o c.begin.new.self c.requires.world at c.turn_to.ensures c.begin.ensures.tied
    noted c.args.call c.args.now c.in-Ok.ensures.first c.in-Ok.ensures.ok c.in-Ok.ensures.bound c.in-Ok.ensures.counts (c.requires.alive o at)

pub returns-in-Err-clause-world : goal.returns-in-Err-clause-world
returns-in-Err-clause-world c =
    let items = c.args.openers.now.items in
    let o = c.index_mut.result.now in
    let at : slice_get items c.args.place ≡ Some o = slice_get_read items (length items) c.args.place o (λ i. length items) (omega (arith, c.requires.inside, c.args.openers.now.ok.0)) c.index_mut.ensures.value in
    world_kept c.args.seat.now.region c.turn_to.new.self items c.args.answers.now.items c.args.place o c.begin.new.self c.requires.world at c.turn_to.ensures c.in-Err.ensures.same

pub returns-in-Err-clause-err : goal.returns-in-Err-clause-err
returns-in-Err-clause-err c noted =
    let items = c.args.openers.now.items in
    let o = c.index_mut.result.now in
    let at : slice_get items c.args.place ≡ Some o = slice_get_read items (length items) c.args.place o (λ i. length items) (omega (arith, c.requires.inside, c.args.openers.now.ok.0)) c.index_mut.ensures.value in
    (o, lives_at items c.args.place o at (c.requires.alive o at), c.in-Err.ensures.refused.0)
