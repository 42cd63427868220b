use Rattle.std.proofs.Common.{◌≡◌, ◌+◌, ◌≤◌, length, set, sym, subst, arith, ◌∙◌}
use Rattle.std.specs.Prelude.{Some, true, slice_get}
use Rattle.std.proofs.lemmas.Option.{slice_get_read}
use Rattle.region_words.specs.Local.{seat_state}
use Rattle.opener.specs.Deaths.{DeathEnds, DeathSettles, DiesAt}
use Rattle.opener.specs.Opener.{Tied}
use Rattle.opener.specs.Quick.{ended_as}
use Rattle.opener.specs.State.{OpenerState}
use Rattle.world.specs.Moves.{Dies, world_of}
use Rattle.world.specs.World.{IsWorld, calls_running}
use Rattle.world.proofs.Dying.{fewer_dead, kills, world_dead}
use Rattle.world.proofs.Turns.{seated}
use Rattle.world.proofs.openers.die_at.Goals as goal

pub die-requires : goal.die-requires
die-requires c =
    let items = c.args.openers.now.items in
    let o = c.index_mut.result.now in
    let at : slice_get items c.args.place ≡ Some o = slice_get_read items (length items) c.args.place o (λ i. length items) (omega (arith, c.requires.inside, c.args.openers.now.ok.0)) c.index_mut.ensures.value in
    subst (λ (x : OpenerState). Tied x (seat_state c.turn_to.new.self)) (sym c.replace-opener.ensures.value)
    (seated c.args.seat.now.region c.turn_to.new.self items c.args.answers.now.items c.args.place o c.requires.world at c.turn_to.ensures)

pub returns-clause-world : goal.returns-clause-world
returns-clause-world c =
    let items = c.args.openers.now.items in
    let o = c.index_mut.result.now in
    let at : slice_get items c.args.place ≡ Some o = slice_get_read items (length items) c.args.place o (λ i. length items) (omega (arith, c.requires.inside, c.args.openers.now.ok.0)) c.index_mut.ensures.value in
    let was = c.replace-opener.ensures.value in
    let is : c.replace-opener.new.dest ≡ ended_as (c.args.place + 1) = c.replace-opener.ensures.after ∙ c.ended.ensures in
    subst (λ (x : OpenerState). IsWorld c.die.new.seat.region (set items c.args.place x) c.args.answers.now.items) (sym is)
    (world_dead c.args.seat.now.region c.turn_to.new.self c.die.new.seat items c.args.answers.now.items c.args.place o c.args.torn c.requires.world at c.turn_to.ensures (c.requires.alive o at)
    (subst (λ (x : OpenerState). DiesAt x.work c.args.torn (seat_state c.turn_to.new.self) (seat_state c.die.new.seat)) was c.die.ensures.dead)
    (subst (λ (x : OpenerState). DeathEnds x (seat_state c.die.new.seat)) was c.die.ensures.ended)
    (subst (λ (x : OpenerState). DeathSettles x (seat_state c.turn_to.new.self) (seat_state c.die.new.seat)) was c.die.ensures.settles))

pub returns-clause-fewer : goal.returns-clause-fewer
returns-clause-fewer c =
    let items = c.args.openers.now.items in
    let o = c.index_mut.result.now in
    let at : slice_get items c.args.place ≡ Some o = slice_get_read items (length items) c.args.place o (λ i. length items) (omega (arith, c.requires.inside, c.args.openers.now.ok.0)) c.index_mut.ensures.value in
    let was = c.replace-opener.ensures.value in
    let is : c.replace-opener.new.dest ≡ ended_as (c.args.place + 1) = c.replace-opener.ensures.after ∙ c.ended.ensures in
    subst (λ (x : OpenerState). calls_running (set items c.args.place x) ≤ calls_running items) (sym is)
    (fewer_dead c.args.seat.now.region c.turn_to.new.self c.die.new.seat items c.args.answers.now.items c.args.place o c.args.torn c.requires.world at c.turn_to.ensures (c.requires.alive o at)
    (subst (λ (x : OpenerState). DiesAt x.work c.args.torn (seat_state c.turn_to.new.self) (seat_state c.die.new.seat)) was c.die.ensures.dead)
    (subst (λ (x : OpenerState). DeathEnds x (seat_state c.die.new.seat)) was c.die.ensures.ended)
    (subst (λ (x : OpenerState). DeathSettles x (seat_state c.turn_to.new.self) (seat_state c.die.new.seat)) was c.die.ensures.settles))

pub returns-clause-dies : goal.returns-clause-dies
returns-clause-dies c noted =
    let items = c.args.openers.now.items in
    let o = c.index_mut.result.now in
    let at : slice_get items c.args.place ≡ Some o = slice_get_read items (length items) c.args.place o (λ i. length items) (omega (arith, c.requires.inside, c.args.openers.now.ok.0)) c.index_mut.ensures.value in
    let was = c.replace-opener.ensures.value in
    let is : c.replace-opener.new.dest ≡ ended_as (c.args.place + 1) = c.replace-opener.ensures.after ∙ c.ended.ensures in
    subst (λ (x : OpenerState). Dies (c.args.place + 1) c.args.torn true (world_of c.args.seat.now items c.args.answers.now.items noted) (world_of c.die.new.seat (set items c.args.place x) c.args.answers.now.items noted)) (sym is) (
      o,
      kills c.args.seat.now.region c.turn_to.new.self c.die.new.seat items c.args.answers.now.items c.args.place o c.args.torn c.requires.world at c.turn_to.ensures (c.requires.alive o at)
          (subst (λ (x : OpenerState). DiesAt x.work c.args.torn (seat_state c.turn_to.new.self) (seat_state c.die.new.seat)) was c.die.ensures.dead)
          (subst (λ (x : OpenerState). DeathEnds x (seat_state c.die.new.seat)) was c.die.ensures.ended)
          (subst (λ (x : OpenerState). DeathSettles x (seat_state c.turn_to.new.self) (seat_state c.die.new.seat)) was c.die.ensures.settles) noted,
    )
