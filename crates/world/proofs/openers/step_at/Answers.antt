use Rattle.std.proofs.Common.{◌≡◌, length, sym, subst, ap, arith}
use Rattle.std.specs.Prelude.{Some, false, slice_get, vec_capacity}
use Rattle.std.proofs.lemmas.Option.{slice_get_read}
use Rattle.region_words.specs.Local.{seat_state}
use Rattle.world.specs.World.{IsWorld}
use Rattle.world.proofs.Turns.{Made, held_kept, moves_by, room_after, room_for, seated, start_same, steps_are, world_after}
use Rattle.world.proofs.openers.step_at.Goals as goal

pub step-came-requires : goal.step-came-requires
step-came-requires c =
    let items = c.args.openers.now.items in
    let o = c.index_mut.result.now in
    let at : slice_get items c.args.place ≡ Some o = slice_get_read items (length items) c.args.place o (λ i. length items) (omega (arith, c.requires.inside, c.args.openers.now.ok.0)) c.index_mut.ensures.value in
    seated c.args.seat.now.region c.turn_to.new.self items c.args.answers.now.items c.args.place o c.requires.world at c.turn_to.ensures

pub said-requires-clause-room : goal.said-requires-clause-room
said-requires-clause-room c =
    let items = c.args.openers.now.items in
    let o = c.index_mut.result.now in
    let at : slice_get items c.args.place ≡ Some o = slice_get_read items (length items) c.args.place o (λ i. length items) (omega (arith, c.requires.inside, c.args.openers.now.ok.0)) c.index_mut.ensures.value in
    room_for items _ c.args.place o c.step-came.new.self c.step-came.result (vec_capacity c.args.answers.now) at c.step-came.ensures.call c.requires.room

pub returns-clause-world : goal.returns-clause-world
returns-clause-world c =
    let items = c.args.openers.now.items in
    let o = c.index_mut.result.now in
    let at : slice_get items c.args.place ≡ Some o = slice_get_read items (length items) c.args.place o (λ i. length items) (omega (arith, c.requires.inside, c.args.openers.now.ok.0)) c.index_mut.ensures.value in
    let e = c.step-came.ensures in
    let made : Made o c.step-came.new.self c.step-came.result (seat_state c.turn_to.new.self) (seat_state c.step-came.new.share) = record { tied = e.tied; makes = e.makes; adds = e.adds; call = e.call; cause = e.cause; takes = e.takes; acts = e.acts; stores = e.stores; answer = e.answer; place = e.place; image = e.image; counts = e.counts; falls = e.falls; settles = e.settles } in
    subst (IsWorld _ _) (sym c.said.ensures.answers)
    (world_after c.args.seat.now.region c.turn_to.new.self c.step-came.new.share items c.args.answers.now.items c.args.place o c.step-came.new.self c.step-came.result c.requires.world at c.turn_to.ensures made)

pub returns-clause-room : goal.returns-clause-room
returns-clause-room c =
    let items = c.args.openers.now.items in
    let o = c.index_mut.result.now in
    let at : slice_get items c.args.place ≡ Some o = slice_get_read items (length items) c.args.place o (λ i. length items) (omega (arith, c.requires.inside, c.args.openers.now.ok.0)) c.index_mut.ensures.value in
    let e = c.step-came.ensures in
    let made : Made o c.step-came.new.self c.step-came.result (seat_state c.turn_to.new.self) (seat_state c.step-came.new.share) = record { tied = e.tied; makes = e.makes; adds = e.adds; call = e.call; cause = e.cause; takes = e.takes; acts = e.acts; stores = e.stores; answer = e.answer; place = e.place; image = e.image; counts = e.counts; falls = e.falls; settles = e.settles } in
    let room = room_after c.args.seat.now.region c.turn_to.new.self c.step-came.new.share items c.args.answers.now.items c.args.place o c.step-came.new.self c.step-came.result c.requires.world at c.turn_to.ensures made
    (vec_capacity c.args.answers.now) (omega (arith, c.requires.room, c.args.answers.now.ok.0)) in
    omega (arith, room, ap length c.said.ensures.answers, c.said.new.answers.ok.0, c.said.ensures.capacity)

pub returns-clause-moves : goal.returns-clause-moves
returns-clause-moves c noted =
    let items = c.args.openers.now.items in
    let o = c.index_mut.result.now in
    let at : slice_get items c.args.place ≡ Some o = slice_get_read items (length items) c.args.place o (λ i. length items) (omega (arith, c.requires.inside, c.args.openers.now.ok.0)) c.index_mut.ensures.value in
    let e = c.step-came.ensures in
    let made : Made o c.step-came.new.self c.step-came.result (seat_state c.turn_to.new.self) (seat_state c.step-came.new.share) = record { tied = e.tied; makes = e.makes; adds = e.adds; call = e.call; cause = e.cause; takes = e.takes; acts = e.acts; stores = e.stores; answer = e.answer; place = e.place; image = e.image; counts = e.counts; falls = e.falls; settles = e.settles } in
    let steps = steps_are c.args.seat.now.region c.turn_to.new.self c.step-came.new.share items c.args.answers.now.items c.args.place o c.step-came.new.self c.step-came.result c.requires.world at c.turn_to.ensures made
    noted c.said.new.answers.items c.said.ensures.answers (c.requires.alive o at) in
    moves_by _ _ c.said.result _ _ o c.step-came.new.self c.step-came.result c.said.ensures.said (omega (arith, c.args.answers.now.ok.0)) steps

pub returns-clause-held : goal.returns-clause-held
returns-clause-held c =
    let items = c.args.openers.now.items in
    let o = c.index_mut.result.now in
    let at : slice_get items c.args.place ≡ Some o = slice_get_read items (length items) c.args.place o (λ i. length items) (omega (arith, c.requires.inside, c.args.openers.now.ok.0)) c.index_mut.ensures.value in
    let e = c.step-came.ensures in
    let made : Made o c.step-came.new.self c.step-came.result (seat_state c.turn_to.new.self) (seat_state c.step-came.new.share) = record { tied = e.tied; makes = e.makes; adds = e.adds; call = e.call; cause = e.cause; takes = e.takes; acts = e.acts; stores = e.stores; answer = e.answer; place = e.place; image = e.image; counts = e.counts; falls = e.falls; settles = e.settles } in
    held_kept c.args.seat.now.region c.turn_to.new.self c.step-came.new.share items c.args.answers.now.items c.args.place o c.step-came.new.self c.step-came.result c.requires.world at c.turn_to.ensures made c.said.new.answers.items false

pub returns-clause-start : goal.returns-clause-start
returns-clause-start c =
    let items = c.args.openers.now.items in
    let o = c.index_mut.result.now in
    let at : slice_get items c.args.place ≡ Some o = slice_get_read items (length items) c.args.place o (λ i. length items) (omega (arith, c.requires.inside, c.args.openers.now.ok.0)) c.index_mut.ensures.value in
    let e = c.step-came.ensures in
    let made : Made o c.step-came.new.self c.step-came.result (seat_state c.turn_to.new.self) (seat_state c.step-came.new.share) = record { tied = e.tied; makes = e.makes; adds = e.adds; call = e.call; cause = e.cause; takes = e.takes; acts = e.acts; stores = e.stores; answer = e.answer; place = e.place; image = e.image; counts = e.counts; falls = e.falls; settles = e.settles } in
    start_same c.args.seat.now.region c.turn_to.new.self c.step-came.new.share items c.args.answers.now.items c.args.place o c.step-came.new.self c.step-came.result c.requires.world at c.turn_to.ensures made
