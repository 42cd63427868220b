use Rattle.std.proofs.Common.{◌+◌, ◌∷◌, reverse, sym, subst, ap, arith}
use Rattle.std.proofs.lemmas.List.{reverse-append, length-reverse}
use Rattle.region_words.specs.Lawful.{Lawful}
use Rattle.region_words.specs.Local.{Local, TakesPlace, HasRoomToGrow, event_of}
use Rattle.region_words.specs.Inside.{local_of}
use Rattle.region_words.proofs.Keeping.{own_places, changes_few, keeps_event, takes, has_bytes}
use Rattle.region_words.proofs.region.LocalRegion.note.Goals as goal

pub after-after-requires-clause-few : goal.after-after-requires-clause-few
after-after-requires-clause-few c =
    let lawful = subst (λ (l : Local). Lawful l.start (event_of c.args.who c.args.what ∷ l.past)) (sym c.self.view_is) c.requires.lawful in
    let place = subst (λ (l : Local). TakesPlace l c.args.who c.args.what) (sym c.self.view_is) c.requires.place in
    let t = takes (local_of c.self.inside) _ _ _ _ _ _ _ c.self.invariant c.args.who lawful.1.maker.0 lawful.1.maker.1 c.args.what place lawful.1.possible in
    let own = own_places c.self.inside.accounts c.args.who lawful.1.maker.0 lawful.1.maker.1 in
    omega (arith, own, c.self.invariant.good.few)

pub overflow_sub-self-2 : goal.overflow_sub-self-2
overflow_sub-self-2 c =
    let lawful = subst (λ (l : Local). Lawful l.start (event_of c.args.who c.args.what ∷ l.past)) (sym c.self.view_is) c.requires.lawful in
    let place = subst (λ (l : Local). TakesPlace l c.args.who c.args.what) (sym c.self.view_is) c.requires.place in
    let t = takes (local_of c.self.inside) _ _ _ _ _ _ _ c.self.invariant c.args.who lawful.1.maker.0 lawful.1.maker.1 c.args.what place lawful.1.possible in
    let own = own_places c.self.inside.accounts c.args.who lawful.1.maker.0 lawful.1.maker.1 in
    omega (arith, own, c.self.invariant.kept_is)

pub overflow_add-self : goal.overflow_add-self
overflow_add-self c =
    omega (arith, c.commits.ensures.few, c.self.invariant.changes_are, changes_few (reverse c.self.inside.journal.items), c.self.invariant.good.few)

pub apply-requires-clause-room : goal.apply-requires-clause-room
apply-requires-clause-room c =
    let lawful = subst (λ (l : Local). Lawful l.start (event_of c.args.who c.args.what ∷ l.past)) (sym c.self.view_is) c.requires.lawful in
    let room = subst (λ (l : Local). HasRoomToGrow l c.args.who c.args.what) (sym c.self.view_is) c.requires.room in
    has_bytes (local_of c.self.inside) _ _ _ _ _ _ _ c.self.invariant c.args.who lawful.1.maker.0 lawful.1.maker.1 c.args.what room

pub note_event-requires : goal.note_event-requires
note_event-requires c =
    let lawful = subst (λ (l : Local). Lawful l.start (event_of c.args.who c.args.what ∷ l.past)) (sym c.self.view_is) c.requires.lawful in
    let place = subst (λ (l : Local). TakesPlace l c.args.who c.args.what) (sym c.self.view_is) c.requires.place in
    let t = takes (local_of c.self.inside) _ _ _ _ _ _ _ c.self.invariant c.args.who lawful.1.maker.0 lawful.1.maker.1 c.args.what place lawful.1.possible in
    let own = own_places c.self.inside.accounts c.args.who lawful.1.maker.0 lawful.1.maker.1 in
    omega (arith, c.self.inside.journal.ok.0, length-reverse c.self.inside.journal.items, c.self.invariant.places_for_all, c.self.invariant.kept_is, own, t.0)

pub invariant_of-self : goal.invariant_of-self
invariant_of-self c =
    let lawful = subst (λ (l : Local). Lawful l.start (event_of c.args.who c.args.what ∷ l.past)) (sym c.self.view_is) c.requires.lawful in
    let place = subst (λ (l : Local). TakesPlace l c.args.who c.args.what) (sym c.self.view_is) c.requires.place in
    let t = takes (local_of c.self.inside) _ _ _ _ _ _ _ c.self.invariant c.args.who lawful.1.maker.0 lawful.1.maker.1 c.args.what place lawful.1.possible in
    let own = own_places c.self.inside.accounts c.args.who lawful.1.maker.0 lawful.1.maker.1 in
    let room = c.self.invariant.room_for_each c.args.who in
    rw (c.after-after.ensures, c.note_event.ensures.items, reverse-append)
    (keeps_event (local_of c.self.inside) _ _ _ _ _ _ _ c.self.invariant c.args.who lawful.1.maker.0 lawful.1.maker.1 c.args.what lawful t.3 _ _ _ _ _ _ _
    c.apply.ensures.body c.apply.ensures.meta c.relock.ensures (omega (arith, t.1, own, c.self.invariant.kept_is)) (ap (λ n. c.self.inside.changes + n) c.commits.ensures.value)
    (omega (arith, t.1, own, c.self.invariant.kept_is, c.self.invariant.places_for_all, c.note_event.ensures.capacity))
    (omega (arith, t.2, room, c.apply.ensures.capacity)) c.apply.ensures.capacity)
