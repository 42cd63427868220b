use Rattle.std.proofs.Common.{◌∷◌, sym, subst, ◌∙◌}
use Rattle.region_words.specs.Lawful.{Lawful}
use Rattle.region_words.specs.Share.{Goes, stored}
use Rattle.region_words.specs.Local.{Seated, seat_state, seat_made, event_of}
use Rattle.region_words.specs.declared.event.What.TheVariants.{Grow}
use Rattle.region_words.proofs.SeatCalls.{after_grow}
use Rattle.region_words.proofs.seat.LocalSeatShare.grow.Goals as goal

pub note-requires-clause-lawful : goal.note-requires-clause-lawful
note-requires-clause-lawful c =
    let s = c.args.self.now in
    let e = c.self.view_is ∙ c.in_ok-begin.ensures.ok in
    let is = c.in_ok-begin.ensures.good in
    let maker = c.in_ok-begin.ensures.maker in
    subst (λ (t : Seated). Lawful t.region.start (event_of t.who (Grow c.args.size) ∷ t.region.past)) (sym e) c.requires.lawful

pub returns-clause-ok : goal.returns-clause-ok
returns-clause-ok c =
    let s = c.args.self.now in
    let e = c.self.view_is ∙ c.in_ok-begin.ensures.ok in
    let is = c.in_ok-begin.ensures.good in
    let maker = c.in_ok-begin.ensures.maker in
    rw c.note.ensures
    (subst (λ (t : Seated). Goes (stored (Grow c.args.size) (seat_state s)) (seat_state s) (seat_state (seat_made (Grow c.args.size) t))) (sym e)
    (record { after = after_grow s.who s.region is maker c.args.size c.requires.lawful c.requires.place; not_due = c.in_ok-begin.ensures.due }))
