use Rattle.std.proofs.Common.{◌∷◌, sym, subst, ◌∙◌}
use Rattle.region_words.specs.Lawful.{Lawful}
use Rattle.region_words.specs.Share.{Goes, unlocked_by}
use Rattle.region_words.specs.Local.{Seated, seat_state, seat_made, event_of}
use Rattle.region_words.specs.declared.event.What.TheVariants.{Unlock}
use Rattle.region_words.proofs.SeatCalls.{after_unlock}
use Rattle.region_words.proofs.seat.LocalSeatShare.unlock.Goals as goal

pub note-requires-clause-lawful : goal.note-requires-clause-lawful
note-requires-clause-lawful c =
    let s = c.args.self.now in
    let e = c.self.view_is ∙ c.in_ok-begin.ensures.ok in
    let is = c.in_ok-begin.ensures.good in
    let maker = c.in_ok-begin.ensures.maker in
    subst (λ (t : Seated). Lawful t.region.start (event_of t.who (Unlock) ∷ t.region.past)) (sym e) c.requires.lawful

pub returns-clause-ok : goal.returns-clause-ok
returns-clause-ok c =
    let s = c.args.self.now in
    let e = c.self.view_is ∙ c.in_ok-begin.ensures.ok in
    let is = c.in_ok-begin.ensures.good in
    let maker = c.in_ok-begin.ensures.maker in
    rw c.note.ensures
    (subst (λ (t : Seated). Goes (unlocked_by (seat_state s)) (seat_state s) (seat_state (seat_made (Unlock) t))) (sym e)
    (record { after = after_unlock s.who s.region is maker c.requires.lawful; not_due = c.in_ok-begin.ensures.due }))
