use Rattle.std.proofs.Common.{◌∷◌, sym, subst, ◌∙◌}
use Rattle.region_words.specs.Lawful.{Lawful}
use Rattle.region_words.specs.Share.{Goes, stored}
use Rattle.region_words.specs.Local.{Seated, seat_state, seat_made, event_of}
use Rattle.region_words.specs.declared.event.What.TheVariants.{Store}
use Rattle.region_words.proofs.SeatCalls.{after_store}
use Rattle.region_words.proofs.seat.LocalSeatShare.store.Goals as goal

pub note-requires-clause-lawful : goal.note-requires-clause-lawful
note-requires-clause-lawful c =
    let s = c.args.self.now in
    let e = c.self.view_is ∙ c.in_default.ensures.ok in
    let is = c.in_default.ensures.good in
    let maker = c.in_default.ensures.maker in
    subst (λ (t : Seated). Lawful t.region.start (event_of t.who (Store c.args.side c.args.word c.args.value c.args.mark) ∷ t.region.past)) (sym e) c.requires.lawful

pub returns-clause-ok : goal.returns-clause-ok
returns-clause-ok c =
    let s = c.args.self.now in
    let e = c.self.view_is ∙ c.in_default.ensures.ok in
    let is = c.in_default.ensures.good in
    let maker = c.in_default.ensures.maker in
    rw c.note.ensures
    (subst (λ (t : Seated). Goes (stored (Store c.args.side c.args.word c.args.value c.args.mark) (seat_state s)) (seat_state s) (seat_state (seat_made (Store c.args.side c.args.word c.args.value c.args.mark) t))) (sym e)
    (record { after = after_store s.who s.region is maker c.args.side c.args.word c.args.value c.args.mark c.requires.lawful c.requires.place; not_due = c.in_default.ensures.due }))
