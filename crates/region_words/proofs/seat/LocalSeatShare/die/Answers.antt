use Rattle.std.proofs.Common.{◌∷◌, refl, sym, subst, ◌∙◌}
use Rattle.region_words.specs.Past.{region_after}
use Rattle.region_words.specs.Lawful.{Lawful}
use Rattle.region_words.specs.Share.{Dies, torn_word}
use Rattle.region_words.specs.Local.{Seated, seat_state, seat_made, event_of}
use Rattle.region_words.specs.declared.event.What.TheVariants.{Died}
use Rattle.region_words.proofs.SeatCalls.{living, death_lawful, after_death}
use Rattle.region_words.proofs.seat.LocalSeatShare.die.Goals as goal

pub note-requires-clause-lawful : goal.note-requires-clause-lawful
note-requires-clause-lawful c =
    let s = c.args.self.now in
    let e = c.self.view_is ∙ c.in_ok-begin.ensures.ok in
    let is = c.in_ok-begin.ensures.good in
    let maker = c.in_ok-begin.ensures.maker in
    rw c.torn_word-torn.ensures (subst (λ (t : Seated). Lawful t.region.start (event_of t.who (Died (torn_word (region_after t.region.start t.region.past) c.args.torn)) ∷ t.region.past)) (sym e)
    (death_lawful s.who s.region is maker c.args.torn c.requires.torn c.requires.alive))

pub returns-clause-ok : goal.returns-clause-ok
returns-clause-ok c =
    let s = c.args.self.now in
    let e = c.self.view_is ∙ c.in_ok-begin.ensures.ok in
    let is = c.in_ok-begin.ensures.good in
    let maker = c.in_ok-begin.ensures.maker in
    let left = torn_word (region_after s.region.start s.region.past) c.args.torn in
    let lawful = death_lawful s.who s.region is maker c.args.torn c.requires.torn c.requires.alive in
    rw (c.note.ensures, c.torn_word-torn.ensures)
    (subst (λ (t : Seated). Dies c.args.torn (seat_state s) (seat_state (seat_made (Died (torn_word (region_after t.region.start t.region.past) c.args.torn)) t))) (sym e)
    (record { left = left; torn = refl; goes = record { after = after_death s.who s.region is maker left lawful (living s.who s.region is maker c.requires.alive).1; not_due = c.in_ok-begin.ensures.due } }))
