use Rattle.std.proofs.Common.{true, ◌∷◌, refl, sym, subst, ap, ◌∙◌}
use Rattle.std.specs.Prelude.{None}
use Rattle.region_words.specs.Lawful.{Lawful}
use Rattle.region_words.specs.Share.{Fails}
use Rattle.region_words.specs.Local.{Local, Seated, seat_state, event_of, called, with_event, with_fault}
use Rattle.region_words.specs.declared.event.What.TheVariants.{Died}
use Rattle.region_words.proofs.Permits.{may_die}
use Rattle.region_words.proofs.SeatCalls.{living, has_some, after_failure}
use Rattle.region_words.proofs.seat.LocalSeat.begin.Goals as goal

pub fail-requires-clause-lawful : goal.fail-requires-clause-lawful
fail-requires-clause-lawful c =
    let live = living c.self.inside.who c.self.inside.region c.next_fails.ensures.good c.self.invariant (ap (λ (t : Seated). (seat_state t).ended) c.self.view_is ∙ c.requires) in
    subst (λ (k : Local). Lawful k.start (event_of c.self.inside.who (Died None) ∷ k.past)) (sym c.next_fails.ensures.after) (may_die c.self.inside.region.start c.self.inside.region.past c.self.inside.who c.next_fails.ensures.good.lawful c.self.invariant live.0)

pub returns-then-next_fails-clause-err : goal.returns-then-next_fails-clause-err
returns-then-next_fails-clause-err c =
    let s : Seated = record { who = c.self.inside.who; region = c.self.inside.region } in
    let is = c.next_fails.ensures.good in
    let ended = ap (λ (t : Seated). (seat_state t).ended) c.self.view_is ∙ c.requires in
    let listed = c.next_fails.ensures.fails.0 c.if-next_fails.true in (
      refl,
      rw (c.fail.ensures, c.next_fails.ensures.after, c.if-next_fails.true)
          (subst (λ (t : Seated). Fails (seat_state t) (seat_state (record { who = s.who; region = with_fault (with_event (called s.region true) s.who (Died None)) s.who }))) c.self.view_is
          (record { after = after_failure s.who s.region is c.self.invariant ended; due = (has_some s.region.failing.listed s.region.failing.made listed, λ _. listed) })),
    )
