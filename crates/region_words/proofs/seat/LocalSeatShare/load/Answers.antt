use Rattle.std.proofs.Common.{sym, subst, ◌∙◌}
use Rattle.region_words.specs.Share.{Goes, loaded}
use Rattle.region_words.specs.Local.{Seated, seat_state, seat_loaded}
use Rattle.region_words.proofs.SeatCalls.{after_loading}
use Rattle.region_words.proofs.seat.LocalSeatShare.load.Goals as goal

pub returns-clause-ok : goal.returns-clause-ok
returns-clause-ok c =
    let s = c.args.self.now in
    let e = c.self.view_is ∙ c.in_ok-begin.ensures.ok in
    let is = c.in_ok-begin.ensures.good in
    let maker = c.in_ok-begin.ensures.maker in
    rw c.count_load.ensures
    (subst (λ (t : Seated). Goes (loaded (seat_state s)) (seat_state s) (seat_state (seat_loaded t))) (sym e)
    (record { after = after_loading s.who s.region is maker; not_due = c.in_ok-begin.ensures.due }))
