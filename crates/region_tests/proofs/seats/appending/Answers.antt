use Rattle.std.proofs.Common.{subst}
use Rattle.lock_rules.specs.declared.table.LockKind.TheVariants.{Exclusive}
use Rattle.region_words.specs.Share.{Tries}
use Rattle.region_words.specs.Local.{seat_state}
use Rattle.region_tests.proofs.TornSample.{may_tear}
use Rattle.region_tests.proofs.seats.appending.Goals as goal

pub returns-in-Ok-Taken-clause-tears : goal.returns-in-Ok-Taken-clause-tears
returns-in-Ok-Taken-clause-tears c =
    let s = c.in_ok-seat.seat in
    let t = c.try_lock.new.self in
    let tried = subst (λ tried. Tries Exclusive tried (seat_state s) (seat_state t)) c.in-Ok-Taken.field-0-is c.in-Ok-Taken.ensures.ok in
    may_tear s t c.in_ok-seat.ensures.maker c.in_ok-seat.ensures.start c.in_ok-seat.ensures.past tried.0
