use Rattle.std.proofs.Common.{subst, ◌∙◌}
use Rattle.lock_rules.specs.declared.table.LockKind.TheVariants.{Exclusive}
use Rattle.region_words.specs.Share.{Tries}
use Rattle.region_words.specs.Local.{seat_state}
use Rattle.region_words.proofs.FirstLock.{locked_past}
use Rattle.region_tests.proofs.SizeRepairSample.{may_repair}
use Rattle.region_tests.proofs.seats.repairing.Goals as goal

pub returns-in-Ok-clause-row : goal.returns-in-Ok-clause-row
returns-in-Ok-clause-row c =
    let s = c.in_ok-seat.seat in
    let t = c.try_lock.new.self in
    let tried = subst (λ tried. Tries Exclusive tried (seat_state s) (seat_state t)) c.in-Ok-Taken.field-0-is c.in-Ok-Taken.ensures.ok in
    let told = locked_past s t c.in_ok-seat.ensures.maker c.in_ok-seat.ensures.past tried.0 in
    may_repair t c.reserve.new.self 1 0 told.0 (told.1 ∙ c.in_ok-seat.ensures.start) told.2 c.in-Ok.ensures.ok
