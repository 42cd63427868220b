use Rattle.std.proofs.Common.{subst, ◌∙◌}
use Rattle.lock_rules.specs.declared.table.LockKind.TheVariants.{Exclusive}
use Rattle.region_words.specs.Share.{Tries}
use Rattle.region_words.specs.Local.{seat_state}
use Rattle.region_words.proofs.FirstLock.{locked_past}
use Rattle.region_tests.proofs.GrowSample.{may_grow}
use Rattle.region_tests.proofs.growing.growing.Goals as goal

pub returns-in-Ok-clause-lawful : goal.returns-in-Ok-clause-lawful
returns-in-Ok-clause-lawful c =
    let s = c.in_ok-seat.seat in
    let t = c.try_lock.new.self in
    let tried = subst (λ tried. Tries Exclusive tried (seat_state s) (seat_state t)) c.in-Ok-Taken.field-0-is c.in-Ok-Taken.ensures.ok in
    let told = locked_past s t c.in_ok-seat.ensures.maker c.in_ok-seat.ensures.past tried.0 in
    may_grow t c.reserve.new.self 1 8192 told.0 (told.1 ∙ c.in_ok-seat.ensures.start) told.2 c.in-Ok.ensures.ok
