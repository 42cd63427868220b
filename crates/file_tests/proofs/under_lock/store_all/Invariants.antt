use Rattle.std.proofs.Common.{◌≡◌, false, Some}
use Rattle.lock_rules.specs.declared.table.LockKind.TheVariants.{Exclusive}
use Rattle.file_tests.proofs.under_lock.store_all.Given as goal

abbrev pub invariant-loop-side : goal.invariant-loop-side
invariant-loop-side g l = (l.share.ledger.ended ≡ false) × (l.share.ledger.lock ≡ Some Exclusive)
