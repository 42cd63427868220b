use Rattle.std.proofs.Common.{◌≡◌, false}
use Rattle.file_tests.proofs.under_lock.load_all.Given as goal

abbrev pub invariant-loop-word : goal.invariant-loop-word
invariant-loop-word g l = (l.share.ledger.ended ≡ false) × (l.share.ledger.lock ≡ l.fn.share.ledger.lock)
