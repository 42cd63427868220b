use Rattle.std.proofs.Common.{◌<◌, ◌≤◌, ℕ, get_or, length}
use Rattle.change_log.specs.declared.call.Answer.{Answer}
use Rattle.change_log.proofs.weaving.first_beyond.Given as goal

abbrev pub invariant-loop-i : goal.invariant-loop-i
invariant-loop-i l = (k : ℕ) (d : Answer) → k < l.i → (get_or l.answers k d).place ≤ length l.changes
