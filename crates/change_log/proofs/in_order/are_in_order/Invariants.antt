use Rattle.std.proofs.Common.{◌≡◌, ◌≤◌, ◌<◌, ℕ, get_or, length}
use Rattle.change_log.specs.declared.call.Answer.{Answer}
use Rattle.change_log.proofs.in_order.are_in_order.Given as goal

abbrev pub invariant-loop-i : goal.invariant-loop-i
invariant-loop-i l = (j k : ℕ) (d : Answer) → j < l.i → j < k → k < length l.answers → (get_or l.answers j d).who ≡ (get_or l.answers k d).who → (get_or l.answers j d).ended ≤ (get_or l.answers k d).begun
