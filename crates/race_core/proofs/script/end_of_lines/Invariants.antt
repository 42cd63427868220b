use Rattle.std.proofs.Common.{◌≢◌, ℕ, ◌<◌, ◌≤◌, length, get_or}
use Rattle.race_core.proofs.script.end_of_lines.Given as goal

abbrev pub invariant-loop-size : goal.invariant-loop-size
invariant-loop-size l = (l.size ≤ length l.script) × ((k : ℕ) → l.size ≤ k → k < length l.script → get_or l.script k 0 ≢ 10)

abbrev pub decreases-loop-size : goal.decreases-loop-size
decreases-loop-size l = l.size
