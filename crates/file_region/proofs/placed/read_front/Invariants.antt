use Rattle.std.proofs.Common.{◌≤◌, length}
use Rattle.file_region.proofs.placed.read_front.Given as goal

abbrev pub invariant-loop : goal.invariant-loop
invariant-loop g l = l.filled ≤ length l.buffer
