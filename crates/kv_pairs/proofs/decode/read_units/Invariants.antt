use Rattle.std.proofs.Common.{length}
use Rattle.kv_pairs.proofs.Stepping.{GoesOn}
use Rattle.kv_pairs.proofs.decode.read_units.Given as goal

abbrev pub invariant-loop-entry : goal.invariant-loop-entry
invariant-loop-entry l = GoesOn l.items.items l.rest l.fn.bytes

abbrev pub decreases-loop-entry : goal.decreases-loop-entry
decreases-loop-entry l = length l.rest
