use Rattle.std.proofs.Common.{◌≡◌, length}
use Rattle.kv_pairs.specs.Mapped.{units_fit}
use Rattle.kv_pairs.proofs.maps.units_fit.Given as goal

abbrev pub invariant-loop-entry : goal.invariant-loop-entry
invariant-loop-entry l = units_fit l.flag l.fn.bytes ≡ units_fit l.flag l.rest

abbrev pub decreases-loop-entry : goal.decreases-loop-entry
decreases-loop-entry l = length l.rest
