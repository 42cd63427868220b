use Rattle.std.proofs.Common.{◌≡◌, ◌++◌}
use Rattle.std.specs.Prelude.{map}
use Rattle.expiring_map.specs.Kept.{pair_kept}
use Rattle.expiring_map.proofs.map.ExpiringMap.pairs.Given as goal

abbrev pub invariant-loop-key : goal.invariant-loop-key
invariant-loop-key l = l.pairs.items ++ map pair_kept l.key-iterator ≡ map pair_kept l.self-inside.kept.entries
