use Rattle.std.proofs.Common.{◌≡◌, drop}
use Rattle.std.specs.Prelude.{fold}
use Rattle.expiring_map.specs.Map.{map_of_pairs, with_pair}
use Rattle.change_log.proofs.effects.map_of_pairs.Given as goal

abbrev pub invariant-loop-pair : goal.invariant-loop-pair
invariant-loop-pair l = fold with_pair l.map (drop l.pair-index l.pairs) ≡ map_of_pairs l.pairs
