use Rattle.std.proofs.Common.{◌≡◌, ◌++◌, map}
use Rattle.expiring_map.specs.Lent.{lent}
use Rattle.kv_pairs.proofs.Pairs.{items_of_pairs}
use Rattle.kv_pairs.proofs.packed.write_map.Given as goal

abbrev pub invariant-loop-pair : goal.invariant-loop-pair
invariant-loop-pair l = l.out.items ≡ l.fn.out.items ++ items_of_pairs l.flag (map lent l.yielded)
