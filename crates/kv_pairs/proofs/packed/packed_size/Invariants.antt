use Rattle.std.proofs.Common.{◌≡◌, ◌+◌, ◌*◌, ◌≤◌, length, map}
use Rattle.expiring_map.specs.Lent.{lent}
use Rattle.kv_pairs.proofs.Pairs.{items_of_pairs}
use Rattle.kv_pairs.proofs.packed.packed_size.Given as goal

abbrev pub invariant-loop-pair : goal.invariant-loop-pair
invariant-loop-pair l =
    record {
      size : l.size ≡ length (items_of_pairs l.flag (map lent l.yielded));
      small : l.size ≤ 4 + length l.yielded * 268435470;
    }
