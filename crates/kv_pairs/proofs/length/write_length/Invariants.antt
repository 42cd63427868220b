use Rattle.std.proofs.Common.{◌≡◌, ◌-◌, ◌^◌, ◌<◌, ◌≤◌, ◌++◌, length, take}
use Rattle.kv_pairs.specs.Lengths.{shortest, shortest_in}
use Rattle.kv_pairs.proofs.length.write_length.Given as goal

abbrev pub invariant-loop-left : goal.invariant-loop-left
invariant-loop-left l =
    record {
      five : length l.groups ≡ 5;
      room : l.size ≤ 4;
      small : l.left < 128 ^ (5 - l.size);
      so_far : take l.size l.groups ++ shortest_in (5 - l.size) l.left ≡ shortest l.n;
    }

abbrev pub decreases-loop-left : goal.decreases-loop-left
decreases-loop-left l = l.left
