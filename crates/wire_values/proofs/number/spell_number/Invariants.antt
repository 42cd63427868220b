use Rattle.std.proofs.Common.{◌≡◌, ◌-◌, ◌^◌, ◌<◌, ◌≤◌, ◌++◌, length, take}
use Rattle.kv_pairs.specs.Lengths.{shortest_in}
use Rattle.wire_values.specs.Spelling.{number_spelling}
use Rattle.wire_values.proofs.number.spell_number.Given as goal

abbrev pub invariant-loop-left : goal.invariant-loop-left
invariant-loop-left l =
    record {
      ten : length l.groups ≡ 10;
      room : l.size ≤ 9;
      small : l.left < 128 ^ (10 - l.size);
      so_far : take l.size l.groups ++ shortest_in (10 - l.size) l.left ≡ number_spelling l.n;
    }

abbrev pub decreases-loop-left : goal.decreases-loop-left
decreases-loop-left l = l.left
