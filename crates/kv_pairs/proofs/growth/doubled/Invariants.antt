use Rattle.std.proofs.Common.{◌≡◌, ◌-◌, ◌≤◌}
use Rattle.kv_pairs.specs.Growth.{grown_to}
use Rattle.kv_pairs.proofs.growth.doubled.Given as goal

abbrev pub invariant-loop-size : goal.invariant-loop-size
invariant-loop-size l =
    record {
      least : 4096 ≤ l.size;
      most : l.size ≤ 67108864;
      same : grown_to l.wanted l.fn.file ≡ grown_to l.wanted l.size;
    }

abbrev pub decreases-loop-size : goal.decreases-loop-size
decreases-loop-size l = 67108864 - l.size
