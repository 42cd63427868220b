use Rattle.std.proofs.Common.{◌≡◌, length}
use Rattle.stores_bench.proofs.pairs.pattern.Given as goal

abbrev pub invariant-loop-place : goal.invariant-loop-place
invariant-loop-place l = length l.bytes.items ≡ l.place
