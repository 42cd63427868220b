use Rattle.std.proofs.Common.{◌≡◌}
use Rattle.std.specs.Prelude.{filter}
use Rattle.std.specs.FinMap as fin
use Rattle.kv_pairs.specs.Mapped.{with_items, has_room_for_expiry}
use Rattle.kv_pairs.proofs.maps.map_greedy.Given as goal

abbrev pub invariant-loop-item : goal.invariant-loop-item
invariant-loop-item l = l.map ≡ with_items l.flag fin.empty (filter (has_room_for_expiry l.flag) l.yielded)
