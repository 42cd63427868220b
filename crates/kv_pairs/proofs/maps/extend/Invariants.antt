use Rattle.std.proofs.Common.{◌≡◌, true, map}
use Rattle.std.specs.List.{list_all}
use Rattle.kv_pairs.specs.Mapped.{with_items, has_room_for_expiry}
use Rattle.kv_pairs.proofs.maps.extend.Given as goal

abbrev pub invariant-loop-place : goal.invariant-loop-place
invariant-loop-place l =
    record {
      so_far : l.map ≡ with_items l.flag l.fn.map (map (λ p. p.1) l.yielded);
      room : list_all (has_room_for_expiry l.flag) (map (λ p. p.1) l.yielded) ≡ true;
    }
