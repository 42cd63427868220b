use Rattle.std.specs.Prelude.{◌≡◌, ℕ, ◌+◌, ◌<◌, ◌≤◌, All, Bool, List, [], None, length}
use Rattle.expiring_map.specs.Map.{Map}
use Rattle.kv_pairs.specs.Growth.{largest}
use Rattle.kv_pairs.specs.Reading.{units_at}
use Rattle.kv_pairs.specs.Mapped.{packed_size, with_items, first_without_room, IsPackable}
use Rattle.kv_pairs.specs.declared.item.Item.{Item}

-- the pairs of the map can be packed, and the payload that they make takes at most so many bytes
pub record FitsIn (flag : Bool) (m : Map) (room : ℕ) : Type 0 where
  pub pairs : IsPackable flag m
  pub size : packed_size flag m ≤ room

-- a map that fits in some bytes, and into which the items of more bytes come, fits in all of them
abbrev pub FitsWithMore : Type 0
FitsWithMore =
    (flag : Bool) (m : Map) (room : ℕ) (bytes : List ℕ) (items : List Item) → FitsIn flag m room →
    All (λ b. b < 256) bytes → length bytes ≤ largest → units_at bytes ≡ (items, []) → first_without_room flag items ≡ None →
    FitsIn flag (with_items flag m items) (room + length bytes)
