use Rattle.std.specs.Prelude.{◌≡◌, ℕ, ◌+◌, ◌-◌, ◌^◌, ◌<◌, ◌≤◌, All, Bool, false, List, [], ◌∷◌, ◌++◌, Option, Some, None, length, take, drop, fold, option_and_then, option_map, filter, flat_map, nat_lt, not, ◌&&◌, ◌||◌, ◌==◌, if◌then◌else◌}
use Rattle.std.specs.List.{list_all}
use Rattle.std.specs.Int.{to_le_bytes, from_le_bytes, w32}
use Rattle.std.specs.FinMap as fin
use Rattle.expiring_map.specs.ValueUntil.{ValueUntil}
use Rattle.expiring_map.specs.Map.{Map, value_until}
use Rattle.kv_pairs.specs.Lengths.{shortest}
use Rattle.kv_pairs.specs.Reading.{units_at, items_of, greedy_items}
use Rattle.kv_pairs.specs.declared.item.Item.{Item}
use Rattle.kv_pairs.specs.declared.packed.TheConstants.{LONGEST_FIELD}

-- the bytes that stand for a value: with the flag, its expiry follows in four bytes
abbrev pub stored : Bool → ValueUntil → List ℕ
stored flag d = d.value ++ (if flag then to_le_bytes w32 d.expiry else [])

-- the value and expiry that such bytes stand for
abbrev pub unstored : Bool → List ℕ → ValueUntil
unstored flag bytes =
    if flag
    then value_until (take (length bytes - 4) bytes) (from_le_bytes w32 (drop (length bytes - 4) bytes))
    else value_until bytes 0

-- an empty value removes the key; another gives it its value
abbrev pub with_item : Bool → Map → Item → Map
with_item flag m item =
    if length item.value == 0 then fin.remove m item.key else fin.insert m item.key (unstored flag item.value)

-- with the flag, a value has room for its expiry and a byte, or is empty
abbrev pub has_room_for_expiry : Bool → Item → Bool
has_room_for_expiry flag item = not flag || ((length item.value == 0) || nat_lt 4 (length item.value))

abbrev pub with_items : Bool → Map → List Item → Map
with_items flag m items = fold (with_item flag) m items

-- the map of these items, each key with its last: none where the flag is on and a value has no room for its expiry
abbrev pub map_of : Bool → List Item → Option Map
map_of flag items = if list_all (has_room_for_expiry flag) items then Some (with_items flag fin.empty items) else None

-- the map of a payload: none where it has no items, or its items have no map
abbrev pub map_in : Bool → List ℕ → Option Map
map_in flag bytes = option_and_then (map_of flag) (items_of bytes)

-- the bytes are units to their end, and each of their items has room for its expiry
abbrev pub units_fit : Bool → List ℕ → Bool
units_fit flag bytes = list_all (has_room_for_expiry flag) (units_at bytes).0 && (length (units_at bytes).1 == 0)

-- the first place at which an item has no room for its expiry
abbrev pub first_without_room : Bool → List Item → Option ℕ
first_without_room flag [] = None
first_without_room flag (item ∷ items) =
    if has_room_for_expiry flag item then option_map (λ place. place + 1) (first_without_room flag items) else Some 0

-- the map of the items that a payload begins with, but for those with no room for their expiry
abbrev pub greedy_map : Bool → List ℕ → Map
greedy_map flag bytes = with_items flag fin.empty (filter (has_room_for_expiry flag) (greedy_items bytes))

-- bytes with their length before them
abbrev pub length_prefixed : List ℕ → List ℕ
length_prefixed bytes = shortest (length bytes) ++ bytes

-- the item that gives this key this value; the item that removes it
abbrev pub put_item : Bool → List ℕ → ValueUntil → List ℕ
put_item flag key d = length_prefixed key ++ length_prefixed (stored flag d)

abbrev pub remove_item : List ℕ → List ℕ
remove_item key = length_prefixed key ++ length_prefixed []

-- the item that is appended for a key and a value: an empty value removes the key
abbrev pub written_item : Bool → List ℕ → ValueUntil → List ℕ
written_item flag key d = if length d.value == 0 then remove_item key else put_item flag key d

-- where a payload begins, the three bytes and a 7 stand for a length that counts for nothing
abbrev pub heading : List ℕ
heading = 0xff ∷ 0xff ∷ 0xff ∷ 0x07 ∷ []

-- the payload of a map: its items in byte order of keys
unfoldable pub packed : Bool → Map → List ℕ
packed flag m = heading ++ flat_map (λ e. put_item flag e.0 e.1) (fin.entries m)

abbrev pub packed_size : Bool → Map → ℕ
packed_size flag m = length (packed flag m)

-- neither the key nor the value is longer than an item takes
abbrev pub IsShort : List ℕ → ValueUntil → Type 0
IsShort key d = (length key ≤ LONGEST_FIELD) × (length d.value ≤ LONGEST_FIELD)

-- the map has such pairs alone, and fewer than 2 ^ 32
pub record IsSmall (m : Map) : Type 0 where
  pub short : (key : List ℕ) (d : ValueUntil) → fin.get m key ≡ Some d → IsShort key d
  pub few : fin.len m < 2 ^ 32

-- a pair that can be packed and read again: key and value aren't empty, and without the flag it has no expiry
pub record IsPackablePair (flag : Bool) (key : List ℕ) (d : ValueUntil) : Type 0 where
  pub key_some : 0 < length key
  pub key_short : length key ≤ 2 ^ 26
  pub key_bytes : All (λ b. b < 256) key
  pub value_some : 0 < length d.value
  pub value_short : length d.value ≤ 2 ^ 26
  pub value_bytes : All (λ b. b < 256) d.value
  pub expiry_small : d.expiry < 2 ^ 32
  pub no_expiry : flag ≡ false → d.expiry ≡ 0

-- the map has such pairs alone
abbrev pub IsPackable : Bool → Map → Type 0
IsPackable flag m = (key : List ℕ) (d : ValueUntil) → fin.get m key ≡ Some d → IsPackablePair flag key d
