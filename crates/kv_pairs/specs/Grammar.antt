use Rattle.std.specs.Prelude.{◌≡◌, ℕ, ◌<◌, ◌≤◌, List, [], ◌∷◌, ◌++◌, length, take}
use Rattle.kv_pairs.specs.Lengths.{Spells}
use Rattle.kv_pairs.specs.declared.item.Item.{Item}

-- The bytes are units one after another, and these are their items in order. A unit is a zero, which gives no
-- item, or an item: the length of a key that isn't empty, the key, the length of a value, the value.
pub data Units : List ℕ → List Item → Type 0 where
  none : Units [] []
  gap : {bytes zero_text rest : List ℕ} {items : List Item} →
      bytes ≡ zero_text ++ rest → Spells zero_text 0 → Units rest items → Units bytes items
  one : {bytes key_text key value_text value rest : List ℕ} {items : List Item} →
      bytes ≡ key_text ++ key ++ value_text ++ value ++ rest →
      Spells key_text (length key) → 0 < length key → Spells value_text (length value) →
      Units rest items → Units bytes (record { key = key; value = value } ∷ items)

-- the payload is empty, or one spelling, which counts for nothing, and then units to its end
pub data IsPayloadOf : List ℕ → List Item → Type 0 where
  empty : IsPayloadOf [] []
  begun : {bytes text rest : List ℕ} {items : List Item} (n : ℕ) →
      bytes ≡ text ++ rest → Spells text n → Units rest items → IsPayloadOf bytes items

-- the longest front of the payload that has items is of this size and has these
pub record IsGreedy (bytes : List ℕ) (size : ℕ) (items : List Item) : Type 0 where
  pub within : size ≤ length bytes
  pub front : IsPayloadOf (take size bytes) items
  pub longest : (longer : ℕ) (others : List Item) → longer ≤ length bytes → IsPayloadOf (take longer bytes) others → longer ≤ size

-- the longest front that is units one after another is of this size and has these items
pub record IsLongestRun (bytes : List ℕ) (size : ℕ) (items : List Item) : Type 0 where
  pub within : size ≤ length bytes
  pub front : Units (take size bytes) items
  pub longest : (longer : ℕ) (others : List Item) → longer ≤ length bytes → Units (take longer bytes) others → longer ≤ size
