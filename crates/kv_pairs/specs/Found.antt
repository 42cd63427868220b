-- What reading found, and why it stopped.
use Rattle.std.specs.Prelude.{◌≢◌, ℕ, List, [], ◌∷◌, Option, Some, None}
use Rattle.kv_pairs.specs.declared.item.Item.{Item}
use Rattle.kv_pairs.specs.declared.decode.Entry.{Entry}
use Rattle.kv_pairs.specs.declared.decode.ItemsStop.{ItemsStop}
use Rattle.kv_pairs.specs.declared.decode.ItemsStop.TheVariants.{NotItems, Memory}
use Rattle.kv_pairs.specs.declared.maps.MapStop.{MapStop}
use Rattle.kv_pairs.specs.declared.maps.MapStop.TheVariants as map_stop

-- no item of the list has an empty key
abbrev pub HaveKeys : List Item → Type 0
HaveKeys [] = Unit {0}
HaveKeys (item ∷ items) = (item.key ≢ []) × HaveKeys items

-- the item of an entry, if there is one
abbrev pub items_found : Option Entry → List Item
items_found None = []
items_found (Some entry) = record { key = entry.key.now; value = entry.value.now } ∷ []

-- where there are no items, this holds of the place
abbrev pub IfNotItems : ItemsStop → (ℕ → Type 0) → Type 0
IfNotItems (NotItems at) P = P at
IfNotItems Memory P = Unit {0}

-- where there is no map, this holds of the item
abbrev pub IfNoMap : MapStop → (ℕ → Type 0) → Type 0
IfNoMap (map_stop.NoMap item) P = P item
IfNoMap map_stop.Memory P = Unit {0}
