use Rattle.std.specs.Prelude.{ℕ, List, [], map, fold, All, ◌≢◌}
use Rattle.std.specs.Ordering.{nat_cmp}
use Rattle.std.specs.Cmp.Lexicographic.{slice_cmp}
use Rattle.std.specs.FinMap as fin
use Rattle.expiring_map.specs.ValueUntil.{ValueUntil}
use Rattle.expiring_map.specs.declared.pair.Pair.{Pair}

-- from keys to values that expire; its entries stand in byte order of keys
abbrev pub Map : Type 0
Map = fin.FinMap (slice_cmp nat_cmp) ValueUntil

abbrev pub value_until : List ℕ → ℕ → ValueUntil
value_until value expiry = record { value = value; expiry = expiry }

abbrev pub with_pair : Map → Pair → Map
with_pair m p = fin.insert m p.key (value_until p.value p.expiry)

-- the map of these pairs; a later pair of the same key wins
abbrev pub map_of_pairs : List Pair → Map
map_of_pairs pairs = fold with_pair fin.empty pairs

-- the map's pairs, in byte order of keys
abbrev pub pairs_of : Map → List Pair
pairs_of m = map (λ e. record { key = e.0; value = e.1.value; expiry = e.1.expiry }) (fin.entries m)

-- neither the key nor the value of the pair is empty
abbrev pub HasContent : Pair → Type 0
HasContent p = (p.key ≢ []) × (p.value ≢ [])

-- no key and no value of the map is empty
abbrev pub IsFilled : Map → Type 0
IsFilled m = All HasContent (pairs_of m)
