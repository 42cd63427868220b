-- What the code keeps, as callers see it.
use Rattle.std.specs.Prelude.{ℕ, List, map, Vec}
use Rattle.std.specs.declared.alloc.Global.{Global}
use Rattle.std.specs.declared.cmp.Ordering.{Ordering}
use Rattle.std.specs.List.Sorted.{IsStrictlySortedBy}
use Rattle.std.specs.Map.{keys_of}
use Rattle.std.specs.Ordering.{nat_cmp}
use Rattle.std.specs.Cmp.Lexicographic.{slice_cmp}
use Rattle.std.specs.FinMap as fin
use Rattle.expiring_map.specs.ValueUntil.{ValueUntil}
use Rattle.expiring_map.specs.Map.{Map, IsFilled}
use Rattle.expiring_map.specs.declared.kept.Kept.{Kept}
use Rattle.expiring_map.specs.declared.pair.Pair.{Pair}

abbrev pub value_kept : Kept → ValueUntil
value_kept kept = record { value = kept.value; expiry = kept.expiry }

abbrev pub values_kept : List (Vec ℕ Global × Kept) → List (List ℕ × ValueUntil)
values_kept entries = map (λ e. (e.0.items, value_kept e.1)) entries

abbrev pub pair_kept : Vec ℕ Global × Kept → Pair
pair_kept e = record { key = e.0.items; value = e.1.value; expiry = e.1.expiry }

-- the map of entries that the code keeps
abbrev pub map_kept : List (Vec ℕ Global × Kept) → Map
map_kept entries = fin.from_entries (values_kept entries)

-- the order of keys in which the code keeps its entries
abbrev pub kept_order : Vec ℕ Global → Vec ℕ Global → Ordering
kept_order x y = slice_cmp nat_cmp x.items y.items

abbrev pub AreOrdered : List (Vec ℕ Global × Kept) → Type 0
AreOrdered entries = IsStrictlySortedBy kept_order (keys_of entries)

-- the entries stand in the order of their keys, and no key and no value is empty
pub record AreKept (entries : List (Vec ℕ Global × Kept)) : Type 0 where
  pub ordered : AreOrdered entries
  pub filled : IsFilled (map_kept entries)
