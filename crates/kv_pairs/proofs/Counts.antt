-- How many pairs a map has, at most, and that it is small enough to be packed.
use Rattle.std.proofs.Common.{◌≡◌, ℕ, zero, suc, ◌+◌, ◌-◌, ◌^◌, ◌<◌, ◌≤◌, Bool, true, false, cond, List, [], ◌∷◌, ◌++◌, length, refl, ap, arith, length-append}
use Rattle.std.specs.Prelude.{Option, Some, None, option_and_then, filter, map, ◌==◌}
use Rattle.std.specs.Option.{option_map_or}
use Rattle.std.specs.List.{list_all}
use Rattle.std.specs.Cmp.Lexicographic.{nat_list_cmp_total}
use Rattle.std.specs.FinMap as fin
use Rattle.expiring_map.specs.ValueUntil.{ValueUntil}
use Rattle.expiring_map.specs.Map.{Map}
use Rattle.expiring_map.specs.Live.{is_live, live_part, expiring, with_expiry}
use Rattle.expiring_map.proofs.Refold.{order, Entry}
use Rattle.kv_pairs.specs.Reading.{text_at, length_at, unit_at, units_in, units_at, read_payload, items_of, greedy_items}
use Rattle.kv_pairs.specs.Mapped.{with_item, with_items, unstored, has_room_for_expiry, map_in, greedy_map, IsSmall}
use Rattle.kv_pairs.specs.Growth.{largest}
use Rattle.kv_pairs.specs.declared.item.Item.{Item}
use Rattle.kv_pairs.proofs.GrammarRead.{Small, pair_of}
use Rattle.kv_pairs.proofs.Stepping.{Less, length_less, unit_less}
use Rattle.kv_pairs.proofs.Fronts.{parts}
use Rattle.kv_pairs.proofs.Mapping.{some_when}
use Rattle.kv_pairs.proofs.Packing.{Packable, one_more, read_packs, greedy_packs}

-- how many pairs maps have
entries_count : (es : List Entry) → fin.len (fin.from_entries {R = order} es) ≤ length es
entries_count [] = omega (arith, fin.len-empty order ValueUntil)
entries_count (e ∷ es) = omega (arith, one_more (fin.from_entries es) e.0 e.1, entries_count es)

filter_count : (p : Entry → Bool) (es : List Entry) → length (filter p es) ≤ length es
filter_count p [] = omega arith
filter_count p (e ∷ es) = go (p e) (filter_count p es)
  where
    go : (b : Bool) → length (filter p es) ≤ length es → length (cond b (e ∷ filter p es) (filter p es)) ≤ length (e ∷ es)
    go true h = omega (arith, h)
    go false h = omega (arith, h)

pub live_count : (m : Map) (now : ℕ) → fin.len (live_part m now) ≤ fin.len m
live_count m now =
    omega (arith, entries_count (filter (λ e. is_live now e.1) (fin.entries m)), filter_count (λ e. is_live now e.1) (fin.entries m), fin.len-entries m)

expiring_count : (expiry : ℕ) (es : List Entry) → length {A = Entry} (map (λ e. (e.0, expiring expiry e.1)) es) ≡ length es
expiring_count expiry [] = refl
expiring_count expiry (e ∷ es) = ap suc (expiring_count expiry es)

pub with_expiry_count : (m : Map) (expiry : ℕ) → fin.len (with_expiry expiry m) ≤ fin.len m
with_expiry_count m expiry =
    omega (arith, entries_count (map (λ e. (e.0, expiring expiry e.1)) (fin.entries m)), expiring_count expiry (fin.entries m), fin.len-entries m)

removed_count : (m : Map) (key : List ℕ) → fin.len (fin.remove m key) ≤ fin.len m
removed_count m key = go (fin.contains_key m key) (fin.len-remove nat_list_cmp_total m key)
  where
    go : (b : Bool) → fin.len (fin.remove m key) ≡ cond b (fin.len m - 1) (fin.len m) → fin.len (fin.remove m key) ≤ fin.len m
    go true e = omega (arith, e)
    go false e = omega (arith, e)

item_count : (flag : Bool) (m : Map) (i : Item) → fin.len (with_item flag m i) ≤ fin.len m + 1
item_count flag m i = go (length i.value == 0)
  where
    go : (b : Bool) → fin.len (cond b (fin.remove m i.key) (fin.insert m i.key (unstored flag i.value))) ≤ fin.len m + 1
    go true = omega (arith, removed_count m i.key)
    go false = one_more m i.key (unstored flag i.value)

pub items_count : (flag : Bool) (m : Map) (items : List Item) → fin.len (with_items flag m items) ≤ fin.len m + length items
items_count flag m [] = omega arith
items_count flag m (i ∷ items) = omega (arith, item_count flag m i, items_count flag (with_item flag m i) items)

-- how many items bytes have
abbrev Few : Option (List Item × List ℕ) → Type 0
Few None = Unit {0}
Few (Some u) = length u.0 ≤ 1

unit_few : (bytes : List ℕ) → Few (unit_at bytes)
unit_few bytes = go (text_at bytes)
  where
    value : (key : List ℕ) (o : Option (List ℕ × List ℕ)) → Few (option_and_then (λ value. Some (record { key = key; value = value.0 } ∷ [], value.1)) o)
    value key None = tt
    value key (Some v) = omega arith

    by_test : (b : Bool) (key rest : List ℕ) → Few (cond b (Some ([], rest)) (option_and_then (λ value. Some (record { key = key; value = value.0 } ∷ [], value.1)) (text_at rest)))
    by_test true key rest = omega arith
    by_test false key rest = value key (text_at rest)

    go : (o : Option (List ℕ × List ℕ)) →
        Few (option_and_then (λ key. cond (length key.0 == 0) (Some ([], key.1)) (option_and_then (λ value. Some (record { key = key.0; value = value.0 } ∷ [], value.1)) (text_at key.1))) o)
    go None = tt
    go (Some key) = by_test (length key.0 == 0) key.0 key.1

units_count : (k : ℕ) (bytes : List ℕ) → length (units_in k bytes).0 ≤ length bytes
units_count zero bytes = omega arith
units_count (suc k) bytes = go (unit_at bytes) (unit_few bytes) (unit_less bytes) (λ rest. units_count k rest)
  where
    go : (o : Option (List Item × List ℕ)) → Few o → Less (length bytes) o → ((rest : List ℕ) → length (units_in k rest).0 ≤ length rest) →
        length (option_map_or (λ u. pair_of (u.0 ++ (units_in k u.1).0) (units_in k u.1).1) o (pair_of [] bytes)).0 ≤ length bytes
    go None f l more = omega arith
    go (Some u) f l more = omega (arith, f, l, more u.1, length-append u.0 (units_in k u.1).0)

pub read_count : (bytes : List ℕ) → length (read_payload bytes).0 ≤ length bytes
unfolding read_payload
read_count bytes = go (length_at bytes) (length_less bytes)
  where
    go : (o : Option (ℕ × List ℕ)) → Less (length bytes) o → length (option_map_or (λ n. units_at n.1) o (pair_of [] bytes)).0 ≤ length bytes
    go None l = omega arith
    go (Some r) l = omega (arith, l, units_count (length r.1) r.1)

-- a map that can be packed, and has fewer than 2 ^ 32 pairs
pub small_of : (flag : Bool) (m : Map) → Packable flag m → fin.len m < 2 ^ 32 → IsSmall m
small_of flag m p few = record { short = λ q d e. let s = p q d e in (omega (arith, s.key_short), omega (arith, s.value_short)); few = few }

filtered_count : (p : Item → Bool) (items : List Item) → length (filter p items) ≤ length items
filtered_count p [] = omega arith
filtered_count p (i ∷ items) = go (p i) (filtered_count p items)
  where
    go : (b : Bool) → length (filter p items) ≤ length items → length (cond b (i ∷ filter p items) (filter p items)) ≤ length (i ∷ items)
    go true h = omega (arith, h)
    go false h = omega (arith, h)

-- the map of a payload of a file
pub greedy_small : (flag : Bool) (bytes : List ℕ) → Small bytes → length bytes ≤ largest → IsSmall (greedy_map flag bytes)
greedy_small flag bytes s h =
    let items = filter (has_room_for_expiry flag) (greedy_items bytes) in
    small_of flag (greedy_map flag bytes) (greedy_packs flag bytes s h)
    (omega (arith, h, items_count flag fin.empty items, filtered_count (has_room_for_expiry flag) (greedy_items bytes), read_count bytes, fin.len-empty order ValueUntil))

items_read : (read : List Item × List ℕ) (items : List Item) (b : Bool) → cond b (Some read.0) None ≡ Some items → read.0 ≡ items
items_read read items true e = cc
items_read read items false e = absurd cc

pub read_small : (flag : Bool) (bytes : List ℕ) (m : Map) → Small bytes → length bytes ≤ largest → map_in flag bytes ≡ Some m → IsSmall m
read_small flag bytes m s h e =
    let has = parts flag (items_of bytes) m e in
    let is = (some_when (list_all (has_room_for_expiry flag) has.0) (with_items flag fin.empty has.0) m has.2).1 in
    let same = items_read (read_payload bytes) has.0 (length (read_payload bytes).1 == 0) has.1 in
    small_of flag m (read_packs flag bytes m s h e)
    (omega (arith, h, ap fin.len is, items_count flag fin.empty has.0, ap length same, read_count bytes, fin.len-empty order ValueUntil))
