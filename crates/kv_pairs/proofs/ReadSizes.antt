-- The map of a payload takes, packed, no more bytes than the payload and four.
use Rattle.std.proofs.Common.{◌≡◌, ℕ, zero, suc, ◌+◌, ◌-◌, ◌*◌, ◌/◌, ◌%◌, ◌<◌, ◌≤◌, Bool, true, false, cond, List, [], ◌∷◌, ◌++◌, length, take, drop, refl, ap, subst, arith, length-append, length-take, length-drop}
use Rattle.std.specs.Prelude.{Option, Some, None, option_and_then, option_map, nat_lt, nat_le, ◌==◌, ◌&&◌, ◌||◌}
use Rattle.std.specs.Option.{option_map_or}
use Rattle.std.specs.List.{list_all}
use Rattle.std.specs.Int.{to_le_bytes, from_le_bytes, w32}
use Rattle.std.specs.FinMap as fin
use Rattle.std.proofs.lemmas.Bool.Decides.{nat_tests}
use Rattle.expiring_map.specs.Map.{Map}
use Rattle.kv_pairs.specs.Growth.{largest}
use Rattle.kv_pairs.specs.Lengths.{shortest, shortest_in}
use Rattle.kv_pairs.specs.Reading.{number_in, length_at, bytes_at, text_at, unit_at, units_in, units_at, read_payload}
use Rattle.kv_pairs.specs.Mapped.{stored, unstored, with_item, with_items, has_room_for_expiry, first_without_room, map_of, map_in, length_prefixed, packed_size}
use Rattle.kv_pairs.specs.Fits.{FitsIn, FitsWithMore}
use Rattle.kv_pairs.specs.declared.item.Item.{Item}
use Rattle.kv_pairs.proofs.GrammarRead.{Small}
use Rattle.kv_pairs.proofs.GoodItems.{Small-from, AllGood, units_fine, fit_all}
use Rattle.kv_pairs.proofs.Packing.{items_pack, read_packs}
use Rattle.kv_pairs.proofs.Packables.{to_packable, from_packable}
use Rattle.kv_pairs.proofs.PackedSizes.{put_fits, removed_fits, empty_size}

-- A number's shortest spelling is no longer than the one it was read from.
abbrev Spelled : ℕ → ℕ → Option (ℕ × List ℕ) → Type 0
Spelled k size None = Unit {0}
Spelled k size (Some r) = length (shortest_in k r.0) + length r.1 ≤ size

last_byte : (k b : ℕ) → nat_lt b 128 ≡ true → length (shortest_in (suc k) b) ≡ 1
last_byte k b t = rw t refl

more_bytes : (k n m : ℕ) → n / 128 ≡ m → length (shortest_in (suc k) n) ≤ suc (length (shortest_in k m))
more_bytes k n m e = go (nat_lt n 128)
  where
    go : (t : Bool) → length (cond t (n ∷ []) ((n % 128 + 128) ∷ shortest_in k (n / 128))) ≤ suc (length (shortest_in k m))
    go true = omega arith
    go false = omega (arith, ap (λ z. length (shortest_in k z)) e)

number_spelled : (k : ℕ) (bytes : List ℕ) → Spelled k (length bytes) (number_in k bytes)
number_spelled zero bytes = tt
number_spelled (suc k) [] = tt
number_spelled (suc k) (b ∷ bs) = go (nat_lt b 128) refl (number_in k bs) (number_spelled k bs)
  where
    go : (t : Bool) → nat_lt b 128 ≡ t → (o : Option (ℕ × List ℕ)) → Spelled k (length bs) o →
        Spelled (suc k) (suc (length bs)) (cond t (Some (b, bs)) (option_map (λ r. (b % 128 + 128 * r.0, r.1)) o))
    go true t o h = omega (arith, last_byte k b t)
    go false t None h = tt
    go false t (Some r) h = omega (arith, h, more_bytes k (b % 128 + 128 * r.0) r.0 (omega arith))

abbrev Measured : ℕ → Option (ℕ × List ℕ) → Type 0
Measured size None = Unit {0}
Measured size (Some r) = length (shortest r.0) + length r.1 ≤ size

length_measured : (bytes : List ℕ) → Measured (length bytes) (length_at bytes)
unfolding length_at shortest
length_measured bytes = go (number_in 5 bytes) (number_spelled 5 bytes)
  where
    go : (o : Option (ℕ × List ℕ)) → Spelled 5 (length bytes) o → Measured (length bytes) (option_and_then (λ r. cond (nat_lt r.0 2147483648) (Some r) None) o)
    go None h = tt
    go (Some r) h = elim (nat_lt r.0 2147483648) as (λ t. Measured (length bytes) (cond t (Some r) None)) [ true ↦ h | false ↦ tt ]

-- And so a text with its length before it.
prefixed_size : (bytes : List ℕ) → length (length_prefixed bytes) ≡ length (shortest (length bytes)) + length bytes
prefixed_size bytes = length-append (shortest (length bytes)) bytes

same_size : (xs ys : List ℕ) → length xs ≡ length ys → length (length_prefixed xs) ≡ length (length_prefixed ys)
same_size xs ys e = omega (arith, prefixed_size xs, prefixed_size ys, e, ap (λ n. length (shortest n)) e)

abbrev Prefixed : ℕ → Option (List ℕ × List ℕ) → Type 0
Prefixed size None = Unit {0}
Prefixed size (Some r) = length (length_prefixed r.0) + length r.1 ≤ size

text_prefixed : (bytes : List ℕ) → Prefixed (length bytes) (text_at bytes)
text_prefixed bytes = go (length_at bytes) (length_measured bytes)
  where
    by_test : (n : ℕ) (tail : List ℕ) (t : Bool) → nat_le n (length tail) ≡ t → length (shortest n) + length tail ≤ length bytes →
        Prefixed (length bytes) (cond t (Some (take n tail, drop n tail)) None)
    by_test n tail false t h = tt
    by_test n tail true t h =
        let within : n ≤ length tail = grind (arith, nat_tests) in
        let size : length (take n tail) ≡ n = omega (arith, length-take n tail, within) in
        omega (arith, prefixed_size (take n tail), ap (λ z. length (shortest z)) size, size, length-drop n tail, within, h)

    go : (o : Option (ℕ × List ℕ)) → Measured (length bytes) o → Prefixed (length bytes) (option_and_then (λ n. bytes_at n.0 n.1) o)
    go None h = tt
    go (Some r) h = by_test r.0 r.1 (nat_le r.0 (length r.1)) refl h

-- the bytes of an item, and of some
abbrev item_bytes : Item → ℕ
item_bytes i = length (length_prefixed i.key) + length (length_prefixed i.value)

abbrev all_bytes : List Item → ℕ
all_bytes [] = 0
all_bytes (i ∷ items) = item_bytes i + all_bytes items

all_bytes-append : (xs ys : List Item) → all_bytes (xs ++ ys) ≡ all_bytes xs + all_bytes ys
all_bytes-append [] ys = omega arith
all_bytes-append (x ∷ xs) ys = omega (arith, all_bytes-append xs ys)

abbrev Held : ℕ → Option (List Item × List ℕ) → Type 0
Held size None = Unit {0}
Held size (Some u) = all_bytes u.0 + length u.1 ≤ size

unit_held : (bytes : List ℕ) → Held (length bytes) (unit_at bytes)
unit_held bytes = go (text_at bytes) (text_prefixed bytes)
  where
    by_value : (key rest : List ℕ) → length (length_prefixed key) + length rest ≤ length bytes → (o : Option (List ℕ × List ℕ)) → Prefixed (length rest) o →
        Held (length bytes) (option_and_then (λ value. Some (record { key = key; value = value.0 } ∷ [], value.1)) o)
    by_value key rest h None v = tt
    by_value key rest h (Some value) v = omega (arith, h, v)

    by_test : (b : Bool) (key rest : List ℕ) → length (length_prefixed key) + length rest ≤ length bytes →
        Held (length bytes) (cond b (Some ([], rest)) (option_and_then (λ value. Some (record { key = key; value = value.0 } ∷ [], value.1)) (text_at rest)))
    by_test true key rest h = omega (arith, h)
    by_test false key rest h = by_value key rest h (text_at rest) (text_prefixed rest)

    go : (o : Option (List ℕ × List ℕ)) → Prefixed (length bytes) o →
        Held (length bytes) (option_and_then (λ key. cond (length key.0 == 0) (Some ([], key.1)) (option_and_then (λ value. Some (record { key = key.0; value = value.0 } ∷ [], value.1)) (text_at key.1))) o)
    go None h = tt
    go (Some key) h = by_test (length key.0 == 0) key.0 key.1 h

units_held : (k : ℕ) (bytes : List ℕ) → all_bytes (units_in k bytes).0 ≤ length bytes
units_held zero bytes = omega arith
units_held (suc k) bytes = go (unit_at bytes) (unit_held bytes) (λ rest. units_held k rest)
  where
    go : (o : Option (List Item × List ℕ)) → Held (length bytes) o → ((rest : List ℕ) → all_bytes (units_in k rest).0 ≤ length rest) →
        all_bytes (option_map_or {U = List Item × List ℕ} (λ u. let more = units_in k u.1 in (u.0 ++ more.0, more.1)) o ([], bytes)).0 ≤ length bytes
    go None h more = omega arith
    go (Some u) h more = omega (arith, all_bytes-append u.0 (units_in k u.1).0, h, more u.1)

read_held : (bytes : List ℕ) → all_bytes (read_payload bytes).0 ≤ length bytes
unfolding read_payload
read_held bytes = go (length_at bytes) (length_measured bytes)
  where
    go : (o : Option (ℕ × List ℕ)) → Measured (length bytes) o → all_bytes (option_map_or {U = List Item × List ℕ} (λ n. units_at n.1) o ([], bytes)).0 ≤ length bytes
    go None h = omega arith
    go (Some r) h = omega (arith, h, units_held (length r.1) r.1)

-- A map with one more item takes so many bytes more.
stored_again : (flag : Bool) (i : Item) → has_room_for_expiry flag i ≡ true → (length i.value == 0) ≡ false → length (stored flag (unstored flag i.value)) ≡ length i.value
stored_again false i h some = omega (arith, length-append i.value [])
stored_again true i h some =
    let room : nat_lt 4 (length i.value) ≡ true = right_of _ _ some h in
    let long : 4 < length i.value = grind (arith, nat_tests) in
    let size = length i.value - 4 in
    omega (arith, length-append (take size i.value) (to_le_bytes w32 (from_le_bytes w32 (drop size i.value))), length-take size i.value, long)
  where
    right_of : (a b : Bool) → a ≡ false → (a || b) ≡ true → b ≡ true
    right_of true b e h = absurd cc
    right_of false b e h = h

item_fits : (flag : Bool) (m : Map) (i : Item) → has_room_for_expiry flag i ≡ true → packed_size flag (with_item flag m i) ≤ packed_size flag m + item_bytes i
item_fits flag m i h = go (length i.value == 0) refl
  where
    go : (b : Bool) → (length i.value == 0) ≡ b → packed_size flag (cond b (fin.remove m i.key) (fin.insert m i.key (unstored flag i.value))) ≤ packed_size flag m + item_bytes i
    go true t = omega (arith, removed_fits flag m i.key)
    go false t =
        let d = unstored flag i.value in
        omega (arith, put_fits flag m i.key d, length-append (length_prefixed i.key) (length_prefixed (stored flag d)), same_size (stored flag d) i.value (stored_again flag i h t))

items_fit : (flag : Bool) (items : List Item) (m : Map) → list_all (has_room_for_expiry flag) items ≡ true → packed_size flag (with_items flag m items) ≤ packed_size flag m + all_bytes items
items_fit flag [] m h = omega arith
items_fit flag (i ∷ items) m h =
    let two = both (has_room_for_expiry flag i) (list_all (has_room_for_expiry flag) items) h in
    omega (arith, item_fits flag m i two.0, items_fit flag items (with_item flag m i) two.1)
  where
    both : (a b : Bool) → (a && b) ≡ true → (a ≡ true) × (b ≡ true)
    both true b e = (refl, e)
    both false b e = absurd cc

-- the map of a payload can be packed, in four more bytes at most
pub read_fits : (flag : Bool) (bytes : List ℕ) (m : Map) → Small bytes → length bytes ≤ largest → map_in flag bytes ≡ Some m → FitsIn flag m (length bytes + 4)
read_fits flag bytes m s le e = record { pairs = to_packable flag m (read_packs flag bytes m s le e); size = whole (length (read_payload bytes).1 == 0) e }
  where
    fits : (b : Bool) → list_all (has_room_for_expiry flag) (read_payload bytes).0 ≡ b → cond b (Some (with_items flag fin.empty (read_payload bytes).0)) None ≡ Some m → packed_size flag m ≤ length bytes + 4
    fits true t f =
        let is : with_items flag fin.empty (read_payload bytes).0 ≡ m = cc in
        omega (arith, ap (packed_size flag) is, items_fit flag (read_payload bytes).0 fin.empty t, empty_size flag, read_held bytes)
    fits false t f = absurd cc

    whole : (b : Bool) → option_and_then (map_of flag) (cond b (Some (read_payload bytes).0) None) ≡ Some m → packed_size flag m ≤ length bytes + 4
    whole true f = fits (list_all (has_room_for_expiry flag) (read_payload bytes).0) refl f
    whole false f = absurd cc

-- and so a map with the items of more bytes
all_have_room : (flag : Bool) (items : List Item) → first_without_room flag items ≡ None → list_all (has_room_for_expiry flag) items ≡ true
all_have_room flag [] e = refl
all_have_room flag (i ∷ items) e = go (has_room_for_expiry flag i) (first_without_room flag items) e (λ n. all_have_room flag items n)
  where
    go : (b : Bool) (o : Option ℕ) → cond b (option_map (λ place. place + 1) o) (Some 0) ≡ None → (o ≡ None → list_all (has_room_for_expiry flag) items ≡ true) →
        (b && list_all (has_room_for_expiry flag) items) ≡ true
    go true None e more = more refl
    go true (Some n) e more = absurd cc
    go false o e more = absurd cc

pub more_fit : FitsWithMore
more_fit flag m room bytes items f b le e room_for =
    let all = all_have_room flag items room_for in
    let read : (units_at bytes).0 ≡ items = ap (λ u. u.0) e in
    let good = subst (AllGood (length bytes)) read (units_fine (length bytes) (length bytes) bytes (Small-from bytes b, omega arith)) in
    let held = subst (λ items. all_bytes items ≤ length bytes) read (units_held (length bytes) bytes) in
    record {
      pairs = to_packable flag (with_items flag m items) (items_pack flag (length bytes) items m le (fit_all flag (length bytes) items good all) (from_packable flag m f.pairs));
      size = omega (arith, items_fit flag items m all, f.size, held);
    }
