-- How many bytes a map takes, packed, when its pairs get another expiry, under either flag.
use Rattle.std.proofs.Common.{ℕ, zero, suc, ◌+◌, ◌*◌, ◌/◌, ◌%◌, ◌≤◌, Bool, true, false, cond, List, [], ◌∷◌, length, arith, length-append}
use Rattle.std.specs.Prelude.{map, nat_lt}
use Rattle.std.specs.Int.{to_le_bytes, w32}
use Rattle.std.specs.FinMap as fin
use Rattle.expiring_map.specs.ValueUntil.{ValueUntil}
use Rattle.expiring_map.specs.Map.{Map}
use Rattle.expiring_map.specs.Live.{expiring, with_expiry}
use Rattle.expiring_map.proofs.Refold.{Entry}
use Rattle.kv_pairs.specs.Lengths.{shortest, shortest_in}
use Rattle.kv_pairs.specs.Mapped.{stored, length_prefixed, put_item, packed_size}
use Rattle.kv_pairs.proofs.PackedSizes.{items_size, one_more, size_by_entries, made_size, some_bytes}

few_in : (k n : ℕ) → length (shortest_in k n) ≤ k
few_in zero n = omega arith
few_in (suc k) n = go (nat_lt n 128) (few_in k (n / 128))
  where
    go : (b : Bool) → length (shortest_in k (n / 128)) ≤ k → length (cond b (n ∷ []) ((n % 128 + 128) ∷ shortest_in k (n / 128))) ≤ suc k
    go true h = omega arith
    go false h = omega (arith, h)

few_bytes : (n : ℕ) → length (shortest n) ≤ 5
unfolding shortest
few_bytes n = few_in 5 n

-- the flag adds four bytes to a value at most
stored_most : (flag : Bool) (d : ValueUntil) → length (stored flag d) ≤ length d.value + 4
stored_most true d = omega (arith, length-append d.value (to_le_bytes w32 d.expiry))
stored_most false d = omega (arith, length-append d.value [])

stored_least : (flag : Bool) (d : ValueUntil) → length d.value ≤ length (stored flag d)
stored_least true d = omega (arith, length-append d.value (to_le_bytes w32 d.expiry))
stored_least false d = omega (arith, length-append d.value [])

-- an item is never more than five times as long under the other flag
item_grows : (flag to : Bool) (key : List ℕ) (d e : ValueUntil) → length e.value ≤ length d.value → length (put_item to key e) ≤ 5 * length (put_item flag key d)
item_grows flag to key d e h =
    omega (
      arith,
      h,
      length-append (length_prefixed key) (length_prefixed (stored to e)),
      length-append (length_prefixed key) (length_prefixed (stored flag d)),
      length-append (shortest (length key)) key,
      length-append (shortest (length (stored to e))) (stored to e),
      length-append (shortest (length (stored flag d))) (stored flag d),
      stored_most to e,
      stored_least flag d,
      few_bytes (length (stored to e)),
      some_bytes (length (stored flag d)),
      some_bytes (length key),
    )

items_grow : (flag to : Bool) (expiry : ℕ) (es : List Entry) → items_size to (map (λ e. (e.0, expiring expiry e.1)) es) ≤ 5 * items_size flag es
items_grow flag to expiry [] = omega arith
items_grow flag to expiry (e ∷ es) =
    omega (
      arith,
      items_grow flag to expiry es,
      item_grows flag to e.0 e.1 (expiring expiry e.1) (omega arith),
      one_more to (e.0, expiring expiry e.1) (map (λ e. (e.0, expiring expiry e.1)) es),
      one_more flag e es,
    )

-- nor is a map
pub with_expiry_size : (flag to : Bool) (m : Map) (expiry : ℕ) → packed_size to (with_expiry expiry m) ≤ 5 * packed_size flag m
with_expiry_size flag to m expiry =
    omega (arith, made_size to (map (λ e. (e.0, expiring expiry e.1)) (fin.entries m)), items_grow flag to expiry (fin.entries m), size_by_entries flag m)
