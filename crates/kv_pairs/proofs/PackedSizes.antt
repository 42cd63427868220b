-- How many bytes a map takes, packed.
use Rattle.std.proofs.Common.{◌≡◌, ℕ, ◌+◌, ◌^◌, ◌/◌, ◌%◌, ◌<◌, ◌≤◌, Bool, true, false, cond, List, [], ◌∷◌, length, refl, sym, ap, ◌∙◌, arith, length-append}
use Rattle.std.specs.Prelude.{Option, None, filter, flat_map, nat_lt, not}
use Rattle.std.specs.Ordering.{eq_by_cmp, is_eq}
use Rattle.std.specs.Cmp.{alike_right, eq_by_cmp_equiv}
use Rattle.std.specs.Cmp.Lexicographic.{nat_list_cmp_total}
use Rattle.std.specs.declared.cmp.Ordering.{Ordering}
use Rattle.std.specs.declared.cmp.Ordering.TheVariants.{Less, Equal, Greater}
use Rattle.std.specs.FinMap as fin
use Rattle.std.specs.FinMap.Entries as sorted
use Rattle.expiring_map.specs.ValueUntil.{ValueUntil}
use Rattle.expiring_map.specs.Map.{Map}
use Rattle.expiring_map.specs.Live.{is_live, live_part}
use Rattle.expiring_map.proofs.Refold.{order, Entry, same_keys}
use Rattle.kv_pairs.specs.Lengths.{shortest, shortest_in}
use Rattle.kv_pairs.specs.Mapped.{stored, length_prefixed, put_item, heading, packed, packed_size, IsSmall}
use Rattle.kv_pairs.specs.Fits.{FitsIn}

-- the bytes of the items of these entries
abbrev pub items_size : Bool → List Entry → ℕ
items_size flag es = length (flat_map (λ e. put_item flag e.0 e.1) es)

pub size_by_entries : (flag : Bool) (m : Map) → packed_size flag m ≡ 4 + items_size flag (fin.entries m)
unfolding packed
size_by_entries flag m = length-append heading (flat_map (λ e. put_item flag e.0 e.1) (fin.entries m))

pub one_more : (flag : Bool) (e : Entry) (es : List Entry) → items_size flag (e ∷ es) ≡ length (put_item flag e.0 e.1) + items_size flag es
one_more flag e es = length-append (put_item flag e.0 e.1) (flat_map (λ e. put_item flag e.0 e.1) es)

-- an entry that is put in its place
put_size : (flag : Bool) (key : List ℕ) (d : ValueUntil) (es : List Entry) → items_size flag (fin.put order key d es) ≤ items_size flag es + length (put_item flag key d)
put_size flag key d [] = omega (arith, one_more flag (key, d) [])
put_size flag key d (e ∷ es) = go (order key e.0) refl (put_size flag key d es)
  where
    go : (r : Ordering) → order key e.0 ≡ r → items_size flag (fin.put order key d es) ≤ items_size flag es + length (put_item flag key d) →
        items_size flag (sorted.by_order r ((key, d) ∷ e ∷ es) ((e.0, d) ∷ es) (e ∷ fin.put order key d es)) ≤ items_size flag (e ∷ es) + length (put_item flag key d)
    go Less t h = omega (arith, one_more flag (key, d) (e ∷ es))
    go Equal t h =
        omega (arith, one_more flag (e.0, d) es, one_more flag e es, ap (λ k. length (put_item flag k d)) (same_keys key e.0 t))
    go Greater t h = omega (arith, one_more flag e (fin.put order key d es), one_more flag e es, h)

-- a part of the entries
part_size : (flag : Bool) (p : Entry → Bool) (es : List Entry) → items_size flag (filter p es) ≤ items_size flag es
part_size flag p [] = omega arith
part_size flag p (e ∷ es) = go (p e) (part_size flag p es)
  where
    go : (b : Bool) → items_size flag (filter p es) ≤ items_size flag es → items_size flag (cond b (e ∷ filter p es) (filter p es)) ≤ items_size flag (e ∷ es)
    go true h = omega (arith, one_more flag e (filter p es), one_more flag e es, h)
    go false h = omega (arith, one_more flag e es, h)

-- a pair that is put adds its item at most
pub put_fits : (flag : Bool) (m : Map) (key : List ℕ) (d : ValueUntil) → packed_size flag (fin.insert m key d) ≤ packed_size flag m + length (put_item flag key d)
put_fits flag m key d =
    omega (arith, size_by_entries flag (fin.insert m key d), size_by_entries flag m, ap (items_size flag) (fin.entries-insert nat_list_cmp_total m key d), put_size flag key d (fin.entries m))

turned : (b : Bool) (o : Option ValueUntil) → cond b None o ≡ cond (not b) o None
turned true o = refl
turned false o = refl

-- what is left without a key
entries_without : (m : Map) (key : List ℕ) → fin.entries (fin.remove m key) ≡ filter (λ e. not (eq_by_cmp order key e.0)) (fin.entries m)
entries_without m key =
    sorted.same_entries order nat_list_cmp_total same_keys (fin.entries (fin.remove m key)) (sorted.where_key order left (fin.entries m))
    (fin.entries_sorted (fin.remove m key)) (sorted.is_sorted-where_key order left (fin.entries m) (fin.entries_sorted m)) found
  where
    left : List ℕ → Bool
    left x = not (eq_by_cmp order key x)

    found : (q : List ℕ) → fin.find order q (fin.entries (fin.remove m key)) ≡ fin.find order q (sorted.where_key order left (fin.entries m))
    found q =
        sym (fin.get-entries (fin.remove m key) q) ∙ fin.get-remove nat_list_cmp_total m key q
        ∙ turned (eq_by_cmp order q key) (fin.get m q)
        ∙ (λ i. cond (not ((eq_by_cmp_equiv nat_list_cmp_total).symm q key i)) (fin.get-entries m q i) None)
        ∙ sym (sorted.find-where_key order left q (λ x t. ap (λ r. not (is_eq r)) (sym (alike_right nat_list_cmp_total q x key t))) (fin.entries m))

-- a key that is removed adds nothing
pub removed_fits : (flag : Bool) (m : Map) (key : List ℕ) → packed_size flag (fin.remove m key) ≤ packed_size flag m
removed_fits flag m key =
    omega (arith, size_by_entries flag (fin.remove m key), size_by_entries flag m, ap (items_size flag) (entries_without m key), part_size flag (λ e. not (eq_by_cmp order key e.0)) (fin.entries m))

pub empty_size : (flag : Bool) → packed_size flag fin.empty ≡ 4
empty_size flag = size_by_entries flag fin.empty ∙ ap (λ es. 4 + items_size flag es) (none (fin.entries fin.empty) (sym (fin.len-entries fin.empty) ∙ fin.len-empty order ValueUntil))
  where
    none : (es : List Entry) → length es ≡ 0 → es ≡ []
    none [] e = refl
    none (x ∷ es) e = absurd (omega (arith, e))

-- the map of some entries takes no more than they do
pub made_size : (flag : Bool) (es : List Entry) → packed_size flag (fin.from_entries es) ≤ 4 + items_size flag es
made_size flag [] = omega (arith, empty_size flag)
made_size flag (e ∷ es) = omega (arith, put_fits flag (fin.from_entries es) e.0 e.1, made_size flag es, one_more flag e es)

-- the pairs that live take no more than all
pub live_fits : (flag : Bool) (m : Map) (now : ℕ) → packed_size flag (live_part m now) ≤ packed_size flag m
live_fits flag m now =
    let live : List Entry = filter (λ e. is_live now e.1) (fin.entries m) in
    omega (arith, made_size flag live, part_size flag (λ e. is_live now e.1) (fin.entries m), size_by_entries flag m)

-- each pair takes a byte at least
pub some_bytes : (n : ℕ) → 0 < length (shortest n)
unfolding shortest
some_bytes n = go (nat_lt n 128)
  where
    go : (b : Bool) → 0 < length (cond b (n ∷ []) ((n % 128 + 128) ∷ shortest_in 4 (n / 128)))
    go true = omega arith
    go false = omega arith

items_count : (flag : Bool) (es : List Entry) → length es ≤ items_size flag es
items_count flag [] = omega arith
items_count flag (e ∷ es) =
    omega (arith, one_more flag e es, items_count flag es, length-append (length_prefixed e.0) (length_prefixed (stored flag e.1)), length-append (shortest (length e.0)) e.0, some_bytes (length e.0))

-- a map has no more pairs than its payload has bytes
pub pairs_fit : (flag : Bool) (m : Map) → fin.len m ≤ packed_size flag m
pairs_fit flag m = omega (arith, fin.len-entries m, size_by_entries flag m, items_count flag (fin.entries m))

-- a map that fits where sizes are known to be small can be packed
pub fitting_small : (flag : Bool) (m : Map) (size : ℕ) → FitsIn flag m size → size ≤ 2 ^ 30 → IsSmall m
fitting_small flag m size f h =
    record {
      short = λ key d e. let p = f.pairs key d e in (omega (arith, p.key_short), omega (arith, p.value_short));
      few = omega (arith, pairs_fit flag m, f.size, h);
    }
