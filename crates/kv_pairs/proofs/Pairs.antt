-- The items of some pairs.
use Rattle.std.proofs.Common.{◌≡◌, ◌≢◌, ℕ, zero, suc, ◌+◌, ◌<◌, Bool, false, List, [], ◌∷◌, ◌++◌, length, map, get_or, refl, sym, ap, ◌∙◌, arith, append_assoc, append-nil, length-append}
use Rattle.std.specs.Prelude.{flat_map, All, ◌==◌}
use Rattle.std.specs.FinMap as fin
use Rattle.std.proofs.lemmas.Bool.Decides.{nat_tests}
use Rattle.expiring_map.specs.Map.{Map, value_until, pairs_of, HasContent, IsFilled}
use Rattle.expiring_map.specs.Lent.{lent}
use Rattle.expiring_map.specs.declared.pair.Pair.{Pair}
use Rattle.expiring_map.specs.declared.iter.PairRef.{PairRef}
use Rattle.expiring_map.proofs.Refold.{Entry}
use Rattle.kv_pairs.specs.Mapped.{put_item, written_item, heading, packed, IsShort, IsSmall}
use Rattle.kv_pairs.proofs.Packing.{Each, each_of}

abbrev pub IsShortPair : Pair → Type 0
IsShortPair p = IsShort p.key (value_until p.value p.expiry)

-- the item of a pair
abbrev pub pair_item : Bool → Pair → List ℕ
pair_item flag p = written_item flag p.key (value_until p.value p.expiry)

-- the items of some pairs, behind the heading
abbrev pub items_of_pairs : Bool → List Pair → List ℕ
items_of_pairs flag pairs = heading ++ flat_map (pair_item flag) pairs

more_items : (flag : Bool) (pairs : List Pair) (p : Pair) → flat_map (pair_item flag) (pairs ++ p ∷ []) ≡ flat_map (pair_item flag) pairs ++ pair_item flag p
more_items flag [] p = append-nil (pair_item flag p)
more_items flag (x ∷ pairs) p = ap (λ z. pair_item flag x ++ z) (more_items flag pairs p) ∙ sym (append_assoc (pair_item flag x) (flat_map (pair_item flag) pairs) (pair_item flag p))

pub more_bytes : (flag : Bool) (pairs : List Pair) (p : Pair) → length (items_of_pairs flag (pairs ++ p ∷ [])) ≡ length (items_of_pairs flag pairs) + length (pair_item flag p)
more_bytes flag pairs p =
    ap (λ z. length (heading ++ z)) (more_items flag pairs p) ∙ length-append (items_of_pairs flag pairs) (pair_item flag p)

abbrev entry_pair : Entry → Pair
entry_pair e = record { key = e.0; value = e.1.value; expiry = e.1.expiry }

some_bytes : (xs : List ℕ) → xs ≢ [] → (length xs == 0) ≡ false
some_bytes [] h = absurd (h refl)
some_bytes (x ∷ xs) h = grind (arith, nat_tests)

each_put : (flag : Bool) (es : List Entry) → All HasContent (map entry_pair es) → flat_map (pair_item flag) (map entry_pair es) ≡ flat_map (λ e. put_item flag e.0 e.1) es
each_put flag [] h = refl
each_put flag (e ∷ es) h =
    let first : written_item flag e.0 e.1 ≡ put_item flag e.0 e.1 = rw (some_bytes e.1.value (h zero (entry_pair e) (omega arith)).1) refl in
    λ i. first i ++ each_put flag es (λ k d lt. h (suc k) d (omega (arith, lt))) i

pub lent_more : (refs : List PairRef) (r : PairRef) → map lent (refs ++ r ∷ []) ≡ map lent refs ++ lent r ∷ []
lent_more [] r = refl
lent_more (x ∷ refs) r = ap (λ z. lent x ∷ z) (lent_more refs r)

-- the payload of a map is those of its pairs
pub all_items : (flag : Bool) (m : Map) → IsFilled m → items_of_pairs flag (pairs_of m) ≡ packed flag m
unfolding packed
all_items flag m h = ap (λ z. heading ++ z) (each_put flag (fin.entries m) h)

counted : (es : List Entry) → length (map entry_pair es) ≡ length es
counted [] = refl
counted (e ∷ es) = ap suc (counted es)

pub pair_count : (m : Map) → length (pairs_of m) ≡ fin.len m
pair_count m = counted (fin.entries m) ∙ sym (fin.len-entries m)

-- what holds of each entry holds of the pair at each place
short_at : (es : List Entry) (k : ℕ) (d : Pair) → Each IsShort es → k < length (map entry_pair es) → IsShortPair (get_or (map entry_pair es) k d)
short_at [] k d a lt = absurd (omega (arith, lt))
short_at (e ∷ es) zero d a lt = a.0
short_at (e ∷ es) (suc k) d a lt = short_at es k d a.1 (omega (arith, lt))

pub short_pair : (m : Map) (k : ℕ) (d : Pair) → IsSmall m → k < length (pairs_of m) → IsShortPair (get_or (pairs_of m) k d)
short_pair m k d s lt = short_at (fin.entries m) k d (each_of IsShort m s.short) lt
