-- No key and no value of a map is empty, said key by key.
use Rattle.std.proofs.Common.{◌≡◌, ◌≢◌, ℕ, Bool, true, false, cond, List, [], ◌∷◌, refl, sym, ap, ◌∙◌, subst}
use Rattle.std.specs.Prelude.{Some, None, All, T, map}
use Rattle.std.specs.Ordering.{eq_by_cmp, is_eq}
use Rattle.std.specs.Cmp.{tied_itself}
use Rattle.std.specs.Cmp.Lexicographic.{nat_list_cmp_total}
use Rattle.std.specs.FinMap as fin
use Rattle.std.proofs.lemmas.List.Elements.{All-nil, All-cons, All-head, All-tail}
use Rattle.expiring_map.specs.ValueUntil.{ValueUntil}
use Rattle.expiring_map.specs.Map.{Map, HasContent, IsFilled}
use Rattle.expiring_map.specs.declared.pair.Pair.{Pair}
use Rattle.expiring_map.proofs.MapLemmas.{entries-empty}
use Rattle.expiring_map.proofs.Refold.{order, Entry, same_keys, not_below, is_equal, first, second}

abbrev pair_of : Entry → Pair
pair_of e = record { key = e.0; value = e.1.value; expiry = e.1.expiry }

abbrev pub IsFilledAt : List ℕ → ValueUntil → Type 0
IsFilledAt q d = (q ≢ []) × (d.value ≢ [])

found_filled : (es : List Entry) → All HasContent (map pair_of es) → (q : List ℕ) (d : ValueUntil) → fin.find order q es ≡ Some d → IsFilledAt q d
found_filled [] h q d e = absurd cc
found_filled (x ∷ es) h q d e = go (eq_by_cmp order q x.0) refl (found_filled es (All-tail HasContent (pair_of x) (map pair_of es) h) q d) e
  where
    go : (b : Bool) → eq_by_cmp order q x.0 ≡ b → (fin.find order q es ≡ Some d → IsFilledAt q d) → cond b (Some x.1) (fin.find order q es) ≡ Some d → IsFilledAt q d
    go true t later is =
        let head = All-head HasContent (pair_of x) (map pair_of es) h in
        let same : x.1 ≡ d = cc in
        (subst (λ k. k ≢ []) (sym (same_keys q x.0 (is_equal _ t))) head.0, subst (λ v. v.value ≢ []) same head.1)
    go false t later is = later is

found_later : (x : Entry) (es : List Entry) (q : List ℕ) (d : ValueUntil) → T (fin.Entries.below_all order x.0 es) → fin.find order q es ≡ Some d → fin.find order q (x ∷ es) ≡ Some d
found_later x es q d h e = go (eq_by_cmp order q x.0) refl
  where
    go : (b : Bool) → eq_by_cmp order q x.0 ≡ b → cond b (Some x.1) (fin.find order q es) ≡ Some d
    go true t = let none : fin.find order q es ≡ None = not_below x.0 q es h (is_equal _ t) in absurd cc
    go false t = e

found_first : (x : Entry) (es : List Entry) → fin.find order x.0 (x ∷ es) ≡ Some x.1
found_first x es = ap (λ r. cond (is_eq r) (Some x.1) (fin.find order x.0 es)) (tied_itself nat_list_cmp_total x.0)

all_filled : (es : List Entry) → T (fin.is_sorted order es) → ((q : List ℕ) (d : ValueUntil) → fin.find order q es ≡ Some d → IsFilledAt q d) → All HasContent (map pair_of es)
all_filled [] h f = All-nil HasContent
all_filled (x ∷ es) h f =
    All-cons HasContent (pair_of x) (map pair_of es) (f x.0 x.1 (found_first x es))
    (all_filled es (second _ _ h) (λ q d e. f q d (found_later x es q d (first _ _ h) e)))

-- what a filled map has under a key
pub filled_at : (m : Map) → IsFilled m → (q : List ℕ) (d : ValueUntil) → fin.get m q ≡ Some d → IsFilledAt q d
filled_at m h q d e = found_filled (fin.entries m) h q d (sym (fin.get-entries m q) ∙ e)

pub filled_from : (m : Map) → ((q : List ℕ) (d : ValueUntil) → fin.get m q ≡ Some d → IsFilledAt q d) → IsFilled m
filled_from m f = all_filled (fin.entries m) (fin.entries_sorted m) (λ q d e. f q d (fin.get-entries m q ∙ e))

pub IsFilled-empty : IsFilled fin.empty
IsFilled-empty = subst (λ es. All HasContent (map pair_of es)) (sym entries-empty) (All-nil HasContent)

pub IsFilled-insert : (m : Map) (k : List ℕ) (v : ValueUntil) → k ≢ [] → v.value ≢ [] → IsFilled m → IsFilled (fin.insert m k v)
IsFilled-insert m k v key value h = filled_from (fin.insert m k v) (λ q d e. go q d (eq_by_cmp order q k) refl (sym (fin.get-insert nat_list_cmp_total m k v q) ∙ e))
  where
    go : (q : List ℕ) (d : ValueUntil) (b : Bool) → eq_by_cmp order q k ≡ b → cond b (Some v) (fin.get m q) ≡ Some d → IsFilledAt q d
    go q d true t is = let same : v ≡ d = cc in (subst (λ k. k ≢ []) (sym (same_keys q k (is_equal _ t))) key, subst (λ w. w.value ≢ []) same value)
    go q d false t is = filled_at m h q d is

pub IsFilled-remove : (m : Map) (k : List ℕ) → IsFilled m → IsFilled (fin.remove m k)
IsFilled-remove m k h = filled_from (fin.remove m k) (λ q d e. go q d (eq_by_cmp order q k) (sym (fin.get-remove nat_list_cmp_total m k q) ∙ e))
  where
    go : (q : List ℕ) (d : ValueUntil) (b : Bool) → cond b None (fin.get m q) ≡ Some d → IsFilledAt q d
    go q d true is = absurd cc
    go q d false is = filled_at m h q d is
