-- The map as its callers see it, when the entries that the code keeps change.
use Rattle.std.proofs.Common.{subst, ◌≡◌, ℕ, Bool, true, false, cond, List, [], ◌∷◌, Vec, suc, refl, sym, ap, ◌∙◌, length}
use Rattle.std.specs.Prelude.{Option, Some, None, map, T, ◌&&◌}
use Rattle.std.specs.declared.alloc.Global.{Global}
use Rattle.std.specs.declared.cmp.Ordering.{Ordering}
use Rattle.std.specs.declared.cmp.Ordering.TheVariants.{Less, Equal, Greater}
use Rattle.std.specs.List.{AllByRecursion, AllZip}
use Rattle.std.specs.Vec.{vec_len}
use Rattle.std.proofs.lemmas.List.Elements.{same_from_all_zip}
use Rattle.std.specs.List.Sorted.{IsStrictlySortedBy}
use Rattle.std.specs.Map.{keys_of, lookup, remove_entry}
use Rattle.std.specs.BTreeMap.{is_at, insert_entry}
use Rattle.std.specs.Option.{option_map, is_some}
use Rattle.std.specs.Ordering.{nat_cmp, eq_by_cmp, is_lt, match_ordering}
use Rattle.std.specs.Cmp.{eq_by_cmp_equiv}
use Rattle.std.specs.Cmp.Lexicographic.{slice_cmp, nat_list_cmp_total}
use Rattle.std.specs.FinMap as fin
use Rattle.expiring_map.specs.declared.kept.Kept.{Kept}
use Rattle.expiring_map.specs.ValueUntil.{ValueUntil}
use Rattle.expiring_map.specs.Map.{Map, pairs_of, IsFilled}
use Rattle.expiring_map.specs.Kept.{value_kept, values_kept, pair_kept, map_kept, kept_order, AreOrdered, AreKept}
use Rattle.expiring_map.proofs.Refold.{order, Entry, same_keys, not_below, is_equal, first, second}

abbrev pub KeptEntry : Type 0
KeptEntry = Vec ℕ Global × Kept

both : (a b : Bool) → T a → T b → T (a && b)
both true b p q = q
both false b p q = absurd p

less : (r : Ordering) → r ≡ Less → T (is_lt r)
less Less e = tt
less Equal e = absurd cc
less Greater e = absurd cc

is_less : (r : Ordering) → T (is_lt r) → r ≡ Less
is_less Less h = refl
is_less Equal h = absurd h
is_less Greater h = absurd h

below_values : (k : List ℕ) (es : List KeptEntry) → AllByRecursion (λ y. slice_cmp nat_cmp k y.items ≡ Less) (keys_of es) → T (fin.Entries.below_all order k (values_kept es))
below_values k [] h = tt
below_values k (e ∷ es) h = both _ _ (less _ h.0) (below_values k es h.1)

pub sorted_values : (es : List KeptEntry) → AreOrdered es → T (fin.is_sorted order (values_kept es))
unfolding IsStrictlySortedBy
sorted_values [] h = tt
sorted_values (e ∷ es) h = both _ _ (below_values e.0.items es h.0) (sorted_values es h.1)

-- entries in order are the entries of their map
pub entries-sorted : (es : List Entry) → T (fin.is_sorted order es) → fin.entries (fin.from_entries {R = order} es) ≡ es
entries-sorted es h =
    ap fin.entries (fin.same_map nat_list_cmp_total same_keys (fin.from_entries es) (fin.from_sorted es) (λ q. fin.get-from_entries nat_list_cmp_total es q ∙ sym (fin.get-from_sorted order es q h)))
    ∙ fin.entries-from_sorted order es h

pub entries-seen : (es : List KeptEntry) → AreOrdered es → fin.entries (map_kept es) ≡ values_kept es
entries-seen es h = entries-sorted (values_kept es) (sorted_values es h)

pairs_values : (es : List KeptEntry) → map (λ e. record { key = e.0; value = e.1.value; expiry = e.1.expiry }) (values_kept es) ≡ map pair_kept es
pairs_values [] = refl
pairs_values (e ∷ es) = ap (λ ps. pair_kept e ∷ ps) (pairs_values es)

pub pairs-seen : (es : List KeptEntry) → AreOrdered es → pairs_of (map_kept es) ≡ map pair_kept es
pairs-seen es h = ap (map (λ e. record { key = e.0; value = e.1.value; expiry = e.1.expiry })) (entries-seen es h) ∙ pairs_values es

length_values : (es : List KeptEntry) → length (values_kept es) ≡ length es
length_values [] = refl
length_values (e ∷ es) = ap (λ n. suc n) (length_values es)

pub len-seen : (es : List KeptEntry) → AreOrdered es → fin.len (map_kept es) ≡ length es
len-seen es h = fin.len-entries (map_kept es) ∙ ap length (entries-seen es h) ∙ length_values es

find_values : (q : List ℕ) (es : List KeptEntry) → fin.find order q (values_kept es) ≡ option_map value_kept (lookup (is_at (λ (k : Vec ℕ Global). slice_cmp nat_cmp q k.items)) es)
find_values q [] = refl
find_values q (e ∷ es) =
    elim (eq_by_cmp order q e.0.items) as (λ b. cond b (Some (value_kept e.1)) (fin.find order q (values_kept es)) ≡ option_map value_kept (cond b (Some e.1) (lookup (is_at (λ (k : Vec ℕ Global). slice_cmp nat_cmp q k.items)) es))) [
      | true ↦ refl
      | false ↦ find_values q es
    ]

-- the value of a key is the one that the code keeps
pub get-seen : (q : List ℕ) (es : List KeptEntry) → fin.get (map_kept es) q ≡ option_map value_kept (lookup (is_at (λ (k : Vec ℕ Global). slice_cmp nat_cmp q k.items)) es)
get-seen q es = fin.get-from_entries nat_list_cmp_total (values_kept es) q ∙ find_values q es

-- maps of entries are equal where a search in them finds the same
same_seen : (es : List Entry) (m : Map) → ((q : List ℕ) → fin.find order q es ≡ fin.get m q) → fin.from_entries es ≡ m
same_seen es m h = fin.same_map nat_list_cmp_total same_keys (fin.from_entries es) m (λ q. fin.get-from_entries nat_list_cmp_total es q ∙ h q)

values_insert : (es : List KeptEntry) (k : Vec ℕ Global) (v : Kept) → values_kept (insert_entry kept_order es k v) ≡ fin.Entries.put order k.items (value_kept v) (values_kept es)
values_insert [] k v = refl
values_insert (e ∷ es) k v =
    elim (order k.items e.0.items) as (λ r. values_kept (match_ordering r ((k, v) ∷ e ∷ es) ((e.0, v) ∷ es) (e ∷ insert_entry kept_order es k v))
    ≡ fin.Entries.by_order r ((k.items, value_kept v) ∷ values_kept (e ∷ es)) ((e.0.items, value_kept v) ∷ values_kept es) ((e.0.items, value_kept e.1) ∷ fin.Entries.put order k.items (value_kept v) (values_kept es))) [
      | Less ↦ refl
      | Equal ↦ refl
      | Greater ↦ ap (λ rest. (e.0.items, value_kept e.1) ∷ rest) (values_insert es k v)
    ]

-- an entry more
pub seen-insert : (es : List KeptEntry) (k : Vec ℕ Global) (v : Kept) → map_kept (insert_entry kept_order es k v) ≡ fin.insert (map_kept es) k.items (value_kept v)
seen-insert es k v =
    same_seen _ _ (λ q. ap (fin.find order q) (values_insert es k v) ∙ fin.Entries.find-put order nat_list_cmp_total q k.items (value_kept v) (values_kept es)
    ∙ sym (fin.get-insert nat_list_cmp_total (map_kept es) k.items (value_kept v) q ∙ ap (cond (eq_by_cmp order q k.items) (Some (value_kept v))) (fin.get-from_entries nat_list_cmp_total (values_kept es) q)))

apart : (x q k : List ℕ) → eq_by_cmp order q k ≡ false → eq_by_cmp order x k ≡ true → eq_by_cmp order x q ≡ false
apart x q k f t = ap (λ y. eq_by_cmp order y q) (same_keys x k (is_equal _ t)) ∙ (eq_by_cmp_equiv nat_list_cmp_total).symm k q ∙ f

nothing : (b : Bool) (o : Option ValueUntil) → o ≡ None → o ≡ cond b None o
nothing true o e = e
nothing false o e = refl

find_removed : (q x : List ℕ) (es : List KeptEntry) → T (fin.is_sorted order (values_kept es)) →
    fin.find order x (values_kept (remove_entry (is_at (λ (k : Vec ℕ Global). slice_cmp nat_cmp q k.items)) es)) ≡ cond (eq_by_cmp order x q) None (fin.find order x (values_kept es))
find_removed q x [] h = nothing (eq_by_cmp order x q) None refl
find_removed q x (e ∷ es) h = go (eq_by_cmp order q e.0.items) refl (eq_by_cmp order x e.0.items) refl (find_removed q x es (second _ _ h))
  where
    go : (b : Bool) → eq_by_cmp order q e.0.items ≡ b → (b' : Bool) → eq_by_cmp order x e.0.items ≡ b' →
        fin.find order x (values_kept (remove_entry (is_at (λ (k : Vec ℕ Global). slice_cmp nat_cmp q k.items)) es)) ≡ cond (eq_by_cmp order x q) None (fin.find order x (values_kept es)) →
        fin.find order x (values_kept (cond b es (e ∷ remove_entry (is_at (λ (k : Vec ℕ Global). slice_cmp nat_cmp q k.items)) es))) ≡ cond (eq_by_cmp order x q) None (cond b' (Some (value_kept e.1)) (fin.find order x (values_kept es)))
    go true t true u later =
        not_below e.0.items x (values_kept es) (first _ _ h) (is_equal _ u)
        ∙ ap (λ b. cond b None (Some (value_kept e.1))) (sym u ∙ ap (λ k. eq_by_cmp order x k) (sym (same_keys q e.0.items (is_equal _ t))))
    go true t false u later = ap (λ b. cond b None (fin.find order x (values_kept es))) (sym u ∙ ap (λ k. eq_by_cmp order x k) (sym (same_keys q e.0.items (is_equal _ t))))
    go false t true u later = ap (λ b. cond b (Some (value_kept e.1)) (fin.find order x (values_kept (remove_entry (is_at (λ (k : Vec ℕ Global). slice_cmp nat_cmp q k.items)) es)))) u
        ∙ ap (λ b. cond b None (Some (value_kept e.1))) (sym (apart x q e.0.items t u))
    go false t false u later = ap (λ b. cond b (Some (value_kept e.1)) (fin.find order x (values_kept (remove_entry (is_at (λ (k : Vec ℕ Global). slice_cmp nat_cmp q k.items)) es)))) u ∙ later

-- an entry less
pub seen-remove : (q : List ℕ) (es : List KeptEntry) → AreOrdered es → map_kept (remove_entry (is_at (λ (k : Vec ℕ Global). slice_cmp nat_cmp q k.items)) es) ≡ fin.remove (map_kept es) q
seen-remove q es h =
    same_seen _ _ (λ x. find_removed q x es (sorted_values es h)
    ∙ sym (fin.get-remove nat_list_cmp_total (map_kept es) q x ∙ ap (cond (eq_by_cmp order x q) None) (fin.get-from_entries nat_list_cmp_total (values_kept es) x)))

pub is_some-map : (o : Option Kept) → is_some o ≡ is_some (option_map value_kept o)
is_some-map (Some v) = refl
is_some-map None = refl

all_less : (k : List ℕ) (es : List KeptEntry) → T (fin.Entries.below_all order k (values_kept es)) → AllByRecursion (λ y. slice_cmp nat_cmp k y.items ≡ Less) (keys_of es)
all_less k [] h = tt
all_less k (e ∷ es) h = (is_less _ (first _ _ h), all_less k es (second _ _ h))

AreOrdered-values : (es : List KeptEntry) → T (fin.is_sorted order (values_kept es)) → AreOrdered es
unfolding IsStrictlySortedBy
AreOrdered-values [] h = tt
AreOrdered-values (e ∷ es) h = (all_less e.0.items es (first _ _ h), AreOrdered-values es (second _ _ h))

-- entries that show the same keys and values are kept as well
pub AreKept-same : (es fs : List KeptEntry) → values_kept fs ≡ values_kept es → AreKept es → AreKept fs
AreKept-same es fs e h = record {
  ordered = AreOrdered-values fs (subst (λ vs. T (fin.is_sorted order vs)) (sym e) (sorted_values es h.ordered));
  filled = subst IsFilled (ap (λ vs. fin.from_entries vs) (sym e)) h.filled;
}

abbrev IsCopied : KeptEntry → KeptEntry → Type 0
IsCopied e f = (AllZip (λ (x y : ℕ). y ≡ x) e.0.items f.0.items × (vec_len f.0 ≡ vec_len e.0)) × (f.1 ≡ e.1)

-- clones of entries show the same keys and values
pub values_copied : (es fs : List KeptEntry) → AllZip IsCopied es fs → values_kept fs ≡ values_kept es
values_copied [] [] h = refl
values_copied [] (f ∷ fs) h = absurd h
values_copied (e ∷ es) [] h = absurd h
values_copied (e ∷ es) (f ∷ fs) h =
    let key : f.0.items ≡ e.0.items = same_from_all_zip (λ x y. y ≡ x) e.0.items f.0.items h.0.0.0 (λ x y is. is) in
    let value : f.1 ≡ e.1 = h.0.1 in
    let rest : values_kept fs ≡ values_kept es = values_copied es fs h.1 in
    cc
