-- The entries that the code keeps, at a moment and with another expiry.
use Rattle.std.proofs.Common.{◌≡◌, ℕ, Bool, true, false, cond, List, [], ◌∷◌, suc, refl, sym, ap, ◌∙◌, length, subst}
use Rattle.std.specs.Prelude.{map, filter, count_by, All}
use Rattle.std.specs.Map.{values_of}
use Rattle.std.specs.FinMap as fin
use Rattle.std.proofs.lemmas.List.Sums.{length-filter}
use Rattle.std.proofs.lemmas.List.Elements.{All-cons, All-head, All-tail}
use Rattle.expiring_map.specs.declared.kept.Kept.{Kept}
use Rattle.expiring_map.specs.Map.{HasContent, IsFilled}
use Rattle.expiring_map.specs.Live.{is_live, live_part, expiring, with_expiry, keys_at, count_at}
use Rattle.expiring_map.specs.Kept.{value_kept, values_kept, pair_kept, map_kept, AreOrdered}
use Rattle.expiring_map.proofs.Seen.{KeptEntry, entries-seen, pairs-seen}

abbrev pub lives : ℕ → KeptEntry → Bool
lives now e = is_live now (value_kept e.1)

abbrev pub live_keys : ℕ → List KeptEntry → List (List ℕ)
live_keys now es = map (λ e. e.0.items) (filter (lives now) es)

abbrev pub lasting : ℕ → Kept → Kept
lasting expiry kept = record { value = kept.value; expiry = expiry }

abbrev pub all_lasting : ℕ → List KeptEntry → List KeptEntry
all_lasting expiry es = map (λ e. (e.0, lasting expiry e.1)) es

values_live : (now : ℕ) (es : List KeptEntry) → values_kept (filter (lives now) es) ≡ filter (λ e. is_live now e.1) (values_kept es)
values_live now [] = refl
values_live now (e ∷ es) =
    elim (lives now e) as (λ b. values_kept (cond b (e ∷ filter (lives now) es) (filter (lives now) es)) ≡ cond b ((e.0.items, value_kept e.1) ∷ filter (λ e. is_live now e.1) (values_kept es)) (filter (λ e. is_live now e.1) (values_kept es))) [
      | true ↦ ap (λ rest. (e.0.items, value_kept e.1) ∷ rest) (values_live now es)
      | false ↦ values_live now es
    ]

-- what is kept of the map at a moment
pub seen-live : (now : ℕ) (es : List KeptEntry) → AreOrdered es → map_kept (filter (lives now) es) ≡ live_part (map_kept es) now
seen-live now es h = ap (λ vs. fin.from_entries vs) (values_live now es ∙ ap (filter (λ e. is_live now e.1)) (sym (entries-seen es h)))

values_lasting : (expiry : ℕ) (es : List KeptEntry) → values_kept (all_lasting expiry es) ≡ map (λ e. (e.0, expiring expiry e.1)) (values_kept es)
values_lasting expiry [] = refl
values_lasting expiry (e ∷ es) = ap (λ rest. (e.0.items, record { value = e.1.value; expiry = expiry }) ∷ rest) (values_lasting expiry es)

-- the map with another expiry
pub seen-lasting : (expiry : ℕ) (es : List KeptEntry) → AreOrdered es → map_kept (all_lasting expiry es) ≡ with_expiry expiry (map_kept es)
seen-lasting expiry es h = ap (λ vs. fin.from_entries vs) (values_lasting expiry es ∙ ap (map (λ e. (e.0, expiring expiry e.1))) (sym (entries-seen es h)))

-- entries that have content make a filled map
pub IsFilled-seen : (es : List KeptEntry) → AreOrdered es → All HasContent (map pair_kept es) → IsFilled (map_kept es)
IsFilled-seen es h all = subst (All HasContent) (sym (pairs-seen es h)) all

pub all_content : (es : List KeptEntry) → AreOrdered es → IsFilled (map_kept es) → All HasContent (map pair_kept es)
all_content es h all = subst (All HasContent) (pairs-seen es h) all

pub All-live : (now : ℕ) (es : List KeptEntry) → All HasContent (map pair_kept es) → All HasContent (map pair_kept (filter (lives now) es))
All-live now [] all = all
All-live now (e ∷ es) all =
    let rest = All-live now es (All-tail HasContent (pair_kept e) (map pair_kept es) all) in
    elim (lives now e) as (λ b. All HasContent (map pair_kept (cond b (e ∷ filter (lives now) es) (filter (lives now) es)))) [
      | true ↦ All-cons HasContent (pair_kept e) (map pair_kept (filter (lives now) es)) (All-head HasContent (pair_kept e) (map pair_kept es) all) rest
      | false ↦ rest
    ]

pub All-lasting : (expiry : ℕ) (es : List KeptEntry) → All HasContent (map pair_kept es) → All HasContent (map pair_kept (all_lasting expiry es))
All-lasting expiry [] all = all
All-lasting expiry (e ∷ es) all =
    All-cons HasContent (record { key = e.0.items; value = e.1.value; expiry = expiry }) (map pair_kept (all_lasting expiry es)) (All-head HasContent (pair_kept e) (map pair_kept es) all)
    (All-lasting expiry es (All-tail HasContent (pair_kept e) (map pair_kept es) all))

keys_live : (now : ℕ) (es : List KeptEntry) → map (λ e. e.0) (filter (λ e. is_live now e.1) (values_kept es)) ≡ live_keys now es
keys_live now [] = refl
keys_live now (e ∷ es) =
    elim (lives now e) as (λ b. map (λ e. e.0) (cond b ((e.0.items, value_kept e.1) ∷ filter (λ e. is_live now e.1) (values_kept es)) (filter (λ e. is_live now e.1) (values_kept es))) ≡ map (λ e. e.0.items) (cond b (e ∷ filter (lives now) es) (filter (lives now) es))) [
      | true ↦ ap (λ rest. e.0.items ∷ rest) (keys_live now es)
      | false ↦ keys_live now es
    ]

-- the keys that live at a moment
pub keys-seen : (now : ℕ) (es : List KeptEntry) → AreOrdered es → keys_at (map_kept es) now ≡ live_keys now es
keys-seen now es h = ap (λ vs. map (λ e. e.0) (filter (λ e. is_live now e.1) vs)) (entries-seen es h) ∙ keys_live now es

count_live : (now : ℕ) (es : List KeptEntry) → length (filter (λ kept. is_live now (value_kept kept)) (values_of es)) ≡ length (live_keys now es)
count_live now [] = refl
count_live now (e ∷ es) =
    elim (lives now e) as (λ b. length (cond b (e.1 ∷ filter (λ kept. is_live now (value_kept kept)) (values_of es)) (filter (λ kept. is_live now (value_kept kept)) (values_of es))) ≡ length (map (λ e. e.0.items) (cond b (e ∷ filter (lives now) es) (filter (lives now) es)))) [
      | true ↦ ap (λ n. suc n) (count_live now es)
      | false ↦ count_live now es
    ]

-- how many live at a moment
pub count-seen : (now : ℕ) (es : List KeptEntry) → AreOrdered es → count_by (λ kept. is_live now (value_kept kept)) (values_of es) ≡ count_at (map_kept es) now
count-seen now es h = sym (length-filter (λ kept. is_live now (value_kept kept)) (values_of es)) ∙ count_live now es ∙ ap length (sym (keys-seen now es h))
