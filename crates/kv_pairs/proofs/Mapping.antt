-- The map of a payload with one more item.
use Rattle.std.proofs.Common.{◌≡◌, ℕ, ◌-◌, ◌^◌, ◌<◌, Bool, true, false, cond, List, [], ◌∷◌, ◌++◌, length, take, drop, refl, sym, ap, ◌∙◌, arith, length-append, append-nil}
use Rattle.std.specs.Prelude.{Some, None, ◌&&◌}
use Rattle.std.specs.List.{list_all}
use Rattle.std.specs.Int.{to_le_bytes, from_le_bytes, w32}
use Rattle.std.specs.FinMap as fin
use Rattle.std.proofs.lemmas.Nat.{from_le_bytes-to_le_bytes_4}
use Rattle.std.proofs.lemmas.List.Folds.{list_all-append}
use Rattle.std.proofs.Math.Seq.{take-append_seam}
use Rattle.expiring_map.specs.ValueUntil.{ValueUntil}
use Rattle.expiring_map.specs.Map.{Map}
use Rattle.kv_pairs.specs.Mapped.{stored, unstored, with_item, with_items, has_room_for_expiry, map_of}
use Rattle.kv_pairs.specs.declared.item.Item.{Item}

pub with_items-append : (flag : Bool) (m : Map) (xs ys : List Item) → with_items flag m (xs ++ ys) ≡ with_items flag (with_items flag m xs) ys
with_items-append flag m [] ys = refl
with_items-append flag m (x ∷ xs) ys = with_items-append flag (with_item flag m x) xs ys

pub some_when : (b : Bool) (m n : Map) → cond b (Some m) None ≡ Some n → (b ≡ true) × (m ≡ n)
some_when true m n e = (refl, cc)
some_when false m n e = absurd cc

-- one more item changes the map by it
pub map_of-append : (flag : Bool) (items : List Item) (i : Item) (m : Map) → map_of flag items ≡ Some m → has_room_for_expiry flag i ≡ true →
    map_of flag (items ++ i ∷ []) ≡ Some (with_item flag m i)
map_of-append flag items i m e h =
    let had = some_when (list_all (has_room_for_expiry flag) items) (with_items flag fin.empty items) m e in
    let all : list_all (has_room_for_expiry flag) (items ++ i ∷ []) ≡ true =
    list_all-append (has_room_for_expiry flag) items (i ∷ []) ∙ (λ j. had.0 j && (h j && true)) in
    (λ j. cond (all j) (Some (with_items flag fin.empty (items ++ i ∷ []))) None)
    ∙ ap Some (with_items-append flag fin.empty items (i ∷ []) ∙ ap (λ n. with_item flag n i) had.1)

drop_seam : (xs ys : List ℕ) → drop (length xs) (xs ++ ys) ≡ ys
drop_seam [] ys = refl
drop_seam (x ∷ xs) ys = drop_seam xs ys

-- a value and its expiry are read as they were written
pub unstored-stored : (flag : Bool) (d : ValueUntil) → d.expiry < 2 ^ 32 → (flag ≡ false → d.expiry ≡ 0) → unstored flag (stored flag d) ≡ d
unstored-stored false d h none = λ i. record { value = append-nil d.value i; expiry = sym (none refl) i }
unstored-stored true d h none =
    let size : length (d.value ++ to_le_bytes w32 d.expiry) - 4 ≡ length d.value = omega (arith, length-append d.value (to_le_bytes w32 d.expiry)) in
    let value : take (length (d.value ++ to_le_bytes w32 d.expiry) - 4) (d.value ++ to_le_bytes w32 d.expiry) ≡ d.value =
    ap (λ n. take n (d.value ++ to_le_bytes w32 d.expiry)) size ∙ take-append_seam d.value (to_le_bytes w32 d.expiry) in
    let expiry : from_le_bytes w32 (drop (length (d.value ++ to_le_bytes w32 d.expiry) - 4) (d.value ++ to_le_bytes w32 d.expiry)) ≡ d.expiry =
    ap (λ n. from_le_bytes w32 (drop n (d.value ++ to_le_bytes w32 d.expiry))) size ∙ ap (from_le_bytes w32) (drop_seam d.value (to_le_bytes w32 d.expiry))
    ∙ from_le_bytes-to_le_bytes_4 d.expiry h in
    λ i. record { value = value i; expiry = expiry i }
