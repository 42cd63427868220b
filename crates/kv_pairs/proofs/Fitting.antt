-- Whether each item has room for its expiry, unit by unit.
use Rattle.std.proofs.Common.{◌≡◌, ℕ, Bool, true, false, cond, List, [], length, refl, ap, ◌∙◌}
use Rattle.std.specs.Prelude.{Option, Some, None, is_some, option_and_then, ◌&&◌, ◌==◌}
use Rattle.std.specs.List.{list_all}
use Rattle.std.specs.FinMap as fin
use Rattle.expiring_map.specs.Map.{Map}
use Rattle.std.proofs.lemmas.List.Folds.{list_all-append}
use Rattle.kv_pairs.specs.Reading.{unit_at, units_at, length_at, read_payload}
use Rattle.kv_pairs.specs.Mapped.{has_room_for_expiry, units_fit, with_items, map_in, map_of}
use Rattle.kv_pairs.specs.declared.item.Item.{Item}
use Rattle.kv_pairs.proofs.Stepping.{first_unit}

by_unit : (flag : Bool) (bytes rest : List ℕ) (its : List Item) → unit_at bytes ≡ Some (its, rest) →
    units_fit flag bytes ≡ (list_all (has_room_for_expiry flag) its && list_all (has_room_for_expiry flag) (units_at rest).0 && (length (units_at rest).1 == 0))
by_unit flag bytes rest its e =
    rw (first_unit bytes its rest e) (ap (λ b. b && (length (units_at rest).1 == 0)) (list_all-append (has_room_for_expiry flag) its (units_at rest).0))

pub fit_past : (flag : Bool) (bytes rest : List ℕ) (its : List Item) → unit_at bytes ≡ Some (its, rest) → list_all (has_room_for_expiry flag) its ≡ true →
    units_fit flag bytes ≡ units_fit flag rest
fit_past flag bytes rest its e h = by_unit flag bytes rest its e ∙ rw h refl

pub not_fit : (flag : Bool) (bytes rest : List ℕ) (its : List Item) → unit_at bytes ≡ Some (its, rest) → list_all (has_room_for_expiry flag) its ≡ false →
    units_fit flag bytes ≡ false
not_fit flag bytes rest its e h = by_unit flag bytes rest its e ∙ rw h refl

some_if : (a : Bool) (m : Map) → is_some (cond a (Some m) None) ≡ a
some_if true m = refl
some_if false m = refl

and_true : (a : Bool) → a ≡ (a && true)
and_true true = refl
and_true false = refl

and_false : (a : Bool) → false ≡ (a && false)
and_false true = refl
and_false false = refl

chosen : (f : List Item → Option Map) (x : List Item) (b : Bool) → is_some (option_and_then f (cond b (Some x) None)) ≡ (is_some (f x) && b)
chosen f x true = and_true (is_some (f x))
chosen f x false = and_false (is_some (f x))

-- a payload has a map where the units behind its first length have one
pub map_behind : (flag : Bool) (bytes : List ℕ) (n : ℕ) (rest : List ℕ) → length_at bytes ≡ Some (n, rest) → is_some (map_in flag bytes) ≡ units_fit flag rest
unfolding read_payload
map_behind flag bytes n rest e =
    let items = (units_at rest).0 in
    rw e (chosen (map_of flag) items (length (units_at rest).1 == 0)
    ∙ ap (λ b. b && (length (units_at rest).1 == 0)) (some_if (list_all (has_room_for_expiry flag) items) (with_items flag fin.empty items)))

-- and one without a length only where it is empty
pub map_of_nothing : (flag : Bool) (bytes : List ℕ) → length_at bytes ≡ None → is_some (map_in flag bytes) ≡ (length bytes == 0)
unfolding read_payload
map_of_nothing flag bytes e = rw e (chosen (map_of flag) [] (length bytes == 0))
