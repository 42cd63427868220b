-- The map of a payload with the item of a put or remove at its end.
use Rattle.std.proofs.Common.{◌≡◌, ℕ, ◌^◌, ◌<◌, ◌≤◌, Bool, true, false, cond, List, [], ◌∷◌, ◌++◌, length, refl, ap, ◌∙◌, arith, length-append}
use Rattle.std.specs.Prelude.{Option, Some, None, option_and_then, ◌||◌, ◌==◌, nat_lt}
use Rattle.std.specs.Int.{to_le_bytes, w32}
use Rattle.std.specs.FinMap as fin
use Rattle.std.proofs.lemmas.Bool.Decides.{nat_tests}
use Rattle.expiring_map.specs.Map.{Map, value_until}
use Rattle.kv_pairs.specs.Reading.{items_of}
use Rattle.kv_pairs.specs.Mapped.{stored, unstored, with_item, has_room_for_expiry, map_of}
use Rattle.kv_pairs.specs.declared.item.Item.{Item}
use Rattle.kv_pairs.proofs.Appending.{appended_items}
use Rattle.kv_pairs.proofs.GrammarRead.{Small}
use Rattle.kv_pairs.proofs.Mapping.{map_of-append, unstored-stored}
use Rattle.change_log.specs.Acts.{applied}
use Rattle.change_log.specs.declared.change.Act.{Act}
use Rattle.change_log.specs.declared.change.Act.TheVariants as act
use Rattle.region_words.specs.Region.{map_in}
use Rattle.region_words.specs.Rows.{item_of, IsAppendable}

abbrev item : List ℕ → List ℕ → Item
item key value = record { key = key; value = value }

parts : (flag : Bool) (o : Option (List Item)) (m : Map) → option_and_then (map_of flag) o ≡ Some m → (items : List Item) × (o ≡ Some items) × (map_of flag items ≡ Some m)
parts flag None m e = absurd cc
parts flag (Some items) m e = (items, refl, e)

one_more : (flag : Bool) (p : List ℕ) (m : Map) (key value : List ℕ) → 0 < length p → Small p → map_in flag p ≡ Some m →
    0 < length key → length key < 2 ^ 31 → length value < 2 ^ 31 → has_room_for_expiry flag (item key value) ≡ true →
    (items : List Item) × (items_of p ≡ Some items) × (map_of flag (items ++ item key value ∷ []) ≡ Some (with_item flag m (item key value)))
one_more flag p m key value some s e k kl vl h =
    let had = parts flag (items_of p) m e in
    (had.0, had.1, map_of-append flag had.0 (item key value) m had.2 h)

has_room : (flag : Bool) (key value : List ℕ) (expiry : ℕ) → 0 < length value → has_room_for_expiry flag (item key (stored flag (value_until value expiry))) ≡ true
has_room false key value expiry some = refl
has_room true key value expiry some =
    let size = length-append value (to_le_bytes w32 expiry) in
    let more : 4 < length (stored true (value_until value expiry)) = omega (arith, size, some) in
    let test : nat_lt 4 (length (stored true (value_until value expiry))) ≡ true = grind (arith, nat_tests) in
    by_parts _ _ test
  where
    by_parts : (a b : Bool) → b ≡ true → (a || b) ≡ true
    by_parts true b e = refl
    by_parts false b e = e

some_stored : (flag : Bool) (value : List ℕ) (expiry : ℕ) → 0 < length value → (length (stored flag (value_until value expiry)) == 0) ≡ false
some_stored false value expiry some =
    let size = length-append value [] in
    let more : 0 < length (stored false (value_until value expiry)) = omega (arith, size, some) in
    grind (arith, nat_tests)
some_stored true value expiry some =
    let size = length-append value (to_le_bytes w32 expiry) in
    let more : 0 < length (stored true (value_until value expiry)) = omega (arith, size, some) in
    grind (arith, nat_tests)

short_stored : (flag : Bool) (value : List ℕ) (expiry : ℕ) → length value ≤ 2 ^ 27 → length (stored flag (value_until value expiry)) < 2 ^ 31
short_stored false value expiry h = omega (arith, h, length-append value [])
short_stored true value expiry h = omega (arith, h, length-append value (to_le_bytes w32 expiry))

-- the item at the end of a payload that isn't empty makes its change
pub appended_map : (flag : Bool) (p : List ℕ) (m : Map) (a : Act) → 0 < length p → Small p → map_in flag p ≡ Some m → IsAppendable flag a →
    map_in flag (p ++ item_of flag a) ≡ Some (applied m a)
appended_map flag p m (act.Put key value expiry) some s e (is_key, v, vl, vb, ex, off) =
    let d = value_until value expiry in
    let bytes = stored flag d in
    let more = one_more flag p m key bytes some s e is_key.0 (omega (arith, is_key.1)) (short_stored flag value expiry vl) (has_room flag key value expiry v) in
    let read = appended_items p more.0 key bytes some s more.1 is_key.0 (omega (arith, is_key.1)) (short_stored flag value expiry vl) in
    ap (option_and_then (map_of flag)) read ∙ more.2
    ∙ ap (λ b. Some (cond b (fin.remove m key) (fin.insert m key (unstored flag bytes)))) (some_stored flag value expiry v)
    ∙ ap (λ x. Some (fin.insert m key x)) (unstored-stored flag d ex off)
appended_map flag p m (act.Remove key) some s e is_key =
    let more = one_more flag p m key [] some s e is_key.0 (omega (arith, is_key.1)) (omega arith) (never_short flag) in
    let read = appended_items p more.0 key [] some s more.1 is_key.0 (omega (arith, is_key.1)) (omega arith) in
    ap (option_and_then (map_of flag)) read ∙ more.2
  where
    never_short : (b : Bool) → has_room_for_expiry b (item key []) ≡ true
    never_short true = refl
    never_short false = refl
appended_map flag p m act.Clear some s e a = absurd a
appended_map flag p m (act.Pack now) some s e a = absurd a
appended_map flag p m (act.Enable now seconds) some s e a = absurd a
appended_map flag p m (act.Disable now) some s e a = absurd a
appended_map flag p m (act.Restored pairs) some s e a = absurd a
appended_map flag p m act.Discarded some s e a = absurd a
appended_map flag p m (act.Recovered pairs) some s e a = absurd a
