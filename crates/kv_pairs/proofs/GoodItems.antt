-- What is read from bytes is made of bytes, is no longer than they are, and has no empty key.
use Rattle.std.proofs.Common.{◌≡◌, ℕ, zero, suc, ◌+◌, ◌*◌, ◌%◌, ◌<◌, ◌≤◌, Bool, true, false, cond, List, [], ◌∷◌, ◌++◌, length, get_or, take, drop, refl, ap, arith, length-take, length-drop}
use Rattle.std.specs.Prelude.{Option, Some, None, option_and_then, option_map, nat_lt, nat_le, filter, ◌==◌, ◌&&◌, All}
use Rattle.std.specs.Option.{option_map_or}
use Rattle.std.specs.List.{list_all}
use Rattle.std.proofs.lemmas.Bool.Decides.{nat_tests}
use Rattle.kv_pairs.specs.Reading.{number_in, length_at, bytes_at, text_at, unit_at, units_in, units_at, read_payload}
use Rattle.kv_pairs.specs.Found.{HaveKeys}
use Rattle.kv_pairs.specs.Mapped.{has_room_for_expiry}
use Rattle.kv_pairs.specs.declared.item.Item.{Item}
use Rattle.kv_pairs.proofs.GrammarRead.{Small}

pub Small-take : (n : ℕ) (bs : List ℕ) → Small bs → Small (take n bs)
Small-take zero bs s = tt
Small-take (suc n) [] s = tt
Small-take (suc n) (b ∷ bs) s = (s.0, Small-take n bs s.1)

pub Small-drop : (n : ℕ) (bs : List ℕ) → Small bs → Small (drop n bs)
Small-drop zero bs s = s
Small-drop (suc n) [] s = tt
Small-drop (suc n) (b ∷ bs) s = Small-drop n bs s.1

pub Small-append : (xs ys : List ℕ) → Small xs → Small ys → Small (xs ++ ys)
Small-append [] ys s t = t
Small-append (x ∷ xs) ys s t = (s.0, Small-append xs ys s.1 t)

pub Small-at : (bs : List ℕ) (i : ℕ) → Small bs → get_or bs i 0 < 256
Small-at [] i s = omega arith
Small-at (b ∷ bs) zero s = s.0
Small-at (b ∷ bs) (suc i) s = Small-at bs i s.1

pub Small-from : (bs : List ℕ) → All (λ b. b < 256) bs → Small bs
Small-from [] h = tt
Small-from (b ∷ bs) h = (h 0 0 (omega arith), Small-from bs (λ k d lt. h (suc k) d (omega (arith, lt))))

-- what each place of a slice of bytes is known to be
pub Small-of : (bs : List ℕ) → ((i : ℕ) → get_or bs i 0 < 256) → Small bs
Small-of [] h = tt
Small-of (b ∷ bs) h = (h 0, Small-of bs (λ i. h (suc i)))

Small-within : (bs : List ℕ) (k d : ℕ) → Small bs → k < length bs → get_or bs k d < 256
Small-within [] k d s lt = absurd (omega (arith, lt))
Small-within (b ∷ bs) zero d s lt = s.0
Small-within (b ∷ bs) (suc k) d s lt = Small-within bs k d s.1 (omega (arith, lt))

pub Small-to : (bs : List ℕ) → Small bs → All (λ b. b < 256) bs
Small-to bs s = λ k d lt. Small-within bs k d s lt

-- an item whose key isn't empty, of at most n bytes each
pub record GoodItem (n : ℕ) (i : Item) : Type 0 where
  pub key_some : 0 < length i.key
  pub key_short : length i.key ≤ n
  pub key_small : Small i.key
  pub value_short : length i.value ≤ n
  pub value_small : Small i.value

abbrev pub AllGood : ℕ → List Item → Type 0
AllGood n [] = Unit {0}
AllGood n (i ∷ items) = GoodItem n i × AllGood n items

AllGood-append : (n : ℕ) (xs ys : List Item) → AllGood n xs → AllGood n ys → AllGood n (xs ++ ys)
AllGood-append n [] ys g h = h
AllGood-append n (x ∷ xs) ys g h = (g.0, AllGood-append n xs ys g.1 h)

-- so none of them has an empty key
pub have_keys : (n : ℕ) (items : List Item) → AllGood n items → HaveKeys items
have_keys n [] g = tt
have_keys n (i ∷ items) g = (λ e. absurd (omega (arith, g.0.key_some, ap length e)), have_keys n items g.1)

-- what is left is bytes, and no longer
abbrev pub Rest : ℕ → List ℕ → Type 0
Rest n rest = Small rest × (length rest ≤ n)

abbrev Leaves : ℕ → Option (ℕ × List ℕ) → Type 0
Leaves n None = Unit {0}
Leaves n (Some r) = Rest n r.1

number_leaves : (k n : ℕ) (bytes : List ℕ) → Rest n bytes → Leaves n (number_in k bytes)
number_leaves zero n bytes s = tt
number_leaves (suc k) n [] s = tt
number_leaves (suc k) n (b ∷ bs) s = go (number_in k bs) (number_leaves k n bs (s.0.1, omega (arith, s.1)))
  where
    pass : (o : Option (ℕ × List ℕ)) → Leaves n o → Leaves n (option_map (λ r. (b % 128 + 128 * r.0, r.1)) o)
    pass None l = tt
    pass (Some r) l = l

    go : (o : Option (ℕ × List ℕ)) → Leaves n o → Leaves n (cond (nat_lt b 128) (Some (b, bs)) (option_map (λ r. (b % 128 + 128 * r.0, r.1)) o))
    go o l = elim (nat_lt b 128) as (λ t. Leaves n (cond t (Some (b, bs)) (option_map (λ r. (b % 128 + 128 * r.0, r.1)) o))) [ true ↦ (s.0.1, omega (arith, s.1)) | false ↦ pass o l ]

length_leaves : (n : ℕ) (bytes : List ℕ) → Rest n bytes → Leaves n (length_at bytes)
unfolding length_at
length_leaves n bytes s = go (number_in 5 bytes) (number_leaves 5 n bytes s)
  where
    go : (o : Option (ℕ × List ℕ)) → Leaves n o → Leaves n (option_and_then (λ r. cond (nat_lt r.0 2147483648) (Some r) None) o)
    go None l = tt
    go (Some r) l = elim (nat_lt r.0 2147483648) as (λ t. Leaves n (cond t (Some r) None)) [ true ↦ l | false ↦ tt ]

abbrev Texts : ℕ → Option (List ℕ × List ℕ) → Type 0
Texts n None = Unit {0}
Texts n (Some r) = Rest n r.0 × Rest n r.1

text_fine : (n : ℕ) (bytes : List ℕ) → Rest n bytes → Texts n (text_at bytes)
text_fine n bytes s = go (length_at bytes) (length_leaves n bytes s)
  where
    go : (o : Option (ℕ × List ℕ)) → Leaves n o → Texts n (option_and_then (λ k. bytes_at k.0 k.1) o)
    go None l = tt
    go (Some r) l =
        elim (nat_le r.0 (length r.1)) as (λ t. Texts n (cond t (Some (take r.0 r.1, drop r.0 r.1)) None)) [
          | true ↦ ((Small-take r.0 r.1 l.0, omega (arith, l.1, length-take r.0 r.1)), (Small-drop r.0 r.1 l.0, omega (arith, l.1, length-drop r.0 r.1)))
          | false ↦ tt
        ]

abbrev Units_fine : ℕ → Option (List Item × List ℕ) → Type 0
Units_fine n None = Unit {0}
Units_fine n (Some u) = AllGood n u.0 × Rest n u.1

unit_fine : (n : ℕ) (bytes : List ℕ) → Rest n bytes → Units_fine n (unit_at bytes)
unit_fine n bytes s = go (text_at bytes) (text_fine n bytes s)
  where
    value_of : (key : List ℕ) → Rest n key → 0 < length key → (o : Option (List ℕ × List ℕ)) → Texts n o →
        Units_fine n (option_and_then (λ value. Some (record { key = key; value = value.0 } ∷ [], value.1)) o)
    value_of key k some None t = tt
    value_of key k some (Some value) t =
        ((record { key_some = some; key_short = k.1; key_small = k.0; value_short = t.0.1; value_small = t.0.0 }, tt), t.1)

    some_key : (key : List ℕ) → (length key == 0) ≡ false → 0 < length key
    some_key key e = grind (arith, nat_tests)

    by_test : (b : Bool) (key rest : List ℕ) → (length key == 0) ≡ b → Rest n key → Rest n rest →
        Units_fine n (cond b (Some ([], rest)) (option_and_then (λ value. Some (record { key = key; value = value.0 } ∷ [], value.1)) (text_at rest)))
    by_test true key rest e k r = (tt, r)
    by_test false key rest e k r = value_of key k (some_key key e) (text_at rest) (text_fine n rest r)

    go : (o : Option (List ℕ × List ℕ)) → Texts n o →
        Units_fine n (option_and_then (λ key. cond (length key.0 == 0) (Some ([], key.1)) (option_and_then (λ value. Some (record { key = key.0; value = value.0 } ∷ [], value.1)) (text_at key.1))) o)
    go None t = tt
    go (Some key) t = by_test (length key.0 == 0) key.0 key.1 refl t.0 t.1

pub units_fine : (k n : ℕ) (bytes : List ℕ) → Rest n bytes → AllGood n (units_in k bytes).0
units_fine zero n bytes s = tt
units_fine (suc k) n bytes s = go (unit_at bytes) (unit_fine n bytes s) (λ rest r. units_fine k n rest r)
  where
    go : (o : Option (List Item × List ℕ)) → Units_fine n o → ((rest : List ℕ) → Rest n rest → AllGood n (units_in k rest).0) →
        AllGood n (option_map_or {U = List Item × List ℕ} (λ u. let more = units_in k u.1 in (u.0 ++ more.0, more.1)) o ([], bytes)).0
    go None f more = tt
    go (Some u) f more = AllGood-append n u.0 (units_in k u.1).0 f.0 (more u.1 f.1)

pub units_have_keys : (bytes : List ℕ) → Small bytes → HaveKeys (units_at bytes).0
units_have_keys bytes s = have_keys (length bytes) (units_at bytes).0 (units_fine (length bytes) (length bytes) bytes (s, omega arith))

-- the items that a payload begins with are good
pub read_good : (bytes : List ℕ) → Small bytes → AllGood (length bytes) (read_payload bytes).0
unfolding read_payload
read_good bytes s = go (length_at bytes) (length_leaves (length bytes) bytes (s, omega arith))
  where
    go : (o : Option (ℕ × List ℕ)) → Leaves (length bytes) o → AllGood (length bytes) (option_map_or {U = List Item × List ℕ} (λ n. units_at n.1) o ([], bytes)).0
    go None l = tt
    go (Some r) l = units_fine (length r.1) (length bytes) r.1 l

-- good items with room for an expiry, where there is one
abbrev pub AllFit : Bool → ℕ → List Item → Type 0
AllFit flag n [] = Unit {0}
AllFit flag n (i ∷ items) = GoodItem n i × (has_room_for_expiry flag i ≡ true) × AllFit flag n items

pub fit_filtered : (flag : Bool) (n : ℕ) (items : List Item) → AllGood n items → AllFit flag n (filter (has_room_for_expiry flag) items)
fit_filtered flag n [] g = tt
fit_filtered flag n (i ∷ items) g = go (has_room_for_expiry flag i) refl (fit_filtered flag n items g.1)
  where
    go : (b : Bool) → has_room_for_expiry flag i ≡ b → AllFit flag n (filter (has_room_for_expiry flag) items) → AllFit flag n (cond b (i ∷ filter (has_room_for_expiry flag) items) (filter (has_room_for_expiry flag) items))
    go true e rest = (g.0, e, rest)
    go false e rest = rest

pub fit_all : (flag : Bool) (n : ℕ) (items : List Item) → AllGood n items → list_all (has_room_for_expiry flag) items ≡ true → AllFit flag n items
fit_all flag n [] g e = tt
fit_all flag n (i ∷ items) g e = (g.0, (both _ _ e).0, fit_all flag n items g.1 (both _ _ e).1)
  where
    both : (a b : Bool) → (a && b) ≡ true → (a ≡ true) × (b ≡ true)
    both true b e = (refl, e)
    both false b e = absurd cc
