-- The items of a list one after another, and the first with no room for its expiry.
use Rattle.std.proofs.Common.{◌≡◌, ◌≢◌, ℕ, zero, suc, ◌+◌, ◌<◌, Bool, true, false, cond, List, [], ◌∷◌, length, map, get_or, take, refl, sym, ap, ◌∙◌, arith}
use Rattle.std.specs.Prelude.{Option, Some, None, option_map, ◌&&◌}
use Rattle.std.specs.List.{list_all, enumerate_from}
use Rattle.std.specs.FinMap as fin
use Rattle.std.specs.Iterator.{Yields}
use Rattle.std.proofs.lemmas.Iterator.{YieldsList}
use Rattle.std.proofs.lemmas.Iterator.Consumers.{YieldsList-so_far, YieldsList-turn, YieldsList-end}
use Rattle.kv_pairs.specs.Found.{HaveKeys}
use Rattle.kv_pairs.specs.Mapped.{with_items, has_room_for_expiry, first_without_room, map_of}
use Rattle.kv_pairs.specs.declared.item.Item.{Item}

pub key_at : (items : List Item) (k : ℕ) (d : Item) → HaveKeys items → k < length items → (get_or items k d).key ≢ []
key_at [] k d h lt = absurd (omega (arith, lt))
key_at (i ∷ items) zero d h lt = h.0
key_at (i ∷ items) (suc k) d h lt = key_at items k d h.1 (omega (arith, lt))

numbered_length : (n : ℕ) (items : List Item) → length (enumerate_from n items) ≡ length items
numbered_length n [] = refl
numbered_length n (i ∷ items) = ap suc (numbered_length (n + 1) items)

numbered_at : (n : ℕ) (items : List Item) (k : ℕ) (p : ℕ × Item) → k < length items → get_or (enumerate_from n items) k p ≡ (n + k, get_or items k p.1)
numbered_at n [] k p lt = absurd (omega (arith, lt))
numbered_at n (i ∷ items) zero p lt = let same : n ≡ n + 0 = omega arith in λ j. (same j, i)
numbered_at n (i ∷ items) (suc k) p lt =
    let same : n + 1 + k ≡ n + suc k = omega arith in numbered_at (n + 1) items k p (omega (arith, lt)) ∙ (λ j. (same j, get_or items k p.1))

numbered_take : (n k : ℕ) (items : List Item) → map (λ p. p.1) (take k (enumerate_from n items)) ≡ take k items
numbered_take n zero items = refl
numbered_take n (suc k) [] = refl
numbered_take n (suc k) (i ∷ items) = ap (λ z. i ∷ z) (numbered_take (n + 1) k items)

numbered_all : (n : ℕ) (items : List Item) → map (λ p. p.1) (enumerate_from n items) ≡ items
numbered_all n [] = refl
numbered_all n (i ∷ items) = ap (λ z. i ∷ z) (numbered_all (n + 1) items)

-- the item stands at this place, behind these
pub record Place (items before : List Item) (place : ℕ) (item : Item) : Type 0 where
  pub within : place < length items
  pub front : before ≡ take place items
  pub item_is : item ≡ get_or items place item

seconds_again : (xs : List (ℕ × Item)) → map (λ (p : ℕ × Item). p.1) xs ≡ map (λ (p : ℕ × Item). p.1) (map (λ p. (p.0, p.1)) xs)
seconds_again [] = refl
seconds_again (x ∷ xs) = ap (λ z. x.1 ∷ z) (seconds_again xs)

pub place_of : (items : List Item) (xs : List (ℕ × Item)) (p : ℕ × Item) → map (λ q. (q.0, q.1)) xs ≡ take (length xs) (enumerate_from 0 items) →
    length xs < length (enumerate_from 0 items) → (p.0, p.1) ≡ get_or (enumerate_from 0 items) (length xs) (p.0, p.1) → Place items (map (λ q. q.1) xs) p.0 p.1
place_of items xs p front lt e =
    let within : length xs < length items = omega (arith, lt, numbered_length 0 items) in
    let is = e ∙ numbered_at 0 items (length xs) p within in
    let place : p.0 ≡ length xs = omega (arith, ap (λ q. q.0) is) in
    record {
      within = omega (arith, place, within);
      front = seconds_again xs ∙ ap (map (λ q. q.1)) front ∙ numbered_take 0 (length xs) items ∙ ap (λ n. take n items) (sym place);
      item_is = ap (λ q. q.1) is ∙ ap (λ n. get_or items n p.1) (sym place);
    }

-- a loop over these items with their numbers is at this place
pub at_place : {S : Type 0} {steps : S → Option (ℕ × Item) → S → Type 0} {s : S} (items : List Item) → YieldsList steps (λ p. (p.0, p.1)) s (enumerate_from 0 items) →
    (xs : List (ℕ × Item)) (t : S) → Yields steps s xs t → (r : Option (ℕ × Item)) (u : S) (p : ℕ × Item) → r ≡ Some p → steps t r u → Place items (map (λ q. q.1) xs) p.0 p.1
at_place items all xs t y r u p is step =
    let turn = YieldsList-turn all xs t y r u p is step in
    place_of items xs p (YieldsList-so_far all xs t y) turn.0 turn.1

-- and at its end
pub at_end : {S : Type 0} {steps : S → Option (ℕ × Item) → S → Type 0} {s : S} (items : List Item) → YieldsList steps (λ p. (p.0, p.1)) s (enumerate_from 0 items) →
    (xs : List (ℕ × Item)) (t : S) → Yields steps s xs t → (r : Option (ℕ × Item)) (u : S) → r ≡ None → steps t r u → map (λ q. q.1) xs ≡ items
at_end items all xs t y r u is step =
    seconds_again xs ∙ ap (map (λ q. q.1)) (YieldsList-end all xs t y r u is step).0 ∙ numbered_all 0 items

-- the first that is refused
one_more : (b : Bool) (o : ℕ) (x : List Item) (flag : Bool) → b ≡ true → first_without_room flag x ≡ Some o →
    cond b (option_map (λ place. place + 1) (first_without_room flag x)) (Some 0) ≡ Some (suc o)
one_more b o x flag e f = let same : o + 1 ≡ suc o = omega arith in rw e (rw f (ap Some same))

both : (a b : Bool) → (a && b) ≡ true → (a ≡ true) × (b ≡ true)
both true b e = (refl, e)
both false b e = absurd cc

pub first_is : (flag : Bool) (items : List Item) (k : ℕ) (d : Item) → k < length items → list_all (has_room_for_expiry flag) (take k items) ≡ true →
    has_room_for_expiry flag (get_or items k d) ≡ false → first_without_room flag items ≡ Some k
first_is flag [] k d lt all refused = absurd (omega (arith, lt))
first_is flag (i ∷ items) zero d lt all refused = rw refused refl
first_is flag (i ∷ items) (suc k) d lt all refused =
    let a = both _ _ all in
    one_more (has_room_for_expiry flag i) k items flag a.0 (first_is flag items k d (omega (arith, lt)) a.1 refused)

pub none_refused : (flag : Bool) (items : List Item) → list_all (has_room_for_expiry flag) items ≡ true → first_without_room flag items ≡ None
none_refused flag [] all = refl
none_refused flag (i ∷ items) all =
    let a = both (has_room_for_expiry flag i) (list_all (has_room_for_expiry flag) items) all in rw a.0 (rw (none_refused flag items a.1) refl)

no_map_of : (flag : Bool) (items : List Item) (k : ℕ) → first_without_room flag items ≡ Some k → list_all (has_room_for_expiry flag) items ≡ false
no_map_of flag [] k e = absurd cc
no_map_of flag (i ∷ items) k e = go (has_room_for_expiry flag i) (first_without_room flag items) e (λ n q. no_map_of flag items n q)
  where
    go : (b : Bool) (o : Option ℕ) → cond b (option_map (λ place. place + 1) o) (Some 0) ≡ Some k → ((n : ℕ) → o ≡ Some n → list_all (has_room_for_expiry flag) items ≡ false) →
        (b && list_all (has_room_for_expiry flag) items) ≡ false
    go false o e more = refl
    go true None e more = absurd cc
    go true (Some n) e more = more n refl

pub no_map : (flag : Bool) (items : List Item) (k : ℕ) → first_without_room flag items ≡ Some k → map_of flag items ≡ None
no_map flag items k e = rw (no_map_of flag items k e) refl

all_have : (flag : Bool) (items : List Item) → first_without_room flag items ≡ None → list_all (has_room_for_expiry flag) items ≡ true
all_have flag [] e = refl
all_have flag (i ∷ items) e = go (has_room_for_expiry flag i) (first_without_room flag items) e (λ q. all_have flag items q)
  where
    go : (b : Bool) (o : Option ℕ) → cond b (option_map (λ place. place + 1) o) (Some 0) ≡ None → (o ≡ None → list_all (has_room_for_expiry flag) items ≡ true) →
        (b && list_all (has_room_for_expiry flag) items) ≡ true
    go false o e more = absurd cc
    go true None e more = more refl
    go true (Some n) e more = absurd cc

pub the_map : (flag : Bool) (items : List Item) (m : _) → m ≡ with_items flag fin.empty items → first_without_room flag items ≡ None → map_of flag items ≡ Some m
the_map flag items m e f = rw (all_have flag items f) (ap Some (sym e))
