-- A list in the order of a number, taken apart level by level.
use Rattle.std.proofs.Common.{◌≡◌, ◌⊎◌, inl, inr, ℕ, ◌+◌, ◌<◌, ◌≤◌, Bool, true, false, cond, List, [], ◌∷◌, ◌++◌, refl, sym, ap, ◌∙◌, arith}
use Rattle.std.specs.Prelude.{filter, ◌==◌, nat_le}
use Rattle.std.specs.List.{AllByRecursion}
use Rattle.std.proofs.lemmas.Bool.Decides.{nat_tests}
use Rattle.change_log.proofs.Members.{Pairs}

equal : (m n : ℕ) → (m == n) ≡ true → m ≡ n
equal m n h = grind (arith, nat_tests)

tests : (n k : ℕ) →
    (((nat_le k n ≡ true) × ((n == k) ≡ false) × (nat_le (k + 1) n ≡ true) × (k < n)) ⊎ ((nat_le k n ≡ true) × ((n == k) ≡ true) × (nat_le (k + 1) n ≡ false))) ⊎
    ((nat_le k n ≡ false) × ((n == k) ≡ false) × (nat_le (k + 1) n ≡ false))
tests n k = go (n == k) (nat_le k n) refl refl
  where
    go : (b b' : Bool) → (n == k) ≡ b → nat_le k n ≡ b' →
        (((nat_le k n ≡ true) × ((n == k) ≡ false) × (nat_le (k + 1) n ≡ true) × (k < n)) ⊎ ((nat_le k n ≡ true) × ((n == k) ≡ true) × (nat_le (k + 1) n ≡ false))) ⊎
        ((nat_le k n ≡ false) × ((n == k) ≡ false) × (nat_le (k + 1) n ≡ false))
    go true b' e f = inl (inr (grind (arith, nat_tests), e, grind (arith, nat_tests)))
    go false true e f = inl (inl (f, e, grind (arith, nat_tests), grind (arith, nat_tests)))
    go false false e f = inr (f, e, grind (arith, nat_tests))

module _ {X : Type 0} (f : X → ℕ) where
  abbrev pub at_level : ℕ → List X → List X
  at_level k xs = filter (λ x. f x == k) xs

  abbrev pub from_level : ℕ → List X → List X
  from_level k xs = filter (λ x. nat_le k (f x)) xs

  abbrev pub Rises : List X → Type 0
  Rises xs = Pairs (λ x y. f x ≤ f y) xs

  none_at : (k : ℕ) (xs : List X) → AllByRecursion (λ x. k < f x) xs → at_level k xs ≡ []
  none_at k [] h = refl
  none_at k (x ∷ xs) h =
      let off : (f x == k) ≡ false = differs (f x) k h.0 in
      ap (λ b. cond b (x ∷ at_level k xs) (at_level k xs)) off ∙ none_at k xs h.1
    where
      differs : (m n : ℕ) → n < m → (m == n) ≡ false
      differs m n lt = grind (arith, nat_tests)

  above : (k : ℕ) (n : ℕ) (xs : List X) → k < n → AllByRecursion (λ x. n ≤ f x) xs → AllByRecursion (λ x. k < f x) xs
  above k n [] lt h = tt
  above k n (x ∷ xs) lt h = (omega (arith, lt, h.0), above k n xs lt h.1)

  -- those of a level come before those above
  pub split_level : (k : ℕ) (xs : List X) → Rises xs → from_level k xs ≡ at_level k xs ++ from_level (k + 1) xs
  split_level k [] h = refl
  split_level k (x ∷ xs) h = elim (tests (f x) k) [
    | inl within ↦ elim within [
      | inl higher ↦
          let none : at_level k xs ≡ [] = none_at k xs (above k (f x) xs higher.3 h.0) in
          ap (λ b. cond b (x ∷ from_level k xs) (from_level k xs)) higher.0
          ∙ ap (λ l. x ∷ l) (split_level k xs h.1 ∙ ap (λ l. l ++ from_level (k + 1) xs) none)
          ∙ sym (ap (λ b. cond b (x ∷ at_level k xs) (at_level k xs) ++ cond (nat_le (k + 1) (f x)) (x ∷ from_level (k + 1) xs) (from_level (k + 1) xs)) higher.1
          ∙ ap (λ b. at_level k xs ++ cond b (x ∷ from_level (k + 1) xs) (from_level (k + 1) xs)) higher.2
          ∙ ap (λ l. l ++ (x ∷ from_level (k + 1) xs)) none)
      | inr same ↦
          ap (λ b. cond b (x ∷ from_level k xs) (from_level k xs)) same.0
          ∙ ap (λ l. x ∷ l) (split_level k xs h.1)
          ∙ sym (ap (λ b. cond b (x ∷ at_level k xs) (at_level k xs) ++ cond (nat_le (k + 1) (f x)) (x ∷ from_level (k + 1) xs) (from_level (k + 1) xs)) same.1
          ∙ ap (λ b. (x ∷ at_level k xs) ++ cond b (x ∷ from_level (k + 1) xs) (from_level (k + 1) xs)) same.2)
    ]
    | inr lower ↦
        ap (λ b. cond b (x ∷ from_level k xs) (from_level k xs)) lower.0
        ∙ split_level k xs h.1
        ∙ sym (ap (λ b. cond b (x ∷ at_level k xs) (at_level k xs) ++ cond (nat_le (k + 1) (f x)) (x ∷ from_level (k + 1) xs) (from_level (k + 1) xs)) lower.1
        ∙ ap (λ b. at_level k xs ++ cond b (x ∷ from_level (k + 1) xs) (from_level (k + 1) xs)) lower.2)
  ]

  -- all are from 0 on
  pub from_first : (xs : List X) → from_level 0 xs ≡ xs
  from_first [] = refl
  from_first (x ∷ xs) = ap (λ b. cond b (x ∷ from_level 0 xs) (from_level 0 xs)) (least (f x)) ∙ ap (λ l. x ∷ l) (from_first xs)
    where
      least : (n : ℕ) → nat_le 0 n ≡ true
      least n = grind (arith, nat_tests)

  -- above the highest there is none
  pub none_from : (k : ℕ) (xs : List X) → AllByRecursion (λ x. f x < k) xs → from_level k xs ≡ []
  none_from k [] h = refl
  none_from k (x ∷ xs) h = ap (λ b. cond b (x ∷ from_level k xs) (from_level k xs)) (below (f x) h.0) ∙ none_from k xs h.1
    where
      below : (n : ℕ) → n < k → nat_le k n ≡ false
      below n lt = grind (arith, nat_tests)

  pub level_of : (k : ℕ) (x : X) → (f x == k) ≡ true → f x ≡ k
  level_of k x t = equal (f x) k t

  pub is_level : (k : ℕ) (x : X) → f x ≡ k → (f x == k) ≡ true
  is_level k x e = same (f x) k e
    where
      same : (m n : ℕ) → m ≡ n → (m == n) ≡ true
      same m n e = grind (arith, nat_tests)
