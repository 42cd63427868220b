-- Places in two lists, one after the other.
use Rattle.std.proofs.Common.{◌≡◌, ◌⊎◌, ℕ, zero, suc, ◌+◌, List, [], ◌∷◌, ◌++◌, ◌∙◌, length, inl, inr, arith, subst, length-append}
use Rattle.std.specs.Prelude.{Some, Any, slice_get}
use Rattle.std.proofs.lemmas.List.{get_or_append_left}

module _ {X : Type 0} where
  -- what stands in the first list stands in both
  pub front_at : (xs ys : List X) (i : ℕ) (c : X) → slice_get xs i ≡ Some c → slice_get (xs ++ ys) i ≡ Some c
  front_at [] ys i c e = absurd cc
  front_at (x ∷ xs) ys zero c e = e
  front_at (x ∷ xs) ys (suc i) c e = front_at xs ys i c e

  -- what stands in the second list stands so much later in both
  pub later_at : (xs ys : List X) (k : ℕ) (c : X) → slice_get ys k ≡ Some c → slice_get (xs ++ ys) (length xs + k) ≡ Some c
  later_at [] ys k c e =
      let here : k ≡ 0 + k = omega arith in
      subst (λ n. slice_get ys n ≡ Some c) here e
  later_at (x ∷ xs) ys k c e =
      let next : suc (length xs + k) ≡ suc (length xs) + k = omega arith in
      subst (λ n. slice_get (x ∷ xs ++ ys) n ≡ Some c) next (later_at xs ys k c e)

  -- what stands in both stands in the first, or in the second
  pub either_at : (xs ys : List X) (i : ℕ) (c : X) → slice_get (xs ++ ys) i ≡ Some c →
      (slice_get xs i ≡ Some c) ⊎ ((k : ℕ) × (i ≡ length xs + k) × (slice_get ys k ≡ Some c))
  either_at [] ys i c e = inr (i, omega arith, e)
  either_at (x ∷ xs) ys zero c e = inl e
  either_at (x ∷ xs) ys (suc i) c e = elim (either_at xs ys i c e) [
    | inl first ↦ inl first
    | inr second ↦ inr (second.0, omega (arith, second.1), second.2)
  ]

  pub Any-front : (P : X → Type 0) (xs ys : List X) → Any P xs → Any P (xs ++ ys)
  Any-front P xs ys (k, x, lt, e, p) = (k, x, omega (arith, lt, length-append xs ys), get_or_append_left xs ys x k lt ∙ e, p)
