-- What stands at which place of a list.
use Rattle.std.proofs.Common.{◌≡◌, ◌≢◌, ℕ, zero, suc, ◌<◌, ◌⊎◌, List, [], ◌∷◌, ◌++◌, length, get_or, set, refl, sym, ap, ◌∙◌, inl, inr, arith}
use Rattle.std.specs.Prelude.{Some, map, slice_get}

set_there : {A : Type 0} (xs : List A) (i : ℕ) (x y : A) → slice_get xs i ≡ Some x → slice_get (set xs i y) i ≡ Some y
set_there [] i x y is = absurd cc
set_there (z ∷ xs) zero x y is = refl
set_there (z ∷ xs) (suc i) x y is = set_there xs i x y is

-- the place that was set
pub set_is : {A : Type 0} (xs : List A) (i : ℕ) (x y z : A) → slice_get xs i ≡ Some x → slice_get (set xs i y) i ≡ Some z → z ≡ y
set_is xs i x y z was is = let there = set_there xs i x y was in let both = sym is ∙ there in cc

-- and the other places are as they were
pub set_elsewhere : {A : Type 0} (xs : List A) (i j : ℕ) (y : A) → i ≢ j → slice_get (set xs i y) j ≡ slice_get xs j
set_elsewhere [] i j y n = refl
set_elsewhere (x ∷ xs) zero zero y n = absurd (n refl)
set_elsewhere (x ∷ xs) zero (suc j) y n = refl
set_elsewhere (x ∷ xs) (suc i) zero y n = refl
set_elsewhere (x ∷ xs) (suc i) (suc j) y n = set_elsewhere xs i j y (λ e. n (ap suc e))

-- what stands in a list with one element more
pub pushed_is : {A : Type 0} (xs : List A) (y : A) (j : ℕ) (z : A) → slice_get (xs ++ y ∷ []) j ≡ Some z → (slice_get xs j ≡ Some z) ⊎ ((j ≡ length xs) × (z ≡ y))
pushed_is [] y zero z is = inr (refl, cc)
pushed_is [] y (suc j) z is = absurd cc
pushed_is (x ∷ xs) y zero z is = inl is
pushed_is (x ∷ xs) y (suc j) z is = elim (pushed_is xs y j z is) [ inl was ↦ inl was | inr now ↦ inr (ap suc now.0, now.1) ]

-- within a list there is an element
pub within_is : {A : Type 0} (xs : List A) (i : ℕ) → i < length xs → (x : A) × (slice_get xs i ≡ Some x)
within_is [] i lt = absurd (omega (arith, lt))
within_is (x ∷ xs) zero lt = (x, refl)
within_is (x ∷ xs) (suc i) lt = within_is xs i (omega (arith, lt))

-- and only there
pub is_within : {A : Type 0} (xs : List A) (i : ℕ) (x : A) → slice_get xs i ≡ Some x → i < length xs
is_within [] i x is = absurd cc
is_within (y ∷ xs) zero x is = omega arith
is_within (y ∷ xs) (suc i) x is = omega (arith, is_within xs i x is)

-- what a list's elements show at a place is as before where one of them is exchanged for one that shows the same
pub map_set_same : {A B : Type 0} (f : A → B) (xs : List A) (i : ℕ) (x y : A) → slice_get xs i ≡ Some x → f y ≡ f x → map f (set xs i y) ≡ map f xs
map_set_same f [] i x y is same = refl
map_set_same f (z ∷ xs) zero x y is same = let e : z ≡ x = cc in ap (λ b. b ∷ map f xs) (same ∙ ap f (sym e))
map_set_same f (z ∷ xs) (suc i) x y is same = ap (λ r. f z ∷ r) (map_set_same f xs i x y is same)

pub get_there : {A : Type 0} (xs : List A) (i : ℕ) (d : A) → i < length xs → slice_get xs i ≡ Some (get_or xs i d)
get_there [] i d lt = absurd (omega (arith, lt))
get_there (x ∷ xs) zero d lt = refl
get_there (x ∷ xs) (suc i) d lt = get_there xs i d (omega (arith, lt))
