-- What a list of payloads contains.
use Rattle.std.proofs.Common.{◌≡◌, ℕ, zero, suc, List, [], ◌∷◌, ◌++◌, inl, inr, arith}
use Rattle.std.specs.Prelude.{Contains}
use Rattle.std.proofs.lemmas.List.Elements.{Contains-append_left, Contains-append_right, Contains-append_cases}
use Rattle.death_model.specs.SeenInside.{AreApart, Within}

pub in_none : (s : List ℕ) → Contains [] s → ⊥
in_none s (k, lt, e) = omega (arith, lt)

pub in_one : (p s : List ℕ) → Contains (p ∷ []) s → p ≡ s
in_one p s (zero, lt, e) = e
in_one p s (suc k, lt, e) = absurd (omega (arith, lt))

-- what a list of lists has is in one of the two
pub in_either : (xs ys all : List (List ℕ)) → Within xs all → Within ys all → Within (xs ++ ys) all
in_either xs ys all l r s c = elim (Contains-append_cases xs ys s c) [ inl h ↦ l s h | inr h ↦ r s h ]

pub within_left : (xs ys : List (List ℕ)) → Within xs (xs ++ ys)
within_left xs ys s c = Contains-append_left xs ys s c

pub within_right : (xs ys : List (List ℕ)) → Within ys (xs ++ ys)
within_right xs ys s c = Contains-append_right xs ys s c

-- fewer payloads are apart too
pub apart_within : (some all : List (List ℕ)) → Within some all → AreApart all → AreApart some
apart_within some all w a s t cs ct e = a s t (w s cs) (w t ct) e
