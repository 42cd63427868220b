-- Members of a list and pairs of them, by recursion.
use Rattle.std.proofs.Common.{◌≡◌, ◌⊎◌, inl, inr, zero, suc, Bool, true, false, cond, List, [], ◌∷◌, ◌++◌, refl, sym, ap, ◌∙◌, arith, subst}
use Rattle.std.specs.Prelude.{AllPairs, Contains, map, filter}
use Rattle.std.specs.List.{AllByRecursion}
use Rattle.std.proofs.lemmas.List.Elements.{All-from_recursion, recursion_from_All}
use Rattle.std.proofs.lemmas.List.Kept.{AllPairs-cons}

module _ {X : Type 0} where
  abbrev pub In : X → List X → Type 0
  In x [] = ⊥
  In x (y ∷ ys) = (x ≡ y) ⊎ In x ys

  abbrev pub Pairs : (X → X → Type 0) → List X → Type 0
  Pairs R [] = Unit {0}
  Pairs R (x ∷ xs) = AllByRecursion (R x) xs × Pairs R xs

  pub contains_from_in : (xs : List X) (x : X) → In x xs → Contains xs x
  contains_from_in [] x h = absurd h
  contains_from_in (y ∷ ys) x (inl e) = (zero, omega arith, sym e)
  contains_from_in (y ∷ ys) x (inr h) = let c = contains_from_in ys x h in (suc c.0, omega (arith, c.1), c.2)

  pub in_from_contains : (xs : List X) (x : X) → Contains xs x → In x xs
  in_from_contains [] x (k, lt, e) = absurd (omega (arith, lt))
  in_from_contains (y ∷ ys) x (zero, lt, e) = inl (sym e)
  in_from_contains (y ∷ ys) x (suc k, lt, e) = inr (in_from_contains ys x (k, omega (arith, lt), e))

  pub all_from_in : (P : X → Type 0) (xs : List X) → ((x : X) → In x xs → P x) → AllByRecursion P xs
  all_from_in P [] h = tt
  all_from_in P (x ∷ xs) h = (h x (inl refl), all_from_in P xs (λ y i. h y (inr i)))

  pub in_all : (P : X → Type 0) (xs : List X) (x : X) → AllByRecursion P xs → In x xs → P x
  in_all P [] x h i = absurd i
  in_all P (y ∷ ys) x h (inl e) = subst P (sym e) h.0
  in_all P (y ∷ ys) x h (inr i) = in_all P ys x h.1 i

  pub in_append_left : (xs ys : List X) (x : X) → In x xs → In x (xs ++ ys)
  in_append_left [] ys x h = absurd h
  in_append_left (z ∷ zs) ys x (inl e) = inl e
  in_append_left (z ∷ zs) ys x (inr h) = inr (in_append_left zs ys x h)

  pub in_append_right : (xs ys : List X) (x : X) → In x ys → In x (xs ++ ys)
  in_append_right [] ys x h = h
  in_append_right (z ∷ zs) ys x h = inr (in_append_right zs ys x h)

  pub in_append : (xs ys : List X) (x : X) → In x (xs ++ ys) → In x xs ⊎ In x ys
  in_append [] ys x h = inr h
  in_append (z ∷ zs) ys x (inl e) = inl (inl e)
  in_append (z ∷ zs) ys x (inr h) = elim (in_append zs ys x h) [ inl l ↦ inl (inr l) | inr r ↦ inr r ]

  in_kept : (p : X → Bool) (b : Bool) (y x : X) (kept ys : List X) → p y ≡ b → (In x kept → In x ys × (p x ≡ true)) → In x (cond b (y ∷ kept) kept) → In x (y ∷ ys) × (p x ≡ true)
  in_kept p true y x kept ys t later (inl e) = (inl e, ap p e ∙ t)
  in_kept p true y x kept ys t later (inr h) = (inr (later h).0, (later h).1)
  in_kept p false y x kept ys t later h = (inr (later h).0, (later h).1)

  pub in_filter : (p : X → Bool) (xs : List X) (x : X) → In x (filter p xs) → In x xs × (p x ≡ true)
  in_filter p [] x h = absurd h
  in_filter p (y ∷ ys) x h = in_kept p (p y) y x (filter p ys) ys refl (in_filter p ys x) h

  put_kept : (b : Bool) (x y : X) (kept : List X) → b ≡ true → x ≡ y → In x (cond b (y ∷ kept) kept)
  put_kept true x y kept t e = inl e
  put_kept false x y kept t e = absurd cc

  pass_kept : (b : Bool) (x y : X) (kept : List X) → In x kept → In x (cond b (y ∷ kept) kept)
  pass_kept true x y kept h = inr h
  pass_kept false x y kept h = h

  pub filter_in : (p : X → Bool) (xs : List X) (x : X) → In x xs → p x ≡ true → In x (filter p xs)
  filter_in p [] x h t = absurd h
  filter_in p (y ∷ ys) x (inl e) t = put_kept (p y) x y (filter p ys) (ap p (sym e) ∙ t) e
  filter_in p (y ∷ ys) x (inr h) t = pass_kept (p y) x y (filter p ys) (filter_in p ys x h t)

  all_kept : (P : X → Type 0) (b : Bool) (y : X) (kept : List X) → P y → AllByRecursion P kept → AllByRecursion P (cond b (y ∷ kept) kept)
  all_kept P true y kept h all = (h, all)
  all_kept P false y kept h all = all

  pub all_filter : (P : X → Type 0) (p : X → Bool) (xs : List X) → AllByRecursion P xs → AllByRecursion P (filter p xs)
  all_filter P p [] h = tt
  all_filter P p (x ∷ xs) h = all_kept P (p x) x (filter p xs) h.0 (all_filter P p xs h.1)

  pairs_kept : (R : X → X → Type 0) (b : Bool) (y : X) (kept : List X) → AllByRecursion (R y) kept → Pairs R kept → Pairs R (cond b (y ∷ kept) kept)
  pairs_kept R true y kept h all = (h, all)
  pairs_kept R false y kept h all = all

  pub pairs_filter : (R : X → X → Type 0) (p : X → Bool) (xs : List X) → Pairs R xs → Pairs R (filter p xs)
  pairs_filter R p [] h = tt
  pairs_filter R p (x ∷ xs) h = pairs_kept R (p x) x (filter p xs) (all_filter (R x) p xs h.0) (pairs_filter R p xs h.1)

  pub all_pairs : (R : X → X → Type 0) (xs : List X) → Pairs R xs → AllPairs R xs
  all_pairs R [] h = λ i j d lt within. absurd (omega (arith, within))
  all_pairs R (x ∷ xs) h = AllPairs-cons R x xs (All-from_recursion (R x) xs h.0) (all_pairs R xs h.1)

  pub pairs_from_all : (R : X → X → Type 0) (xs : List X) → AllPairs R xs → Pairs R xs
  pairs_from_all R [] h = tt
  pairs_from_all R (x ∷ xs) h = (
    recursion_from_All (R x) xs (λ k d lt. h zero (suc k) d (omega arith) (omega (arith, lt))),
    pairs_from_all R xs (λ i j d lt within. h (suc i) (suc j) d (omega (arith, lt)) (omega (arith, within))),
  )

  -- a list whose members are all the same, and pairwise apart, has that one alone
  pub sole : (R : X → X → Type 0) (x : X) (xs : List X) → (R x x → ⊥) → Pairs R xs → AllByRecursion (λ y. y ≡ x) xs → In x xs → xs ≡ x ∷ []
  sole R x [] apart pairs same i = absurd i
  sole R x (y ∷ []) apart pairs same i = ap (λ z. z ∷ []) same.0
  sole R x (y ∷ z ∷ zs) apart pairs same i = absurd (apart (subst (λ v. R v x) same.0 (subst (R y) same.1.0 pairs.0.0)))

module _ {X Y : Type 0} (f : X → Y) where
  pub map_in : (xs : List X) (x : X) → In x xs → In (f x) (map f xs)
  map_in [] x h = absurd h
  map_in (y ∷ ys) x (inl e) = inl (ap f e)
  map_in (y ∷ ys) x (inr h) = inr (map_in ys x h)

  pub in_map : (xs : List X) (y : Y) → In y (map f xs) → (x : X) × In x xs × (y ≡ f x)
  in_map [] y h = absurd h
  in_map (x ∷ xs) y (inl e) = (x, inl refl, e)
  in_map (x ∷ xs) y (inr h) = let m = in_map xs y h in (m.0, inr m.1, m.2)

  all_mapped : (P : X → Type 0) (Q : Y → Type 0) (xs : List X) → ((x : X) → In x xs → P x → Q (f x)) → AllByRecursion P xs → AllByRecursion Q (map f xs)
  all_mapped P Q [] h all = tt
  all_mapped P Q (x ∷ xs) h all = (h x (inl refl) all.0, all_mapped P Q xs (λ y i. h y (inr i)) all.1)

  pub pairs_map : (R : X → X → Type 0) (S : Y → Y → Type 0) (xs : List X) → ((x y : X) → In x xs → In y xs → R x y → S (f x) (f y)) → Pairs R xs → Pairs S (map f xs)
  pairs_map R S [] h pairs = tt
  pairs_map R S (x ∷ xs) h pairs =
      (all_mapped (R x) (S (f x)) xs (λ y i r. h x y (inl refl) (inr i) r) pairs.0, pairs_map R S xs (λ y z i j r. h y z (inr i) (inr j) r) pairs.1)
