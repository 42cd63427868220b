-- What holds of each member of a list, member by member.
use Rattle.std.proofs.Common.{◌≡◌, below_more, ℕ, ◌+◌, ◌-◌, ◌<◌, ◌≤◌, Bool, false, List, take, drop, get_or, length, refl, sym, ap, ◌∙◌, arith, subst}
use Rattle.std.specs.Prelude.{Some, All, AllPairs, Decides, slice_get}
use Rattle.std.proofs.lemmas.Option.{slice_get_within, get_or_from_slice_get, slice_get-get_or, slice_get_read}
use Rattle.std.proofs.lemmas.List.{get_or-drop}
use Rattle.std.proofs.Math.ListN.{length-drop}
use Rattle.std.proofs.Math.Seq.{take-length}
use Rattle.change_log.specs.History.{MakesNone}
use Rattle.change_log.specs.declared.change.Act.{Act}
use Rattle.change_log.specs.declared.change.Change.{Change}

-- what a slice from i on has
abbrev pub tail : {X : Type 0} → List X → ℕ → List X
tail xs i = take (length xs - i) (drop i xs)

pub tail_is : {X : Type 0} → (xs : List X) (i : ℕ) → tail xs i ≡ drop i xs
tail_is xs i = ap (λ n. take n (drop i xs)) (sym (length-drop i xs)) ∙ take-length (drop i xs)

pub at_place : {X : Type 0} → (xs : List X) (i : ℕ) (x : X) → i < length xs → x ≡ get_or xs i x → slice_get xs i ≡ Some x
at_place xs i x lt is = slice_get_read xs (length xs) i x refl lt is

module _ {X : Type 0} (P : ℕ → X → Type 0) (xs : List X) where
  abbrev pub EachBelow : ℕ → Type 0
  EachBelow n = (i : ℕ) (x : X) → i < n → slice_get xs i ≡ Some x → P i x

  abbrev pub Each : Type 0
  Each = (i : ℕ) (x : X) → slice_get xs i ≡ Some x → P i x

  pub each_more : (n : ℕ) (x : X) → EachBelow n → slice_get xs n ≡ Some x → P n x → EachBelow (n + 1)
  each_more n x below at here i y lt is =
      below_more (λ k. (z : X) → slice_get xs k ≡ Some z → P k z) n (λ k less z found. below k z less found) (λ z found. subst (P n) (sym (same_Some z x (sym found ∙ at))) here) i lt y is
    where
      same_Some : (a b : X) → Some a ≡ Some b → a ≡ b
      same_Some a b e = cc

  pub each_whole : (n : ℕ) → length xs ≤ n → EachBelow n → Each
  each_whole n whole below i x is = below i x (omega (arith, slice_get_within xs i x is, whole)) is

-- the changes from a place on, as a list
pub none_after : (p : Act → Bool) (changes : List Change) (maker i : ℕ) (b : Bool) →
    Decides b (All (λ c. c.maker ≡ maker → p c.act ≡ false) (tail changes i)) → Decides b (MakesNone p changes maker i)
none_after p changes maker i b h =
    let P = All (λ (c : Change). c.maker ≡ maker → p c.act ≡ false) in
    (λ t. later (subst P (tail_is changes i) (h.0 t)), λ none. h.1 (subst P (sym (tail_is changes i)) (all none)))
  where
    later : All (λ c. c.maker ≡ maker → p c.act ≡ false) (drop i changes) → MakesNone p changes maker i
    later all j c le is =
        let within : j < length changes = slice_get_within changes j c is in
        let at : get_or (drop i changes) (j - i) c ≡ c = get_or-drop i changes (j - i) c ∙ ap (λ k. get_or changes k c) (omega (arith, le)) ∙ get_or_from_slice_get changes j c c is in
        subst (λ x. x.maker ≡ maker → p x.act ≡ false) at (all (j - i) c (omega (arith, within, le, length-drop i changes)))

    all : MakesNone p changes maker i → All (λ c. c.maker ≡ maker → p c.act ≡ false) (drop i changes)
    all none k d lt =
        let within : i + k < length changes = omega (arith, lt, length-drop i changes) in
        subst (λ x. x.maker ≡ maker → p x.act ≡ false) (sym (get_or-drop i changes k d))
        (none (i + k) (get_or changes (i + k) d) (omega arith) (slice_get-get_or changes (i + k) d within))

module _ {X : Type 0} (R : X → X → Type 0) (xs : List X) where
  abbrev pub PairsBelow : ℕ → Type 0
  PairsBelow n = (j k : ℕ) (d : X) → j < n → j < k → k < length xs → R (get_or xs j d) (get_or xs k d)

  -- each later member stands right to the one at i
  pub all_later : (i : ℕ) (x : X) → i < length xs → x ≡ get_or xs i x → AllPairs R xs → All (R x) (tail xs (i + 1))
  all_later i x lt is pairs = subst (All (R x)) (sym (tail_is xs (i + 1))) (λ k d within.
      let here : get_or xs i d ≡ x = get_or_from_slice_get xs i x d (slice_get_read xs (length xs) i x refl lt is) in
      subst (λ y. R y (get_or (drop (i + 1) xs) k d)) here
      (subst (R (get_or xs i d)) (sym (get_or-drop (i + 1) xs k d)) (pairs i (i + 1 + k) d (omega arith) (omega (arith, within, length-drop (i + 1) xs)))))

  pub pairs_more : (i : ℕ) (x : X) → i < length xs → x ≡ get_or xs i x → PairsBelow i → All (R x) (tail xs (i + 1)) → PairsBelow (i + 1)
  pairs_more i x lt is below rest j k d jlt jk kl =
      below_more (λ n. n < k → R (get_or xs n d) (get_or xs k d)) i (λ n less before. below n k d less before kl) here j jlt jk
    where
      all : All (R x) (drop (i + 1) xs)
      all = subst (All (R x)) (tail_is xs (i + 1)) rest

      here : i < k → R (get_or xs i d) (get_or xs k d)
      here before =
          let first : get_or xs i d ≡ x = get_or_from_slice_get xs i x d (slice_get_read xs (length xs) i x refl lt is) in
          let there : get_or (drop (i + 1) xs) (k - (i + 1)) d ≡ get_or xs k d = get_or-drop (i + 1) xs (k - (i + 1)) d ∙ ap (λ n. get_or xs n d) (omega (arith, before)) in
          subst (λ y. R y (get_or xs k d)) (sym first) (subst (R x) there (all (k - (i + 1)) d (omega (arith, kl, before, length-drop (i + 1) xs))))
