-- What is legal for each caller is one legal history.
use Rattle.std.proofs.Common.{◌≡◌, ◌≢◌, ◌⊎◌, ℕ, ◌+◌, ◌<◌, Bool, true, false, cond, List, [], ◌∷◌, zero, suc, refl, sym, ap, ◌∙◌, ◌≤◌, inl, inr, arith, subst}
use Rattle.std.specs.Prelude.{All, Any, AllPairs, filter, ◌==◌, IsTrue, slice_index_or}
use Rattle.std.proofs.lemmas.List.Elements.{All-nil, All-cons, All-head, All-tail}
use Rattle.std.proofs.lemmas.List.Kept.{AllPairs-cons}
use Rattle.std.proofs.lemmas.Bool.{cases_lt}
use Rattle.std.proofs.lemmas.Bool.Decides.{nat_tests}
use Rattle.expiring_map.specs.Map.{Map}
use Rattle.change_log.specs.History.{IsPlaced, IsMade, IsOwned, IsFollowed, makes_change}
use Rattle.change_log.specs.EachCaller.{answers_of, LegalFor}
use Rattle.change_log.specs.Settled.{NoneBy}
use Rattle.change_log.specs.Laws.{EachIsLegal, EachOfSomeIsLegal}
use Rattle.change_log.specs.declared.change.Change.{Change}
use Rattle.change_log.specs.declared.call.Answer.{Answer}
use Rattle.change_log.proofs.Settled.{settled_first, settled_is_legal}

own_first : (x : Answer) (xs : List Answer) → answers_of x.who (x ∷ xs) ≡ x ∷ answers_of x.who xs
own_first x xs = ap (λ b. cond b (x ∷ answers_of x.who xs) (answers_of x.who xs)) (same x.who)
  where
    same : (n : ℕ) → (n == n) ≡ true
    same n = grind (arith, nat_tests)

-- what holds of each caller's answers holds of all
All-from_each : (P : Answer → Type 0) (xs : List Answer) → ((who : ℕ) → All P (answers_of who xs)) → All P xs
All-from_each P [] h = All-nil P
All-from_each P (x ∷ xs) h =
    let at_x = subst (All P) (own_first x xs) (h x.who) in
    All-cons P x xs (All-head P x (answers_of x.who xs) at_x) (All-from_each P xs (λ who. rest (x.who == who) who (h who)))
  where
    rest : (b : Bool) (who : ℕ) → All P (cond b (x ∷ answers_of who xs) (answers_of who xs)) → All P (answers_of who xs)
    rest true who a = All-tail P x (answers_of who xs) a
    rest false who a = a

-- what holds of one caller's answers holds of each answer of that caller
All-of_caller : (P : Answer → Type 0) (w : ℕ) (xs : List Answer) → All P (answers_of w xs) → All (λ a. a.who ≡ w → P a) xs
All-of_caller P w [] h = All-nil (λ a. a.who ≡ w → P a)
All-of_caller P w (x ∷ xs) h =
    All-cons (λ a. a.who ≡ w → P a) x xs
    (λ e. All-head P x (answers_of w xs) (subst (λ b. All P (cond b (x ∷ answers_of w xs) (answers_of w xs))) (is_own e) h))
    (All-of_caller P w xs (rest (x.who == w) h))
  where
    is_own : x.who ≡ w → (x.who == w) ≡ true
    is_own e = grind (arith, nat_tests)

    rest : (b : Bool) → All P (cond b (x ∷ answers_of w xs) (answers_of w xs)) → All P (answers_of w xs)
    rest true a = All-tail P x (answers_of w xs) a
    rest false a = a

module _ (R : Answer → Answer → Type 0) where
  AllPairs-head : (x : Answer) (xs : List Answer) → AllPairs R (x ∷ xs) → All (R x) xs
  AllPairs-head x xs h = λ k d lt. h zero (suc k) d (omega arith) (omega (arith, lt))

  AllPairs-tail : (x : Answer) (xs : List Answer) → AllPairs R (x ∷ xs) → AllPairs R xs
  AllPairs-tail x xs h = λ i j d lt within. h (suc i) (suc j) d (omega (arith, lt)) (omega (arith, within))

abbrev Before : Answer → Answer → Type 0
Before a b = a.ended ≤ b.begun

abbrev BeforeOwn : Answer → Answer → Type 0
BeforeOwn a b = a.who ≡ b.who → a.ended ≤ b.begun

in_order-from_each : (xs : List Answer) → ((who : ℕ) → AllPairs Before (answers_of who xs)) → AllPairs BeforeOwn xs
in_order-from_each [] h = λ i j d lt within. absurd (omega (arith, within))
in_order-from_each (x ∷ xs) h =
    let at_x = subst (AllPairs Before) (own_first x xs) (h x.who) in
    let later = All-of_caller (Before x) x.who xs (AllPairs-head Before x (answers_of x.who xs) at_x) in
    AllPairs-cons BeforeOwn x xs (λ k d lt e. later k d lt (sym e)) (in_order-from_each xs (λ who. rest (x.who == who) who (h who)))
  where
    rest : (b : Bool) (who : ℕ) → AllPairs Before (cond b (x ∷ answers_of who xs) (answers_of who xs)) → AllPairs Before (answers_of who xs)
    rest true who a = AllPairs-tail Before x (answers_of who xs) a
    rest false who a = a

module _ (P : Answer → Type 0) where
  later_too : (x : Answer) (xs : List Answer) → Any P xs → Any P (x ∷ xs)
  later_too x xs a = (suc a.0, a.1, omega (arith, a.2), a.3, a.4)

  either : (b : Bool) (x : Answer) (xs kept : List Answer) → (Any P kept → Any P xs) → Any P (cond b (x ∷ kept) kept) → Any P (x ∷ xs)
  either true x xs kept go (zero, y, lt, e, py) = (zero, y, omega arith, e, py)
  either true x xs kept go (suc k, y, lt, e, py) = later_too x xs (go (k, y, omega (arith, lt), e, py))
  either false x xs kept go a = later_too x xs (go a)

  Any-from_filter : (p : Answer → Bool) (xs : List Answer) → Any P (filter p xs) → Any P xs
  Any-from_filter p [] a = a
  Any-from_filter p (x ∷ xs) a = either (p x) x xs (filter p xs) (Any-from_filter p xs) a

-- what a change of one caller is among its own answers, it is among all
owned_by_all : (changes : List Change) (answers : List Answer) (i : ℕ) (c : Change) → IsOwned changes (answers_of c.maker answers) i c → IsOwned changes answers i c
owned_by_all changes answers i c h = λ of_call. elim (h of_call) [
  | inl found ↦ inl (Any-from_filter (λ a. IsTrue (makes_change changes a) × (a.place ≡ i)) (λ a. a.who == c.maker) answers found)
  | inr left ↦ inr (left.0, λ k d lt e. All-of_caller (λ a. a.who ≡ c.maker → a.ended ≤ i) c.maker answers left.1 k d lt e e)
]

followed_by_all : (changes : List Change) (answers : List Answer) (i : ℕ) (c : Change) → IsFollowed changes (answers_of c.maker answers) i c → IsFollowed changes answers i c
followed_by_all changes answers i c h = λ t e. elim (h t e) [
  | inl found ↦ inl (found.0, found.1, found.2, found.3, Any-from_filter (λ a. IsTrue (makes_change changes a) × (a.place ≡ i + 1) × (a.now ≡ t)) (λ a. a.who == c.maker) answers found.4)
  | inr last ↦ inr last
]

-- what is legal for each caller is one legal history
pub Legal-from_each : EachIsLegal
Legal-from_each base changes answers each =
    record {
      in_order = in_order-from_each answers (λ who. (each who).in_order);
      placed = All-from_each (IsPlaced base changes) answers (λ who. (each who).placed);
      made = All-from_each (IsMade base changes) answers (λ who. (each who).made);
      owned = λ i c at. owned_by_all changes answers i c ((each c.maker).owned i c at refl);
      followed = λ i c at. followed_by_all changes answers i c ((each c.maker).followed i c at refl);
    }

-- a caller without an answer and a change is legal
nobody_is_legal : (who : ℕ) (base : Map) (changes : List Change) (answers : List Answer) → NoneBy who changes → All (λ a. a.who ≢ who) answers →
    LegalFor who base changes (answers_of who answers)
nobody_is_legal who base changes answers none silent =
    subst (LegalFor who base changes) (sym (none_of answers silent)) (settled_is_legal who base changes [] (settled_first who base changes none))
  where
    other : (x : Answer) → x.who ≢ who → (x.who == who) ≡ false
    other x ne = grind (arith, ne, nat_tests)

    none_of : (xs : List Answer) → All (λ a. a.who ≢ who) xs → answers_of who xs ≡ []
    none_of [] silent = refl
    none_of (x ∷ xs) silent =
        ap (λ b. cond b (x ∷ answers_of who xs) (answers_of who xs)) (other x (All-head (λ a. a.who ≢ who) x xs silent))
        ∙ none_of xs (All-tail (λ a. a.who ≢ who) x xs silent)

pub each_of_some_is_legal : EachOfSomeIsLegal
each_of_some_is_legal most base changes answers makers callers each = Legal-from_each base changes answers (λ who. one who (cases_lt who 1) (cases_lt most who))
  where
    outside : (who : ℕ) → ((n : ℕ) → (1 ≤ n) × (n ≤ most) → n ≢ who) → LegalFor who base changes (answers_of who answers)
    outside who out = nobody_is_legal who base changes answers (λ k d lt. out (slice_index_or changes k d).maker (makers k d lt)) (λ k d lt. out (slice_index_or answers k d).who (callers k d lt))

    one : (who : ℕ) → (who < 1) ⊎ (1 ≤ who) → (most < who) ⊎ (who ≤ most) → LegalFor who base changes (answers_of who answers)
    one who (inl low) h = outside who (λ n r e. omega (arith, low, r.0, e))
    one who (inr h) (inl high) = outside who (λ n r e. omega (arith, high, r.1, e))
    one who (inr low) (inr high) = each who low high
