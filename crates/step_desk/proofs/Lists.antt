-- Journals that begin with one another, and numbers in lists.
use Rattle.std.proofs.Common.{◌≡◌, ◌≢◌, ◌⊎◌, ℕ, zero, suc, ◌≤◌, Bool, true, false, eqb, leb, List, [], ◌∷◌, ◌++◌, length, refl, sym, ◌∙◌, ap, subst, inl, inr, ⊎_elim, arith, length-append}
use Rattle.std.proofs.lemmas.Bool.Decides.{eqb_tells, leb_tells}
use Rattle.std.specs.Prelude.{if◌then◌else◌}
use Rattle.region_words.specs.Past.{NoneOf, changes_of, change_of}
use Rattle.region_words.specs.Lawful.{Lawful}
use Rattle.region_words.specs.Region.{Region}
use Rattle.region_words.specs.Share.{made_by}
use Rattle.region_words.specs.declared.event.Event.{Event}
use Rattle.region_words.specs.declared.event.What.{What}
use Rattle.step_desk.specs.Mirrors.{changes_made}
use Rattle.step_desk.specs.Numbers.{Among, without, others_to}

pub among_without : (n w : ℕ) (xs : List ℕ) → Among n (without w xs) → (n ≢ w) × Among n xs
among_without n w [] a = absurd a
among_without n w (x ∷ xs) a = go (among_without n w xs) (eqb_tells x w)
  where
    go : (Among n (without w xs) → (n ≢ w) × Among n xs) → ((eqb x w ≡ true) × (x ≡ w)) ⊎ ((eqb x w ≡ false) × (x ≢ w)) → (n ≢ w) × Among n (x ∷ xs)
    go below (inl same) = let r = below (subst (λ (t : Bool). Among n (if t then without w xs else (x ∷ without w xs))) same.0 a) in (r.0, inr r.1)
    go below (inr apart) = ⊎_elim
        (λ (here : x ≡ n). ((λ e. apart.1 (here ∙ e)), inl here))
        (λ (there : Among n (without w xs)). let r = below there in (r.0, inr r.1))
        (subst (λ (t : Bool). Among n (if t then without w xs else (x ∷ without w xs))) apart.0 a)

pub among_append : (n : ℕ) (xs ys : List ℕ) → Among n (xs ++ ys) → Among n xs ⊎ Among n ys
among_append n [] ys a = inr a
among_append n (x ∷ xs) ys (inl here) = inl (inl here)
among_append n (x ∷ xs) ys (inr there) = ⊎_elim (λ l. inl (inr l)) (λ r. inr r) (among_append n xs ys there)

pub among_left : (n : ℕ) (xs ys : List ℕ) → Among n xs → Among n (xs ++ ys)
among_left n [] ys a = absurd a
among_left n (x ∷ xs) ys (inl here) = inl here
among_left n (x ∷ xs) ys (inr there) = inr (among_left n xs ys there)

pub among_right : (n : ℕ) (xs ys : List ℕ) → Among n ys → Among n (xs ++ ys)
among_right n [] ys a = a
among_right n (x ∷ xs) ys a = inr (among_right n xs ys a)

-- the numbers that the first pass may hand out
pub others_within : (n seats : ℕ) → Among n (others_to seats) → (2 ≤ n) × (n ≤ seats)
others_within n zero a = absurd a
others_within n (suc zero) a = absurd a
others_within n (suc (suc k)) (inl here) = (omega (arith, here), omega (arith, here))
others_within n (suc (suc k)) (inr there) = let r = others_within n (suc k) there in (r.0, omega (arith, r.1))

pub none_append : (n : ℕ) (xs ys : List Event) → NoneOf n xs → NoneOf n ys → NoneOf n (xs ++ ys)
none_append n [] ys a b = b
none_append n (x ∷ xs) ys a b = (a.0, none_append n xs ys a.1 b)

pub none_first : (n : ℕ) (xs ys : List Event) → NoneOf n (xs ++ ys) → NoneOf n xs
none_first n [] ys a = tt
none_first n (x ∷ xs) ys a = (a.0, none_first n xs ys a.1)

pub none_second : (n : ℕ) (xs ys : List Event) → NoneOf n (xs ++ ys) → NoneOf n ys
none_second n [] ys a = a
none_second n (x ∷ xs) ys a = none_second n xs ys a.1

pub none_made : (who n : ℕ) (own : List What) → who ≢ n → NoneOf n (made_by who own)
none_made who n [] apart = tt
none_made who n (what ∷ own) apart = (apart, none_made who n own apart)

-- what was lawful before later events
pub lawful_before : (start : Region) (later past : List Event) → Lawful start (later ++ past) → Lawful start past
lawful_before start [] past l = l
lawful_before start (e ∷ later) past l = lawful_before start later past l.0

-- a longer journal has no fewer changes
pub more_changes : (later seen : List Event) → changes_made seen ≤ changes_made (later ++ seen)
more_changes [] seen = omega arith
more_changes (e ∷ later) seen = let below = more_changes later seen in omega (arith, below, length-append (changes_of (later ++ seen)) (change_of e.what))

abbrev head_of : Event → List Event → Event
head_of d [] = d
head_of d (x ∷ xs) = x

abbrev tail_of : List Event → List Event
tail_of [] = []
tail_of (x ∷ xs) = xs

-- of two with which one journal begins, the longer begins with the shorter
pub cut : (a b c d : List Event) → a ++ b ≡ c ++ d → length b ≤ length d → (middle : List Event) × (a ≡ c ++ middle) × (d ≡ middle ++ b)
cut a b [] d e less = (a, refl, sym e)
cut [] b (y ∷ c) d e less = absurd (omega (arith, ap length e, length-append c d))
cut (x ∷ a) b (y ∷ c) d e less =
    let r = cut a b c d (ap tail_of e) less in
    (r.0, (λ i. ap (head_of x) e i ∷ r.1 i), r.2)

-- what the test of two lengths says
pub by_lengths : (xs ys : List Event) (P : Bool → Type 0) → (length xs ≤ length ys → P true) → (length ys ≤ length xs → P false) → P (leb (length xs) (length ys))
by_lengths xs ys P less more =
    ⊎_elim (λ t. subst P (sym t.0) (less t.1)) (λ t. let n = t.1 in subst P (sym t.0) (more (omega (arith, n)))) (leb_tells (length xs) (length ys))
