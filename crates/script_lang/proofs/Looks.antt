-- The looks of a call, and the words that its opener keeps, after a line of its own and after one of another.
use Rattle.std.proofs.Common.{◌≡◌, ◌≢◌, ℕ, zero, suc, ◌+◌, ◌<◌, ◌≤◌, cond, List, [], ◌∷◌, length, refl, ap, arith, eq-eqb, ne_eqb}
use Rattle.std.specs.Prelude.{Option, Some, None}
use Rattle.change_log.specs.declared.call.Call.{Call as Asked}
use Rattle.region_words.specs.Region.{Region}
use Rattle.region_words.specs.declared.event.Event.{Event}
use Rattle.script_lang.specs.declared.line.Line.TheVariants.{Begin, Step as StepLine}
use Rattle.script_lang.specs.Kept.{FindWords, looked, looks_after}

-- the first of the looks
pub first_look : (looks : List (List Event)) (n : ℕ) (past : List Event) → looked looks n past ≡ [] → looked looks (n + 1) past ≡ past ∷ []
first_look [] zero past none = refl
first_look [] (suc n) past none = absurd cc
first_look (x ∷ looks) n past none = absurd cc

-- the second
pub second_look : (looks : List (List Event)) (n : ℕ) (past first : List Event) → looked looks n past ≡ first ∷ [] → looked looks (n + 1) past ≡ first ∷ past ∷ []
second_look [] zero past first one = absurd cc
second_look [] (suc zero) past first one = let e : past ≡ first = cc in ap (λ x. x ∷ past ∷ []) e
second_look [] (suc (suc n)) past first one = absurd cc
second_look (x ∷ []) zero past first one = let e : x ≡ first = cc in ap (λ y. y ∷ past ∷ []) e
second_look (x ∷ []) (suc n) past first one = absurd cc
second_look (x ∷ y ∷ looks) n past first one = absurd cc

-- one is made where at most one was
pub one_looked : (looks : List (List Event)) (n : ℕ) (past first : List Event) → looked looks n past ≡ first ∷ [] → length looks < 2
one_looked [] n past first one = omega arith
one_looked (x ∷ []) n past first one = omega arith
one_looked (x ∷ y ∷ looks) n past first one = absurd cc

-- both stay
pub both_stay : (looks : List (List Event)) (n m : ℕ) (past first second : List Event) (more : List (List Event)) → looked looks n past ≡ first ∷ second ∷ more → n ≤ m → looked looks m past ≡ looked looks n past
both_stay [] zero m past first second more both le = absurd cc
both_stay [] (suc zero) m past first second more both le = absurd cc
both_stay [] (suc (suc n)) zero past first second more both le = absurd (omega (arith, le))
both_stay [] (suc (suc n)) (suc zero) past first second more both le = absurd (omega (arith, le))
both_stay [] (suc (suc n)) (suc (suc m)) past first second more both le = refl
both_stay (x ∷ []) zero m past first second more both le = absurd cc
both_stay (x ∷ []) (suc n) zero past first second more both le = absurd (omega (arith, le))
both_stay (x ∷ []) (suc n) (suc m) past first second more both le = refl
both_stay (x ∷ y ∷ looks) n m past first second more both le = refl

-- the looks after a line of the opener's own
pub looks_own : (who count : ℕ) (past : List Event) (looks : List (List Event)) → looks_after (Some (StepLine who count)) who past looks ≡ looked looks count past
looks_own who count past looks = ap (λ b. cond b (looked looks count past) looks) (eq-eqb who who refl)

-- of another
pub looks_other : (maker who count : ℕ) (past : List Event) (looks : List (List Event)) → maker ≢ who → looks_after (Some (StepLine maker count)) who past looks ≡ looks
looks_other maker who count past looks n = ap (λ b. cond b (looked looks count past) looks) (ne_eqb maker who n)

-- and as a call begins
pub looks_begin : (who now : ℕ) (call : Asked) (past : List Event) (looks : List (List Event)) → looks_after (Some (Begin who now call)) who past looks ≡ []
looks_begin who now call past looks = ap (λ b. cond b [] looks) (eq-eqb who who refl)

pub looks_begin_other : (maker who now : ℕ) (call : Asked) (past : List Event) (looks : List (List Event)) → maker ≢ who → looks_after (Some (Begin maker now call)) who past looks ≡ looks
looks_begin_other maker who now call past looks n = ap (λ b. cond b [] looks) (ne_eqb maker who n)

-- what looks find, they find in the first two of them
pub found_both : (start : Region) (kept : Option (List Event)) (looks : List (List Event)) → FindWords start kept looks → (first second : List Event) × (more : List (List Event)) × (looks ≡ first ∷ second ∷ more)
found_both start None looks found = absurd found
found_both start (Some past) [] found = absurd found
found_both start (Some past) (x ∷ []) found = absurd found
found_both start (Some past) (x ∷ y ∷ looks) found = (x, y, looks, refl)
