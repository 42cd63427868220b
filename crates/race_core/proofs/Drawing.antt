-- How many handlers are left when one was drawn.
use Rattle.std.proofs.Common.{◌≡◌, ℕ, ◌+◌, Bool, true, false, List, [], ◌∷◌, ◌++◌, length, refl, sym, ap, ◌∙◌, arith, subst, length-append}
use Rattle.std.proofs.lemmas.List.Elements.{filter-append}
use Rattle.std.specs.Prelude.{Option, Some, None, filter, if◌then◌else◌, IsSome}
use Rattle.handlers.specs.Stock.{Draws}
use Rattle.handlers.specs.declared.handler.Strategy.{Strategy}
use Rattle.handlers.specs.declared.handler.Strategy.TheVariants.{Discard, Recover, Leave}
use Rattle.script_lang.specs.Played.{drawn, is_same, stocked}
use Rattle.race_core.specs.Reading.{IsOneFewer}

some_in : {A : Type 0} (old new : List A) (last : A) → old ≡ new ++ last ∷ [] → length old ≡ length new + 1
some_in old new last is = omega (arith, ap length is, length-append new (last ∷ []))

-- one more of a strategy was drawn
pub both_more : (strategy : Strategy) (s : Strategy) (opened : List Strategy) → drawn s (opened ++ strategy ∷ []) ≡ drawn s opened + (if is_same s strategy then 1 else 0)
both_more strategy s opened =
    ap length (filter-append (is_same s) opened (strategy ∷ [])) ∙ length-append (filter (is_same s) opened) (filter (is_same s) (strategy ∷ [])) ∙ ap (λ n. drawn s opened + n) (one (is_same s strategy))
  where
    one : (b : Bool) → length (if b then strategy ∷ [] else []) ≡ (if b then 1 else 0)
    one true = refl
    one false = refl

is_itself : (s : Strategy) → is_same s s ≡ true
is_itself Discard = refl
is_itself Recover = refl
is_itself Leave = refl

pub one_itself : (s : Strategy) → ◌≡◌ {A = ℕ} (if is_same s s then 1 else 0) 1
one_itself s = ap (λ b. if b then 1 else 0) (is_itself s)

module _ {A : Type 0} (d d' r r' l l' : List A) where
  -- one handler fewer of the strategy that was asked for
  one_fewer : (last : A) (strategy : Strategy) → Draws strategy Discard d d' (Some last) → Draws strategy Recover r r' (Some last) → Draws strategy Leave l l' (Some last) →
      (s : Strategy) → stocked (record { discard = length d'; recover = length r'; leave = length l' }) s + (if is_same s strategy then 1 else 0)
      ≡ stocked (record { discard = length d; recover = length r; leave = length l }) s
  one_fewer last Discard of_discard of_recover of_leave Discard = sym (some_in d d' last (of_discard.0 refl))
  one_fewer last Discard of_discard of_recover of_leave Recover = omega (arith, ap length (of_recover.1 (λ e. absurd cc)))
  one_fewer last Discard of_discard of_recover of_leave Leave = omega (arith, ap length (of_leave.1 (λ e. absurd cc)))
  one_fewer last Recover of_discard of_recover of_leave Discard = omega (arith, ap length (of_discard.1 (λ e. absurd cc)))
  one_fewer last Recover of_discard of_recover of_leave Recover = sym (some_in r r' last (of_recover.0 refl))
  one_fewer last Recover of_discard of_recover of_leave Leave = omega (arith, ap length (of_leave.1 (λ e. absurd cc)))
  one_fewer last Leave of_discard of_recover of_leave Discard = omega (arith, ap length (of_discard.1 (λ e. absurd cc)))
  one_fewer last Leave of_discard of_recover of_leave Recover = omega (arith, ap length (of_recover.1 (λ e. absurd cc)))
  one_fewer last Leave of_discard of_recover of_leave Leave = sym (some_in l l' last (of_leave.0 refl))

  pub one_drawn : (drawn : Option A) (strategy : Strategy) → Draws strategy Discard d d' drawn → Draws strategy Recover r r' drawn → Draws strategy Leave l l' drawn → IsSome drawn →
      IsOneFewer strategy (record { discard = length d; recover = length r; leave = length l }) (record { discard = length d'; recover = length r'; leave = length l' })
  one_drawn None strategy of_discard of_recover of_leave some = absurd cc
  one_drawn (Some last) strategy of_discard of_recover of_leave some = one_fewer last strategy of_discard of_recover of_leave

  none_left : (strategy : Strategy) → Draws strategy Discard d d' None → Draws strategy Recover r r' None → Draws strategy Leave l l' None →
      stocked (record { discard = length d; recover = length r; leave = length l }) strategy ≡ 0
  none_left Discard of_discard of_recover of_leave = ap length (of_discard.0 refl).0
  none_left Recover of_discard of_recover of_leave = ap length (of_recover.0 refl).0
  none_left Leave of_discard of_recover of_leave = ap length (of_leave.0 refl).0

  -- none was there
  pub none_drawn : (drawn : Option A) (strategy : Strategy) → drawn ≡ None → Draws strategy Discard d d' drawn → Draws strategy Recover r r' drawn → Draws strategy Leave l l' drawn →
      stocked (record { discard = length d; recover = length r; leave = length l }) strategy ≡ 0
  none_drawn drawn strategy none of_discard of_recover of_leave =
      none_left strategy (subst (Draws strategy Discard d d') none of_discard) (subst (Draws strategy Recover r r') none of_recover) (subst (Draws strategy Leave l l') none of_leave)
