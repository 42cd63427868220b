-- A line that names no call: a further opener, or nothing.
use Rattle.std.proofs.Common.{◌≡◌, ℕ, ◌+◌, ◌<◌, ◌≤◌, List, [], ◌∷◌, ◌++◌, length, sym, ap, ◌∙◌, inl, inr, arith, subst, length-append, append-nil}
use Rattle.std.proofs.lemmas.List.{map-append, length-map}
use Rattle.std.specs.Prelude.{Option, Some, None, Result, Ok, Err, IfErr, OnOk, slice_get, if◌then◌else◌}
use Rattle.handlers.specs.declared.handler.Strategy.{Strategy}
use Rattle.lock_rules.specs.declared.limits.TheConstants.{MOST_OPENERS}
use Rattle.script_lang.specs.declared.line.Line.{Line}
use Rattle.script_lang.specs.declared.line.Line.TheVariants.{Open}
use Rattle.script_lang.specs.Played.{Stock, drawn, is_same, stocked}
use Rattle.race_core.specs.declared.entrant.Entrant.{Entrant}
use Rattle.race_core.specs.Script.{AreOpeners, CanFollow, IsOpener, calls_of, holds_left, strategies}
use Rattle.race_core.specs.declared.halt.Halt.{Halt}
use Rattle.race_core.specs.declared.halt.Halt.TheVariants as halt
use Rattle.race_core.specs.Reading.{IsAt, IsOneFewer, Takes}
use Rattle.race_core.proofs.Drawing.{both_more, one_itself}
use Rattle.race_core.proofs.Places.{pushed_is}

-- as many openers as were opened
pub as_many : (lines : List (Option Line)) (openers : List Entrant) → AreOpeners lines openers → length openers ≡ length (strategies lines)
as_many lines openers are = sym (length-map openers (λ (e : Entrant). e.strategy)) ∙ ap length are.strategies_are

-- what an opener was asked decides what it is
pub same_opener : (who : ℕ) (lines lines' : List (Option Line)) (e : Entrant) → calls_of who lines' ≡ calls_of who lines → IsOpener who lines e → IsOpener who lines' e
same_opener who lines lines' e same is = (is.0 ∙ sym same, is.1 ∙ sym (ap (holds_left 0) same))

-- a line that names nothing
pub blank_taken : (stock left : Stock) (before : List (Option Line)) (openers : List Entrant) → IsAt stock left before openers → IsAt stock left (None ∷ before) openers
blank_taken stock left before openers at =
    record {
      permitted = (at.permitted, tt);
      are = record {
        strategies_are = at.are.strategies_are ∙ sym (append-nil (strategies before));
        each = λ i e is. same_opener (i + 1) before (None ∷ before) e (append-nil (calls_of (i + 1) before)) (at.are.each i e is);
      };
      drawn_are = λ s. ap (λ l. stocked left s + drawn s l) (append-nil (strategies before)) ∙ at.drawn_are s;
      beyond = λ who far. append-nil (calls_of who before) ∙ at.beyond who (subst (λ l. length l < who) (append-nil (strategies before)) far);
    }

module _ (stock left left' : Stock) (before : List (Option Line)) (openers : List Entrant) (strategy : Strategy) (at : IsAt stock left before openers) where
  -- without a handler nobody is opened
  pub undrawn : stocked left strategy ≡ 0 → CanFollow stock before (Some (Open strategy)) → ⊥
  undrawn none can = omega (arith, at.drawn_are strategy, none, can.1)

  -- nor where there are as many as may be
  pub crowded : MOST_OPENERS ≤ length openers → CanFollow stock before (Some (Open strategy)) → ⊥
  crowded many can = omega (arith, many, as_many before openers at.are, can.0)

  module _ (e : Entrant) (few : length openers < MOST_OPENERS) (drew : (s : Strategy) → stocked left' s + (if is_same s strategy then 1 else 0) ≡ stocked left s)
      (is : e.strategy ≡ strategy) (idle : e.calls.items ≡ []) (free : e.holds ≡ 0) where
    abbrev grown : List (Option Line)
    grown = Some (Open strategy) ∷ before

    count : length openers ≡ length (strategies before)
    count = as_many before openers at.are

    more : length (strategies before ++ strategy ∷ []) ≡ length (strategies before) + 1
    more = length-append (strategies before) (strategy ∷ [])

    asked_none : (who : ℕ) → length (strategies before) < who → calls_of who (Some (Open strategy) ∷ before) ≡ []
    asked_none who far = append-nil (calls_of who before) ∙ at.beyond who far

    each_is : (i : ℕ) (x : Entrant) → slice_get (openers ++ e ∷ []) i ≡ Some x → IsOpener (i + 1) (Some (Open strategy) ∷ before) x
    each_is i x there = elim (pushed_is openers e i x there) [
      | inl was ↦ same_opener (i + 1) before (Some (Open strategy) ∷ before) x (append-nil (calls_of (i + 1) before)) (at.are.each i x was)
      | inr now ↦
          let none : calls_of (i + 1) (Some (Open strategy) ∷ before) ≡ [] = asked_none (i + 1) (omega (arith, now.0, count)) in
          subst (IsOpener (i + 1) (Some (Open strategy) ∷ before)) (sym now.1) (idle ∙ sym none, free ∙ sym (ap (holds_left 0) none))
    ]

    pub opened : IsAt stock left' (Some (Open strategy) ∷ before) (openers ++ e ∷ [])
    opened =
        record {
          permitted = (at.permitted, (omega (arith, few, count), omega (arith, at.drawn_are strategy, drew strategy, one_itself strategy)));
          are = record {
            strategies_are = map-append (λ (x : Entrant). x.strategy) openers (e ∷ []) ∙ ap (λ l. l ++ e.strategy ∷ []) at.are.strategies_are ∙ ap (λ s. strategies before ++ s ∷ []) is;
            each = each_is;
          };
          drawn_are = λ s. omega (arith, both_more strategy s (strategies before), drew s, at.drawn_are s);
          beyond = λ who far. asked_none who (omega (arith, far, more));
        }

-- what is done with the line, once there is a handler
pub open_takes : {A : Type 0} (stock left left' : Stock) (before : List (Option Line)) (openers openers' : List Entrant) (strategy : Strategy) (e : Entrant) (result : Result A Halt) →
    IsAt stock left before openers → length openers < MOST_OPENERS → IsOneFewer strategy left left' → e.strategy ≡ strategy → e.calls.items ≡ [] → e.holds ≡ 0 →
    OnOk result (openers' ≡ openers ++ e ∷ []) → IfErr result (λ why. why ≡ halt.Memory) → Takes stock left' before (Some (Open strategy)) openers' result
open_takes stock left left' before openers openers' strategy e (Ok x) at few drew is idle free more err =
    subst (IsAt stock left' (Some (Open strategy) ∷ before)) (sym more) (opened stock left left' before openers strategy at e few drew is idle free)
open_takes stock left left' before openers openers' strategy e (Err halt.Refused) at few drew is idle free more err = absurd cc
open_takes stock left left' before openers openers' strategy e (Err halt.Memory) at few drew is idle free more err = tt
