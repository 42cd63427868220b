-- A line that names a call of an opener.
use Rattle.std.proofs.Common.{◌≡◌, ◌≢◌, ℕ, ◌+◌, ◌<◌, ◌≤◌, ◌⊎◌, true, false, eqb, List, [], ◌∷◌, ◌++◌, length, set, refl, sym, ap, ◌∙◌, inl, inr, arith, subst, append-nil}
use Rattle.std.proofs.lemmas.Bool.Decides.{eqb_tells}
use Rattle.std.specs.Prelude.{Option, Some, None, Result, Ok, Err, IfErr, OnOk, slice_get, if◌then◌else◌}
use Rattle.opener.specs.Begins.{call_refusal}
use Rattle.opener.specs.Calls.{holds_after}
use Rattle.script_lang.specs.declared.line.Line.{Line}
use Rattle.script_lang.specs.declared.line.Line.TheVariants.{Next}
use Rattle.script_lang.specs.Played.{Stock, drawn, stocked}
use Rattle.race_core.specs.declared.entrant.Entrant.{Entrant}
use Rattle.race_core.specs.declared.entrant.TimedCall.{TimedCall}
use Rattle.race_core.specs.Script.{CanFollow, IsOpener, calls_of, holds_left, named_for, strategies}
use Rattle.race_core.specs.declared.halt.Halt.{Halt}
use Rattle.race_core.specs.declared.halt.Halt.TheVariants as halt
use Rattle.race_core.specs.Reading.{IsAt, Takes}
use Rattle.race_core.proofs.Openings.{as_many, same_opener}
use Rattle.race_core.proofs.Places.{is_within, map_set_same, set_elsewhere, set_is}

-- one call more
pub held_one_more : (held : ℕ) (calls : List TimedCall) (c : TimedCall) → holds_left held (calls ++ c ∷ []) ≡ holds_after c.call (holds_left held calls)
held_one_more held [] c = refl
held_one_more held (x ∷ calls) c = held_one_more (holds_after x.call held) calls c

module _ (stock left : Stock) (before : List (Option Line)) (openers : List Entrant) (who : ℕ) (asked : TimedCall) (at : IsAt stock left before openers) where
  -- a call of nobody
  pub unknown : (1 ≤ who → who ≤ length openers → ⊥) → CanFollow stock before (Some (Next who asked.now asked.call)) → ⊥
  unknown nobody can = nobody can.0 (omega (arith, can.1, as_many before openers at.are))

  module _ (place : ℕ) (e : Entrant) (number : place + 1 ≡ who) (there : slice_get openers place ≡ Some e) where
    own : IsOpener who before e
    own = subst (λ w. IsOpener w before e) number (at.are.each place e there)

    -- it may not begin
    pub unready : (call_refusal asked.call e.holds ≡ None → ⊥) → CanFollow stock before (Some (Next who asked.now asked.call)) → ⊥
    unready not can = not (ap (call_refusal asked.call) own.1 ∙ can.2)

    module _ (e' : Entrant) (numbered : asked.line ≡ length before + 1) (may : call_refusal asked.call e.holds ≡ None)
        (strategy : e'.strategy ≡ e.strategy) (calls : e'.calls.items ≡ e.calls.items ++ asked ∷ []) (holds : e'.holds ≡ holds_after asked.call e.holds) where
      abbrev line : Option Line
      line = Some (Next who asked.now asked.call)

      inside : who ≤ length (strategies before)
      inside = omega (arith, number, is_within openers place e there, as_many before openers at.are)

      named_other : (w : ℕ) → who ≢ w → named_for w (length before + 1) (Some (Next who asked.now asked.call)) ≡ []
      named_other w apart = go (eqb_tells who w)
        where
          go : ((eqb who w ≡ true) × (who ≡ w)) ⊎ ((eqb who w ≡ false) × (who ≢ w)) → named_for w (length before + 1) (Some (Next who asked.now asked.call)) ≡ []
          go (inl same) = absurd (apart same.1)
          go (inr other) = ap (λ b. if b then record { line = length before + 1; now = asked.now; call = asked.call } ∷ [] else []) other.0

      calls_other : (w : ℕ) → who ≢ w → calls_of w (Some (Next who asked.now asked.call) ∷ before) ≡ calls_of w before
      calls_other w apart = ap (λ l. calls_of w before ++ l) (named_other w apart) ∙ append-nil (calls_of w before)

      named_own : named_for who (length before + 1) (Some (Next who asked.now asked.call)) ≡ asked ∷ []
      named_own = go (eqb_tells who who)
        where
          go : ((eqb who who ≡ true) × (who ≡ who)) ⊎ ((eqb who who ≡ false) × (who ≢ who)) → named_for who (length before + 1) (Some (Next who asked.now asked.call)) ≡ asked ∷ []
          go (inl same) =
              ap (λ b. if b then record { line = length before + 1; now = asked.now; call = asked.call } ∷ [] else []) same.0
              ∙ ap (λ n. record { line = n; now = asked.now; call = asked.call } ∷ []) (sym numbered)
          go (inr other) = absurd (other.1 refl)

      calls_own : calls_of who (Some (Next who asked.now asked.call) ∷ before) ≡ calls_of who before ++ asked ∷ []
      calls_own = ap (λ l. calls_of who before ++ l) named_own

      now_own : IsOpener who (Some (Next who asked.now asked.call) ∷ before) e'
      now_own = (
        calls ∙ ap (λ l. l ++ asked ∷ []) own.0 ∙ sym calls_own,
        holds ∙ ap (holds_after asked.call) own.1 ∙ sym (ap (holds_left 0) calls_own ∙ held_one_more 0 (calls_of who before) asked),
      )

      each_is : (i : ℕ) (x : Entrant) → slice_get (set openers place e') i ≡ Some x → IsOpener (i + 1) (Some (Next who asked.now asked.call) ∷ before) x
      each_is i x is = go (eqb_tells place i)
        where
          go : ((eqb place i ≡ true) × (place ≡ i)) ⊎ ((eqb place i ≡ false) × (place ≢ i)) → IsOpener (i + 1) (Some (Next who asked.now asked.call) ∷ before) x
          go (inl same) =
              let x_is : x ≡ e' = set_is openers place e e' x there (subst (λ n. slice_get (set openers place e') n ≡ Some x) (sym same.1) is) in
              let w_is : who ≡ i + 1 = sym number ∙ ap (λ n. n + 1) same.1 in
              subst (λ w. IsOpener w (Some (Next who asked.now asked.call) ∷ before) x) w_is (subst (IsOpener who (Some (Next who asked.now asked.call) ∷ before)) (sym x_is) now_own)
          go (inr apart) =
              same_opener (i + 1) before (Some (Next who asked.now asked.call) ∷ before) x (calls_other (i + 1) (λ e. apart.1 (omega (arith, e, number))))
              (at.are.each i x (sym (set_elsewhere openers place i e' apart.1) ∙ is))

      still : strategies (Some (Next who asked.now asked.call) ∷ before) ≡ strategies before
      still = append-nil (strategies before)

      pub asked_one : IsAt stock left (Some (Next who asked.now asked.call) ∷ before) (set openers place e')
      asked_one =
          record {
            permitted = (at.permitted, (omega (arith, number), inside, ap (call_refusal asked.call) (sym own.1) ∙ may));
            are = record {
              strategies_are = map_set_same (λ (x : Entrant). x.strategy) openers place e e' there strategy ∙ at.are.strategies_are ∙ sym still;
              each = each_is;
            };
            drawn_are = λ s. ap (λ l. stocked left s + drawn s l) still ∙ at.drawn_are s;
            beyond = λ w far.
                let far' : length (strategies before) < w = subst (λ l. length l < w) still far in
                calls_other w (λ e. omega (arith, e, far', inside)) ∙ at.beyond w far';
          }

-- what is done with the line
pub ask_takes : {A : Type 0} (stock left : Stock) (before : List (Option Line)) (openers : List Entrant) (who : ℕ) (asked : TimedCall) (place : ℕ) (e e' : Entrant) (result : Result A Halt) →
    IsAt stock left before openers → place + 1 ≡ who → slice_get openers place ≡ Some e → asked.line ≡ length before + 1 →
    OnOk result (call_refusal asked.call e.holds ≡ None) → OnOk result (e'.strategy ≡ e.strategy) → OnOk result (e'.calls.items ≡ e.calls.items ++ asked ∷ []) →
    OnOk result (e'.holds ≡ holds_after asked.call e.holds) → IfErr result (λ why. why ≡ halt.Refused → call_refusal asked.call e.holds ≡ None → ⊥) →
    Takes stock left before (Some (Next who asked.now asked.call)) (set openers place e') result
ask_takes stock left before openers who asked place e e' (Ok x) at number there numbered may strategy calls holds err =
    asked_one stock left before openers who asked at place e number there e' numbered may strategy calls holds
ask_takes stock left before openers who asked place e e' (Err halt.Refused) at number there numbered may strategy calls holds err =
    unready stock left before openers who asked at place e number there (err refl)
ask_takes stock left before openers who asked place e e' (Err halt.Memory) at number there numbered may strategy calls holds err = tt
