-- The calls of a script may be made one after another.
use Rattle.std.proofs.Common.{◌≡◌, ℕ, ◌+◌, List, [], ◌∷◌, ◌++◌, length, refl, sym, ap, ◌∙◌, inl, inr, subst, append-nil}
use Rattle.std.proofs.lemmas.Bool.Decides.{eqb_tells}
use Rattle.std.specs.Prelude.{Option, Some, None, if◌then◌else◌}
use Rattle.opener.specs.Begins.{call_refusal}
use Rattle.opener.specs.Calls.{holds_after}
use Rattle.script_lang.specs.declared.line.Line.{Line}
use Rattle.script_lang.specs.declared.line.Line.TheVariants.{Open, Begin, Step, Die, Next}
use Rattle.script_lang.specs.declared.outcome.Outcome.{Outcome}
use Rattle.script_lang.specs.declared.outcome.Outcome.TheVariants.{Answered, Blocked, Stopped}
use Rattle.script_lang.specs.Parts.{answers_in}
use Rattle.script_lang.specs.Played.{Stock}
use Rattle.race_core.specs.declared.entrant.TimedCall.{TimedCall}
use Rattle.race_core.specs.Calls.{AreAllowed, AreOutcomes, IsOutcomeOf}
use Rattle.race_core.specs.Script.{ArePermitted, CanFollow, calls_of, holds_left, named_for}

-- one call more
one_more : (held : ℕ) (calls : List TimedCall) (c : TimedCall) → AreAllowed held calls → call_refusal c.call (holds_left held calls) ≡ None → AreAllowed held (calls ++ c ∷ [])
one_more held [] c allowed may = (may, tt)
one_more held (x ∷ calls) c allowed may = (allowed.0, one_more (holds_after x.call held) calls c allowed.1 may)

pub calls_allowed : (stock : Stock) (who : ℕ) (lines : List (Option Line)) → ArePermitted stock lines → AreAllowed 0 (calls_of who lines)
calls_allowed stock who [] permitted = tt
calls_allowed stock who (l ∷ before) permitted = go (calls_allowed stock who before permitted.0) l permitted.1
  where
    still : AreAllowed 0 (calls_of who before) → AreAllowed 0 (calls_of who before ++ [])
    still so_far = subst (AreAllowed 0) (sym (append-nil (calls_of who before))) so_far

    go : AreAllowed 0 (calls_of who before) → (l : Option Line) → CanFollow stock before l → AreAllowed 0 (calls_of who before ++ named_for who (length before + 1) l)
    go so_far None can = still so_far
    go so_far (Some (Open strategy)) can = still so_far
    go so_far (Some (Begin w now call)) can = still so_far
    go so_far (Some (Step w count)) can = still so_far
    go so_far (Some (Die w bits)) can = still so_far
    go so_far (Some (Next w now call)) can = elim (eqb_tells w who) [
      | inl same ↦
          let asked : TimedCall = record { line = length before + 1; now = now; call = call } in
          subst (λ l. AreAllowed 0 (calls_of who before ++ l)) (sym (ap (λ b. if b then asked ∷ [] else []) same.0))
          (one_more 0 (calls_of who before) asked so_far (ap (λ v. call_refusal call (holds_left 0 (calls_of v before))) (sym same.1) ∙ can.2))
      | inr apart ↦
          let asked : TimedCall = record { line = length before + 1; now = now; call = call } in
          subst (λ l. AreAllowed 0 (calls_of who before ++ l)) (sym (ap (λ b. if b then asked ∷ [] else []) apart.0)) (still so_far)
    ]

-- the outcome of one call more
pub one_outcome : (who : ℕ) (calls : List TimedCall) (outcomes : List Outcome) (c : TimedCall) (o : Outcome) → AreOutcomes who calls outcomes → IsOutcomeOf who c o →
    AreOutcomes who (calls ++ c ∷ []) (outcomes ++ o ∷ [])
one_outcome who [] outcomes c o are is = (o, [], ap (λ l. l ++ o ∷ []) are, is, refl)
one_outcome who (x ∷ calls) outcomes c o are is = (are.0, are.1 ++ o ∷ [], ap (λ l. l ++ o ∷ []) are.2, are.3, one_outcome who calls are.1 c o are.4 is)

-- the answers among one outcome more
pub answers_more : (outcomes more : List Outcome) → answers_in (outcomes ++ more) ≡ answers_in outcomes ++ answers_in more
answers_more [] more = refl
answers_more (Answered a ∷ outcomes) more = ap (λ l. a ∷ l) (answers_more outcomes more)
answers_more (Blocked who holder ∷ outcomes) more = answers_more outcomes more
answers_more (Stopped who why ∷ outcomes) more = answers_more outcomes more
