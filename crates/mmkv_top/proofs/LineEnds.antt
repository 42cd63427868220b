-- What the steps of an opener make of a line.
use Rattle.std.proofs.Common.{◌≡◌, ℕ, ◌≤◌, Bool, true, false, List, [], ◌∷◌, ◌++◌, length, refl, sym, ap, ◌∙◌, subst, append-nil, eq-eqb}
use Rattle.std.specs.Prelude.{Option, Some, None, flat_map, option_map, slice_get, ◌==◌, if◌then◌else◌, ⊤}
use Rattle.change_log.specs.Settled.{AreEndedBy}
use Rattle.change_log.specs.declared.call.Answer.{Answer}
use Rattle.change_log.specs.declared.call.Call.{Call as Asked}
use Rattle.opener.specs.Calls.{holds_after}
use Rattle.opener.specs.Opener.{OnAnswer, IsAnswer}
use Rattle.opener.specs.Settles.{answers_by}
use Rattle.opener.specs.State.{OpenerState}
use Rattle.opener.specs.declared.calls.Step.{Step}
use Rattle.opener.specs.declared.calls.Step.TheVariants as step
use Rattle.opener.specs.declared.calls.Stop.{Stop}
use Rattle.opener.specs.declared.work.Work.{Work}
use Rattle.opener.specs.declared.work.Work.TheVariants.{Idle}
use Rattle.region_words.specs.Region.{Region}
use Rattle.region_words.specs.Past.{AreSteps, changes_of}
use Rattle.region_words.specs.declared.event.Event.{Event}
use Rattle.script_lang.specs.Texts.{outcome_line}
use Rattle.script_lang.specs.declared.outcome.Outcome.{Outcome}
use Rattle.script_lang.specs.declared.outcome.Outcome.TheVariants.{Answered, Blocked, Stopped}
use Rattle.world.specs.Moves.{IsSaid}
use Rattle.world.specs.declared.moves.Moved.{Moved}
use Rattle.world.specs.declared.moves.Moved.TheVariants as moved
use Rattle.script_lang.specs.Parts.{answers_in, held_after, listed, Running, going_on}
use Rattle.script_lang.specs.Journal.{AreAnswered}
use Rattle.script_lang.specs.Played.{IsOutcomeOf, IsStepLine}
use Rattle.mmkv_top.specs.Progress.{AreEarlier, CameTo, FollowsWork, HasStored, IsOutcomeAt, IsTextOf}
use Rattle.script_lang.proofs.Calls.{still_running}
use Rattle.mmkv_top.proofs.Answering.{answered_later, answers_one, one_within, within_later}
use Rattle.mmkv_top.proofs.Marking.{MarksLine}
use Rattle.mmkv_top.proofs.Reasoning.{said_printed}
use Rattle.mmkv_top.proofs.Storing.{stops_stored}

-- the end of a line, or the call that runs without one
abbrev pub EndsLine : ℕ → List Event → List Event → Option Running → Option Outcome → Type 0
EndsLine who past made None outcome = outcome ≡ None
EndsLine who past made (Some r) outcome = IsOutcomeOf (made ++ past) (going_on made r) who outcome

pub record LineEnds (who : ℕ) (start : Region) (past made : List Event) (answers : List Answer) (held : ℕ) (r : Option Running) (o : OpenerState) (outcome : Option Outcome) : Type 0 where
  pub ends : EndsLine who past made r outcome
  pub follows : FollowsWork o.work (still_running outcome made r)
  pub holds : o.holds ≡ held_after outcome who held
  pub earlier : AreEarlier who (still_running outcome made r) (answers ++ answers_in (listed outcome))
  pub answered : AreAnswered start (made ++ past) (answers ++ answers_in (listed outcome))
  pub within : AreEndedBy (length (changes_of (made ++ past))) (answers ++ answers_in (listed outcome))

idle_follows : (work : Work) → work ≡ Idle → FollowsWork work None
idle_follows work e = subst (λ w. FollowsWork w None) (sym e) tt

held_by_own : (who : ℕ) (a : Answer) (call : Asked) (held : ℕ) → a.who ≡ who → a.call ≡ call → holds_after call held ≡ held_after (Some (Answered a)) who held
held_by_own who a call held by same = go (a.who == who) (eq-eqb a.who who by)
  where
    go : (b : Bool) → b ≡ true → holds_after call held ≡ (if b then holds_after a.call held else held)
    go true e = ap (λ c. holds_after c held) (sym same)
    go false e = absurd cc

module _ (who : ℕ) (start : Region) (past made : List Event) (answers : List Answer) (held : ℕ) (o : OpenerState) (so_far : AreAnswered start past answers)
    (within : AreEndedBy (length (changes_of past)) answers) where
  abbrev Ends : Option Running → Option Outcome → Type 0
  Ends r outcome = LineEnds who start past made answers held r o outcome

  all_answered : AreAnswered start (made ++ past) (answers ++ [])
  all_answered = subst (AreAnswered start (made ++ past)) (sym (append-nil answers)) (answered_later start made past answers so_far)

  all_within : AreEndedBy (length (changes_of (made ++ past))) (answers ++ [])
  all_within = subst (AreEndedBy (length (changes_of (made ++ past)))) (sym (append-nil answers)) (within_later made past answers within)

  all_earlier : (r : Option Running) → AreEarlier who r answers → AreEarlier who r (answers ++ [])
  all_earlier r earlier = subst (AreEarlier who r) (sym (append-nil answers)) earlier

  pub line_ends : (r : Option Running) (last : Step) (outcome : Option Outcome) → AreEarlier who r answers → OnAnswer last (λ a. IsAnswer a start (made ++ past)) →
      CameTo who (made ++ past) held (option_map (going_on made) r) last o → HasStored last o.work (option_map (going_on made) r) → IsOutcomeAt who last outcome → Ends r outcome
  line_ends None step.Going outcome earlier answer came stored at =
      subst (Ends None) (sym at) (record { ends = refl; follows = came.0; holds = came.1; earlier = tt; answered = all_answered; within = all_within })
  line_ends (Some r) step.Going outcome earlier answer came stored at =
      subst (Ends (Some r)) (sym at) (record { ends = tt; follows = came.0; holds = came.1; earlier = all_earlier (Some (going_on made r)) earlier; answered = all_answered; within = all_within })
  line_ends None step.Idle outcome earlier answer came stored at =
      subst (Ends None) (sym at) (record { ends = refl; follows = came.0; holds = came.1; earlier = tt; answered = all_answered; within = all_within })
  line_ends (Some r) (step.Blocked holder) outcome earlier answer came stored at =
      subst (Ends (Some r)) (sym at)
      (record { ends = (refl, came.2); follows = came.0; holds = came.1; earlier = all_earlier (Some (going_on made r)) earlier; answered = all_answered; within = all_within })
  line_ends (Some r) (step.Answered a) outcome earlier answer came stored at =
      subst (Ends (Some r)) (sym at)
      (record {
        ends = came.2;
        follows = idle_follows o.work came.0;
        holds = came.1 ∙ held_by_own who a r.call held came.2.by came.2.call_is;
        earlier = tt;
        answered = answers_one who start made past r answers a so_far earlier came.2.by came.2.begun answer;
        within = one_within start made past answers a within answer;
      })
  line_ends (Some r) (step.Stopped why) outcome earlier answer came stored at =
      subst (Ends (Some r)) (sym at.1)
      (record {
        ends = (refl, said_printed why at.0 at.2, stops_stored why at.0 o.work (going_on made r) at.2 stored);
        follows = idle_follows o.work came.0;
        holds = came.1;
        earlier = tt;
        answered = all_answered;
        within = all_within;
      })
  line_ends None step.Again outcome earlier answer came stored at = absurd came
  line_ends None (step.Blocked holder) outcome earlier answer came stored at = absurd came
  line_ends None (step.Answered a) outcome earlier answer came stored at = absurd came
  line_ends None (step.Stopped why) outcome earlier answer came stored at = absurd came
  line_ends (Some r) step.Idle outcome earlier answer came stored at = absurd came
  line_ends (Some r) step.Again outcome earlier answer came stored at = absurd came

pub answers_join : (xs ys : List Outcome) → answers_in (xs ++ ys) ≡ answers_in xs ++ answers_in ys
answers_join [] ys = refl
answers_join (Answered a ∷ xs) ys = ap (λ z. a ∷ z) (answers_join xs ys)
answers_join (Blocked w h ∷ xs) ys = answers_join xs ys
answers_join (Stopped w r ∷ xs) ys = answers_join xs ys

-- a line lists what its last step answered
pub listed_answers : (who : ℕ) (last : Step) (outcome : Option Outcome) → IsOutcomeAt who last outcome → answers_in (listed outcome) ≡ answers_by last
listed_answers who step.Idle outcome at = ap (λ o. answers_in (listed o)) at
listed_answers who step.Going outcome at = ap (λ o. answers_in (listed o)) at
listed_answers who step.Again outcome at = ap (λ o. answers_in (listed o)) at
listed_answers who (step.Blocked holder) outcome at = ap (λ o. answers_in (listed o)) at
listed_answers who (step.Answered a) outcome at = ap (λ o. answers_in (listed o)) at
listed_answers who (step.Stopped why) outcome at = ap (λ o. answers_in (listed o)) at.1

-- the answer of a line, or its stop, is that of its opener
abbrev pub IsOwn : ℕ → Option Outcome → Type 0
IsOwn who (Some (Answered a)) = a.who ≡ who
IsOwn who (Some (Stopped w why)) = w ≡ who
IsOwn who _ = ⊤

pub own_outcome : (who : ℕ) (past made : List Event) (r : Option Running) (outcome : Option Outcome) → EndsLine who past made r outcome → IsOwn who outcome
own_outcome who past made None outcome ends = subst (IsOwn who) (sym ends) tt
own_outcome who past made (Some r) None ends = tt
own_outcome who past made (Some r) (Some (Answered a)) ends = ends.by
own_outcome who past made (Some r) (Some (Blocked w holder)) ends = tt
own_outcome who past made (Some r) (Some (Stopped w why)) ends = ends.0

pub is_step_line : (who : ℕ) (past made : List Event) (count : ℕ) (r : Option Running) (outcome : Option Outcome) → length made ≤ count → AreSteps who made → (r ≡ None → made ≡ []) →
    EndsLine who past made r outcome → MarksLine who made r outcome → IsStepLine past who count r made outcome
is_step_line who past made count None outcome few own idle ends marks = (idle refl, ends)
is_step_line who past made count (Some r) outcome few own idle ends marks = record { few = few; own = own; ends = ends; marks = marks }

-- the last of a list
last_is : (xs : List Answer) (a b : Answer) → slice_get (xs ++ a ∷ []) (length xs) ≡ Some b → b ≡ a
last_is [] a b at = cc
last_is (x ∷ xs) a b at = last_is xs a b at

-- what is said of a step, and the text that is added for it, is the outcome of the line
pub record Outcomes (who : ℕ) (came : Step) (text : List ℕ) : Type 0 where
  pub outcome : Option Outcome
  pub at : IsOutcomeAt who came outcome
  pub text_is : text ≡ flat_map outcome_line (listed outcome)

no_text : (text : List ℕ) (who : ℕ) (came : Step) → text ≡ [] → IsOutcomeAt who came None → Outcomes who came text
no_text text who came none at = record { outcome = None; at = at; text_is = none }

one_text : (o : Outcome) (text : List ℕ) → text ≡ outcome_line o → text ≡ flat_map outcome_line (o ∷ [])
one_text o text is = is ∙ sym (append-nil (outcome_line o))

pub outcome_is : (who : ℕ) (old new : List Answer) (said : Moved) (came : Step) (text : List ℕ) → new ≡ old ++ answers_by came → IsSaid (length old) came said → IsTextOf who new said text → Outcomes who came text
outcome_is who old new said step.Idle text grown is t = no_text text who step.Idle (subst (λ m. IsTextOf who new m text) is t) refl
outcome_is who old new said step.Going text grown is t = no_text text who step.Going (subst (λ m. IsTextOf who new m text) is t) refl
outcome_is who old new said step.Again text grown is t = absurd is
outcome_is who old new said (step.Blocked holder) text grown is t =
    record { outcome = Some (Blocked who holder); at = refl; text_is = one_text (Blocked who holder) text (subst (λ m. IsTextOf who new m text) is t) }
outcome_is who old new said (step.Answered a) text grown is t =
    let found = subst (λ m. IsTextOf who new m text) is t in
    let same : found.0 ≡ a = last_is old a found.0 (subst (λ all. slice_get all (length old) ≡ Some found.0) grown found.1) in
    record { outcome = Some (Answered a); at = refl; text_is = one_text (Answered a) text (found.2 ∙ ap (λ b. outcome_line (Answered b)) same) }
outcome_is who old new said (step.Stopped why) text grown is t =
    let found = subst (λ m. IsTextOf who new m text) is t in
    record { outcome = Some (Stopped who found.0); at = (found.0, refl, found.2); text_is = one_text (Stopped who found.0) text found.1 }

-- a stop that is said is what the step came to
pub said_stopped : (count : ℕ) (came : Step) (why : Stop) → IsSaid count came (moved.Stopped why) → came ≡ step.Stopped why
said_stopped count step.Idle why is = absurd cc
said_stopped count step.Going why is = absurd cc
said_stopped count step.Again why is = absurd is
said_stopped count (step.Blocked holder) why is = absurd cc
said_stopped count (step.Answered a) why is = absurd cc
said_stopped count (step.Stopped found) why is = cc

-- and so is one that goes on
pub said_going : (count : ℕ) (came : Step) → IsSaid count came moved.Going → came ≡ step.Going
said_going count step.Going is = refl
said_going count step.Idle is = absurd cc
said_going count step.Again is = absurd is
said_going count (step.Blocked holder) is = absurd cc
said_going count (step.Answered a) is = absurd cc
said_going count (step.Stopped why) is = absurd cc
