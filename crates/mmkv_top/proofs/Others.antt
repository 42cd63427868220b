-- What an opener has in hand while a line is another's, or names nothing of it.
use Rattle.std.proofs.Common.{◌≡◌, ◌≢◌, ℕ, ◌≤◌, true, false, arith, cond, List, [], ◌∷◌, ◌++◌, refl, sym, ap, ◌∙◌, subst, append-nil, ne_eqb}
use Rattle.std.specs.Prelude.{Option, Some, None, option_map, ◌&&◌, if◌then◌else◌}
use Rattle.change_log.specs.declared.call.Answer.{Answer}
use Rattle.opener.specs.Calls.{holds_after}
use Rattle.opener.specs.Fresh.{is_fresh}
use Rattle.opener.specs.State.{OpenerState}
use Rattle.opener.specs.declared.calls.Step.TheVariants as step
use Rattle.region_words.specs.Lawful.{Lawful}
use Rattle.region_words.specs.Past.{AreSteps, region_after}
use Rattle.region_words.specs.Region.{Region, file_size}
use Rattle.region_words.specs.declared.event.Event.{Event}
use Rattle.region_words.specs.declared.event.TornWord.{TornWord}
use Rattle.region_words.specs.declared.event.What.TheVariants.{Died}
use Rattle.region_words.proofs.ReadLaws.{apart_front}
use Rattle.region_words.proofs.StaysFirm.{file_grows}
use Rattle.script_lang.specs.Kept.{kept_after, kept_of, looks_after, looks_of}
use Rattle.script_lang.specs.Played.{TakesNone}
use Rattle.script_lang.specs.declared.line.Line.{Line}
use Rattle.script_lang.specs.declared.line.Line.TheVariants.{Die, Step as StepLine}
use Rattle.script_lang.specs.declared.outcome.Outcome.{Outcome}
use Rattle.script_lang.specs.declared.outcome.Outcome.TheVariants.{Answered, Blocked, Stopped}
use Rattle.script_lang.specs.Parts.{Part, answers_in, asked_after, asked_of, going_on, held_after, held_alive, holds_of, listed, outcomes_of, own_of, past_of, running, running_after, Running}
use Rattle.mmkv_top.specs.Progress.{AreEarlier, FollowsWork, HasMarked, HasStored, IsBounded, IsGone, IsLeft, IsOpened, IsUnopened}
use Rattle.mmkv_top.proofs.Answering.{earlier_other}
use Rattle.mmkv_top.proofs.InTime.{bounded_later}
use Rattle.mmkv_top.proofs.LineEnds.{IsOwn, answers_join}
use Rattle.script_lang.proofs.Calls.{asked_other, going_none, others_take_none, running_other}
use Rattle.script_lang.proofs.Looks.{looks_other}
use Rattle.mmkv_top.specs.Looking.{IsLooking}
use Rattle.mmkv_top.proofs.Reasoning.{found_later}
use Rattle.mmkv_top.proofs.Seeing.{saw_still}
use Rattle.mmkv_top.proofs.Stepping.{follows_alive}

holds_other : (maker who held : ℕ) (outcome : Option Outcome) → maker ≢ who → IsOwn maker outcome → held_after outcome who held ≡ held
holds_other maker who held None n own = refl
holds_other maker who held (Some (Answered a)) n own = ap (λ b. cond b (holds_after a.call held) held) (ne_eqb a.who who (λ same. n (sym own ∙ same)))
holds_other maker who held (Some (Blocked w holder)) n own = refl
holds_other maker who held (Some (Stopped w why)) n own = refl

-- another's outcome leaves the words that are kept
keeps_other : (maker who : ℕ) (past : List Event) (kept : Option (List Event)) (outcome : Option Outcome) → maker ≢ who → IsOwn maker outcome → kept_after who past outcome kept ≡ kept
keeps_other maker who past kept None n own = refl
keeps_other maker who past kept (Some (Answered a)) n own = ap (λ b. if b && is_fresh a then Some past else kept) (ne_eqb a.who who (λ same. n (sym own ∙ same)))
keeps_other maker who past kept (Some (Blocked w holder)) n own = refl
keeps_other maker who past kept (Some (Stopped w why)) n own = ap (λ b. if b then None else kept) (ne_eqb w who (λ same. n (sym own ∙ same)))

earlier_still : (maker who : ℕ) (r : Option Running) (answers : List Answer) (outcome : Option Outcome) → maker ≢ who → IsOwn maker outcome → AreEarlier who r answers →
    AreEarlier who r (answers ++ answers_in (listed outcome))
earlier_still maker who r answers (Some (Answered a)) n own e = earlier_other who r answers a (λ same. n (sym own ∙ same)) e
earlier_still maker who r answers None n own e = subst (AreEarlier who r) (sym (append-nil answers)) e
earlier_still maker who r answers (Some (Blocked w holder)) n own e = subst (AreEarlier who r) (sym (append-nil answers)) e
earlier_still maker who r answers (Some (Stopped w why)) n own e = subst (AreEarlier who r) (sym (append-nil answers)) e

-- A line that does nothing of this opener's.
pub record Spares (start : Region) (parts : List Part) (p : Part) (who : ℕ) : Type 0 where
  pub calls : running who (p ∷ parts) ≡ running who parts
  pub asks : asked_of who (p ∷ parts) ≡ asked_of who parts
  pub looks : looks_of who (p ∷ parts) ≡ looks_of who parts
  pub holds : holds_of who (p ∷ parts) ≡ holds_of who parts
  pub keeps : kept_of who (p ∷ parts) ≡ kept_of who parts
  pub locks : TakesNone who p.made
  pub answers : AreEarlier who (running who parts) (answers_in (outcomes_of parts)) → AreEarlier who (running who parts) (answers_in (outcomes_of (p ∷ parts)))
  pub grows : file_size (region_after start (past_of parts)) ≤ file_size (region_after start (past_of (p ∷ parts)))

module _ (start : Region) (parts : List Part) (p : Part) (who : ℕ) (spares : Spares start parts p who) where
  pub unopened_other : IsUnopened parts who → IsUnopened (p ∷ parts) who
  unopened_other un = record { idle = spares.calls ∙ un.idle; held = spares.holds ∙ un.held; keeps = spares.keeps ∙ un.keeps }

  gone_other : IsGone parts who → IsGone (p ∷ parts) who
  gone_other gone = record { idle = spares.calls ∙ gone.idle; held = spares.holds ∙ gone.held }

  opened_other : (o : OpenerState) → IsOpened start parts who o → IsOpened start (p ∷ parts) who o
  opened_other o op =
      record {
        follows = subst (FollowsWork o.work) (sym spares.calls) op.follows;
        holds = op.holds ∙ sym spares.holds;
        earlier = subst (λ r. AreEarlier who r (answers_in (outcomes_of (p ∷ parts)))) (sym spares.calls) (spares.answers op.earlier);
        bounded = subst (λ asked. IsBounded o.work asked (file_size (region_after start (past_of (p ∷ parts))))) (sym spares.asks)
            (bounded_later o.work (asked_of who parts) (file_size (region_after start (past_of parts))) (file_size (region_after start (past_of (p ∷ parts)))) spares.grows op.bounded);
        marked = subst (HasMarked who step.Going o.work) (sym spares.calls) op.marked;
        found = found_later who o.work start p.made (past_of parts) (λ found. spares.locks) op.found;
        saw = saw_still o.work start p.made (past_of parts) op.saw;
        unfull = op.unfull;
        stored = subst (HasStored step.Going o.work) (sym spares.calls) op.stored;
        looking = λ apart.
            subst (IsLooking start (kept_of who (p ∷ parts)) (looks_of who (p ∷ parts)) o.image o.work) (sym spares.calls)
            (subst (λ k. IsLooking start k (looks_of who (p ∷ parts)) o.image o.work (running who parts)) (sym spares.keeps)
            (subst (λ l. IsLooking start (kept_of who parts) l o.image o.work (running who parts)) (sym spares.looks)
            (op.looking (apart_front start p.made (past_of parts) apart))));
      }

  pub left_other : (o : OpenerState) → IsLeft start parts who o → IsLeft start (p ∷ parts) who o
  left_other o left = record { alive = λ alive. opened_other o (left.alive alive); dead = λ dead. gone_other (left.dead dead) }

-- an opener that follows the lines is alive
pub living_left : (start : Region) (parts : List Part) (who : ℕ) (o : OpenerState) → IsOpened start parts who o → IsLeft start parts who o
living_left start parts who o op = record { alive = λ alive. op; dead = λ dead. let both : false ≡ true = sym (follows_alive o.work (running who parts) op.follows) ∙ dead in absurd cc }

-- another's line of steps
pub steps_spare : (start : Region) (parts : List Part) (maker who count : ℕ) (made : List Event) (outcome : Option Outcome) → maker ≢ who → AreSteps maker made → IsOwn maker outcome → Lawful start (made ++ past_of parts) →
    Spares start parts (record { line = Some (StepLine maker count); made = made; outcome = outcome }) who
steps_spare start parts maker who count made outcome n steps own lawful =
    record {
      calls = running_other maker who count parts made outcome n steps;
      asks = asked_other maker who count outcome (asked_of who parts) n;
      looks = looks_other maker who count (past_of parts) (looks_of who parts) n;
      holds = holds_other maker who (holds_of who parts) outcome n own;
      keeps = keeps_other maker who (made ++ past_of parts) (kept_of who parts) outcome n own;
      locks = others_take_none maker who made n steps;
      answers = λ earlier. subst (AreEarlier who (running who parts)) (sym (answers_join (outcomes_of parts) (listed outcome))) (earlier_still maker who (running who parts) (answers_in (outcomes_of parts)) outcome n own earlier);
      grows = file_grows start made (past_of parts) lawful;
    }

-- nothing was answered by a line without an outcome
quiet_answers : (parts : List Part) (who : ℕ) → AreEarlier who (running who parts) (answers_in (outcomes_of parts)) → AreEarlier who (running who parts) (answers_in (outcomes_of parts ++ []))
quiet_answers parts who earlier = subst (λ l. AreEarlier who (running who parts) (answers_in l)) (sym (append-nil (outcomes_of parts))) earlier

-- a line that makes nothing, and names nothing of this opener
pub quiet_spares : (start : Region) (parts : List Part) (line : Option Line) (who : ℕ) → running_after line None who (past_of parts) (running who parts) ≡ running who parts →
    asked_after line None who (asked_of who parts) ≡ asked_of who parts → looks_after line who (past_of parts) (looks_of who parts) ≡ looks_of who parts → held_alive line who (holds_of who parts) ≡ holds_of who parts →
    Spares start parts (record { line = line; made = []; outcome = None }) who
quiet_spares start parts line who calls asks looks holds =
    record {
      calls = ap (running_after line None who (past_of parts)) (going_none (running who parts)) ∙ calls;
      asks = asks;
      looks = looks;
      holds = holds;
      keeps = refl;
      locks = tt;
      answers = quiet_answers parts who;
      grows = omega arith;
    }

-- another's death
pub death_spares : (start : Region) (parts : List Part) (maker who : ℕ) (bits : Option ℕ) (torn : Option TornWord) → maker ≢ who → Lawful start (record { who = maker; what = Died torn } ∷ past_of parts) →
    Spares start parts (record { line = Some (Die maker bits); made = record { who = maker; what = Died torn } ∷ []; outcome = None }) who
death_spares start parts maker who bits torn n lawful =
    record {
      calls = ap (λ b. cond b None (option_map (going_on (own_of who (record { who = maker; what = Died torn } ∷ []))) (running who parts))) (ne_eqb maker who n) ∙ ap (λ l. option_map (going_on l) (running who parts)) not_own ∙ going_none (running who parts);
      asks = refl;
      looks = refl;
      holds = ap (λ b. cond b 0 (holds_of who parts)) (ne_eqb maker who n);
      keeps = refl;
      locks = ((λ same. absurd (n same)), tt);
      answers = quiet_answers parts who;
      grows = file_grows start (record { who = maker; what = Died torn } ∷ []) (past_of parts) lawful;
    }
  where
    not_own : own_of who (record { who = maker; what = Died torn } ∷ []) ≡ []
    not_own = ap (λ b. cond b (record { who = maker; what = Died torn } ∷ []) []) (ne_eqb maker who n)
