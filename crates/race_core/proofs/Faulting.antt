-- An opener's call stops by a fault only where some calls on its share are to fail.
use Rattle.std.proofs.Common.{◌≡◌, ◌≢◌, ℕ, true, List, [], refl, sym, ◌∙◌, inl, inr, subst}
use Rattle.std.specs.Prelude.{Contains, Option, Some, None, Result, Ok, Err, IfErr, IfSome}
use Rattle.opener.specs.Bound.{Falls}
use Rattle.opener.specs.Opener.{HasReason, HasStopped, stop_found}
use Rattle.opener.specs.declared.calls.Step.{Step}
use Rattle.opener.specs.declared.calls.Stop.{Stop}
use Rattle.opener.specs.declared.calls.Stop.TheVariants as stop
use Rattle.opener.specs.declared.work.Work.{Work}
use Rattle.opener.specs.declared.work.Work.TheVariants.{Idle, Ended, Runs}
use Rattle.region_words.specs.Share.{Fails, IsSameShare, OnListed, ShareState}
use Rattle.script_lang.specs.declared.outcome.Outcome.{Outcome}
use Rattle.race_core.specs.Calls.{FaultsWhereListed, IsTroubleOf, MayFail, RunsAs}
use Rattle.race_core.specs.declared.calls.Trouble.{Trouble}
use Rattle.race_core.specs.declared.calls.Trouble.TheVariants as trouble
use Rattle.race_core.specs.declared.entrant.TimedCall.{TimedCall}
use Rattle.race_core.proofs.Making.{Waits}

-- a fault of a share that is still as it was
failed_there : (was s t : ShareState) → IsSameShare was s → Fails s t → MayFail was
failed_there was s t same fails = subst (λ f. OnListed f (λ list. list ≢ [])) same.fails (listed s.fails fails.due)
  where
    listed : (f : Option (List ℕ)) → OnListed f (λ list. (list ≢ []) × (s.alone ≡ true → Contains list s.calls)) → OnListed f (λ list. list ≢ [])
    listed None is = tt
    listed (Some list) is = is.0

reason_fails : (w : Work) (why : Stop) (s t : ShareState) → why ≡ stop.Fault → HasReason w why s t → Fails s t
reason_fails Idle why s t is reason = subst (λ x. HasReason Idle x s t) is reason
reason_fails Ended why s t is reason = subst (λ x. HasReason Ended x s t) is reason
reason_fails (Runs running at) why s t is reason = subst (λ x. HasReason (Runs running at) x s t) is reason

module _ (was s t : ShareState) (same : IsSameShare was s) (w : Work) where
  pub found_faults : (found : Option Stop) → IfSome found (λ why. HasReason w why s t) → IfSome found (FaultsWhereListed was)
  found_faults None is = tt
  found_faults (Some why) is = λ fault. failed_there was s t same (reason_fails w why s t fault is)

  stopped_faults : (found : Option Stop) (why : Stop) → IfSome found (FaultsWhereListed was) → HasStopped found w why s t → FaultsWhereListed was why
  stopped_faults None why before is = λ fault. failed_there was s t same (reason_fails w why s t fault is)
  stopped_faults (Some found) why before (inl is) = λ fault. before (sym is ∙ fault)
  stopped_faults (Some found) why before (inr (is, fails)) = λ fault. failed_there was s t same fails

  -- what the trouble with a stop says
  pub trouble_faults : (why : Stop) (result : Result Outcome Trouble) → IfSome (stop_found w) (FaultsWhereListed was) → HasStopped (stop_found w) w why s t →
      IfErr result (IsTroubleOf why) → IfErr result (λ (x : Trouble). x ≡ trouble.Fault → MayFail was)
  trouble_faults why (Ok o) before stopped of = tt
  trouble_faults why (Err x) before stopped of = λ fault. stopped_faults (stop_found w) why before stopped (only why (subst (IsTroubleOf why) fault of))
    where
      only : (why : Stop) → IsTroubleOf why trouble.Fault → why ≡ stop.Fault
      only stop.Fault of = refl
      only stop.Memory of = absurd cc
      only stop.JournalFull of = absurd cc
      only (stop.NotWhole seen) of = absurd cc
      only (stop.Version n) of = absurd cc
      only (stop.Flags n) of = absurd cc
      only (stop.Full need) of = absurd of
      only stop.SequenceEnd of = absurd of
      only stop.ExpiryOff of = absurd of
      only stop.ExpiryRange of = absurd of
      only stop.AlreadyOn of = absurd of
      only stop.AlreadyOff of = absurd of

-- a call that waits has found nothing more
pub waits_faults : (c : TimedCall) (was t : ShareState) (w w' : Work) (result : Step) → RunsAs c w → Waits result → Falls w result w' t → IfSome (stop_found w) (FaultsWhereListed was) →
    IfSome (stop_found w') (FaultsWhereListed was)
waits_faults c was t Idle w' result runs waits falls before = absurd runs
waits_faults c was t Ended w' result runs waits falls before = absurd runs
waits_faults c was t (Runs running at) w' result runs (inl is) falls before =
    let same : w' ≡ Runs running at = subst (λ r. Falls (Runs running at) r w' t) is falls in
    subst (λ x. IfSome (stop_found x) (FaultsWhereListed was)) (sym same) before
waits_faults c was t (Runs running at) w' result runs (inr (holder, is)) falls before =
    let same : w' ≡ Runs running at = subst (λ r. Falls (Runs running at) r w' t) is falls in
    subst (λ x. IfSome (stop_found x) (FaultsWhereListed was)) (sym same) before
