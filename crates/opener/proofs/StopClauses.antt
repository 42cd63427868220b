-- What a stage's clauses say where its call on the share was not answered.
use Rattle.std.proofs.Common.{◌≡◌, refl, sym, ◌∙◌, subst, ap, inl, inr, lit≤}
use Rattle.std.specs.Prelude.{Option, Some, None}
use Rattle.change_log.specs.declared.call.Answer.{Answer}
use Rattle.lock_rules.specs.declared.table.LockKind.{LockKind}
use Rattle.region_words.specs.Share.{ShareState, Fails, Stops, StopsTrying, failed, turned_away, unmoved}
use Rattle.region_words.specs.declared.stops.ShareStop.{ShareStop}
use Rattle.region_words.specs.declared.stops.ShareStop.TheVariants.{Failed, Turn, Memory, JournalFull}
use Rattle.opener.specs.State.{OpenerState}
use Rattle.opener.specs.Calls.{AfterStop, IsTried}
use Rattle.opener.specs.Continues.{SameCall}
use Rattle.opener.specs.Steps.{ActsAt, KeepsImage, TakesTried}
use Rattle.opener.specs.Opener.{HasCause, HasReason, HasStopped, KeepsCall, MakesOne, OnAnswer, stop_found}
use Rattle.opener.specs.declared.calls.Step.{Step}
use Rattle.opener.specs.declared.calls.Step.TheVariants as step
use Rattle.opener.specs.declared.calls.Stop.{Stop}
use Rattle.opener.specs.declared.calls.Stop.TheVariants as why
use Rattle.opener.specs.declared.work.Running.{Running}
use Rattle.opener.specs.declared.work.Stage.{Stage}
use Rattle.opener.specs.declared.work.Work.{Work}
use Rattle.opener.specs.declared.work.Work.TheVariants.{Runs}

-- a peek fails alone
pub failed_stops : (stop : ShareStop) (s t : ShareState) → stop ≡ Failed → Fails s t → Stops stop s t
failed_stops stop s t e fails = subst (λ z. Stops z s t) (sym e) fails

-- it made at most one event, a death
pub stopped_makes : (stop : ShareStop) (s t : ShareState) → Stops stop s t → MakesOne s t
stopped_makes Turn s t stops = inr (turned_away s, stops.after, lit≤ tt)
stopped_makes Failed s t stops = inr (failed s, stops.after, lit≤ tt)
stopped_makes Memory s t stops = absurd stops
stopped_makes JournalFull s t stops = absurd stops

pub tried_makes : (kind : LockKind) (stop : ShareStop) (s t : ShareState) → StopsTrying kind stop s t → MakesOne s t
tried_makes kind Turn s t stops = inr (turned_away s, stops.after, lit≤ tt)
tried_makes kind Failed s t stops = inr (failed s, stops.after, lit≤ tt)
tried_makes kind Memory s t stops = inr (unmoved s, stops.0.after, lit≤ tt)
tried_makes kind JournalFull s t stops = inr (unmoved s, stops.0.after, lit≤ tt)

pub same_call : (running : Running) → SameCall running running
same_call running = record { call = refl; now = refl; begun = refl }

-- the call waits for its turn, or is stopped
pub stopped_call : (stop : ShareStop) (o : OpenerState) (running : Running) (stage : Stage) (result : Step) (new : OpenerState) → AfterStop stop o running stage result new →
    KeepsCall o.who o.holds running result new
stopped_call Turn o running stage result new after =
    subst (λ r. KeepsCall o.who o.holds running r new) (sym after.0)
    (subst (λ (n : OpenerState). KeepsCall o.who o.holds running step.Again n) (sym after.1) (same_call running, refl))
stopped_call Failed o running stage result new after = subst (λ r. KeepsCall o.who o.holds running r new) (sym after.0) (after.4, after.2)
stopped_call Memory o running stage result new after = subst (λ r. KeepsCall o.who o.holds running r new) (sym after.0) (after.1.3, after.1.1)
stopped_call JournalFull o running stage result new after = subst (λ r. KeepsCall o.who o.holds running r new) (sym after.0) (after.1.3, after.1.1)

-- nothing is answered
pub stopped_answer : (stop : ShareStop) (o : OpenerState) (running : Running) (stage : Stage) (result : Step) (new : OpenerState) (P : Answer → Type 0) →
    AfterStop stop o running stage result new → OnAnswer result P
stopped_answer Turn o running stage result new P after = subst (λ r. OnAnswer r P) (sym after.0) tt
stopped_answer Failed o running stage result new P after = subst (λ r. OnAnswer r P) (sym after.0) tt
stopped_answer Memory o running stage result new P after = subst (λ r. OnAnswer r P) (sym after.0) tt
stopped_answer JournalFull o running stage result new P after = subst (λ r. OnAnswer r P) (sym after.0) tt

-- a fault is a reason at any work
pub fault_reason : (old : Work) (s t : ShareState) → Fails s t → HasStopped (stop_found old) old why.Fault s t
fault_reason old s t fails = go (stop_found old)
  where
    go : (found : Option Stop) → HasStopped found old why.Fault s t
    go None = fails
    go (Some stop) = inr (refl, fails)

-- where no reason was found before, this is one
pub reasoned : (old : Work) (stop : Stop) (s t : ShareState) → stop_found old ≡ None → HasReason old stop s t → HasStopped (stop_found old) old stop s t
reasoned old stop s t none reason = subst (λ f. HasStopped f old stop s t) (sym none) reason

-- and so is the cause
pub stopped_cause : (stop : ShareStop) (o : OpenerState) (running : Running) (stage : Stage) (result : Step) (new : OpenerState) (s t : ShareState) →
    AfterStop stop o running stage result new → Stops stop s t → HasCause (Runs running stage) result new.work s t
stopped_cause Turn o running stage result new s t after stops =
    subst (λ r. HasCause (Runs running stage) r new.work s t) (sym after.0) (stops, ap (λ (n : OpenerState). n.work) after.1)
stopped_cause Failed o running stage result new s t after stops =
    subst (λ r. HasCause (Runs running stage) r new.work s t) (sym after.0) (fault_reason (Runs running stage) s t stops)
stopped_cause Memory o running stage result new s t after stops = absurd stops
stopped_cause JournalFull o running stage result new s t after stops = absurd stops

pub tried_cause : (kind : LockKind) (stop : ShareStop) (o : OpenerState) (running : Running) (stage : Stage) (result : Step) (new : OpenerState) (s t : ShareState) →
    stop_found (Runs running stage) ≡ None → IsTried (Runs running stage) kind → AfterStop stop o running stage result new → StopsTrying kind stop s t → HasCause (Runs running stage) result new.work s t
tried_cause kind Turn o running stage result new s t none is_tried after stops =
    subst (λ r. HasCause (Runs running stage) r new.work s t) (sym after.0) (stops, ap (λ (n : OpenerState). n.work) after.1)
tried_cause kind Failed o running stage result new s t none is_tried after stops =
    subst (λ r. HasCause (Runs running stage) r new.work s t) (sym after.0) (fault_reason (Runs running stage) s t stops)
tried_cause kind Memory o running stage result new s t none is_tried after stops =
    subst (λ r. HasCause (Runs running stage) r new.work s t) (sym after.0) (reasoned (Runs running stage) why.Memory s t none tt)
tried_cause kind JournalFull o running stage result new s t none is_tried after stops =
    subst (λ r. HasCause (Runs running stage) r new.work s t) (sym after.0) (reasoned (Runs running stage) why.JournalFull s t none (inl (kind, is_tried, stops)))

-- it takes no lock
module _ (work : Work) (s t : ShareState) where
  pub takes_same : t.holds ≡ s.holds → TakesTried work s t
  takes_same same kind none some = let both = sym none ∙ (sym same ∙ some) in absurd cc

  pub takes_none : t.holds ≡ None → TakesTried work s t
  takes_none free kind none some = let both = sym free ∙ some in absurd cc

pub stopped_takes : (work : Work) (stop : ShareStop) (s t : ShareState) → Stops stop s t → TakesTried work s t
stopped_takes work Turn s t stops = takes_same work s t stops.after.holds
stopped_takes work Failed s t stops = takes_none work s t stops.after.holds
stopped_takes work Memory s t stops = absurd stops
stopped_takes work JournalFull s t stops = absurd stops

pub tried_takes : (work : Work) (kind : LockKind) (stop : ShareStop) (s t : ShareState) → StopsTrying kind stop s t → TakesTried work s t
tried_takes work kind Turn s t stops = takes_same work s t stops.after.holds
tried_takes work kind Failed s t stops = takes_none work s t stops.after.holds
tried_takes work kind Memory s t stops = takes_same work s t stops.0.after.holds
tried_takes work kind JournalFull s t stops = takes_same work s t stops.0.after.holds

-- and carries nothing out
pub stopped_acts : (stop : ShareStop) (o : OpenerState) (running : Running) (stage : Stage) (result : Step) (new : OpenerState) (s t : ShareState) → AfterStop stop o running stage result new →
    ActsAt result stage o.image new.work s t
stopped_acts Turn o running stage result new s t after = subst (λ r. ActsAt r stage o.image new.work s t) (sym after.0) tt
stopped_acts Failed o running stage result new s t after = subst (λ r. ActsAt r stage o.image new.work s t) (sym after.0) tt
stopped_acts Memory o running stage result new s t after = subst (λ r. ActsAt r stage o.image new.work s t) (sym after.0) tt
stopped_acts JournalFull o running stage result new s t after = subst (λ r. ActsAt r stage o.image new.work s t) (sym after.0) tt

-- what waits keeps its image, and what stops keeps none
pub stopped_image : (stop : ShareStop) (o : OpenerState) (running : Running) (stage : Stage) (result : Step) (new : OpenerState) (t : ShareState) → AfterStop stop o running stage result new →
    KeepsImage result stage o.image new t
stopped_image Turn o running stage result new t after = subst (λ r. KeepsImage r stage o.image new t) (sym after.0) (ap (λ (n : OpenerState). n.image) after.1)
stopped_image Failed o running stage result new t after = subst (λ r. KeepsImage r stage o.image new t) (sym after.0) after.3
stopped_image Memory o running stage result new t after = subst (λ r. KeepsImage r stage o.image new t) (sym after.0) after.1.2
stopped_image JournalFull o running stage result new t after = subst (λ r. KeepsImage r stage o.image new t) (sym after.0) after.1.2
