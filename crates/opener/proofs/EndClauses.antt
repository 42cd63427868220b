-- What a stage's clauses say where its call goes on, or is over.
use Rattle.std.proofs.Common.{◌≡◌, ℕ, refl, sym, ◌∙◌, subst, ap, inr, lit≤}
use Rattle.std.specs.Prelude.{Option, Some, None, IfSome, ⊤}
use Rattle.change_log.specs.declared.call.Answer.{Answer}
use Rattle.change_log.specs.declared.call.Call.{Call}
use Rattle.change_log.specs.declared.call.Call.TheVariants as call
use Rattle.lock_rules.specs.declared.table.LockKind.{LockKind}
use Rattle.region_words.specs.Share.{ShareState, Goes, loaded}
use Rattle.loader.specs.declared.loaded.Image.{Image}
use Rattle.opener.specs.State.{OpenerState}
use Rattle.opener.specs.Calls.{IsPlain, holds_after}
use Rattle.opener.specs.Continues.{SameCall}
use Rattle.opener.specs.Ends.{Finishes, GoesOn, Leaves, LeavesBy, answer_of}
use Rattle.opener.specs.Opener.{HasCause, HasReason, KeepsCall, MakesOne, MayEnd, OnAnswer, stop_found}
use Rattle.opener.specs.Steps.{ActsAt, IsStillKept, KeepsImage}
use Rattle.opener.specs.declared.calls.Step.{Step}
use Rattle.opener.specs.declared.calls.Step.TheVariants as step
use Rattle.opener.specs.declared.calls.Stop.{Stop}
use Rattle.opener.specs.declared.calls.Stop.TheVariants as why
use Rattle.opener.specs.declared.work.Running.{Running}
use Rattle.opener.specs.declared.work.End.{End}
use Rattle.opener.specs.declared.work.End.TheVariants as end
use Rattle.opener.specs.declared.work.Stage.{Stage}
use Rattle.opener.specs.declared.work.Stage.TheVariants.{Unlock}
use Rattle.opener.specs.declared.work.Work.{Work}
use Rattle.opener.specs.declared.work.Work.TheVariants.{Idle, Runs}
use Rattle.opener.proofs.StopClauses.{reasoned}

-- a load, or a peek, makes no event
pub loads_once : (s t : ShareState) → Goes (loaded s) s t → MakesOne s t
loads_once s t goes = inr (loaded s, goes.after, lit≤ tt)

-- the same call runs on, at another stage
pub going_call : (who holds : ℕ) (running next : Running) (stage : Stage) (mid : OpenerState) (result : Step) (new : OpenerState) → SameCall running next → mid.holds ≡ holds →
    GoesOn next stage mid result new → KeepsCall who holds running result new
going_call who holds running next stage mid result new same keeps on =
    subst (λ r. KeepsCall who holds running r new) (sym on.0) (subst (λ (n : OpenerState). KeepsCall who holds running step.Going n) (sym on.1) (same, keeps))

-- and no reason to stop was found
pub going_cause : (old : Work) (next : Running) (stage : Stage) (mid : OpenerState) (result : Step) (new : OpenerState) (s t : ShareState) → stop_found (Runs next stage) ≡ None →
    GoesOn next stage mid result new → HasCause old result new.work s t
going_cause old next stage mid result new s t none on =
    subst (λ r. HasCause old r new.work s t) (sym on.0)
    (subst (λ (n : OpenerState). HasCause old step.Going n.work s t) (sym on.1) (subst (λ f. IfSome f (λ stop. HasReason old stop s t)) (sym none) tt))

pub going_answer : (next : Running) (stage : Stage) (mid : OpenerState) (result : Step) (new : OpenerState) (P : Answer → Type 0) → GoesOn next stage mid result new → OnAnswer result P
going_answer next stage mid result new P on = subst (λ r. OnAnswer r P) (sym on.0) tt

-- a call that finds a map or changes it leaves the holds
pub plain_holds : (asked : Call) (holds : ℕ) → IsPlain asked → holds_after asked holds ≡ holds
plain_holds (call.Get key) holds plain = refl
plain_holds call.Keys holds plain = refl
plain_holds call.Count holds plain = refl
plain_holds call.Sync holds plain = refl
plain_holds (call.Put key value seconds) holds plain = refl
plain_holds (call.Remove key) holds plain = refl
plain_holds call.Clear holds plain = refl
plain_holds (call.Enable seconds) holds plain = refl
plain_holds call.Disable holds plain = refl
plain_holds call.Hold holds plain = absurd plain
plain_holds call.Release holds plain = absurd plain

stop_call : (who holds : ℕ) (running : Running) (stop : Stop) (new : OpenerState) → MayEnd (end.Stop stop) → new.work ≡ Idle → new.holds ≡ holds →
    KeepsCall who holds running (step.Stopped stop) new
stop_call who holds running why.Fault new may idle keeps = absurd may
stop_call who holds running why.Memory new may idle keeps = (idle, keeps)
stop_call who holds running why.JournalFull new may idle keeps = (idle, keeps)
stop_call who holds running (why.NotWhole seen) new may idle keeps = (idle, keeps)
stop_call who holds running (why.Version n) new may idle keeps = (idle, keeps)
stop_call who holds running (why.Flags n) new may idle keeps = (idle, keeps)
stop_call who holds running (why.Full n) new may idle keeps = (idle, keeps)
stop_call who holds running why.SequenceEnd new may idle keeps = (idle, keeps)
stop_call who holds running why.ExpiryOff new may idle keeps = (idle, keeps)
stop_call who holds running why.ExpiryRange new may idle keeps = (idle, keeps)
stop_call who holds running why.AlreadyOn new may idle keeps = (idle, keeps)
stop_call who holds running why.AlreadyOff new may idle keeps = (idle, keeps)

-- a call that ends so is the call that ran
pub finishes_call : (who holds : ℕ) (running next : Running) (how : End) (ended : ℕ) (mid : OpenerState) (result : Step) (new : OpenerState) → SameCall running next → IsPlain running.call →
    MayEnd how → mid.who ≡ who → mid.holds ≡ holds → Finishes next how ended mid result new → KeepsCall who holds running result new
finishes_call who holds running next (end.Answer place reply) ended mid result new same plain may by keeps is =
    subst (λ r. KeepsCall who holds running r new) (sym is.0) (
      record { by = by; call_is = same.call; moment = same.now; begun = same.begun },
      ap (λ (n : OpenerState). n.work) is.1,
      ap (λ (n : OpenerState). n.holds) is.1 ∙ keeps ∙ sym (plain_holds running.call holds plain),
    )
finishes_call who holds running next (end.Stop stop) ended mid result new same plain may by keeps is =
    subst (λ r. KeepsCall who holds running r new) (sym is.0)
    (stop_call who holds running stop new may (ap (λ (n : OpenerState). n.work) is.1) (ap (λ (n : OpenerState). n.holds) is.1 ∙ keeps))

-- and so is one that leaves
pub leaves_call : (who holds : ℕ) (running next : Running) (how : End) (ended : ℕ) (mid : OpenerState) (result : Step) (new : OpenerState) → SameCall running next → IsPlain running.call →
    MayEnd how → mid.who ≡ who → mid.holds ≡ holds → Leaves next how ended mid result new → KeepsCall who holds running result new
leaves_call who holds running next how ended mid result new same plain may by keeps leaves = go next.taken leaves
  where
    go : (taken : Option LockKind) → LeavesBy taken next how ended mid result new → KeepsCall who holds running result new
    go (Some kind) is = going_call who holds running next (Unlock how) mid result new same keeps is
    go None is = finishes_call who holds running next how ended mid result new same plain may by keeps is

-- an end that is a stop has its reason
abbrev pub EndHasReason : Work → End → ShareState → ShareState → Type 0
EndHasReason old (end.Answer place reply) s t = ⊤
EndHasReason old (end.Stop stop) s t = HasReason old stop s t

-- and is found where the call leaves
pub leaves_cause : (old : Work) (next : Running) (how : End) (ended : ℕ) (mid : OpenerState) (result : Step) (new : OpenerState) (s t : ShareState) → stop_found old ≡ None →
    EndHasReason old how s t → Leaves next how ended mid result new → HasCause old result new.work s t
leaves_cause old next how ended mid result new s t none reason leaves = go next.taken how reason leaves
  where
    go : (taken : Option LockKind) (how : End) → EndHasReason old how s t → LeavesBy taken next how ended mid result new → HasCause old result new.work s t
    go None (end.Answer place reply) reason is = subst (λ r. HasCause old r new.work s t) (sym is.0) tt
    go None (end.Stop stop) reason is = subst (λ r. HasCause old r new.work s t) (sym is.0) (reasoned old stop s t none reason)
    go (Some kind) (end.Answer place reply) reason is =
        subst (λ r. HasCause old r new.work s t) (sym is.0) (subst (λ (n : OpenerState). HasCause old step.Going n.work s t) (sym is.1) tt)
    go (Some kind) (end.Stop stop) reason is =
        subst (λ r. HasCause old r new.work s t) (sym is.0) (subst (λ (n : OpenerState). HasCause old step.Going n.work s t) (sym is.1) reason)

-- what it did at its stage where it goes on
pub going_acts : (here : Stage) (old : Option Image) (next : Running) (stage : Stage) (mid : OpenerState) (result : Step) (new : OpenerState) (s t : ShareState) → ActsAt step.Going here old (Runs next stage) s t →
    GoesOn next stage mid result new → ActsAt result here old new.work s t
going_acts here old next stage mid result new s t carried on =
    subst (λ r. ActsAt r here old new.work s t) (sym on.0) (subst (λ (n : OpenerState). ActsAt step.Going here old n.work s t) (sym on.1) carried)

-- what it did where it ends with an answer
abbrev pub EndActs : End → Stage → Option Image → Work → ShareState → ShareState → Type 0
EndActs (end.Answer place reply) here old new s t = (a : Answer) → ActsAt (step.Answered a) here old new s t
EndActs (end.Stop why) here old new s t = ⊤

-- or with any end
pub end_acts : (how : End) (here : Stage) (old : Option Image) (new : Work) (s t : ShareState) → ((a : Answer) → ActsAt (step.Answered a) here old new s t) → EndActs how here old new s t
end_acts (end.Answer place reply) here old new s t acts = acts
end_acts (end.Stop why) here old new s t acts = tt

pub finishes_acts : (here : Stage) (old : Option Image) (next : Running) (how : End) (ended : ℕ) (mid : OpenerState) (result : Step) (new : OpenerState) (s t : ShareState) →
    EndActs how here old new.work s t → Finishes next how ended mid result new → ActsAt result here old new.work s t
finishes_acts here old next (end.Answer place reply) ended mid result new s t carried is = subst (λ r. ActsAt r here old new.work s t) (sym is.0) (carried (answer_of mid.who next place ended reply))
finishes_acts here old next (end.Stop stop) ended mid result new s t carried is = subst (λ r. ActsAt r here old new.work s t) (sym is.0) tt

pub leaves_acts : (here : Stage) (old : Option Image) (next : Running) (how : End) (ended : ℕ) (mid : OpenerState) (result : Step) (new : OpenerState) (s t : ShareState) →
    ActsAt step.Going here old (Runs next (Unlock how)) s t → EndActs how here old new.work s t → Leaves next how ended mid result new → ActsAt result here old new.work s t
leaves_acts here old next how ended mid result new s t goes answers leaves = go next.taken leaves
  where
    go : (taken : Option LockKind) → LeavesBy taken next how ended mid result new → ActsAt result here old new.work s t
    go None is = finishes_acts here old next how ended mid result new s t answers is
    go (Some kind) is = going_acts here old next (Unlock how) mid result new s t goes is

-- and the image is kept on
pub going_image : (here : Stage) (next : Running) (stage : Stage) (mid : OpenerState) (old : Option Image) (result : Step) (new : OpenerState) (t : ShareState) →
    IsStillKept (Runs next stage) mid.image here old → GoesOn next stage mid result new → KeepsImage result here old new t
going_image here next stage mid old result new t keeps on =
    subst (λ r. KeepsImage r here old new t) (sym on.0) (subst (λ (n : OpenerState). KeepsImage step.Going here old n t) (sym on.1) keeps)
