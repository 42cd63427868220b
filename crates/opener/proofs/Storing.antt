-- What a call has stored by a step.
use Rattle.std.proofs.Common.{◌≡◌, ℕ, List, [], refl, sym, subst}
use Rattle.std.specs.Prelude.{Option, Some, None}
use Rattle.change_log.specs.declared.call.Reply.{Reply}
use Rattle.lock_rules.specs.declared.table.LockKind.{LockKind}
use Rattle.region_words.specs.declared.event.What.{What}
use Rattle.opener.specs.State.{OpenerState}
use Rattle.opener.specs.Adds.{AreStored, AreStoredAt, AreStoredBy}
use Rattle.opener.specs.Ends.{Finishes, GoesOn, Leaves, LeavesBy}
use Rattle.opener.specs.declared.calls.Step.{Step}
use Rattle.opener.specs.declared.calls.Step.TheVariants as step
use Rattle.opener.specs.declared.calls.Stop.{Stop}
use Rattle.opener.specs.declared.calls.Stop.TheVariants as why
use Rattle.opener.specs.declared.plan.Plan.{Plan}
use Rattle.opener.specs.declared.work.Running.{Running}
use Rattle.opener.specs.declared.work.End.{End}
use Rattle.opener.specs.declared.work.End.TheVariants as end
use Rattle.opener.specs.declared.work.Stage.{Stage}
use Rattle.opener.specs.declared.work.Stage.TheVariants as stage
use Rattle.opener.specs.declared.work.Work.{Work}
use Rattle.opener.specs.declared.work.Work.TheVariants.{Idle, Ended, Runs}

-- at this stage a call has stored nothing
abbrev pub StoresNothing : Stage → Type 0
StoresNothing at = (stored : List What) → AreStoredAt at stored → stored ≡ []

-- what this step makes of what was stored before, where its events store nothing
abbrev pub KeepsStored : Stage → Step → Work → Type 0
KeepsStored at result new = (stored : List What) → AreStoredAt at stored → AreStoredBy result new stored

-- a call may have stored nothing at each stage
nothing_at : (at : Stage) → AreStoredAt at []
nothing_at stage.PeekChecksum = refl
nothing_at (stage.PeekSequence peek) = refl
nothing_at (stage.LockShared extent) = refl
nothing_at stage.LockExclusive = refl
nothing_at (stage.Continue loading) = refl
nothing_at (stage.Load loading) = refl
nothing_at stage.Size = refl
nothing_at (stage.Reserve plan) = refl
nothing_at (stage.Store plan) = tt
nothing_at (stage.Unlock (end.Answer place reply)) = tt
nothing_at (stage.Unlock (end.Stop stop)) = refl
nothing_at stage.Hold = refl
nothing_at stage.Release = refl

nothing_in : (work : Work) → AreStored work []
nothing_in Idle = tt
nothing_in Ended = tt
nothing_in (Runs running at) = nothing_at at

nothing_stopped : (stop : Stop) (new : Work) → AreStoredBy (step.Stopped stop) new []
nothing_stopped why.Fault new = tt
nothing_stopped why.Memory new = refl
nothing_stopped why.JournalFull new = refl
nothing_stopped (why.NotWhole seen) new = refl
nothing_stopped (why.Version n) new = refl
nothing_stopped (why.Flags n) new = refl
nothing_stopped (why.Full need) new = refl
nothing_stopped why.SequenceEnd new = refl
nothing_stopped why.ExpiryOff new = refl
nothing_stopped why.ExpiryRange new = refl
nothing_stopped why.AlreadyOn new = refl
nothing_stopped why.AlreadyOff new = refl

-- and so whatever a step comes to
nothing_stored : (result : Step) (new : Work) → AreStoredBy result new []
nothing_stored step.Idle new = nothing_in new
nothing_stored step.Going new = nothing_in new
nothing_stored step.Again new = nothing_in new
nothing_stored (step.Blocked holder) new = nothing_in new
nothing_stored (step.Answered a) new = tt
nothing_stored (step.Stopped stop) new = nothing_stopped stop new

pub calm_stored : (at : Stage) (result : Step) (new : Work) → StoresNothing at → KeepsStored at result new
calm_stored at result new calm stored are = subst (AreStoredBy result new) (sym (calm stored are)) (nothing_stored result new)

-- whatever is stored, the call may go on with its stores or with an answer
module _ (running : Running) (mid : OpenerState) (result : Step) (new : OpenerState) (stored : List What) where
  pub storing_on : (plan : Plan) → GoesOn running (stage.Store plan) mid result new → AreStoredBy result new.work stored
  storing_on plan on = subst (λ r. AreStoredBy r new.work stored) (sym on.0) (subst (λ (n : OpenerState). AreStored n.work stored) (sym on.1) tt)

  answering_on : (place : ℕ) (reply : Reply) → GoesOn running (stage.Unlock (end.Answer place reply)) mid result new → AreStoredBy result new.work stored
  answering_on place reply on = subst (λ r. AreStoredBy r new.work stored) (sym on.0) (subst (λ (n : OpenerState). AreStored n.work stored) (sym on.1) tt)

  pub answers_stored : (place ended : ℕ) (reply : Reply) → Leaves running (end.Answer place reply) ended mid result new → AreStoredBy result new.work stored
  answers_stored place ended reply leaves = go running.taken leaves
    where
      go : (taken : Option LockKind) → LeavesBy taken running (end.Answer place reply) ended mid result new → AreStoredBy result new.work stored
      go None is = subst (λ r. AreStoredBy r new.work stored) (sym is.0) tt
      go (Some kind) is = answering_on place reply is

-- the call is over once its lock is given up
pub finishes_stored : (running : Running) (mid : OpenerState) (result : Step) (new : OpenerState) (how : End) (ended : ℕ) → Finishes running how ended mid result new →
    KeepsStored (stage.Unlock how) result new.work
finishes_stored running mid result new (end.Answer place reply) ended is stored are = subst (λ r. AreStoredBy r new.work stored) (sym is.0) tt
finishes_stored running mid result new (end.Stop stop) ended is stored none = calm_stored (stage.Unlock (end.Stop stop)) result new.work (λ so_far nothing. nothing) stored none
