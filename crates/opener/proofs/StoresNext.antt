-- Which stores are under way after a step.
use Rattle.std.proofs.Common.{◌≡◌, ℕ, true, false, Bool, refl, sym, subst}
use Rattle.std.specs.Prelude.{Option, Some, None}
use Rattle.lock_rules.specs.declared.table.LockKind.{LockKind}
use Rattle.region_words.specs.declared.stops.ShareStop.{ShareStop}
use Rattle.region_words.specs.declared.stops.ShareStop.TheVariants.{Turn, Failed, Memory, JournalFull}
use Rattle.loader.specs.declared.loaded.Image.{Image}
use Rattle.opener.specs.State.{OpenerState}
use Rattle.opener.specs.Calls.{AfterStop, is_write}
use Rattle.opener.specs.Ends.{Finishes, GoesOn, IsDone, IsReady, IsReadyBy, Leaves, LeavesBy, Notices, ReadsBy, Waits, lock_by}
use Rattle.opener.specs.Opener.{is_storing}
use Rattle.opener.specs.Steps.{LeavesStores}
use Rattle.opener.specs.declared.calls.Step.{Step}
use Rattle.opener.specs.declared.calls.Step.TheVariants as step
use Rattle.opener.specs.declared.work.Running.{Running}
use Rattle.opener.specs.declared.work.End.{End}
use Rattle.opener.specs.declared.work.End.TheVariants as end
use Rattle.opener.specs.declared.work.Stage.{Stage}
use Rattle.opener.specs.declared.work.Stage.TheVariants as stage
use Rattle.opener.specs.declared.work.Work.TheVariants.{Runs}

-- where the call goes on
pub going_stores : (here : Stage) (next : Running) (to : Stage) (mid : OpenerState) (result : Step) (new : OpenerState) → LeavesStores step.Going here (Runs next to) → GoesOn next to mid result new →
    LeavesStores result here new.work
going_stores here next to mid result new then on =
    subst (λ r. LeavesStores r here new.work) (sym on.0) (subst (λ (n : OpenerState). LeavesStores step.Going here n.work) (sym on.1) then)

-- where it is over there are none
pub finishes_stores : (here : Stage) (next : Running) (how : End) (ended : ℕ) (mid : OpenerState) (result : Step) (new : OpenerState) → Finishes next how ended mid result new →
    LeavesStores result here new.work
finishes_stores here next (end.Answer place reply) ended mid result new is = subst (λ (n : OpenerState). LeavesStores result here n.work) (sym is.1) tt
finishes_stores here next (end.Stop why) ended mid result new is = subst (λ (n : OpenerState). LeavesStores result here n.work) (sym is.1) tt

-- nor where it leaves
pub leaves_stores : (here : Stage) (next : Running) (how : End) (ended : ℕ) (mid : OpenerState) (result : Step) (new : OpenerState) → Leaves next how ended mid result new →
    LeavesStores result here new.work
leaves_stores here next how ended mid result new leaves = go next.taken leaves
  where
    go : (taken : Option LockKind) → LeavesBy taken next how ended mid result new → LeavesStores result here new.work
    go None is = finishes_stores here next how ended mid result new is
    go (Some kind) is = going_stores here next (stage.Unlock how) mid result new tt is

-- nor where its image is current
pub ready_stores : (here : Stage) (next : Running) (place ended : ℕ) (mid : OpenerState) (result : Step) (new : OpenerState) → IsReady next place ended mid result new → LeavesStores result here new.work
ready_stores here next place ended mid result new ready = go (is_write next.call) ready
  where
    go : (b : Bool) → IsReadyBy b next place ended mid result new → LeavesStores result here new.work
    go true on = going_stores here next stage.Size mid result new tt on
    go false (how, replies, leaves) = leaves_stores here next how ended mid result new leaves

-- nor where it looks at the region
pub notices_stores : (here : Stage) (next : Running) (image : Option Image) (holds : ℕ) (taken : Option LockKind) (to : Stage) → Notices image holds taken to → LeavesStores step.Going here (Runs next to)
notices_stores here next (Some i) holds taken to is = subst (λ z. LeavesStores step.Going here (Runs next z)) (sym is) tt
notices_stores here next None holds taken to reads = go (lock_by holds taken) reads
  where
    go : (lock : Option LockKind) → ReadsBy lock to → LeavesStores step.Going here (Runs next to)
    go None is = subst (λ z. LeavesStores step.Going here (Runs next z)) (sym is) tt
    go (Some kind) (loading, is, fresh) = subst (λ z. LeavesStores step.Going here (Runs next z)) (sym is) tt

-- where a hold or a release is answered there are none
pub done_stores : (here : Stage) (next : Running) (holds place : ℕ) (o : OpenerState) (result : Step) (new : OpenerState) → IsDone next holds place o result new → LeavesStores result here new.work
done_stores here next holds place o result new done = subst (λ (n : OpenerState). LeavesStores result here n.work) (sym done.1) tt

-- where the call waits, at a stage without stores
pub waits_stores : (here : Stage) (running : Running) (holder : ℕ) (o : OpenerState) (result : Step) (new : OpenerState) → is_storing (Runs running here) ≡ false → Waits running here holder o result new →
    LeavesStores result here new.work
waits_stores here running holder o result new calm waits = subst (λ (n : OpenerState). LeavesStores result here n.work) (sym waits.1) (go here calm)
  where
    go : (at : Stage) → is_storing (Runs running at) ≡ false → LeavesStores result at (Runs running at)
    go stage.PeekChecksum calm = tt
    go (stage.PeekSequence peek) calm = tt
    go (stage.LockShared extent) calm = tt
    go stage.LockExclusive calm = tt
    go (stage.Continue loading) calm = tt
    go (stage.Load loading) calm = tt
    go stage.Size calm = tt
    go (stage.Reserve plan) calm = tt
    go (stage.Store plan) calm = absurd cc
    go (stage.Unlock how) calm = tt
    go stage.Hold calm = tt
    go stage.Release calm = tt

-- where the step was not made they are as before, and where the call stops there are none
pub stopped_stores : (stop : ShareStop) (o : OpenerState) (running : Running) (here : Stage) (result : Step) (new : OpenerState) → AfterStop stop o running here result new → LeavesStores result here new.work
stopped_stores Turn o running here result new after =
    subst (λ r. LeavesStores r here new.work) (sym after.0) (subst (λ (n : OpenerState). LeavesStores step.Again here n.work) (sym after.1) (go here))
  where
    go : (at : Stage) → LeavesStores step.Again at (Runs running at)
    go stage.PeekChecksum = tt
    go (stage.PeekSequence peek) = tt
    go (stage.LockShared extent) = tt
    go stage.LockExclusive = tt
    go (stage.Continue loading) = tt
    go (stage.Load loading) = tt
    go stage.Size = tt
    go (stage.Reserve plan) = tt
    go (stage.Store plan) = refl
    go (stage.Unlock how) = tt
    go stage.Hold = tt
    go stage.Release = tt
stopped_stores Failed o running here result new after = subst (λ w. LeavesStores result here w) (sym after.4) tt
stopped_stores Memory o running here result new after = subst (λ w. LeavesStores result here w) (sym after.1.3) tt
stopped_stores JournalFull o running here result new after = subst (λ w. LeavesStores result here w) (sym after.1.3) tt
