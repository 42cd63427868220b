-- What a call has counted at a stage, and which answers need a load of the region or a change.
use Rattle.std.specs.Prelude.{◌≡◌, ◌≤◌, ℕ, ◌+◌, ◌-◌, ◌/◌, Option, Some, Bool, true, false, nat_lt, ◌||◌, min, not, ⊤}
use Rattle.change_log.specs.declared.call.Answer.{Answer}
use Rattle.loader.specs.Loads.{loads_of}
use Rattle.loader.specs.PartialLoads.{loads_made}
use Rattle.loader.specs.declared.loaded.Image.{Image}
use Rattle.opener.specs.declared.calls.Step.{Step}
use Rattle.opener.specs.declared.calls.Step.TheVariants as step
use Rattle.opener.specs.declared.work.End.TheVariants as end
use Rattle.opener.specs.declared.work.Extent.TheVariants.{Partial, Full}
use Rattle.opener.specs.declared.work.Running.{Running}
use Rattle.opener.specs.declared.work.Stage.{Stage}
use Rattle.opener.specs.declared.work.Stage.TheVariants.{PeekChecksum, PeekSequence, LockShared, LockExclusive, Continue, Load, Size, Unlock, Hold, Release}
use Rattle.opener.specs.declared.work.Work.{Work}
use Rattle.opener.specs.declared.work.Work.TheVariants.{Runs}

-- an answer that is given at this stage needs no load of the region
abbrev pub answers_by_look : Stage → Bool
answers_by_look (PeekSequence peek) = true
answers_by_look Hold = true
answers_by_look Release = true
answers_by_look _ = false

-- an answer that counts more than two loads, or a store
abbrev pub is_fresh : Answer → Bool
is_fresh a = nat_lt 2 a.loads || nat_lt 0 a.stores

abbrev pub CountsNone : Running → Type 0
CountsNone running = (running.loads ≡ 0) × (running.stores ≡ 0)

-- what a call has counted at a stage, as far as it tells a look from a load of the region
abbrev pub HasCounted : Stage → Running → Type 0
HasCounted PeekChecksum running = CountsNone running
HasCounted (PeekSequence peek) running = (running.loads ≡ 1) × (running.stores ≡ 0)
HasCounted LockExclusive running = CountsNone running
HasCounted Hold running = CountsNone running
HasCounted Release running = CountsNone running
HasCounted (LockShared Partial) running = (running.loads ≡ 2) × (running.stores ≡ 0)
HasCounted (LockShared Full) running = ⊤
HasCounted (Continue loading) running = running.loads ≡ 2 + loads_made loading
HasCounted (Load loading) running = min 3 (loads_of loading) ≤ running.loads
HasCounted Size running = 2 ≤ running.loads
HasCounted (Unlock (end.Stop why)) running = ⊤
HasCounted _ running = 3 ≤ running.loads

abbrev pub CountsSoFar : Work → Type 0
CountsSoFar (Runs running at) = HasCounted at running
CountsSoFar _ = ⊤

-- an answer after two looks has counted both, and no store
abbrev pub CountsLooks : Stage → Answer → Type 0
CountsLooks (PeekSequence peek) a = (a.loads ≡ 2) × (a.stores ≡ 0)
CountsLooks at a = ⊤

-- So it counts on. An answer is fresh just where it isn't given after a look, nor by a hold or a release.
abbrev pub CountedBy : Step → Stage → Work → Type 0
CountedBy (step.Answered a) at new = (is_fresh a ≡ not (answers_by_look at)) × CountsLooks at a
CountedBy (step.Stopped why) at new = ⊤
CountedBy _ at new = CountsSoFar new

-- the loads of a call that goes on, or of its answer
abbrev pub loads_counted : Step → Work → ℕ
loads_counted (step.Answered a) new = a.loads
loads_counted result (Runs running at) = running.loads
loads_counted result _ = 0

-- a call whose partial load gave this image counts, with its two peeks, at most eight loads and one for each four bytes that were appended
abbrev pub LoadsFew : Option Image → Stage → ℕ → Type 0
LoadsFew (Some i) (Continue loading) loads = loads ≤ (i.standing.size - loading.kept.size + 3) / 4 + 8
LoadsFew image at loads = ⊤
