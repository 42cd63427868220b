-- What a step adds to the call that runs: events and loads, what they change, and what is counted.
use Rattle.std.specs.Prelude.{◌≡◌, ℕ, ◌+◌, ◌⊎◌, Bool, true, false, List, [], ◌++◌, Option, Some, None, length, filter, ◌==◌, if◌then◌else◌, ⊤}
use Rattle.change_log.specs.Settled.{AreOfCall, AreBegun}
use Rattle.change_log.specs.declared.change.Change.{Change}
use Rattle.lock_rules.specs.declared.table.LockKind.{LockKind}
use Rattle.region_words.specs.Answered.{is_store}
use Rattle.region_words.specs.Outside.{one_more}
use Rattle.region_words.specs.Share.{ShareState, Grows}
use Rattle.region_words.specs.Told.{OnBoth}
use Rattle.region_words.specs.declared.event.What.{What}
use Rattle.region_words.specs.declared.event.What.TheVariants as what
use Rattle.opener.specs.Counted.{counted}
use Rattle.opener.specs.Writes.{commits_of, commits_in}
use Rattle.opener.specs.declared.calls.Step.{Step}
use Rattle.opener.specs.declared.calls.Step.TheVariants as step
use Rattle.opener.specs.declared.calls.Stop.TheVariants.{Fault}
use Rattle.opener.specs.declared.work.Running.{Running}
use Rattle.opener.specs.declared.work.End.TheVariants as end
use Rattle.opener.specs.declared.work.Stage.{Stage}
use Rattle.opener.specs.declared.work.Stage.TheVariants.{Store, Unlock}
use Rattle.opener.specs.declared.work.Work.{Work}
use Rattle.opener.specs.declared.work.Work.TheVariants.{Runs}

-- what a call has changed by a stage: nothing before its stores, and all that it changes once they are made
abbrev pub AreMadeAt : ℕ → Running → Stage → List Change → Type 0
AreMadeAt who running (Store plan) made = AreOfCall who running.call running.now (made ++ commits_in plan)
AreMadeAt who running (Unlock (end.Answer place reply)) made = AreOfCall who running.call running.now made
AreMadeAt who running _ made = made ≡ []

-- what the call that runs has changed
abbrev pub AreMade : ℕ → Work → List Change → Type 0
AreMade who (Runs running stage) made = AreMadeAt who running stage made
AreMade who _ made = made ≡ []

-- what a call has changed once a step came to this: all where it is answered, the first part, or all, where the share failed, and
-- nothing where it is stopped otherwise
abbrev pub AreMadeBy : ℕ → Running → Step → Work → List Change → Type 0
AreMadeBy who running (step.Answered a) new made = AreOfCall who running.call running.now made
AreMadeBy who running (step.Stopped Fault) new made = AreBegun who running.call running.now made
AreMadeBy who running (step.Stopped why) new made = made ≡ []
AreMadeBy who running _ new made = AreMade who new made

-- a store or a growth
abbrev pub changes_region : What → Bool
changes_region (what.Store side word value mark) = true
changes_region (what.Grow size) = true
changes_region _ = false

-- the stores and growths of a call so far: none before its change is under way, and none where it is to stop
abbrev pub AreStoredAt : Stage → List What → Type 0
AreStoredAt (Store plan) stored = ⊤
AreStoredAt (Unlock (end.Answer place reply)) stored = ⊤
AreStoredAt _ stored = stored ≡ []

abbrev pub AreStored : Work → List What → Type 0
AreStored (Runs running stage) stored = AreStoredAt stage stored
AreStored _ stored = ⊤

-- and once a step came to this: a stop leaves the region as it was, unless the share failed
abbrev pub AreStoredBy : Step → Work → List What → Type 0
AreStoredBy (step.Answered a) new stored = ⊤
AreStoredBy (step.Stopped Fault) new stored = ⊤
AreStoredBy (step.Stopped why) new stored = stored ≡ []
AreStoredBy _ new stored = AreStored new stored

-- a growth is no store
abbrev pub stores_in : List What → ℕ
stores_in events = length (filter is_store events)

-- a lock was taken
abbrev pub locks_taken : Option LockKind → Option LockKind → ℕ
locks_taken None (Some kind) = 1
locks_taken _ _ = 0

-- a count goes up by so many
abbrev pub raised : ℕ → ℕ → ℕ
raised n count = if n == 0 then count else counted (count + n)

-- beside the counts of the call these stand higher by so many loads, stores and locks
pub record IsRaised (running : Running) (loads stores locks : ℕ) (loads_now stores_now locks_now : ℕ) : Type 0 where
  pub loads_are : loads_now ≡ raised loads running.loads
  pub stores_are : stores_now ≡ raised stores running.stores
  pub locks_are : locks_now ≡ raised locks running.locks

abbrev pub IsRaisedIn : Running → ℕ → ℕ → ℕ → Work → Type 0
IsRaisedIn running loads stores locks (Runs next stage) = IsRaised running loads stores locks next.loads next.stores next.locks
IsRaisedIn running loads stores locks _ = ⊤

-- the call that goes on, or its answer, counts so many more
abbrev pub Counts : Running → ℕ → ℕ → ℕ → Step → Work → Type 0
Counts running loads stores locks (step.Answered a) new = IsRaised running loads stores locks a.loads a.stores a.locks
Counts running loads stores locks (step.Stopped why) new = ⊤
Counts running loads stores locks _ new = IsRaisedIn running loads stores locks new

-- the share counts at most one load more
abbrev pub Loads : ℕ → ShareState → ShareState → Type 0
Loads loads s t = ((loads ≡ 0) × (t.counts.loads ≡ s.counts.loads)) ⊎ ((loads ≡ 1) × (t.counts.loads ≡ one_more s.counts.loads))

-- A step of a call at this stage made these events and loads, changed by them what its result says, and counts them.
pub record Adds (who : ℕ) (running : Running) (stage : Stage) (result : Step) (new : Work) (s t : ShareState) : Type 0 where
  pub own : List What
  pub loads : ℕ
  pub grows : OnBoth s.told t.told (Grows s.who s.alone own)
  pub loaded : Loads loads s t
  pub made : (so_far : List Change) → AreMadeAt who running stage so_far → AreMadeBy who running result new (so_far ++ commits_of own)
  pub stored : (so_far : List What) → AreStoredAt stage so_far → AreStoredBy result new (so_far ++ filter changes_region own)
  pub counts : Counts running loads (stores_in own) (locks_taken s.holds t.holds) result new

-- what a step adds to the call that runs; where none runs, the share stays as it was
abbrev pub AddsTo : ℕ → Work → Step → Work → ShareState → ShareState → Type 0
AddsTo who (Runs running stage) result new s t = Adds who running stage result new s t
AddsTo who _ result new s t = t ≡ s
