-- How many steps a call takes.
use Rattle.std.specs.Prelude.{◌≡◌, ℕ, ◌+◌, ◌-◌, ◌*◌, ◌<◌, ◌≤◌, List, ◌∷◌, nat_lt, ◌==◌, if◌then◌else◌, ⊤}
use Rattle.region_words.specs.Region.{file_size}
use Rattle.region_words.specs.Past.{region_after}
use Rattle.region_words.specs.Told.{OnTold}
use Rattle.region_words.specs.Share.{ShareState}
use Rattle.region_words.specs.declared.event.What.{What}
use Rattle.region_words.specs.declared.event.What.TheVariants.{Grow}
use Rattle.loader.specs.FirstWords.{size_in}
use Rattle.loader.specs.Loads.{loads_of}
use Rattle.loader.specs.PartialLoads.{loads_made}
use Rattle.opener.specs.Plans.{events_in}
use Rattle.opener.specs.Writes.{first_events, making_of}
use Rattle.opener.specs.declared.calls.Step.{Step}
use Rattle.opener.specs.declared.calls.Step.TheVariants as step
use Rattle.opener.specs.declared.plan.Plan.{Plan}
use Rattle.opener.specs.declared.work.Extent.TheVariants.{Partial, Full}
use Rattle.opener.specs.declared.work.Stage.{Stage}
use Rattle.opener.specs.declared.work.Stage.TheVariants.{PeekChecksum, PeekSequence, LockShared, LockExclusive, Continue, Load, Size, Reserve, Store, Unlock, Hold, Release}
use Rattle.opener.specs.declared.work.Work.{Work}
use Rattle.opener.specs.declared.work.Work.TheVariants.{Idle, Ended, Runs}

-- the size to which the first of these events grows the data file, 0 where it doesn't
abbrev pub grown_by : List What → ℕ
grown_by (Grow size ∷ rest) = size
grown_by _ = 0

abbrev pub next_growth : Plan → ℕ
next_growth plan = grown_by (first_events plan)

-- the size of the data file that a plan leaves, from what is known of the image
abbrev pub size_left : Plan → ℕ
size_left plan = (making_of plan).standing.file_size

-- the size of the data file that a plan was made for, 0 where it is to be grown first
abbrev pub size_planned : Plan → ℕ
size_planned plan = if next_growth plan == 0 then size_left plan else 0

-- the size of the data file that a step came to know: by a load, by asking for it, by its own growth, or from the kept image
abbrev pub size_met : Work → Work → ℕ
size_met (Runs running (Load before)) (Runs next (Load after)) = size_in after.first
size_met (Runs running (Continue before)) (Runs next (Continue after)) = after.file_size
size_met (Runs running Size) (Runs next (Reserve plan)) = size_planned plan
size_met (Runs running (Store plan)) new = next_growth plan
size_met _ _ = 0

-- The steps left of a plan within a data file of so many words, four bytes each: its events and an unlock. Of a plan that grows the
-- file past that, only the growth, which comes first.
abbrev pub stores_left : ℕ → Plan → ℕ
stores_left words plan = if nat_lt (4 * words) (next_growth plan) then 1 else events_in plan + 1

-- at most so many steps are left at a stage, within a data file of so many words
abbrev pub steps_at : ℕ → Stage → ℕ
steps_at words LockExclusive = 4 * words + 60
steps_at words PeekChecksum = 4 * words + 59
steps_at words (PeekSequence peek) = 4 * words + 58
steps_at words (LockShared Partial) = 4 * words + 57
steps_at words (Continue loading) = (words + 4 - loads_made loading) + (3 * words + 52)
steps_at words (LockShared Full) = 3 * words + 52
steps_at words (Load loading) = (words + 10 - loads_of loading) + (2 * words + 41)
steps_at words Size = 2 * words + 40
steps_at words (Reserve plan) = stores_left words plan + 1
steps_at words (Store plan) = stores_left words plan
steps_at words (Unlock how) = 1
steps_at words Hold = 1
steps_at words Release = 1

-- and so many to an opener, none where no call runs
abbrev pub steps_left : ℕ → Work → ℕ
steps_left words Idle = 0
steps_left words Ended = 0
steps_left words (Runs running stage) = steps_at words stage

-- Within a data file of no less than what the step met, fewer steps are left; and what it met is no more than the file has.
pub record Shortens (old new : Work) (t : ShareState) : Type 0 where
  pub falls : (words : ℕ) → size_met old new ≤ 4 * words → steps_left words new < steps_left words old
  pub met : OnTold t.told (λ h. size_met old new ≤ file_size (region_after h.start h.past))

-- a step that goes on shortens the call, one that waits leaves it as it was, and the last was still to be made
abbrev pub Falls : Work → Step → Work → ShareState → Type 0
Falls old step.Idle new t = ⊤
Falls old step.Going new t = Shortens old new t
Falls old step.Again new t = new ≡ old
Falls old (step.Blocked holder) new t = new ≡ old
Falls old (step.Answered a) new t = (words : ℕ) → 0 < steps_left words old
Falls old (step.Stopped why) new t = (words : ℕ) → 0 < steps_left words old
