-- A write that is planned or under way.
use Rattle.std.specs.Prelude.{◌≡◌, ◌≢◌, ℕ, ◌^◌, ◌<◌, ◌≤◌, List, [], ◌++◌, Some, None, length, flat_map, ⊤}
use Rattle.expiring_map.specs.Map.{Map}
use Rattle.change_log.specs.Acts.{act_of, replay}
use Rattle.change_log.specs.Settled.{AreOfCall}
use Rattle.change_log.specs.declared.change.Act.{Act}
use Rattle.change_log.specs.declared.change.Change.{Change}
use Rattle.region_words.specs.Region.{Region, IsAccepted, record_of, base, file_size}
use Rattle.region_words.specs.Past.{region_after, after_all, changes_of, change_of}
use Rattle.region_words.specs.Apart.{Apart}
use Rattle.region_words.specs.Rows.{Row, item_of}
use Rattle.region_words.specs.Rows as rows
use Rattle.region_words.specs.Standings.{standing_of}
use Rattle.region_words.specs.Making.{Making}
use Rattle.region_words.specs.Owing.{AreStorable, AreWithin, Comes, IsOwing}
use Rattle.region_words.specs.Share.{ShareState}
use Rattle.region_words.specs.declared.standing.Standing.{Standing}
use Rattle.region_words.specs.declared.event.Event.{Event}
use Rattle.region_words.specs.declared.event.What.{What}
use Rattle.loader.specs.declared.loaded.Image.{Image}
use Rattle.appender.specs.Appends.{CanAppend, appending}
use Rattle.loader.specs.PartialLoads.{IsSoundImage, IsSoundStanding}
use Rattle.opener.specs.Plans.{events_in, room_in}
use Rattle.opener.specs.declared.plan.Plan.{Plan}
use Rattle.opener.specs.declared.plan.Plan.TheVariants.{Append, Rewrite}
use Rattle.opener.specs.declared.work.Running.{Running}

-- the changes that these events commit
abbrev pub commits_of : List What → List Change
commits_of events = flat_map change_of events

abbrev pub image_after : Making → Map → Image
image_after k m = record { standing = k.standing; map = m }

-- the change is the one that the running call makes
pub record IsOwn (who : ℕ) (running : Running) (change : Change) : Type 0 where
  pub act : act_of running.call running.now ≡ Some change.act
  pub maker : change.maker ≡ who

-- an item's append follows a rewrite that leaves this standing
pub record Follows (who : ℕ) (running : Running) (s : Standing) (a : Making) (change : Change) : Type 0 where
  pub own : IsOwn who running change
  pub can : CanAppend s change
  pub is : a ≡ appending s change

-- the changes that are still to be committed
abbrev pub commits_in : Plan → List Change
commits_in (Append a map) = commits_of a.events
commits_in (Rewrite r None map) = commits_of r.events
commits_in (Rewrite r (Some a) map) = commits_of r.events ++ commits_of a.events

-- what is true of a plan, whatever the share tells: it has events to come, and leaves a sound image
abbrev pub IsSoundPlan : ℕ → Running → Plan → Type 0
IsSoundPlan who running (Append a map) = (a.events ≢ []) × IsSoundImage (image_after a map)
IsSoundPlan who running (Rewrite r None map) = (r.events ≢ []) × IsSoundImage (image_after r map)
IsSoundPlan who running (Rewrite r (Some a) map) =
    (r.events ≢ []) × IsSoundStanding r.standing × (r.standing.checksum < 2 ^ 32) × ((change : Change) × Follows who running r.standing a change)
    × IsSoundImage (image_after a map)

-- what is made first of a plan
abbrev pub making_of : Plan → Making
making_of (Append a map) = a
making_of (Rewrite r next map) = r

abbrev pub first_events : Plan → List What
first_events plan = (making_of plan).events

-- all events of a plan, in their order
abbrev pub events_of : Plan → List What
events_of (Append a map) = a.events
events_of (Rewrite r None map) = r.events
events_of (Rewrite r (Some a) map) = r.events ++ a.events

-- its places and its room can be reserved
pub record CanReserve (plan : Plan) : Type 0 where
  pub few : events_in plan < 2 ^ 32
  pub within : AreWithin (room_in plan) (first_events plan)

-- a row that no other follows in its call
abbrev pub StandsAlone : Row → Type 0
StandsAlone rows.Clear = ⊤
StandsAlone (rows.Enable now seconds) = ⊤
StandsAlone (rows.Disable now) = ⊤
StandsAlone _ = ⊥

-- the row of a plan's first events
abbrev pub IsRowOf : ℕ → Running → Row → Plan → Type 0
IsRowOf who running row (Append a map) = (act : Act) × (row ≡ rows.Append act)
IsRowOf who running row (Rewrite r None map) = StandsAlone row
IsRowOf who running row (Rewrite r (Some a) map) = (now need : ℕ) × (row ≡ rows.Pack now need)
    × ((change : Change) × Follows who running r.standing a change × (need ≡ length (item_of r.standing.flag change.act)))

-- these events of the row may be made next
pub record MayStart (row : Row) (events : List What) (who : ℕ) (start : Region) (past : List Event) : Type 0 where
  pub storable : AreStorable (region_after start past) who events
  pub coming : Apart start past → Comes start past who row events

-- of the region's image of its record's size all this is known
pub record HasStanding (r : Region) (s : Standing) : Type 0 where
  pub size : (record_of r).size ≡ s.size
  pub known : standing_of r s.size ≡ s

-- what the events to come lead to: to this standing, and to this map. That its file is as long as is known, and its version is no
-- other than none where none is known, holds whatever the checksums are.
pub record Leads (k : Making) (m : Map) (start : Region) (past : List Event) : Type 0 where
  pub file : k.standing.file_size ≤ file_size (after_all (region_after start past) k.events)
  pub firm : (record_of (after_all (region_after start past) k.events)).version ≡ 0 → k.standing.version ≡ 0
  pub stands : IsAccepted start → Apart start past → HasStanding (after_all (region_after start past) k.events) k.standing
  pub map : IsAccepted start → Apart start past → replay (base start) (changes_of past ++ commits_of k.events) ≡ m

-- what a plan leads to
abbrev pub PlanLeads : Plan → Region → List Event → Type 0
PlanLeads (Append a map) start past = Leads a map start past
PlanLeads (Rewrite r None map) start past = Leads r map start past
PlanLeads (Rewrite r (Some a) map) start past = (mid : Map) × Leads r mid start past × (replay mid (commits_of a.events) ≡ map)

-- the plan's first row may start
abbrev pub PlanStarts : ℕ → Running → Plan → Region → List Event → Type 0
PlanStarts who running plan start past = (row : Row) × IsRowOf who running row plan × MayStart row (first_events plan) who start past

-- the changes that the call has made so far are the last ones, and with those to come they are all that it makes
pub record HasMadeSoFar (who : ℕ) (running : Running) (plan : Plan) (past : List Event) : Type 0 where
  pub before : List Change
  pub made : List Change
  pub are : changes_of past ≡ before ++ made
  pub begun : running.begun ≤ length before
  pub all : AreOfCall who running.call running.now (made ++ commits_in plan)

-- the share owes the events of the plan: it holds exclusive, and has room and just as many places for them
pub record OwesPlan (who : ℕ) (running : Running) (plan : Plan) (s : ShareState) : Type 0 where
  pub row : Row
  pub row_is : IsRowOf who running row plan
  pub owing : IsOwing row (first_events plan) s
  pub places : s.reserved s.who ≡ events_in plan
