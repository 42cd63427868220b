-- How much of the region a call loads.
use Rattle.std.specs.Prelude.{◌≡◌, ℕ, Option, Some, None, ⊤, ◌==◌, if◌then◌else◌}
use Rattle.lock_rules.specs.declared.table.LockKind.{LockKind}
use Rattle.region_words.specs.declared.stops.Peek.{Peek}
use Rattle.loader.specs.Loads.{Load}
use Rattle.loader.specs.PartialLoads.{IsSoundImage, going_on_from}
use Rattle.loader.specs.declared.loaded.Image.{Image}
use Rattle.opener.specs.State.{OpenerState}
use Rattle.opener.specs.Ends.{GoesOn, IsFresh, IsReady, lock_by}
use Rattle.opener.specs.declared.calls.Step.{Step}
use Rattle.opener.specs.declared.work.Extent.{Extent}
use Rattle.opener.specs.declared.work.Extent.TheVariants.{Partial, Full}
use Rattle.opener.specs.declared.work.Running.{Running}
use Rattle.opener.specs.declared.work.Stage.TheVariants as stage

-- Which load follows two peeks: none where both words are those of the image that is kept, a partial one where the sequence alone is,
-- and else a full one.
abbrev pub load_after : Option Image → Peek → ℕ → Option Extent
load_after None peek sequence = Some Full
load_after (Some i) peek sequence =
    if i.standing.sequence == sequence then (if i.standing.checksum == peek.checksum then None else Some Partial) else Some Full

-- a partial load goes on from an image
abbrev pub CanLoad : Extent → Option Image → Type 0
CanLoad Full image = ⊤
CanLoad Partial None = ⊥
CanLoad Partial (Some i) = IsSoundImage i

-- a load of so much begins: a partial one takes the image that is kept
abbrev pub BeginsLoad : Extent → Running → OpenerState → Step → OpenerState → Type 0
BeginsLoad Full running old result new = (loading : Load) × IsFresh loading × GoesOn running (stage.Load loading) old result new
BeginsLoad Partial running old result new =
    (i : Image) × (old.image ≡ Some i) × GoesOn running (stage.Continue (going_on_from i)) (record old { image = None }) result new

-- where no lock is held, a shared one is asked for first
abbrev pub LoadsBy : Option LockKind → Extent → Running → OpenerState → Step → OpenerState → Type 0
LoadsBy None extent running old result new = GoesOn running (stage.LockShared extent) old result new
LoadsBy (Some kind) extent running old result new = BeginsLoad extent running old result new

abbrev pub LoadsNext : Extent → Running → OpenerState → Step → OpenerState → Type 0
LoadsNext extent running old result new = LoadsBy (lock_by old.holds running.taken) extent running old result new

-- the kept image went on to this one, which is kept from now on
abbrev pub IsGoneOn : Running → Image → ℕ → OpenerState → Step → OpenerState → Type 0
IsGoneOn running image place old result new = IsReady running place place (record old { image = Some image }) result new
