-- A quick read: two peeks, and what they say of the image that is kept.
use Rattle.std.specs.Prelude.{◌≡◌, ◌≢◌, ℕ, ◌≤◌, ◌⊎◌, List, length, take, Option, Some, None, Result, Err, ⊤}
use Rattle.expiring_map.specs.Map.{Map}
use Rattle.expiring_map.specs.Live.{value_at}
use Rattle.change_log.specs.Acts.{replay}
use Rattle.region_words.specs.Region.{Region, IsAccepted, base}
use Rattle.region_words.specs.Past.{changes_of}
use Rattle.region_words.specs.Apart.{Apart}
use Rattle.region_words.specs.Images.{checksum_at, sequence_at}
use Rattle.region_words.specs.Told.{OnTold, changes_told}
use Rattle.region_words.specs.Share.{ShareState, Goes, Fails, loaded}
use Rattle.region_words.specs.declared.event.Event.{Event}
use Rattle.loader.specs.Maps.{map_of_image}
use Rattle.loader.specs.declared.loaded.Image.{Image}
use Rattle.opener.specs.Ends.{OnImage}
use Rattle.opener.specs.declared.quick.Quick.{Quick}
use Rattle.opener.specs.declared.quick.Quick.TheVariants.{Cold, Stale, Fault}
use Rattle.opener.specs.declared.work.Work.TheVariants.{Ended}
use Rattle.opener.specs.State.{OpenerState}

-- the opener of this number once its share has failed
abbrev pub ended_as : ℕ → OpenerState
ended_as who = record { who = who; image = None; holds = 0; work = Ended }

-- a fault ends the opener; else it stays as it was
abbrev pub left_by : {A : Type 0} → Result A Quick → OpenerState → OpenerState
left_by (Err Fault) o = ended_as o.who
left_by _ o = o

-- Both words were peeked, and the first peek left the share at `mid`. Where the journal is told, each word was the region's at its peek.
pub record Peeks (checksum sequence : ℕ) (s t : ShareState) : Type 0 where
  pub mid : ShareState
  pub first : Goes (loaded s) s mid
  pub second : Goes (loaded mid) mid t
  pub checksum_is : OnTold mid.told (λ h. checksum ≡ checksum_at h.start h.past)
  pub sequence_is : OnTold t.told (λ h. sequence ≡ sequence_at h.start h.past)

-- the share failed at the first peek or at the second
abbrev pub PeekFails : ShareState → ShareState → Type 0
PeekFails s t = Fails s t ⊎ ((mid : ShareState) × Goes (loaded s) s mid × Fails mid t)

-- a moment of the history after the begin, by its number of changes, whose map is this one
pub record WasMap (m : Map) (begun place : ℕ) (start : Region) (past : List Event) : Type 0 where
  pub since : begun ≤ place
  pub within : place ≤ length (changes_of past)
  pub map_is : IsAccepted start → Apart start past → m ≡ replay (base start) (take place (changes_of past))

-- a moment of the history after the begin, by its number of changes, at which its map gave this value
pub record WasValue (value : Option (List ℕ)) (key : List ℕ) (now begun place : ℕ) (start : Region) (past : List Event) : Type 0 where
  pub since : begun ≤ place
  pub within : place ≤ length (changes_of past)
  pub value_is : IsAccepted start → Apart start past → value ≡ value_at (replay (base start) (take place (changes_of past))) key now

-- an image is kept, both words that were peeked are its own, and its map was the history's at the first peek
pub record IsUpToDate (image : Option Image) (s t : ShareState) : Type 0 where
  pub i : Image
  pub kept : image ≡ Some i
  pub peeks : Peeks i.standing.checksum i.standing.sequence s t
  pub history : OnTold t.told (λ h. WasMap (map_of_image i) (changes_told s.told) (changes_told peeks.mid.told) h.start h.past)

-- an image is kept, both words that were peeked are its own, and the value is the image's and the history's at the first peek
pub record IsAnswered (image : Option Image) (value : Option (List ℕ)) (key : List ℕ) (now : ℕ) (s t : ShareState) : Type 0 where
  pub i : Image
  pub kept : image ≡ Some i
  pub peeks : Peeks i.standing.checksum i.standing.sequence s t
  pub value_is : value ≡ value_at (map_of_image i) key now
  pub history : OnTold t.told (λ h. WasValue value key now (changes_told s.told) (changes_told peeks.mid.told) h.start h.past)

-- after a look that found the kept image's words, the value of that image is an answer
abbrev pub KeptValuesAnswer : Type 0
KeptValuesAnswer =
    (image : Option Image) (value : Option (List ℕ)) (key : List ℕ) (now : ℕ) (s t : ShareState) → IsUpToDate image s t →
    OnImage image (λ i. value ≡ value_at (map_of_image i) key now) → IsAnswered image value key now s t

-- an image is kept, both words were peeked, and at least one is not its own
pub record IsStale (image : Option Image) (checksum sequence : ℕ) (s t : ShareState) : Type 0 where
  pub i : Image
  pub kept : image ≡ Some i
  pub peeks : Peeks checksum sequence s t
  pub differs : (checksum ≢ i.standing.checksum) ⊎ (sequence ≢ i.standing.sequence)

-- this holds where no image was kept
abbrev pub OnCold : Quick → Type 0 → Type 0
OnCold Cold P = P
OnCold _ P = ⊤

-- this holds of both words that were peeked
abbrev pub OnStale : Quick → (ℕ → ℕ → Type 0) → Type 0
OnStale (Stale checksum sequence) P = P checksum sequence
OnStale _ P = ⊤

-- this holds where the share failed
abbrev pub OnFault : Quick → Type 0 → Type 0
OnFault Fault P = P
OnFault _ P = ⊤
