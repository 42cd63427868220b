-- What is looked for in a region, or was found.
use Rattle.std.specs.Prelude.{◌≡◌, ℕ, ◌+◌, ◌<◌, ◌≤◌, ⊤, List, length, Err}
use Rattle.kv_pairs.specs.Fits.{FitsIn}
use Rattle.meta_record.specs.Records.{checked}
use Rattle.meta_record.specs.declared.record.Record.{Record}
use Rattle.meta_record.specs.declared.shown.Shown.{Shown}
use Rattle.meta_record.specs.declared.shown.Shown.TheVariants.{Whole, Header, Last, Damaged}
use Rattle.region_words.specs.Region.{Region, shown, base}
use Rattle.region_words.specs.Rows.{standing}
use Rattle.loader.specs.FirstWords.{record_in, header_in, size_in, IsWritten, HasWords}
use Rattle.loader.specs.declared.stops.LoadStop.{LoadStop}
use Rattle.loader.specs.declared.stops.LoadStop.TheVariants as stop
use Rattle.loader.specs.Candidates.{NoneBefore, IsWanted, turn_of}
use Rattle.loader.specs.declared.candidates.Candidate.{Candidate}
use Rattle.loader.specs.declared.first_words.FirstWords.{FirstWords}
use Rattle.loader.specs.declared.found.Found.{Found}
use Rattle.loader.specs.declared.outlook.Outlook.{Outlook}
use Rattle.loader.specs.declared.outlook.Outlook.TheVariants as outlook

-- a record is refused by ten answers alone, and for its fault
abbrev pub RefusesRecord : LoadStop → FirstWords → Type 0
RefusesRecord (stop.Share s) f = ⊥
RefusesRecord (stop.Record fault) f = (f.made ≡ 10) × (checked (record_in f) (header_in f) ≡ Err fault)
RefusesRecord stop.Memory f = ⊤

-- the checksum by which an image is shown
abbrev pub checksum_of : Record → Shown → ℕ
checksum_of rec (Whole size) = rec.checksum
checksum_of rec (Header size) = rec.checksum
checksum_of rec (Last size) = rec.last_checksum
checksum_of rec (Damaged damage) = 0

-- what was found is what the region shows
pub record IsFoundIn (f : Found) (r : Region) : Type 0 where
  pub shown : f.shown ≡ shown r
  pub standing : f.image.standing ≡ standing r
  pub map : f.image.map ≡ base r

-- what is looked for comes after candidates that don't agree; what was found is shown
abbrev pub IsOutlookOf : Outlook → Region → Type 0
IsOutlookOf (outlook.Wants c) r = NoneBefore c r
IsOutlookOf (outlook.Found f) r = IsFoundIn f r

-- what is looked for is this candidate or a later one
abbrev pub GoesOnFrom : Candidate → Outlook → Type 0
GoesOnFrom from (outlook.Wants c) = turn_of from ≤ turn_of c
GoesOnFrom from (outlook.Found f) = ⊤

-- what was found is loaded, of a file of this size; its map fits in its bytes and four more, and where it isn't empty something was written
pub record IsLoaded (f : FirstWords) (loaded : List ℕ) (found : Found) : Type 0 where
  pub size : found.image.standing.size ≤ length loaded
  pub file : found.image.standing.file_size ≡ size_in f
  pub map : FitsIn found.image.standing.flag found.image.map (found.image.standing.size + 4)
  pub version : found.image.standing.version ≡ (record_in f).version
  pub written : 0 < found.image.standing.size → IsWritten f
  pub words : HasWords found.image.standing

-- of what is looked for there is more to load; what was found is loaded
abbrev pub IsDue : FirstWords → List ℕ → Outlook → Type 0
IsDue f loaded (outlook.Wants c) = IsWanted f loaded c
IsDue f loaded (outlook.Found found) = IsLoaded f loaded found
