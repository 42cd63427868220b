-- A load of a region, under way and at its end.
use Rattle.std.specs.Prelude.{◌≡◌, ◌≢◌, ℕ, ◌+◌, ◌/◌, ◌%◌, ◌<◌, ◌≤◌, ⊤, Bool, true, false, List, [], Ok, Err, length, take, drop, slice_index, nat_lt, if◌then◌else◌}
use Rattle.kv_pairs.specs.Fits.{FitsIn}
use Rattle.meta_record.specs.Words.{word_at}
use Rattle.meta_record.specs.Records.{checked}
use Rattle.meta_record.specs.declared.record.RecordFault.{RecordFault}
use Rattle.region_words.specs.Region.{Region, header, record_of, shown, size_shown, base}
use Rattle.region_words.specs.Past.{region_after}
use Rattle.region_words.specs.Told.{OnTold}
use Rattle.region_words.specs.Share.{ShareState, Goes, Stops, loaded}
use Rattle.region_words.specs.Rows.{standing}
use Rattle.kv_pairs.specs.Growth.{IsFileSize}
use Rattle.loader.specs.FirstWords.{AreFirst, HasAccepted, HasWords, first_answers, size_in}
use Rattle.loader.specs.Candidates.{IsFront}
use Rattle.loader.specs.Outlooks.{IsOutlookOf, IsDue}
use Rattle.loader.specs.declared.first_words.FirstWords.{FirstWords}
use Rattle.loader.specs.declared.candidates.Candidate.TheVariants as by
use Rattle.loader.specs.declared.outlook.Outlook.{Outlook}
use Rattle.loader.specs.declared.outlook.Outlook.TheVariants.{Wants, Found}
use Rattle.loader.specs.declared.loaded.Loaded.{Loaded}
use Rattle.loader.specs.declared.loading.Went.{Went}
use Rattle.loader.specs.declared.loading.Went.TheVariants.{Going, Done}
use Rattle.loader.specs.declared.stops.LoadStop.{LoadStop}
use Rattle.loader.specs.declared.stops.LoadStop.TheVariants.{Share, Record, Memory}

-- a load: the answers of the first ten loads, the payload bytes loaded so far, what is looked for or was found
pub record Load : Type 0 where
  pub first : FirstWords
  pub payload : List ℕ
  pub outlook : Outlook

-- what was loaded so far is what this region holds
pub record HasLoaded (l : Load) (r : Region) : Type 0 where
  pub first : AreFirst l.first r
  pub payload : IsFront l.payload r
  pub outlook : IsOutlookOf l.outlook r

-- the loads made so far: of the first ten, and of payload words
abbrev pub loads_of : Load → ℕ
loads_of l = l.first.made + length l.payload / 4

-- the payload word that is loaded next
abbrev pub next_payload_word : Load → Region → ℕ
next_payload_word l r = word_at r.data_bytes (1 + length l.payload / 4)

-- what the next load of a region answers: one of the first ten, or a payload word
abbrev pub next_answer : Load → Region → ℕ
next_answer l r = if nat_lt 9 l.first.made then next_payload_word l r else slice_index (first_answers r) l.first.made

-- the image that the region shows was found
abbrev pub was_found : Outlook → Bool
was_found (Wants c) = false
was_found (Found f) = true

-- nothing is left to load
abbrev pub is_done : Load → Bool
is_done l = was_found l.outlook

-- a step says whether the load is done
abbrev pub Says : Went → Load → Type 0
Says Going l = is_done l ≡ false
Says Done l = is_done l ≡ true

-- what a full load of a region gives
pub record IsLoadOf (l : Loaded) (r : Region) : Type 0 where
  pub shown : l.shown ≡ shown r
  pub rec : l.rec ≡ record_of r
  pub header : l.header ≡ header r
  pub standing : l.image.standing ≡ standing r
  pub map : l.image.map ≡ base r
  pub payload : l.payload ≡ take (length l.payload) (drop 4 r.data_bytes)
  pub whole : size_shown r ≤ length l.payload

-- What a load gives, whatever a share tells: the record is accepted, the image is loaded and lies in a file of whole pages,
-- its map fits in the bytes of its payload and four more, one that isn't empty has a version, and what is known of it are words.
pub record IsLoadedWhole (l : Loaded) : Type 0 where
  pub accepted : checked l.rec l.header ≡ Ok tt
  pub size : l.image.standing.size ≤ length l.payload
  pub within : 4 + length l.payload ≤ l.image.standing.file_size
  pub file : IsFileSize l.image.standing.file_size
  pub map : FitsIn l.image.standing.flag l.image.map (l.image.standing.size + 4)
  pub firm : 0 < l.image.standing.size → l.image.standing.version ≢ 0
  pub words : HasWords l.image.standing

-- what is true of every load, whatever a share tells
pub record IsLoad (l : Load) : Type 0 where
  pub most : l.first.made ≤ 10
  pub early : l.first.made < 10 → (l.payload ≡ []) × (l.outlook ≡ Wants by.Record)
  pub file : 0 < l.first.made → IsFileSize (size_in l.first)
  pub words : length l.payload % 4 ≡ 0
  pub within : 0 < l.first.made → 4 + length l.payload ≤ size_in l.first
  pub accepted : l.first.made ≡ 10 → HasAccepted l.first
  pub due : l.first.made ≡ 10 → IsDue l.first l.payload l.outlook

-- the region's record is refused for this fault
abbrev pub IsRefusedFor : RecordFault → Region → Type 0
IsRefusedFor fault r = checked (record_of r) (header r) ≡ Err fault

-- why a step was not made: the share stopped; the record is refused, or memory was, after a load
abbrev pub StopsLoading : LoadStop → ShareState → ShareState → Type 0
StopsLoading (Share stop) s t = Stops stop s t
StopsLoading (Record fault) s t = Goes (loaded s) s t × OnTold t.told (λ h. IsRefusedFor fault (region_after h.start h.past))
StopsLoading Memory s t = Goes (loaded s) s t

-- why an answer was not taken in
abbrev pub Refuses : LoadStop → Load → ℕ → Type 0
Refuses (Share stop) l value = ⊥
Refuses (Record fault) l value = (r : Region) → HasLoaded l r → value ≡ next_answer l r → IsRefusedFor fault r
Refuses Memory l value = ⊤

-- the record is refused by the tenth load alone
abbrev pub IsTenthIfRecord : LoadStop → Load → Type 0
IsTenthIfRecord (Record fault) l = loads_of l ≡ 9
IsTenthIfRecord _ l = ⊤
