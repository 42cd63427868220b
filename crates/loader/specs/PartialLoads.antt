-- A load that goes on from a kept image.
use Rattle.std.specs.Prelude.{◌≡◌, ◌≢◌, ℕ, ◌+◌, ◌-◌, ◌*◌, ◌/◌, ◌%◌, ◌<◌, ◌≤◌, ⊤, Bool, true, false, List, [], ◌∷◌, ◌++◌, Some, None, length, take, drop, replicate, slice_index, nat_lt, not, ◌==◌, ◌||◌, ◌&&◌, if◌then◌else◌}
use Rattle.crc_words.specs.Crc.{crc_from}
use Rattle.expiring_map.specs.Map.{Map}
use Rattle.kv_pairs.specs.Fits.{FitsIn}
use Rattle.kv_pairs.specs.Growth.{IsFileSize}
use Rattle.kv_pairs.specs.Mapped.{first_without_room, with_items}
use Rattle.kv_pairs.specs.Reading.{units_at}
use Rattle.kv_pairs.specs.declared.item.Item.{Item}
use Rattle.meta_record.specs.Words.{word_at}
use Rattle.meta_record.specs.declared.record.TheConstants.{WORD_CHECKSUM, WORD_SEQUENCE, WORD_SIZE}
use Rattle.meta_record.specs.declared.shown.Shown.TheVariants.{Whole}
use Rattle.region_words.specs.Region.{Region, file_size, map_shown, record_of, shown}
use Rattle.region_words.specs.Past.{region_after}
use Rattle.region_words.specs.Images.{IsKept, bytes_behind}
use Rattle.region_words.specs.Laws.{IsTrueRun}
use Rattle.region_words.specs.Share.{ShareState, Goes, Stops, loaded, word_in}
use Rattle.region_words.specs.Standings.{IsStandingOf, tail_of}
use Rattle.region_words.specs.declared.event.Event.{Event}
use Rattle.region_words.specs.declared.event.Side.TheVariants.{Meta}
use Rattle.region_words.specs.declared.standing.Standing.{Standing}
use Rattle.loader.specs.declared.loaded.Image.{Image}
use Rattle.loader.specs.declared.partial.Need.{Need}
use Rattle.loader.specs.declared.partial.Need.TheVariants.{Word, FileSize, Payload, Nothing, FullLoad}
use Rattle.loader.specs.declared.record_words.RecordWords.{RecordWords}
use Rattle.loader.specs.declared.stops.LoadStop.{LoadStop}
use Rattle.loader.specs.declared.stops.LoadStop.TheVariants as stop

-- A kept image goes on in this region: the sequence is the kept one, the record's size is no less and fits the file, the kept checksum goes on to
-- the record's over the bytes behind the kept ones, and these are items with a map. Nothing is ever appended to an empty image.
pub record GoesOnIn (s : Standing) (r : Region) : Type 0 where
  pub sequence : (record_of r).sequence ≡ s.sequence
  pub size : s.size ≤ (record_of r).size
  pub empty : s.size ≡ 0 → (record_of r).size ≡ 0
  pub room : 4 + (record_of r).size ≤ file_size r
  pub checksum : crc_from s.checksum (bytes_behind r s.size) ≡ (record_of r).checksum
  pub items : List Item
  pub reads : units_at (bytes_behind r s.size) ≡ (items, [])
  pub mapped : first_without_room s.flag items ≡ None

-- an image lies in a data file, and has a version where it isn't empty
pub record IsSoundStanding (s : Standing) : Type 0 where
  pub file : IsFileSize s.file_size
  pub within : 4 + s.size ≤ s.file_size
  pub firm : 0 < s.size → s.version ≢ 0

-- and its map can be packed again, to as many bytes and the four that a payload begins with
pub record IsSoundImage (i : Image) : Type 0 where
  pub standing : IsSoundStanding i.standing
  pub map : FitsIn i.standing.flag i.map (i.standing.size + 4)

-- an image was shown at an earlier moment, and all this is known of it
pub record WasKept (i : Image) (start : Region) (past : List Event) : Type 0 where
  pub later : List Event
  pub earlier : List Event
  pub is : later ++ earlier ≡ past
  pub kept : IsKept start earlier i.standing.size i.map
  pub known : IsStandingOf (region_after start earlier) i.standing.size i.standing

-- the region shows this image whole, and all this is known of it
pub record ShowsImage (i : Image) (r : Region) : Type 0 where
  pub shows : shown r ≡ Whole i.standing.size
  pub maps : map_shown r ≡ Some i.map
  pub known : IsStandingOf r i.standing.size i.standing

-- what the first loads answer, in their order
abbrev pub record_words : Region → List ℕ
record_words r = word_in r Meta WORD_CHECKSUM ∷ word_in r Meta WORD_SEQUENCE ∷ word_in r Meta WORD_SIZE ∷ []

-- the answers so far are those of this region
pub record AreRecordWords (w : RecordWords) (r : Region) : Type 0 where
  pub same : take w.made w.answers ≡ take w.made (record_words r)

-- A partial load: what is known of the kept image, its map, the words of the record that were loaded, the size of the data file as far as it is
-- known, whether it was asked for, and the payload bytes that were loaded, from the word on in which the kept ones end.
pub record PartialLoad : Type 0 where
  pub kept : Standing
  pub map : Map
  pub words : RecordWords
  pub file_size : ℕ
  pub asked : Bool
  pub added : List ℕ

abbrev pub checksum_in : PartialLoad → ℕ
checksum_in p = slice_index p.words.answers 0

abbrev pub sequence_in : PartialLoad → ℕ
sequence_in p = slice_index p.words.answers 1

abbrev pub size_in : PartialLoad → ℕ
size_in p = slice_index p.words.answers 2

-- the place in the payload of the first byte that is loaded
abbrev pub first_byte : Standing → ℕ
first_byte s = 4 * (s.size / 4)

-- how many payload bytes stand from there on
abbrev pub added_size : PartialLoad → ℕ
added_size p = size_in p - first_byte p.kept

-- by its record another image stands there
abbrev pub is_another : PartialLoad → Bool
is_another p =
    not (sequence_in p == p.kept.sequence) || (nat_lt (size_in p) p.kept.size || ((p.kept.size == 0) && nat_lt 0 (size_in p)))

-- what is lacking
abbrev pub need_of : PartialLoad → Need
need_of p =
    if nat_lt p.words.made 3 then Word
    else (if is_another p then FullLoad
    else (if nat_lt p.file_size (4 + size_in p) then (if p.asked then FullLoad else FileSize)
    else (if nat_lt (length p.added) (added_size p) then Payload else Nothing)))

-- the next load is still to be made
abbrev pub IsLacking : Need → Type 0
IsLacking Word = ⊤
IsLacking FileSize = ⊤
IsLacking Payload = ⊤
IsLacking Nothing = ⊥
IsLacking FullLoad = ⊥

pub record IsGoing (p : PartialLoad) : Type 0 where
  pub lacking : IsLacking (need_of p)

-- a partial load of which nothing is made yet
abbrev pub going_on_from : Image → PartialLoad
going_on_from i =
    record {
      kept = i.standing;
      map = i.map;
      words = record { answers = replicate 3 0; made = 0 };
      file_size = i.standing.file_size;
      asked = false;
      added = [];
    }

-- the loads made so far
abbrev pub loads_made : PartialLoad → ℕ
loads_made p = p.words.made + ((if p.asked then 1 else 0) + length p.added / 4)

-- what was loaded so far is what this region holds
pub record HasLoadedPart (p : PartialLoad) (r : Region) : Type 0 where
  pub words : AreRecordWords p.words r
  pub file : p.file_size ≤ file_size r
  pub asked : p.asked ≡ true → p.file_size ≡ file_size r
  pub added : p.added ≡ take (length p.added) (drop (4 + first_byte p.kept) r.data_bytes)

-- the payload word that is loaded next
abbrev pub next_part_word : PartialLoad → ℕ
next_part_word p = 1 + (p.kept.size / 4 + length p.added / 4)

-- what the next load of a region answers
abbrev pub answer_to : Need → PartialLoad → Region → ℕ
answer_to Word p r = slice_index (record_words r) p.words.made
answer_to FileSize p r = file_size r
answer_to _ p r = word_at r.data_bytes (next_part_word p)

abbrev pub next_part : PartialLoad → Region → ℕ
next_part p r = answer_to (need_of p) p r

-- the payload bytes from the word on in which the kept ones end, and those behind the kept ones
abbrev pub bytes_from : PartialLoad → List ℕ
bytes_from p = take (added_size p) p.added

abbrev pub bytes_added : PartialLoad → List ℕ
bytes_added p = drop (p.kept.size % 4) (bytes_from p)

-- the added bytes take the kept checksum on to the record's, and their items take this map to the one that is there now
pub record Extends (m : Map) (p : PartialLoad) : Type 0 where
  pub complete : need_of p ≡ Nothing
  pub checksum : crc_from p.kept.checksum (bytes_added p) ≡ checksum_in p
  pub items : List Item
  pub reads : units_at (bytes_added p) ≡ (items, [])
  pub mapped : first_without_room p.kept.flag items ≡ None
  pub map : p.map ≡ with_items p.kept.flag m items

-- what is known of the image to which the kept one goes on, whose payload is these bytes from the first that is loaded on
abbrev pub standing_with : PartialLoad → List ℕ → Standing
standing_with p bytes = record p.kept { size = size_in p; checksum = checksum_in p; tail = tail_of bytes (length bytes); file_size = p.file_size }

-- the image to which the kept one goes on
abbrev pub image_in : PartialLoad → Image
image_in p = record { standing = standing_with p (bytes_from p); map = p.map }

abbrev pub kept_image : Map → PartialLoad → Image
kept_image m p = record { standing = p.kept; map = m }

-- an image that is sound goes on to one,
abbrev pub GivesSound : PartialLoad → Image → Type 0
GivesSound p i = (m : Map) → IsSoundImage (kept_image m p) → Extends m p → IsSoundImage i

-- and one that the region showed at an earlier moment to the one that it shows, where checksums tell payloads apart
abbrev pub GivesShown : PartialLoad → Image → Type 0
GivesShown p i =
    (m : Map) (start : Region) (past : List Event) → IsTrueRun start past → WasKept (kept_image m p) start past → Extends m p →
    HasLoadedPart p (region_after start past) → ShowsImage i (region_after start past)

-- but for the map it is the same load
abbrev pub IsSamePart : PartialLoad → PartialLoad → Type 0
IsSamePart old new = new ≡ record old { map = new.map }

-- why a step was not made: the share stopped, or memory was refused after a load
abbrev pub StopsGoingOn : LoadStop → ShareState → ShareState → Type 0
StopsGoingOn (stop.Share why) s t = Stops why s t
StopsGoingOn (stop.Record fault) s t = ⊥
StopsGoingOn stop.Memory s t = Goes (loaded s) s t

-- where the sequence is the kept one, a kept image goes on to each whole image that the region shows
abbrev pub WholeImagesGoOn : Type 0
WholeImagesGoOn =
    (i : Image) (start : Region) (past : List Event) (size : ℕ) → IsTrueRun start past → WasKept i start past →
    (record_of (region_after start past)).sequence ≡ i.standing.sequence → shown (region_after start past) ≡ Whole size → GoesOnIn i.standing (region_after start past)
