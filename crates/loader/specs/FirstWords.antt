-- What the first ten loads answer.
use Rattle.std.specs.Prelude.{◌≡◌, ◌≢◌, ℕ, ◌+◌, ◌*◌, ◌≤◌, List, [], ◌∷◌, length, take, slice_index, ◌==◌, Ok}
use Rattle.meta_record.specs.Records.{checked}
use Rattle.kv_pairs.specs.Growth.{IsFileSize}
use Rattle.meta_record.specs.declared.record.Record.{Record}
use Rattle.meta_record.specs.declared.record.TheConstants.{WORD_CHECKSUM, WORD_VERSION, WORD_SEQUENCE, WORD_SIZE, WORD_LAST_SIZE, WORD_LAST_CHECKSUM, WORD_FLAGS_LOW, WORD_FLAGS_HIGH}
use Rattle.region_words.specs.Region.{Region, file_size}
use Rattle.region_words.specs.Share.{word_in}
use Rattle.region_words.specs.Standings.{tail_of}
use Rattle.region_words.specs.declared.event.Side.TheVariants.{Data, Meta}
use Rattle.region_words.specs.declared.standing.Standing.{Standing}
use Rattle.loader.specs.declared.first_words.FirstWords.{FirstWords}

-- what the first ten loads of a region answer, in their order
abbrev pub first_answers : Region → List ℕ
first_answers r =
    file_size r
    ∷ word_in r Meta WORD_VERSION ∷ word_in r Meta WORD_FLAGS_LOW ∷ word_in r Meta WORD_FLAGS_HIGH
    ∷ word_in r Meta WORD_CHECKSUM ∷ word_in r Meta WORD_SEQUENCE
    ∷ word_in r Meta WORD_SIZE ∷ word_in r Meta WORD_LAST_SIZE ∷ word_in r Meta WORD_LAST_CHECKSUM
    ∷ word_in r Data 0 ∷ []

-- the answers so far are those of this region
pub record AreFirst (f : FirstWords) (r : Region) : Type 0 where
  pub same : take f.made f.answers ≡ take f.made (first_answers r)

-- the size of the data file, as it was answered
abbrev pub size_in : FirstWords → ℕ
size_in f = slice_index f.answers 0

-- the record, as it was answered
abbrev pub record_in : FirstWords → Record
record_in f =
    record {
      version = slice_index f.answers 1;
      flags = slice_index f.answers 2 + 4294967296 * slice_index f.answers 3;
      checksum = slice_index f.answers 4;
      sequence = slice_index f.answers 5;
      size = slice_index f.answers 6;
      last_size = slice_index f.answers 7;
      last_checksum = slice_index f.answers 8;
    }

-- the header, as it was answered
abbrev pub header_in : FirstWords → ℕ
header_in f = slice_index f.answers 9

-- the record that was loaded is accepted beside the header
abbrev pub HasAccepted : FirstWords → Type 0
HasAccepted f = checked (record_in f) (header_in f) ≡ Ok tt

-- if the record is accepted, something was written to the store
abbrev pub IsWritten : FirstWords → Type 0
IsWritten f = HasAccepted f → IsFileSize (size_in f) → (record_in f).version ≢ 0

-- the sequence and the checksum are words
pub record HasWords (s : Standing) : Type 0 where
  pub sequence : s.sequence ≤ 0xffffffff
  pub checksum : s.checksum ≤ 0xffffffff

-- what is to be known of an image with this payload and this checksum
abbrev pub standing_in : FirstWords → List ℕ → ℕ → Standing
standing_in f payload checksum =
    record {
      sequence = (record_in f).sequence;
      version = (record_in f).version;
      flag = (record_in f).flags == 1;
      size = length payload;
      checksum = checksum;
      tail = tail_of payload (length payload);
      file_size = size_in f;
    }
