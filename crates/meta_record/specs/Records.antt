use Rattle.std.specs.Prelude.{ℕ, ◌+◌, ◌*◌, Bool, List, Result, Ok, Err, nat_lt, not, ◌&&◌, ◌||◌, ◌==◌, if◌then◌else◌}
use Rattle.crc_words.specs.Crc.{crc}
use Rattle.meta_record.specs.Words.{word_at, fits, payload}
use Rattle.meta_record.specs.declared.record.TheConstants.{WORD_CHECKSUM, WORD_VERSION, WORD_SEQUENCE, WORD_SIZE, WORD_LAST_SIZE, WORD_LAST_CHECKSUM, WORD_FLAGS_LOW, WORD_FLAGS_HIGH}
use Rattle.meta_record.specs.declared.record.Record.{Record}
use Rattle.meta_record.specs.declared.shown.Damage.TheVariants.{Length, Checksum}
use Rattle.meta_record.specs.declared.shown.Shown.{Shown}
use Rattle.meta_record.specs.declared.shown.Shown.TheVariants.{Whole, Header, Last, Damaged}
use Rattle.meta_record.specs.declared.record.RecordFault.{RecordFault}
use Rattle.meta_record.specs.declared.record.RecordFault.TheVariants.{Version, Flags}

-- the flags as one number, the low word first
abbrev pub flags_at : List ℕ → ℕ
flags_at meta = word_at meta WORD_FLAGS_LOW + 4294967296 * word_at meta WORD_FLAGS_HIGH

-- the record that stands in the meta file
abbrev pub record_at : List ℕ → Record
record_at meta =
    record {
      checksum = word_at meta WORD_CHECKSUM;
      version = word_at meta WORD_VERSION;
      sequence = word_at meta WORD_SEQUENCE;
      size = word_at meta WORD_SIZE;
      last_size = word_at meta WORD_LAST_SIZE;
      last_checksum = word_at meta WORD_LAST_CHECKSUM;
      flags = flags_at meta;
    }

-- a store in which nothing was ever written
abbrev pub is_fresh : Record → ℕ → Bool
is_fresh rec header = (rec.version == 0) && ((header == 0) && ((rec.checksum == 0) && ((rec.size == 0) && (rec.flags == 0))))

-- which records are accepted, and why another is refused
abbrev pub checked : Record → ℕ → Result (Unit {0}) RecordFault
checked rec header =
    if is_fresh rec header || ((rec.version == 3) || (rec.version == 4))
    then (if nat_lt 1 rec.flags then Err (Flags rec.flags) else Ok tt)
    else Err (Version rec.version)

-- a payload of this size stands there and has this checksum
abbrev pub agrees : List ℕ → ℕ → ℕ → Bool
agrees body size checksum = fits body size && (crc (payload body size) == checksum)

-- The first of these images that agrees: that of the record's size, of the header's size, of the last confirmed size.
-- In a fresh store the first does, since the empty payload has the checksum 0.
abbrev pub shown_size : Record → ℕ → List ℕ → Shown
shown_size rec header body =
    if agrees body rec.size rec.checksum then Whole rec.size
    else (if not (header == rec.size) && agrees body header rec.checksum then Header header
    else (if agrees body rec.last_size rec.last_checksum then Last rec.last_size
    else Damaged (if fits body rec.size then Checksum else Length)))
