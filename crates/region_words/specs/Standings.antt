-- What an opener knows of an image, and the region that it is true of.
use Rattle.std.specs.Prelude.{◌≡◌, ℕ, ◌+◌, ◌*◌, ◌/◌, ◌%◌, ◌≤◌, List, [], ◌∷◌, take, drop}
use Rattle.std.specs.Int.{to_le_bytes, w32}
use Rattle.crc_words.specs.Crc.{crc}
use Rattle.region_words.specs.Region.{Region, record_of, flag, file_size, payload_of}
use Rattle.region_words.specs.declared.standing.Standing.{Standing}

-- the bytes as words, the last filled up with zeros
abbrev pub words_of : List ℕ → List ℕ
words_of [] = []
words_of (a ∷ []) = a ∷ []
words_of (a ∷ b ∷ []) = (a + 256 * b) ∷ []
words_of (a ∷ b ∷ c ∷ []) = (a + 256 * b + 65536 * c) ∷ []
words_of (a ∷ b ∷ c ∷ d ∷ rest) = (a + 256 * b + 65536 * c + 16777216 * d) ∷ words_of rest

abbrev pub first_of : List ℕ → ℕ
first_of [] = 0
first_of (word ∷ words) = word

-- the word in which the next byte of a payload would stand, with zeros from there on
abbrev pub tail_of : List ℕ → ℕ → ℕ
tail_of bytes size = first_of (words_of (drop (4 * (size / 4)) bytes))

-- the bytes of the payload that its last word shares with what comes next
abbrev pub tail_bytes : Standing → List ℕ
tail_bytes s = take (s.size % 4) (to_le_bytes w32 s.tail)

-- what is to be known of the image of this size
abbrev pub standing_of : Region → ℕ → Standing
standing_of r size =
    record {
      sequence = (record_of r).sequence;
      version = (record_of r).version;
      flag = flag r;
      size = size;
      checksum = crc (payload_of r size);
      tail = tail_of (payload_of r size) size;
      file_size = file_size r;
    }

-- this is known of the image of this size, but for a file that may have grown meanwhile
pub record IsStandingOf (r : Region) (size : ℕ) (s : Standing) : Type 0 where
  pub known : record s { file_size = file_size r } ≡ standing_of r size
  pub within : s.file_size ≤ file_size r
