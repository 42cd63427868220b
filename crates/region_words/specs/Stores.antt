-- Stores on a shelf: their IDs, and the bytes that lie under them.
use Rattle.std.specs.Prelude.{◌≡◌, ℕ, ◌+◌, ◌*◌, ◌/◌, ◌<◌, ◌≤◌, Bool, false, List, [], ◌∷◌, length, max, nat_lt, ◌==◌, if◌then◌else◌, All, Option, Some, None, find, Result, Ok, Err, ⊤, codes, nat_eq}
use Rattle.std.specs.List.{ends_with, list_any}
use Rattle.std.specs.Str.{IsUtf8, bytes_eq}
use Rattle.meta_record.specs.Words.{grown_to}
use Rattle.region_words.specs.declared.shelf.Brought.{Brought}
use Rattle.region_words.specs.declared.shelf.ShelfStop.{ShelfStop}
use Rattle.region_words.specs.declared.shelf.ShelfStop.TheVariants.{Failed, Absent, SizeRefused, Memory}
use Rattle.region_words.specs.declared.mem_shelf.Shelved.{Shelved}
use Rattle.region_words.specs.declared.shelf.TheConstants.{LARGEST_DATA, LARGEST_META}
use Rattle.region_words.specs.Outside.{Tally}

-- the marks that no ID has, since they mean something in paths: \ / : * ? " < > |
abbrev pub is_path_mark : ℕ → Bool
is_path_mark b = list_any (λ mark. mark == b) (92 ∷ 47 ∷ 58 ∷ 42 ∷ 63 ∷ 34 ∷ 60 ∷ 62 ∷ 124 ∷ [])

-- the name of a store: 1 to 200 bytes of UTF-8 that don't end in `.crc`, with none of these marks
pub record IsId (id : List ℕ) : Type 0 where
  pub some : 0 < length id
  pub most : length id ≤ 200
  pub text : IsUtf8 id
  pub ending : ends_with nat_eq id (codes ".crc") ≡ false
  pub marks : All (λ b. is_path_mark b ≡ false) id

-- What lies under an ID, where it is told: no data file, or the bytes of both files. A missing meta file counts as an empty one.
pub data Told : Type 0 where
  Untold : Told
  Nothing : Told
  Files : (body meta : List ℕ) → Told

-- what is brought of two files: both, or the length of the first that is over its limit
abbrev pub brought : List ℕ → List ℕ → Result Brought ShelfStop
brought body meta =
    if nat_lt LARGEST_DATA (length body) then Err (SizeRefused (length body))
    else (if nat_lt LARGEST_META (length meta) then Err (SizeRefused (length meta)) else Ok (record { body = body; meta = meta }))

-- the answer that is due where nothing fails and memory suffices
abbrev pub IsDue : Told → Result Brought ShelfStop → Type 0
IsDue Untold result = ⊤
IsDue Nothing result = result ≡ Err Absent
IsDue (Files body meta) result = result ≡ brought body meta

-- the answer that is due, but for a fault and for want of memory
abbrev pub IsDueOrRefused : Told → Result Brought ShelfStop → Type 0
IsDueOrRefused told (Ok b) = IsDue told (Ok b)
IsDueOrRefused told (Err Failed) = ⊤
IsDueOrRefused told (Err Memory) = ⊤
IsDueOrRefused told (Err Absent) = IsDue told (Err Absent)
IsDueOrRefused told (Err (SizeRefused n)) = IsDue told (Err (SizeRefused n))

-- the stores that lie on a shelf in memory, how often one was asked for that isn't there, and the calls made on it
pub record Stack : Type 0 where
  pub stores : List Shelved
  pub absences : ℕ
  pub tally : Tally

-- the files of a store that was found or not
abbrev pub told_of : Option Shelved → Told
told_of None = Nothing
told_of (Some s) = Files s.body s.meta

-- what lies under an ID: the first of that name counts
abbrev pub told_in : List Shelved → List ℕ → Told
told_in stores id = told_of (find (λ s. bytes_eq s.id id) stores)

-- the length that a file counts as: whole pages of 4096 bytes, at least one
abbrev pub whole_pages : ℕ → ℕ
whole_pages n = max 4096 (4096 * ((n + 4095) / 4096))

-- a file followed by zeros up to whole pages
abbrev pub filled_up : List ℕ → List ℕ
filled_up bytes = grown_to bytes (whole_pages (length bytes))
