-- The images that may be shown, in their order.
use Rattle.std.specs.Prelude.{◌≡◌, ℕ, ◌+◌, ◌<◌, ◌≤◌, ⊤, Bool, true, false, List, length, take, drop, nat_le, not, ◌&&◌, ◌==◌, if◌then◌else◌}
use Rattle.meta_record.specs.Records.{agrees, shown_size}
use Rattle.meta_record.specs.declared.shown.Damage.{Damage}
use Rattle.meta_record.specs.declared.shown.Damage.TheVariants.{Checksum, Length}
use Rattle.meta_record.specs.declared.shown.Shown.{Shown}
use Rattle.region_words.specs.Region.{Region, record_of, header}
use Rattle.loader.specs.FirstWords.{size_in, record_in, header_in, IsWritten}
use Rattle.loader.specs.declared.first_words.FirstWords.{FirstWords}
use Rattle.loader.specs.declared.candidates.Candidate.{Candidate}
use Rattle.loader.specs.declared.candidates.Candidate.TheVariants as by
use Rattle.loader.specs.declared.candidates.Compared.{Compared}
use Rattle.loader.specs.declared.candidates.Compared.TheVariants.{Unknown, Agrees, Differs}
use Rattle.loader.specs.declared.candidates.Judged.{Judged}
use Rattle.loader.specs.declared.candidates.Judged.TheVariants.{Wants, Shows}

-- these are the first payload bytes of the region
pub record IsFront (bytes : List ℕ) (r : Region) : Type 0 where
  pub same : bytes ≡ take (length bytes) (drop 4 r.data_bytes)

-- the region's image of this candidate has its checksum
abbrev pub candidate_agrees : Candidate → Region → Bool
candidate_agrees by.Record r = agrees r.data_bytes (record_of r).size (record_of r).checksum
candidate_agrees by.Header r = not (header r == (record_of r).size) && agrees r.data_bytes (header r) (record_of r).checksum
candidate_agrees by.Last r = agrees r.data_bytes (record_of r).last_size (record_of r).last_checksum

-- the images of the candidates before this one don't agree
abbrev pub NoneBefore : Candidate → Region → Type 0
NoneBefore by.Record r = ⊤
NoneBefore by.Header r = candidate_agrees by.Record r ≡ false
NoneBefore by.Last r = (candidate_agrees by.Record r ≡ false) × (candidate_agrees by.Header r ≡ false)

-- the candidate's place in the order
abbrev pub turn_of : Candidate → ℕ
turn_of by.Record = 0
turn_of by.Header = 1
turn_of by.Last = 2

-- the size of the candidate's image
abbrev pub candidate_size : Candidate → FirstWords → ℕ
candidate_size by.Record f = (record_in f).size
candidate_size by.Header f = header_in f
candidate_size by.Last f = (record_in f).last_size

-- the image fits its file, not all of its payload is loaded, and the store isn't fresh
pub record IsWanted (f : FirstWords) (loaded : List ℕ) (c : Candidate) : Type 0 where
  pub fits : 4 + candidate_size c f ≤ size_in f
  pub more : length loaded < candidate_size c f
  pub written : IsWritten f

-- what a comparison says of the region's image of this size
abbrev pub Compares : Compared → Region → ℕ → ℕ → Type 0
Compares Unknown r size checksum = ⊤
Compares Agrees r size checksum = agrees r.data_bytes size checksum ≡ true
Compares Differs r size checksum = agrees r.data_bytes size checksum ≡ false

-- this holds of the candidate that is wanted
abbrev pub IfWants : Judged → (Candidate → Type 0) → Type 0
IfWants (Wants c) P = P c
IfWants (Shows s) P = ⊤

-- this holds of what is shown
abbrev pub IfShows : Judged → (Shown → Type 0) → Type 0
IfShows (Wants c) P = ⊤
IfShows (Shows s) P = P s

-- by its checksums, the region shows this
pub record ShowsSize (r : Region) (s : Shown) : Type 0 where
  pub is : shown_size (record_of r) (header r) r.data_bytes ≡ s

-- what a judgement says of the region
abbrev pub Tells : Judged → Region → Type 0
Tells (Wants c) r = NoneBefore c r
Tells (Shows s) r = ShowsSize r s

-- how a region is damaged of which no image agrees
abbrev pub damage_in : FirstWords → Damage
damage_in f = if nat_le (4 + (record_in f).size) (size_in f) then Checksum else Length
