-- The two files as a region, and what is read of it.
use Rattle.std.specs.Prelude.{◌≡◌, ℕ, ◌≤◌, List, [], ◌∷◌, length}
use Rattle.region_words.specs.Region.{Region, header, record_of, region_of}
use Rattle.region_words.specs.Past.{region_step}
use Rattle.region_words.specs.Apart.{payloads_of}
use Rattle.region_words.specs.declared.event.What.{What}
use Rattle.region_words.specs.declared.event.What.TheVariants.{Grow}
use Rattle.death_model.specs.InRange.{IsInRange}
use Rattle.death_model.specs.declared.files.Files.{Files}
use Rattle.death_model.specs.declared.files.Sizes.{Sizes}

abbrev pub region_in : Files → Region
region_in files = region_of files.data.items files.meta.items

-- the words of header and record stand there
pub record IsReadable (r : Region) : Type 0 where
  pub data_file : 4 ≤ length r.data_bytes
  pub meta_file : 112 ≤ length r.meta_bytes

abbrev pub sizes_of : Region → Sizes
sizes_of r = record { header = header r; size = (record_of r).size; last_size = (record_of r).last_size }

-- the payload of this size, where it fits
abbrev pub payload_at : Region → ℕ → List (List ℕ)
payload_at r size = payloads_of r (size ∷ [])

-- this event took the one region to the other
pub record IsStepTo (before : Region) (what : What) (after : Region) : Type 0 where
  pub in_range : IsInRange before what
  pub after_is : after ≡ region_step before what

-- the size of the data file after an event
abbrev pub size_after : ℕ → What → ℕ
size_after size (Grow grown) = grown
size_after size _ = size
