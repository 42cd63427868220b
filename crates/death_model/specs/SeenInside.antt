-- What is known of payloads at which a checksum was looked at.
use Rattle.std.specs.Prelude.{◌≡◌, ℕ, zero, ◌-◌, ◌*◌, Bool, true, false, List, [], ◌++◌, Option, Some, None, Contains, filter, ◌==◌, ◌&&◌, nat_lt}
use Rattle.std.specs.Option.{option_map}
use Rattle.std.specs.Ordering.{nat_cmp}
use Rattle.std.specs.BTreeMap.{get}
use Rattle.crc_words.specs.Crc.{crc}
use Rattle.region_words.specs.Region.{Region}
use Rattle.region_words.specs.Apart.{payloads_of, ending_in}
use Rattle.region_words.specs.declared.event.Side.TheVariants.{Data, Meta}
use Rattle.region_words.specs.declared.event.Mark.TheVariants.{Plain}
use Rattle.region_words.specs.declared.event.What.{What}
use Rattle.region_words.specs.declared.event.What.TheVariants.{Store, Grow, Died}
use Rattle.death_model.specs.declared.seen.Seen.{Seen}

-- the payload that is kept for a checksum
abbrev pub kept_for : Seen → ℕ → Option (List ℕ)
kept_for seen checksum = option_map (λ payload. payload.items) (get nat_cmp seen.payloads checksum)

-- these payloads are kept, each for its checksum, and no others
pub record Keeps (seen : Seen) (all : List (List ℕ)) : Type 0 where
  pub each : (s : List ℕ) → Contains all s → kept_for seen (crc s) ≡ Some s
  pub only : (c : ℕ) (s : List ℕ) → kept_for seen c ≡ Some s → Contains all s × (crc s ≡ c)

-- different ones have different checksums
abbrev pub AreApart : List (List ℕ) → Type 0
AreApart all = (s t : List ℕ) → Contains all s → Contains all t → crc s ≡ crc t → s ≡ t

abbrev pub Within : List (List ℕ) → List (List ℕ) → Type 0
Within some all = (s : List ℕ) → Contains some s → Contains all s

-- More payloads were looked at, or are known to be kept: all are kept, or two of them have one checksum.
abbrev pub Tells : (known : List (List ℕ)) → (old new : Seen) → (more : List (List ℕ)) → Bool → Type 0
Tells known old new more true = (all : List (List ℕ)) → Within known all → Keeps old all → Keeps new (more ++ all)
Tells known old new more false = (all : List (List ℕ)) → Within known all → Keeps old all → AreApart (more ++ all) → ⊥

-- a data word has bytes of the payload of this size
abbrev pub lies_in : (word size : ℕ) → Bool
lies_in word size = nat_lt 0 word && nat_lt (4 * (word - 1)) size

-- an event may make another payload of this size: it changes a word of it, or the file may have become long enough
abbrev pub touches : What → (size : ℕ) → Bool
touches (Store Data word value mark) size = lies_in word size
touches (Grow grown) size = true
touches (Died (Some torn)) size = lies_in torn.word size
touches _ size = false

-- the payloads of these sizes with this checksum
abbrev pub summed : Region → ℕ → List ℕ → List (List ℕ)
summed r checksum sizes = filter (λ bytes. crc bytes == checksum) (payloads_of r sizes)

-- the checksum that a store without a change puts in its place
abbrev pub plain_checksum : What → Option ℕ
plain_checksum (Store Meta zero value Plain) = Some value
plain_checksum _ = None

-- the payloads that such a checksum may be meant for, where this data word was stored last
abbrev pub meant : Region → Option ℕ → Option ℕ → List (List ℕ)
meant r (Some word) (Some checksum) = summed r checksum (ending_in word)
meant r (Some word) None = []
meant r None checksum = []
