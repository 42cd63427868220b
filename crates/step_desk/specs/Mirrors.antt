-- What the mirrored words of a desk show of its journal.
use Rattle.std.specs.Prelude.{◌≡◌, ℕ, ◌+◌, ◌*◌, List, [], ◌∷◌, ◌++◌, length, ⊤}
use Rattle.region_words.specs.Region.{Region, record_of}
use Rattle.region_words.specs.Past.{region_after, changes_of}
use Rattle.region_words.specs.declared.event.Event.{Event}

-- the record's checksum after these events
unfoldable pub checksum_after : Region → List Event → ℕ
checksum_after start past = (record_of (region_after start past)).checksum

-- the record's sequence after these events
unfoldable pub sequence_after : Region → List Event → ℕ
sequence_after start past = (record_of (region_after start past)).sequence

-- the number of changes after these events
abbrev pub changes_made : List Event → ℕ
changes_made past = length (changes_of past)

-- A word of the record, as it is after some events.
abbrev pub Words : Type 0
Words = Region → List Event → ℕ

-- this word with the number of changes above it, in one word of 64 bits
abbrev pub mirror : Words → Region → List Event → ℕ
mirror word start past = word start past + 4294967296 * changes_made past

-- in each journal on the way from that one, by these events, this word is the same
abbrev pub Quiet : Words → Region → List Event → List Event → Type 0
Quiet word start [] shown_at = ⊤
Quiet word start (e ∷ since) shown_at = Quiet word start since shown_at × (word start (e ∷ (since ++ shown_at)) ≡ word start shown_at)
