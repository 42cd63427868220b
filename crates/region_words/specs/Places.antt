-- Places in a journal.
use Rattle.std.specs.Prelude.{ℕ, ◌<◌, ⊤}
use Rattle.region_words.specs.Share.{most_events}
use Rattle.region_words.specs.declared.places.AdmitStop.{AdmitStop}
use Rattle.region_words.specs.declared.places.AdmitStop.TheVariants.{JournalFull, Memory}

-- why there is no room for so many events and kept places
abbrev pub LacksRoom : ℕ → AdmitStop → Type 0
LacksRoom n JournalFull = most_events < n
LacksRoom n Memory = ⊤
