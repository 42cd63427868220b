-- The events of a switch, in two parts.
use Rattle.std.specs.Prelude.{ℕ, List, [], ◌∷◌, ◌++◌, Some}
use Rattle.change_log.specs.declared.change.Change.{Change}
use Rattle.region_words.specs.Rows.{growth, next_sequence, close_sizes, store_meta}
use Rattle.region_words.specs.declared.standing.Standing.{Standing}
use Rattle.region_words.specs.declared.event.Mark.TheVariants.{Commit}
use Rattle.region_words.specs.declared.event.Side.TheVariants.{Data}
use Rattle.region_words.specs.declared.event.What.{What}
use Rattle.region_words.specs.declared.event.What.TheVariants.{Store}
use Rattle.expiry_switch.specs.Switches.{flags_of}

-- the events before the payload
abbrev pub opening : Standing → ℕ → List What
opening s size = growth s (Some size) ++ next_sequence s ∷ store_meta 1 4 ∷ close_sizes

-- the events behind the payload, with the change on the header
abbrev pub closing : Standing → Change → List What
closing after change =
    store_meta 26 (flags_of after.flag) ∷ store_meta 0 after.checksum ∷ store_meta 9 after.checksum
    ∷ Store Data 0 after.size (Commit change) ∷ store_meta 7 after.size ∷ store_meta 8 after.size ∷ []
