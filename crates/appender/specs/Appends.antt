-- The events of an append, from what is known of the image.
use Rattle.std.specs.Prelude.{◌+◌, ◌<◌, ◌≤◌, List, [], ◌∷◌, length}
use Rattle.kv_pairs.specs.Growth.{largest}
use Rattle.change_log.specs.declared.change.Change.{Change}
use Rattle.region_words.specs.Rows.{item_of, append_stores, store_data, store_meta, IsAppendable}
use Rattle.region_words.specs.Making.{Making, appended_standing}
use Rattle.region_words.specs.declared.standing.Standing.{Standing}
use Rattle.region_words.specs.declared.event.Side.TheVariants.{Meta}
use Rattle.region_words.specs.declared.event.What.{What}
use Rattle.region_words.specs.declared.event.What.TheVariants.{Store}
use Rattle.region_words.specs.declared.event.Mark.TheVariants.{Commit}

-- the change is a put or remove whose item fits the file, behind a payload that isn't empty
pub record CanAppend (s : Standing) (change : Change) : Type 0 where
  pub appendable : IsAppendable s.flag change.act
  pub some : 0 < s.size
  pub room : 4 + s.size + length (item_of s.flag change.act) ≤ s.file_size
  pub file : s.file_size ≤ largest

-- an append of which nothing is made yet: it grows no file
abbrev pub appending : Standing → Change → Making
appending s change =
    let item = item_of s.flag change.act in
    record { events = append_stores s item (Commit change); room = 0; standing = appended_standing s item }

-- the stores behind the payload, with the change on the checksum
abbrev pub ending : Standing → Change → List What
ending after change = store_data 0 after.size ∷ Store Meta 0 after.checksum (Commit change) ∷ store_meta 7 after.size ∷ []
