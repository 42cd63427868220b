-- Runs whose events change words that are there.
use Rattle.std.specs.Prelude.{◌≡◌, ℕ, ◌%◌, ◌<◌, ◌≤◌, List, [], ◌∷◌, Some, None, length, ⊤}
use Rattle.kv_pairs.specs.Growth.{largest}
use Rattle.region_words.specs.Region.{Region, file_size}
use Rattle.region_words.specs.Past.{region_after}
use Rattle.region_words.specs.Lawful.{IsWordOf, Lawful}
use Rattle.region_words.specs.declared.event.Side.TheVariants.{Data}
use Rattle.region_words.specs.declared.event.What.{What}
use Rattle.region_words.specs.declared.event.What.TheVariants.{Store, Grow, Lock, Unlock, Died}
use Rattle.region_words.specs.declared.event.Event.{Event}

-- a file is whole pages of 4096 bytes, at least one
abbrev pub ArePages : List ℕ → Type 0
ArePages bytes = (0 < length bytes) × (length bytes % 4096 ≡ 0)

-- a word that an event stores or tears stands in its file, and the data file grows to more whole pages, within its limit
abbrev pub IsInRange : Region → What → Type 0
IsInRange r (Store side word value mark) = IsWordOf r side word
IsInRange r (Grow size) = (file_size r < size) × (size ≤ largest) × (size % 4096 ≡ 0)
IsInRange r (Lock kind) = ⊤
IsInRange r Unlock = ⊤
IsInRange r (Died None) = ⊤
IsInRange r (Died (Some torn)) = IsWordOf r Data torn.word

-- each of these events is in range where it comes
abbrev pub AreInRange : Region → List Event → Type 0
AreInRange start [] = Unit {0}
AreInRange start (e ∷ past) = AreInRange start past × IsInRange (region_after start past) e.what

-- the events of a lawful journal are
abbrev pub LawfulIsInRange : Type 0
LawfulIsInRange = (start : Region) (past : List Event) → Lawful start past → AreInRange start past
