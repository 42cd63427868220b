-- What a share tells of its journal, or doesn't.
use Rattle.std.specs.Prelude.{ℕ, Option, Some, None, List, length, ⊤}
use Rattle.region_words.specs.Region.{Region}
use Rattle.region_words.specs.Past.{changes_of}
use Rattle.region_words.specs.declared.event.Event.{Event}

-- where a journal starts, and its events so far
pub record History : Type 0 where
  pub start : Region
  pub past : List Event

-- this holds where a history is told
abbrev pub OnTold : Option History → (History → Type 0) → Type 0
OnTold None P = ⊤
OnTold (Some h) P = P h

-- a history is told, and this holds of it
abbrev pub TellsThat : Option History → (History → Type 0) → Type 0
TellsThat None P = ⊥
TellsThat (Some h) P = P h

-- what is told goes on being told, and this holds of the two
abbrev pub OnBoth : Option History → Option History → (History → History → Type 0) → Type 0
OnBoth None None R = ⊤
OnBoth None (Some k) R = ⊥
OnBoth (Some h) None R = ⊥
OnBoth (Some h) (Some k) R = R h k

-- the number of changes that are told
abbrev pub changes_told : Option History → ℕ
changes_told None = 0
changes_told (Some h) = length (changes_of h.past)
