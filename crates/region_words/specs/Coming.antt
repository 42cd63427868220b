-- The events of a row that are still to come.
use Rattle.std.specs.Prelude.{List, ℕ, ⊤}
use Rattle.region_words.specs.Region.{Region}
use Rattle.region_words.specs.Past.{region_after}
use Rattle.region_words.specs.Rows.{Row}
use Rattle.region_words.specs.Lawful.{Phase, Reaches, MayComeNext, map_after}
use Rattle.region_words.specs.declared.event.What.{What}
use Rattle.region_words.specs.declared.event.What.TheVariants.{Store, Grow}
use Rattle.region_words.specs.declared.event.Event.{Event}

-- Of this row, begun or not, these events come next, one after another, and then it is whole.
pub record IsComing (start : Region) (past : List Event) (who : ℕ) (row : Row) (events : List What) : Type 0 where
  pub phase : Phase
  pub reached : Reaches start past phase
  pub next : MayComeNext (region_after start past) (map_after start past) who phase row events

-- the event is a store or a growth
abbrev pub IsStoring : What → Type 0
IsStoring (Store side word value mark) = ⊤
IsStoring (Grow size) = ⊤
IsStoring _ = ⊥
