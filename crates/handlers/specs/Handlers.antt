-- What a steady handler stands for.
use Rattle.std.specs.Prelude.{List, []}
use Rattle.meta_record.specs.declared.shown.Damage.{Damage}
use Rattle.handlers.specs.declared.handler.Strategy.{Strategy}
use Rattle.handlers.specs.declared.handler.Notice.{Notice}

-- its answer, the damages that it was asked about, and the changes that it was told of
pub record Handled : Type 0 where
  pub strategy : Strategy
  pub asked : List Damage
  pub notices : List Notice

-- it was asked and told nothing
abbrev pub fresh : Strategy → Handled
fresh strategy = record { strategy = strategy; asked = []; notices = [] }
