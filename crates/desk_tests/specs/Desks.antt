-- A desk that was just made, with the pass of opener 1.
use Rattle.std.specs.Prelude.{◌≡◌, true, false, None}
use Rattle.step_desk.specs.Rule.{is_admitted, newcomer}
use Rattle.step_desk.specs.Passes.{DeskState, PassState, no_counts, state_of}
use Rattle.race_core.specs.Worker.{MayWork as MayBegin}

-- a desk of two openers that may make events
pub record IsNew (d : DeskState) (p : PassState) : Type 0 where
  pub pass : p ≡ record { table = d.table; view = newcomer d.about 2; counts = no_counts }
  pub seats : d.seats ≡ 2
  pub first : is_admitted d.about 1 ≡ true
  pub second : is_admitted d.about 2 ≡ true

-- a pass of the desk, whose opener lives and holds nothing
abbrev pub MayWork : DeskState → PassState → Type 0
MayWork d p = (p.table ≡ d.table) × ((state_of p).ended ≡ false) × ((state_of p).holds ≡ None)

-- a pass of the desk, at which a worker may begin
abbrev pub MayRace : DeskState → PassState → Type 0
MayRace d p = (p.table ≡ d.table) × MayBegin p
