-- What a script is played on, and what came of it so far.
use Rattle.std.specs.Prelude.{ℕ, List}
use Rattle.world.specs.World.{WorldState}

-- a world, and the text of what the lines ended with
pub record PlayState : Type 0 where
  pub world : WorldState
  pub text : List ℕ

abbrev pub play_state : WorldState → List ℕ → PlayState
play_state w text = record { world = w; text = text }
