-- A script that is played on a world that was lent.
use Rattle.std.specs.Prelude.{◌≡◌, ◌⊎◌, ℕ, Bool, true, false, List, take}
use Rattle.region_words.specs.Region.{Region}
use Rattle.world.specs.World.{WorldState}
use Rattle.mmkv_top.specs.declared.ending.Ending.{Ending}
use Rattle.script_lang.specs.Parts.{answers_in, outcomes_of, past_of}
use Rattle.script_lang.specs.Script.{EndsLines, texts_of}
use Rattle.mmkv_top.specs.Play.{IsEndedEarly, IsPlayed}
use Rattle.script_lang.specs.Played.{Stock}

-- all lines are played, and their events and answers are those of the world
pub record IsPlayedOn (stock : Stock) (start : Region) (texts : List (List ℕ)) (w : WorldState) (e : Ending) : Type 0 where
  pub played : IsPlayed stock start texts e
  pub past : w.region.past ≡ past_of played.parts
  pub answers : w.answers ≡ answers_in (outcomes_of played.parts)

-- the script is played on a world, or ended early; where it was cut, and a further byte follows, a line ends the play, be it that which holds
-- this byte
abbrev pub PlaysOn : Bool → Stock → Region → List ℕ → WorldState → Ending → Type 0
PlaysOn false stock start script w e = IsPlayedOn stock start (texts_of script) w e ⊎ IsEndedEarly stock start (texts_of script) false e
PlaysOn true stock start script w e = (size : ℕ) × EndsLines script size × IsEndedEarly stock start (texts_of (take size script)) true e
