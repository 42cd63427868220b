-- Why a line ends the play.
use Rattle.world.specs.declared.stops.OpenStop.{OpenStop}
use Rattle.world.specs.declared.stops.OpenStop.TheVariants as opening
use Rattle.world.specs.declared.stops.WorldStop.{WorldStop}
use Rattle.world.specs.declared.stops.WorldStop.TheVariants as world
use Rattle.mmkv_top.specs.declared.halt.Halt.{Halt}
use Rattle.mmkv_top.specs.declared.halt.Halt.TheVariants as halt

abbrev pub memory : Halt
memory = halt.Memory

-- an opener was not opened
abbrev pub of_opening : OpenStop → Halt
of_opening opening.TooMany = halt.Refused
of_opening opening.JournalFull = halt.JournalFull
of_opening opening.Memory = halt.Memory

-- a call was not begun
abbrev pub of_begin : WorldStop → Halt
of_begin world.NoOpener = halt.Refused
of_begin (world.Refused why) = halt.Refused
of_begin world.Memory = halt.Memory
