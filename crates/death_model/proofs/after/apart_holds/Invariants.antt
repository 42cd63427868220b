use Rattle.std.proofs.Common.{take, reverse}
use Rattle.region_words.specs.Region.{region_of}
use Rattle.death_model.specs.FilesInside.{IsReadable, region_in}
use Rattle.death_model.specs.RunInside.{IsAfter}
use Rattle.death_model.proofs.after.apart_holds.Given as goal

abbrev pub invariant-loop-event : goal.invariant-loop-event
invariant-loop-event l = IsReadable (region_in l.run.files) × IsAfter l.run (region_of l.body l.meta) (reverse (take l.event-index l.events))
