use Rattle.std.proofs.Common.{◌≡◌, take, reverse}
use Rattle.region_words.specs.Region.{region_of}
use Rattle.region_words.specs.Past.{region_after}
use Rattle.death_model.specs.FilesInside.{region_in}
use Rattle.death_model.proofs.after.after_death.Given as goal

abbrev pub invariant-loop-event : goal.invariant-loop-event
invariant-loop-event l = region_in l.files ≡ region_after (region_of l.body l.meta) (reverse (take l.event-index l.events))
