use Rattle.std.proofs.Common.{length, take, reverse}
use Rattle.region_words.specs.Region.{region_of}
use Rattle.death_model.proofs.Ranges.{AreSized}
use Rattle.death_model.proofs.range.are_in_range.Given as goal

abbrev pub invariant-loop-event : goal.invariant-loop-event
invariant-loop-event l = AreSized (region_of l.body l.meta) (reverse (take l.event-index l.events)) l.size (length l.meta)
