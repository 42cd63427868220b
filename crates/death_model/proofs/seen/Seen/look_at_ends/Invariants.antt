use Rattle.death_model.specs.FilesInside.{region_in}
use Rattle.death_model.proofs.Ends.{LookedBelow}
use Rattle.death_model.proofs.seen.Seen.look_at_ends.Given as goal

abbrev pub invariant-loop-size : goal.invariant-loop-size
invariant-loop-size l = LookedBelow (region_in l.files) l.checksum l.end l.initial.self l.size l.self
