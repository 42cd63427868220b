use Rattle.std.proofs.Common.{◌≡◌}
use Rattle.file_region.proofs.dir_shelf.DirShelf.read_until_still.Given as goal

abbrev pub invariant-loop : goal.invariant-loop
invariant-loop g l = (l.self.faults ≡ l.fn.self.faults) × (l.self.absences ≡ l.fn.self.absences)
