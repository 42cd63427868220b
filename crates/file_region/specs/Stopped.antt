-- Why the reading of a file was stopped.
use Rattle.std.specs.Prelude.{◌≡◌, ℕ, ◌<◌}
use Rattle.region_words.specs.Outside.{Rose}
use Rattle.region_words.specs.declared.shelf.ShelfStop.{ShelfStop}
use Rattle.region_words.specs.declared.shelf.ShelfStop.TheVariants.{Failed, Absent, SizeRefused, Memory}

-- There was a cause: a fault, which was counted, a size over the limit, or want of memory. Nothing else is counted as a fault.
abbrev pub IsStopped : (limit before now : ℕ) → ShelfStop → Type 0
IsStopped limit before now Failed = Rose before now
IsStopped limit before now Absent = ⊥
IsStopped limit before now (SizeRefused size) = (limit < size) × (now ≡ before)
IsStopped limit before now Memory = now ≡ before
