use Rattle.std.proofs.Common.{◌≡◌, take, reverse}
use Rattle.region_words.specs.Past.{changes_of}
use Rattle.region_words.proofs.copies.changes_in.Given as goal

abbrev pub invariant-loop-event : goal.invariant-loop-event
invariant-loop-event l = l.changes.items ≡ changes_of (reverse (take l.event-index l.journal))
