-- The stores of the repairs, from what is known of the image that a region shows.
use Rattle.std.specs.Prelude.{◌≡◌, ◌+◌, ◌<◌, List}
use Rattle.change_log.specs.declared.change.Change.{Change}
use Rattle.meta_record.specs.declared.record.Record.{Record}
use Rattle.region_words.specs.Making.{Making}
use Rattle.region_words.specs.Rows.{discard_stores, restore_stores, size_repair_stores}
use Rattle.region_words.specs.declared.event.Mark.TheVariants.{Commit}
use Rattle.region_words.specs.declared.event.What.{What}
use Rattle.region_words.specs.declared.standing.Standing.{Standing}
use Rattle.handlers.specs.declared.repairs.RepairStop.{RepairStop}
use Rattle.handlers.specs.declared.repairs.RepairStop.TheVariants.{SequenceEnd, Memory}

-- a row that never grows the file
abbrev pub in_place : List What → Standing → Making
in_place events after = record { events = events; room = 0; standing = after }

-- the record's size becomes the image's, and nothing else is changed
abbrev pub size_repairing : Standing → Making
size_repairing s = in_place (size_repair_stores s) s

-- the last confirmed image takes the place of a broken one
abbrev pub restored_standing : Standing → Record → Standing
restored_standing s rec = record s { sequence = s.sequence + 1; size = rec.last_size; checksum = rec.last_checksum }

abbrev pub restoring : Standing → Record → Change → Making
restoring s rec change = in_place (restore_stores s rec (Commit change)) (restored_standing s rec)

-- the empty image takes the place of a damaged one
abbrev pub discarded_standing : Standing → Standing
discarded_standing s = record s { sequence = s.sequence + 1; size = 0; checksum = 0; tail = 0 }

abbrev pub discarding : Standing → Change → Making
discarding s change = in_place (discard_stores s (Commit change)) (discarded_standing s)

-- why a repair isn't begun: the sequence is at its end, else memory is short
abbrev pub IsNoRepair : Standing → RepairStop → Type 0
IsNoRepair s SequenceEnd = s.sequence ≡ 0xffffffff
IsNoRepair s Memory = s.sequence < 0xffffffff
