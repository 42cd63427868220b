-- The members of a history, each with its seat.
use Rattle.std.specs.Prelude.{ℕ, ◌+◌, true, false, List, [], ◌∷◌, if◌then◌else◌}
use Rattle.change_log.specs.History.{makes_change}
use Rattle.change_log.specs.declared.change.Change.{Change}
use Rattle.change_log.specs.declared.call.Answer.{Answer}
use Rattle.change_log.specs.declared.woven.Entry.{Entry}
use Rattle.change_log.specs.declared.woven.Entry.TheVariants as entry
use Rattle.change_log.specs.declared.seat.Seat.{Seat}

abbrev pub entry_of : Seat → Entry
entry_of s = if s.is_change then entry.Change s.number else entry.Read s.number

-- the seat of the answer of this number
abbrev pub read_seat : ℕ → Answer → Seat
read_seat number a = record { place = a.place; is_change = false; who = a.who; number = number }

-- the seat of the change at a place
abbrev pub change_seat : ℕ → Seat
change_seat place = record { place = place; is_change = true; who = 0; number = place }

-- the seats of the reads among these answers, whose numbers begin here
abbrev pub read_seats : ℕ → List Answer → List Seat
read_seats number [] = []
read_seats number (a ∷ answers) = if makes_change [] a then read_seats (number + 1) answers else read_seat number a ∷ read_seats (number + 1) answers

-- so many seats of changes, from a place on
abbrev pub change_seats : ℕ → List Change → List Seat
change_seats place [] = []
change_seats place (c ∷ changes) = change_seat place ∷ change_seats (place + 1) changes
