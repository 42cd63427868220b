use Rattle.step_desk.proofs.seat.Seat.split.Given as goal

abbrev pub ghosts-split : goal.ghosts-split
ghosts-split a = record { number = a.who }
