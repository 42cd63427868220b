use Rattle.std.proofs.Common.{subst}
use Rattle.region_words.specs.Share.{IsSound}
use Rattle.region_words.specs.Local.{Seated, seat_state}
use Rattle.region_words.proofs.SeatCalls.{seat_sound}
use Rattle.region_words.proofs.seat.LocalSeatShare.who.Goals as goal

pub returns-clause-sound : goal.returns-clause-sound
returns-clause-sound c =
    subst (λ (t : Seated). IsSound (seat_state t)) c.self.view_is (seat_sound (record { who = c.self.inside.who; region = c.self.inside.region }) c.self.invariant c.good.ensures)
