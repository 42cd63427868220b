use Rattle.step_desk.proofs.Peeking.{peek_goes, sequence_told}
use Rattle.step_desk.proofs.seat.SeatShare.peek_sequence.Goals as goal

pub returns-clause-ok : goal.returns-clause-ok
returns-clause-ok c =
    peek_goes c.self.inside.hand.token.me c.peek_sequence.new.hand.token.me c.args.self.now _ _ c.self.inside.hand.token.table_id c.peek_sequence.new.hand.token.table_id c.self.inside.hand.counts c.peek_sequence.new.hand.counts
    c.self.view_is c.self.invariant.1 c.peek_sequence.ensures.looked c.peek_sequence.ensures.table c.peek_sequence.ensures.counts

pub returns-clause-value : goal.returns-clause-value
returns-clause-value c = sequence_told _ _ _ c.peek_sequence.ensures.looked c.peek_sequence.ensures.sequence
