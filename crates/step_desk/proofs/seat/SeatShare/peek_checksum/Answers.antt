use Rattle.step_desk.proofs.Peeking.{peek_goes, checksum_told}
use Rattle.step_desk.proofs.seat.SeatShare.peek_checksum.Goals as goal

pub returns-clause-ok : goal.returns-clause-ok
returns-clause-ok c =
    peek_goes c.self.inside.hand.token.me c.peek_checksum.new.hand.token.me c.args.self.now _ _ c.self.inside.hand.token.table_id c.peek_checksum.new.hand.token.table_id c.self.inside.hand.counts c.peek_checksum.new.hand.counts
    c.self.view_is c.self.invariant.1 c.peek_checksum.ensures.looked c.peek_checksum.ensures.table c.peek_checksum.ensures.counts

pub returns-clause-value : goal.returns-clause-value
returns-clause-value c = checksum_told _ _ _ c.peek_checksum.ensures.looked c.peek_checksum.ensures.checksum
