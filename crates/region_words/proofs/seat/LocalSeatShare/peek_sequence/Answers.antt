use Rattle.std.proofs.Common.{sym, subst, ◌∙◌, arith}
use Rattle.region_words.specs.Past.{region_after}
use Rattle.region_words.specs.Lawful.{IsWordOf}
use Rattle.region_words.specs.Share.{Goes, loaded}
use Rattle.region_words.specs.Local.{Seated, seat_state, seat_loaded}
use Rattle.region_words.specs.declared.event.Side.TheVariants.{Meta}
use Rattle.region_words.proofs.SeatCalls.{meta_word, after_loading}
use Rattle.region_words.proofs.seat.LocalSeatShare.peek_sequence.Goals as goal

pub word-requires : goal.word-requires
word-requires c =
    let s = c.args.self.now in
    let e = c.self.view_is ∙ c.in_ok-begin.ensures.ok in
    let is = c.in_ok-begin.ensures.good in
    let maker = c.in_ok-begin.ensures.maker in
    rw c.count_load.ensures (subst (λ (t : Seated). IsWordOf (region_after t.region.start t.region.past) Meta 2) (sym e) (meta_word s.region is 2 (omega arith)))

pub returns-clause-ok : goal.returns-clause-ok
returns-clause-ok c =
    let s = c.args.self.now in
    let e = c.self.view_is ∙ c.in_ok-begin.ensures.ok in
    let is = c.in_ok-begin.ensures.good in
    let maker = c.in_ok-begin.ensures.maker in
    rw c.count_load.ensures
    (subst (λ (t : Seated). Goes (loaded (seat_state s)) (seat_state s) (seat_state (seat_loaded t))) (sym e)
    (record { after = after_loading s.who s.region is maker; not_due = c.in_ok-begin.ensures.due }))
