use Rattle.std.proofs.Common.{◌≡◌, ◌<◌, ℕ, get_or}
use Rattle.change_log.specs.History.{reply_in}
use Rattle.change_log.specs.declared.call.Answer.{Answer}
use Rattle.change_log.proofs.placed.are_replies.Given as goal

abbrev pub invariant-loop-answer : goal.invariant-loop-answer
invariant-loop-answer l = (k : ℕ) (d : Answer) → k < l.answer-index →
    (get_or l.answers k d).place ≡ l.place → (get_or l.answers k d).reply ≡ reply_in l.map (get_or l.answers k d).now (get_or l.answers k d).call
