use Rattle.std.proofs.Common.{◌≡◌, ◌+◌, refl, ap, sym, ◌∙◌, arith}
use Rattle.std.specs.Prelude.{None}
use Rattle.change_log.specs.declared.call.Call.TheVariants as call
use Rattle.lock_rules.specs.Counts.{Counts}
use Rattle.opener.specs.State.{OpenerState}
use Rattle.opener.specs.Calls.{holds_after}
use Rattle.opener.proofs.Added.{still}
use Rattle.opener.proofs.Adding.{holds_none, none_more}
use Rattle.opener.proofs.HoldCounts.{counted_some}
use Rattle.opener.proofs.Holds.{done_place, held_so, holds_call, same_answer}
use Rattle.opener.proofs.StepEnds.{answers_done}
use Rattle.opener.proofs.StopClauses.{same_call}
use Rattle.opener.proofs.opener_core.OpenerCore.hold.Goals as goal

pub returns-in-Counted : goal.returns-in-Counted
returns-in-Counted g c =
    let o = c.args.self.now in
    let running = c.args.running in
    let s = g.S.Share.state c.args.share.now in
    let holding = c.requires.at.1 in
    let same : c.self.inside.counts.exclusive ≡ o.holds = ap (λ (o : OpenerState). o.holds) c.self.view_is in
    let some = counted_some c.self.inside.counts (sym c.ask.ensures.value ∙ c.in-Counted.is) in
    let more : c.one_more.result.exclusive ≡ o.holds + 1 = ap (λ (k : Counts). k.exclusive) c.one_more.ensures in
    answers_done c.requires (λ stored none. none) running 0 None (still s) (λ kind is. absurd cc) _ _ c.done.ensures (same_call running) (none_more running) (more ∙ sym (ap (λ asked. holds_after asked o.holds) holding))
    (λ so_far are. holds_none o.who running so_far holding are) (λ a. tt) refl (λ a. tt) (done_place running.call call.Hold _ refl holding) (λ has. has)
    (held_so o running _ s c.requires refl _ (omega (arith, some, same)) (omega (arith, more)) (omega (arith, more, c.requires.at.2.0)))
    (same_answer o running _ s c.requires refl _ (holds_call running.call holding) c.changes.ensures)
