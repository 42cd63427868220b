use Rattle.std.proofs.Common.{◌≡◌, refl, ap, sym, ◌∙◌, arith}
use Rattle.std.specs.Prelude.{◌-◌, None}
use Rattle.change_log.specs.declared.call.Call.TheVariants as call
use Rattle.lock_rules.specs.Counts.{Counts}
use Rattle.opener.specs.State.{OpenerState}
use Rattle.opener.specs.Calls.{holds_after}
use Rattle.opener.proofs.Added.{still}
use Rattle.opener.proofs.Adding.{none_more, releases_none}
use Rattle.opener.proofs.HoldCounts.{left_some}
use Rattle.opener.proofs.Holds.{done_place, held_so, releases_call, same_answer}
use Rattle.opener.proofs.StepEnds.{answers_done}
use Rattle.opener.proofs.StopClauses.{same_call}
use Rattle.opener.proofs.opener_core.OpenerCore.release.Goals as goal

pub returns-in-Counted : goal.returns-in-Counted
returns-in-Counted g c =
    let o = c.args.self.now in
    let running = c.args.running in
    let s = g.S.Share.state c.args.share.now in
    let releasing = c.requires.at.1 in
    let same : c.self.inside.counts.exclusive ≡ o.holds = ap (λ (o : OpenerState). o.holds) c.self.view_is in
    let more = left_some c.self.inside.counts (sym c.leave.ensures.value ∙ c.in-Counted.is) in
    let less : c.leave.new.self.exclusive ≡ o.holds - 1 = ap (λ (k : Counts). k.exclusive) c.leave.ensures.after ∙ ap (λ n. n - 1) same in
    answers_done c.requires (λ stored none. none) running 0 None (still s) (λ kind is. absurd cc) _ _ c.done.ensures (same_call running) (none_more running) (less ∙ sym (ap (λ asked. holds_after asked o.holds) releasing))
    (λ so_far are. releases_none o.who running so_far releasing are) (λ a. tt) refl (λ a. tt) (done_place running.call call.Release _ refl releasing) (λ has. has)
    (held_so o running _ s c.requires refl _ c.requires.at.2 (omega (arith, more, less, same)) (omega (arith, less, c.requires.deep))) (same_answer o running _ s c.requires refl _ (releases_call running.call releasing) c.changes.ensures)
