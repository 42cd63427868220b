use Rattle.std.proofs.Common.{◌≡◌, refl, ap, sym, ◌∙◌}
use Rattle.std.specs.Prelude.{◌-◌, None}
use Rattle.change_log.specs.declared.call.Call.TheVariants as call
use Rattle.lock_rules.specs.Counts.{Counts}
use Rattle.opener.specs.Calls.{holds_after}
use Rattle.opener.specs.declared.work.Stage.TheVariants.{Release}
use Rattle.opener.proofs.Added.{unlock_quietly}
use Rattle.opener.proofs.Adding.{none_more, releases_none}
use Rattle.opener.proofs.Carry.{exclusive_if, exclusive_some}
use Rattle.opener.proofs.Holds.{done_place, holds_are, last_answer, released_tied}
use Rattle.opener.proofs.Leaving.{may_leave}
use Rattle.opener.proofs.StepEnds.{answers_done, stops}
use Rattle.opener.proofs.StopClauses.{same_call}
use Rattle.opener.proofs.opener_core.OpenerCore.leave_hold.Goals as goal

pub unlock-requires-clause-lawful : goal.unlock-requires-clause-lawful
unlock-requires-clause-lawful g c =
    may_leave c.args.self.now c.args.running Release (g.S.Share.state c.args.share.now) c.requires.tied refl
    (exclusive_some _ (exclusive_if c.args.self.now.holds c.args.running.taken c.requires.tied.at.2))

pub returns-in-Ok : goal.returns-in-Ok
returns-in-Ok g c =
    let o = c.args.self.now in
    let running = c.args.running in
    let tied = c.requires.tied in
    let releasing = tied.at.1 in
    let none : c.new.result.exclusive ≡ 0 = ap (λ (k : Counts). k.exclusive) c.new.ensures.value in
    answers_done tied (λ stored none. none) running 0 None (unlock_quietly c.in-Ok.ensures.ok) (λ kind is. absurd cc) _ _ c.done.ensures (same_call running) (none_more running)
    (none ∙ sym (ap (λ asked. holds_after asked o.holds) releasing ∙ ap (λ n. n - 1) c.requires.last))
    (λ so_far are. releases_none o.who running so_far releasing are) (λ a. tt) refl (λ a. tt) (done_place running.call call.Release _ refl releasing) (λ has. has)
    (holds_are o _ 0 _ none (released_tied o running _ _ c.in-Ok.ensures.ok tied)) (last_answer o running _ _ c.in-Ok.ensures.ok tied _ c.changes.ensures)

pub returns-in-Err : goal.returns-in-Err
returns-in-Err g c = stops c.requires.tied c.in-Err.stop c.stopped.ensures c.in-Err.ensures.err
