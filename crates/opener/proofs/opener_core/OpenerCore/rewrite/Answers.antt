use Rattle.std.proofs.Common.{sym, subst, ap, ◌∙◌}
use Rattle.region_words.specs.Making.{Making}
use Rattle.opener.specs.Calls.{AfterStop}
use Rattle.opener.specs.Counted.{with_stored}
use Rattle.opener.specs.Ends.{Rewritten}
use Rattle.opener.specs.declared.plan.Plan.TheVariants.{Rewrite}
use Rattle.opener.specs.declared.work.Stage.TheVariants.{Store}
use Rattle.opener.proofs.Rewritten.{all_made, more_left, rewrites, some_first, stores_on}
use Rattle.opener.proofs.StepEnds.{stops}
use Rattle.opener.proofs.opener_core.OpenerCore.rewrite.Goals as goal

pub step-requires-clause-some : goal.step-requires-clause-some
step-requires-clause-some g c = some_first c.args.self.now.who c.args.running (Rewrite c.args.rewriting c.args.then c.args.map) c.requires.at.2.1

pub step-requires-clause-owing : goal.step-requires-clause-owing
step-requires-clause-owing g c = (c.requires.owes.row, c.requires.owes.owing)

pub returns-in-Ok-More : goal.returns-in-Ok-More
returns-in-Ok-More g c =
    let b = c.step.new.self in
    let did = c.in-Ok-More.ensures in
    stores_on c.requires b _ (c.with_event.ensures ∙ ap (λ e. with_stored e c.args.running) c.next-event.ensures) did.made did.kept.1 (more_left b.events (sym did.stored ∙ c.in-Ok-More.field-0-is)) did.owing
    c.going.ensures

pub returns-in-Ok-Done : goal.returns-in-Ok-Done
returns-in-Ok-Done g c =
    let o = c.args.self.now in
    let b = c.step.new.self in
    let next = c.with_event-running.result in
    let did = c.in-Ok-Done.ensures in
    let left = subst (λ z. Rewritten next z c.args.then c.args.map c.changes.result o c.rewritten.result c.rewritten.new.self) c.standing-standing.ensures c.rewritten.ensures in
    rewrites b next (c.with_event-running.ensures ∙ ap (λ e. with_stored e c.args.running) c.next-event.ensures) did.made did.kept.1 (all_made b.events (sym did.stored ∙ c.in-Ok-Done.field-0-is)) did.owing
    c.changes.result c.changes.ensures c.args.then c.requires left

pub returns-in-Err : goal.returns-in-Err
returns-in-Err g c =
    stops c.requires c.in-Err.stop
    (subst (λ (z : Making). AfterStop c.in-Err.stop c.args.self.now c.args.running (Store (Rewrite z c.args.then c.args.map)) c.stopped.result c.stopped.new.self) c.in-Err.ensures.same c.stopped.ensures)
    c.in-Err.ensures.err
