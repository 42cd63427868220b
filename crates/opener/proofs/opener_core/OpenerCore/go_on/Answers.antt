use Rattle.std.proofs.Common.{subst, arith, sym, ◌∙◌}
use Rattle.loader.specs.PartialLoads.{PartialLoad}
use Rattle.opener.specs.Calls.{AfterStop}
use Rattle.opener.specs.declared.work.Stage.TheVariants.{Continue}
use Rattle.opener.proofs.GoneOn.{fails_steps, going_steps, holds_few, holds_steps, memory_steps}
use Rattle.opener.proofs.StepEnds.{stops}
use Rattle.opener.proofs.opener_core.OpenerCore.go_on.Goals as goal

pub returns-in-Ok-Going-clause-steps : goal.returns-in-Ok-Going-clause-steps
returns-in-Ok-Going-clause-steps g c =
    let did = c.in-Ok-Going.ensures in
    let going = did.going c.in-Ok-Going.field-0-is in
    going_steps c.args.self.now _ _ c.args.loading _ _ _ _ c.requires c.with_load.ensures did.goes c.step.new.self going.0 did.kept going.1 did.loads did.most did.within did.told c.going.ensures

pub returns-in-Ok-Holds-clause-steps : goal.returns-in-Ok-Holds-clause-steps
returns-in-Ok-Holds-clause-steps g c =
    let did = c.in-Ok-Holds.ensures in
    let holds = c.in-Ok-Holds.field-0-is in
    holds_steps c.args.self.now _ _ c.args.loading _ _ _ _ c.requires c.with_load-in-Ok-Holds.ensures did.goes c.step.new.self c.finish.result _ did.kept c.finish.ensures.image c.finish.ensures.sound c.finish.ensures.shows
    (did.holds holds) did.told c.changes.ensures (omega (arith, did.loads, did.most)) (did.exact holds) c.gone_on.ensures

pub returns-in-Ok-Holds-clause-loads : goal.returns-in-Ok-Holds-clause-loads
returns-in-Ok-Holds-clause-loads g c has =
    let did = c.in-Ok-Holds.ensures in
    holds_few c.args.self.now _ _ c.args.loading _ _ _ _ c.requires c.with_load-in-Ok-Holds.ensures did.goes c.step.new.self c.finish.result _ did.kept c.finish.ensures.image c.finish.ensures.sound c.finish.ensures.shows
    (did.holds c.in-Ok-Holds.field-0-is) did.told c.changes.ensures did.loads did.most did.bound has c.gone_on.ensures

pub returns-in-Ok-Fails-clause-steps : goal.returns-in-Ok-Fails-clause-steps
returns-in-Ok-Fails-clause-steps g c =
    let did = c.in-Ok-Fails.ensures in
    fails_steps c.args.self.now _ _ c.args.loading _ _ _ _ c.requires c.with_load-in-Ok-Fails.ensures did.goes (did.fails c.in-Ok-Fails.field-0-is) c.begin_load.ensures

pub returns-in-Err-Share-clause-steps : goal.returns-in-Err-Share-clause-steps
returns-in-Err-Share-clause-steps g c =
    stops c.requires c.in-Err-Share.stop
    (subst (λ (l : PartialLoad). AfterStop c.in-Err-Share.stop c.args.self.now c.args.running (Continue l) c.stopped.result c.stopped.new.self) (c.in-Err-Share.ensures.same (λ e. let both = sym c.in-Err-Share.field-0-is ∙ e in absurd cc)) c.stopped.ensures)
    (rw c.in-Err-Share.field-0-is at c.in-Err-Share.ensures.err)

pub returns-in-Err-Memory-clause-steps : goal.returns-in-Err-Memory-clause-steps
returns-in-Err-Memory-clause-steps g c =
    memory_steps c.args.self.now _ _ c.args.loading _ _ _ _ c.requires c.with_load-in-Err-Memory.ensures (rw c.in-Err-Memory.field-0-is at c.in-Err-Memory.ensures.err) _ c.changes-in-Err-Memory.ensures c.leave.ensures
