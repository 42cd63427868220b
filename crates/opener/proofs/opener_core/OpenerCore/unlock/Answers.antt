use Rattle.std.proofs.Common.{refl}
use Rattle.opener.specs.declared.work.Stage.TheVariants.{Unlock}
use Rattle.opener.proofs.Ended.{still_held, unlocks}
use Rattle.opener.proofs.Leaving.{may_leave}
use Rattle.opener.proofs.StepEnds.{stops}
use Rattle.opener.proofs.opener_core.OpenerCore.unlock.Goals as goal

pub unlock-requires-clause-lawful : goal.unlock-requires-clause-lawful
unlock-requires-clause-lawful g c =
    let s = g.S.Share.state c.args.share.now in
    may_leave c.args.self.now c.args.running (Unlock c.args.end) s c.requires refl (still_held c.args.self.now c.args.running c.args.end s c.requires)

pub returns-in-Ok : goal.returns-in-Ok
returns-in-Ok g c = unlocks c.requires c.changes.result c.in-Ok.ensures.ok c.finish.ensures c.changes.ensures

pub returns-in-Err : goal.returns-in-Err
returns-in-Err g c = stops c.requires c.in-Err.stop c.stopped.ensures c.in-Err.ensures.err
