use Rattle.std.proofs.Common.{refl, subst, ap, arith}
use Rattle.std.specs.Prelude.{None}
use Rattle.opener.specs.State.{OpenerState}
use Rattle.opener.specs.Ends.{GoesOn, Leaves}
use Rattle.opener.specs.declared.work.End.TheVariants as end
use Rattle.opener.specs.declared.work.Stage.TheVariants.{Reserve}
use Rattle.opener.specs.declared.work.Running.{Running}
use Rattle.opener.proofs.Falling.{refused_shorter, size_shorter}
use Rattle.opener.proofs.Same.{loaded_same}
use Rattle.opener.proofs.Sized.{can_plain, refused_ends, refused_leaving, refused_left, refused_reason, size_tied}
use Rattle.opener.proofs.StepEnds.{loads_leave, loads_on, stops}
use Rattle.opener.proofs.opener_core.OpenerCore.size.Goals as goal

pub returns-in-Ok-plan : goal.returns-in-Ok-plan
returns-in-Ok-plan g c =
    let o = c.args.self.now in
    let found = c.in-Ok.ensures in
    let same = loaded_same c.args.running _ c.with_load.ensures in
    let on = subst (λ (n : OpenerState). GoesOn c.with_load.result (Reserve c.in-Ok-plan.plan) n c.going.result c.going.new.self) c.plan.ensures.kept c.going.ensures in
    loads_on c.requires (λ stored none. none) (record o { image = None }) _ _ refl found.ok c.with_load.ensures tt (λ looks. absurd cc) (λ has. omega (arith, has, ap (λ (r : Running). r.loads) c.with_load.ensures)) on refl (λ so_far are. are)
    (size_tied o _ _ c.in-Ok.size _ _ c.requires same.same same.taken found.ok found.value found.pages _ c.plan.ensures.words c.in-Ok-plan.ensures.ok)
    (size_shorter _ _ _ o c.in-Ok.size _ _ c.requires found.ok found.value found.pages c.in-Ok-plan.ensures.ok) tt

pub returns-in-Err-plan : goal.returns-in-Err-plan
returns-in-Err-plan g c =
    let o = c.args.self.now in
    let next = c.with_load-in-Err-plan.result in
    let stop = c.in-Err-plan.stop in
    let found = c.in-Ok.ensures in
    let same = loaded_same c.args.running next c.with_load-in-Err-plan.ensures in
    let left = subst (λ (n : OpenerState). Leaves next (end.Stop stop) c.changes.result n c.leave.result c.leave.new.self) c.plan.ensures.kept c.leave.ensures in
    let no = c.in-Err-plan.ensures.err in
    loads_leave c.requires (λ stored none. none) (record o { image = None }) next (end.Stop stop) c.changes.result
    (refused_leaving o c.args.running next c.in-Ok.size _ _ c.requires same.same same.taken found.ok found.value found.pages stop no) found.ok c.with_load-in-Err-plan.ensures
    (can_plain c.args.running.call c.requires.at.1) tt tt left c.changes.ensures refl
    (refused_ends o c.args.running next c.in-Ok.size _ _ c.requires same.same same.taken found.ok found.value found.pages stop no)
    (refused_reason o c.args.running next c.in-Ok.size _ _ c.requires same.same same.taken found.ok found.value found.pages stop no c.plan.ensures.words) (λ so_far are. are) (λ looks. absurd cc) (λ has. tt)
    (refused_left o c.args.running next c.in-Ok.size _ _ c.requires same.same same.taken found.ok found.value found.pages stop no) (refused_shorter c.args.running next _ (end.Stop stop))

pub returns-in-Err : goal.returns-in-Err
returns-in-Err g c = stops c.requires c.in-Err.stop c.stopped.ensures c.in-Err.ensures.err
