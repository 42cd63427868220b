use Rattle.std.proofs.Common.{◌≤◌, refl, subst, ap, arith}
use Rattle.region_words.specs.Past.{region_after}
use Rattle.region_words.proofs.Telling.{told_map}
use Rattle.loader.specs.Loads.{HasLoaded, IsLoadOf, Load as Loading, loads_of}
use Rattle.opener.specs.Calls.{AfterStop}
use Rattle.opener.specs.Ends.{Leaves, stop_of}
use Rattle.opener.specs.declared.calls.Stop.TheVariants as why
use Rattle.opener.specs.declared.work.End.TheVariants as end
use Rattle.opener.specs.declared.work.Stage.TheVariants.{Load}
use Rattle.opener.specs.declared.work.Running.{Running}
use Rattle.opener.proofs.Falling.{load_shorter}
use Rattle.opener.proofs.Loads.{done_steps, refused_ends, refused_reason, stop_steps}
use Rattle.opener.proofs.Same.{loaded_same}
use Rattle.opener.proofs.Stages.{loaded_tied}
use Rattle.opener.proofs.StepEnds.{loads_on, stops}
use Rattle.opener.proofs.opener_core.OpenerCore.load.Goals as goal

pub returns-in-Ok-Going : goal.returns-in-Ok-Going
returns-in-Ok-Going g c =
    let o = c.args.self.now in
    let did = c.in-Ok-Going.ensures in
    let same = loaded_same c.args.running _ c.with_load.ensures in
    loads_on c.requires (λ stored none. none) o _ (Load c.step.new.self) refl did.goes c.with_load.ensures (λ none ten. did.accepts (omega (arith, ten, did.loads))) (λ looks. (refl, refl)) (λ has. omega (arith, has, did.loads, ap (λ (r : Running). r.loads) c.with_load.ensures)) c.going.ensures refl (λ so_far are. are)
    (loaded_tied o _ _ c.args.loading _ _ _ c.requires same.same same.taken (rw c.in-Ok-Going.field-0-is at did.done) did.goes did.told)
    (load_shorter _ _ _ _ _ did.loads did.bound did.answered) tt

pub returns-in-Ok-Done : goal.returns-in-Ok-Done
returns-in-Ok-Done g c =
    let t = g.S.Share.state c.step.new.share in
    let is = told_map t.told (λ h. HasLoaded c.step.new.self (region_after h.start h.past)) (λ h. IsLoadOf c.finish.result (region_after h.start h.past))
    (λ h has. c.finish.ensures.told (region_after h.start h.past) has) c.in-Ok-Done.ensures.told in
    let last : 9 ≤ loads_of c.args.loading = omega (arith, c.in-Ok-Done.ensures.loads, c.in-Ok-Done.ensures.many (rw c.in-Ok-Done.field-0-is at c.in-Ok-Done.ensures.done)) in
    done_steps _ _ _ _ _ _ _ t c.requires c.with_load-in-Ok-Done.ensures c.in-Ok-Done.ensures.goes c.finish.result _ c.finish.ensures.whole is c.changes.ensures last c.loaded.ensures

pub returns-in-Err-Share : goal.returns-in-Err-Share
returns-in-Err-Share g c =
    stops c.requires c.in-Err-Share.stop
    (subst (λ (l : Loading). AfterStop c.in-Err-Share.stop c.args.self.now c.args.running (Load l) c.stopped.result c.stopped.new.self) c.in-Err-Share.ensures.same c.stopped.ensures)
    (rw c.in-Err-Share.field-0-is at c.in-Err-Share.ensures.err)

pub returns-in-Err-Record : goal.returns-in-Err-Record
returns-in-Err-Record g c =
    let fault = c.in-Err-Record.fault in
    let stops = rw c.in-Err-Record.field-0-is at c.in-Err-Record.ensures.err in
    let ten = rw c.in-Err-Record.field-0-is at c.in-Err-Record.ensures.tenth in
    let left = subst (λ w. Leaves c.with_load-in-Err-Record.result (end.Stop w) c.changes-in-Err-Record.result c.args.self.now c.leave.result c.leave.new.self) c.stop_of.ensures c.leave.ensures in
    stop_steps c.args.self.now _ _ _ _ _ _ _ c.requires c.with_load-in-Err-Record.ensures stops.0 (stop_of fault) _ (refused_ends fault) (refused_reason c.args.running c.args.loading fault (g.S.Share.state c.args.share.now) _ ten stops.1)
    c.changes-in-Err-Record.ensures left

pub returns-in-Err-Memory : goal.returns-in-Err-Memory
returns-in-Err-Memory g c =
    stop_steps c.args.self.now _ _ _ _ _ _ _ c.requires c.with_load-in-Err-Memory.ensures (rw c.in-Err-Memory.field-0-is at c.in-Err-Memory.ensures.err) why.Memory _ tt tt c.changes-in-Err-Memory.ensures
    c.leave-in-Err-Memory.ensures
