use Rattle.std.proofs.Common.{refl, arith, ap, ◌∙◌}
use Rattle.opener.specs.declared.work.Stage.TheVariants.{PeekSequence}
use Rattle.opener.specs.declared.work.Running.{Running}
use Rattle.opener.proofs.Falling.{checksum_shorter}
use Rattle.opener.proofs.Same.{loaded_same}
use Rattle.opener.proofs.Stages.{peeked_tied}
use Rattle.opener.proofs.StepEnds.{fails, loads_on}
use Rattle.opener.proofs.opener_core.OpenerCore.peek_checksum.Goals as goal

pub returns-in-Ok : goal.returns-in-Ok
returns-in-Ok g c =
    let o = c.args.self.now in
    let peek = c.in-Ok.peek in
    let same = loaded_same c.args.running _ c.with_load.ensures in
    loads_on c.requires (λ stored none. none) o _ (PeekSequence peek) refl c.in-Ok.ensures.ok c.with_load.ensures (c.in-Ok.ensures.ok, c.in-Ok.ensures.changes, c.in-Ok.ensures.value) (λ looks. (refl, refl)) (λ has. (omega (arith, has.0, ap (λ (r : Running). r.loads) c.with_load.ensures), ap (λ (r : Running). r.stores) c.with_load.ensures ∙ has.1)) c.going.ensures refl (λ so_far are. are)
    (peeked_tied o _ _ peek _ _ c.requires same.same same.taken c.in-Ok.ensures.ok c.in-Ok.ensures.value c.in-Ok.ensures.changes) (checksum_shorter _ _ _ peek) tt

pub returns-in-Err : goal.returns-in-Err
returns-in-Err g c = fails c.requires c.in-Err.stop c.stopped.ensures c.in-Err.ensures.err.0 c.in-Err.ensures.err.1
