use Rattle.std.proofs.Common.{◌∙◌, sym, ap}
use Rattle.change_log.specs.Acts.{applied}
use Rattle.change_log.proofs.Found.{replay_more, found_more}
use Rattle.change_log.proofs.placed.are_placed.Goals as goal

pub loop-place-preserved : goal.loop-place-preserved
loop-place-preserved c = record {
  found =
      c.in_ok-apply.ensures ∙ ap (λ m. applied m c.index-changes-place.result.act) c.loop-place.invariant.found
      ∙ sym (replay_more c.args.base.now c.args.changes.now c.loop-place.place c.index-changes-place.result c.loop-place-test.true c.index-changes-place.is);
  so_far = found_more c.args.base.now c.args.changes.now c.args.answers.now c.loop-place.place c.loop-place.map c.loop-place.invariant.found c.loop-place.invariant.so_far (c.in_ok-are_replies.ensures.0 c.if-not-branch.false);
}
