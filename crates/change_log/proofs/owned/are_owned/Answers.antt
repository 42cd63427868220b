use Rattle.std.proofs.Common.{refl}
use Rattle.change_log.specs.History.{IsOwned}
use Rattle.change_log.proofs.Each.{at_place, each_more, each_whole}
use Rattle.change_log.proofs.owned.are_owned.Goals as goal

pub loop-place-preserved : goal.loop-place-preserved
loop-place-preserved c =
    let here = at_place c.args.changes.now c.loop-place.place c.index-changes-place.result c.loop-place-test.true c.index-changes-place.is in
    each_more (IsOwned c.args.changes.now c.args.answers.now) c.args.changes.now c.loop-place.place c.index-changes-place.result c.loop-place.invariant here (c.if-not-is_owned.ensures.0 refl)

pub returns : goal.returns
returns c = (λ yes. each_whole (IsOwned c.args.changes.now c.args.answers.now) c.args.changes.now c.loop-place.place c.loop-place-test.false c.loop-place.invariant, λ all. refl)
