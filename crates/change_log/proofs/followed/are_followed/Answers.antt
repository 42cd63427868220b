use Rattle.std.proofs.Common.{refl}
use Rattle.change_log.specs.History.{IsFollowed}
use Rattle.change_log.proofs.Each.{at_place, each_more, each_whole}
use Rattle.change_log.proofs.followed.are_followed.Goals as goal

pub returns-then-not-is_followed : goal.returns-then-not-is_followed
returns-then-not-is_followed c =
    let here = at_place c.args.changes.now c.loop-place.place c.index-changes-place.result c.loop-place-test.true c.index-changes-place.is in
    (λ no. absurd cc, λ all. c.if-not-is_followed.ensures.1 (all c.loop-place.place c.index-changes-place.result here))

pub loop-place-preserved : goal.loop-place-preserved
loop-place-preserved c =
    let here = at_place c.args.changes.now c.loop-place.place c.index-changes-place.result c.loop-place-test.true c.index-changes-place.is in
    each_more (IsFollowed c.args.changes.now c.args.answers.now) c.args.changes.now c.loop-place.place c.index-changes-place.result c.loop-place.invariant here (c.if-not-is_followed.ensures.0 refl)

pub returns : goal.returns
returns c = (λ yes. each_whole (IsFollowed c.args.changes.now c.args.answers.now) c.args.changes.now c.loop-place.place c.loop-place-test.false c.loop-place.invariant, λ all. refl)
