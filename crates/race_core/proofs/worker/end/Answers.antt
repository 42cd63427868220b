use Rattle.std.proofs.Common.{ap, ◌∙◌}
use Rattle.opener.specs.State.{OpenerState}
use Rattle.race_core.proofs.Making.{same_join, start_join}
use Rattle.race_core.proofs.Resting.{rests_on}
use Rattle.race_core.proofs.worker.end.Goals as goal

pub returns-in-None-die-clause-rests : goal.returns-in-None-die-clause-rests
returns-in-None-die-clause-rests g c = λ idle.
    let was = g.S.Share.state c.args.share.now in
    let s = g.S.Share.state c.loop.share in
    let t = g.S.Share.state c.die.new.share in
    rests_on was s t c.loop.invariant.2 (c.loop.invariant.4 idle) (c.die.ensures.rests (ap (λ (o : OpenerState). o.work) c.loop.invariant.1 ∙ idle))

pub loop-preserved : goal.loop-preserved
loop-preserved g c =
    let was = g.S.Share.state c.args.share.now in
    let s = g.S.Share.state c.loop.share in
    let t = g.S.Share.state c.die.new.share in
    let back = c.in-Some-die.ensures.back in (
      back.1,
      back.0 ∙ c.loop.invariant.1,
      same_join was s t c.loop.invariant.2 c.die.ensures.same,
      start_join was.told s.told t.told c.loop.invariant.3 c.die.ensures.start,
      (λ idle. rests_on was s t c.loop.invariant.2 (c.loop.invariant.4 idle) (c.die.ensures.rests (ap (λ (o : OpenerState). o.work) c.loop.invariant.1 ∙ idle))),
    )
