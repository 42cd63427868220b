use Rattle.std.proofs.Common.{append-nil, sym, subst, ◌∙◌}
use Rattle.opener.specs.Opener.{stop_found}
use Rattle.opener.specs.Settles.{AreSettled}
use Rattle.opener.specs.declared.calls.Step.TheVariants as step
use Rattle.region_words.specs.Told.{OnTold}
use Rattle.race_core.proofs.Faulting.{found_faults, trouble_faults, waits_faults}
use Rattle.race_core.proofs.Making.{came, same_join, same_made, start_join, start_made, stopped_holds, stopped_idle, stopped_outcome, waits_on, waits_unanswered}
use Rattle.race_core.proofs.calls.make.Goals as goal

pub loop-preserved-in-Going : goal.loop-preserved-in-Going
loop-preserved-in-Going g c =
    let s = g.S.Share.state c.loop.share in
    let t = g.S.Share.state c.step.new.share in (
      c.step.ensures.tied,
      same_join _ _ _ c.loop.invariant.1 (same_made s t c.step.ensures.makes),
      start_join _ _ _ c.loop.invariant.2 (start_made s t c.step.ensures.makes),
      came c.args.asked c.args.opener.now.core.holds c.loop.opener.core c.step.new.self.core step.Going s t c.loop.invariant.3 c.loop.invariant.0.at c.in-Going.ensures.call c.in-Going.ensures.cause c.in-Going.ensures.falls,
      (λ own settled. subst (λ l. OnTold t.told (AreSettled c.step.new.self.core l)) (append-nil own) (c.in-Going.ensures.settles own (c.loop.invariant.4 own settled))),
      c.loop.invariant.5,
      found_faults (g.S.Share.state c.args.share.now) s t c.loop.invariant.1 c.loop.opener.core.work (stop_found c.step.new.self.core.work) c.in-Going.ensures.cause,
    )

pub loop-preserved : goal.loop-preserved
loop-preserved g c =
    let s = g.S.Share.state c.loop.share in
    let t = g.S.Share.state c.step.new.share in
    let o = c.loop.opener.core in
    let held = c.args.opener.now.core.holds in (
      c.step.ensures.tied,
      same_join _ _ _ c.loop.invariant.1 (same_made s t c.step.ensures.makes),
      start_join _ _ _ c.loop.invariant.2 (start_made s t c.step.ensures.makes),
      waits_on c.args.asked held o.who c.step.new.self.core c.step.result c.in-Again.is
          (came c.args.asked held o c.step.new.self.core c.step.result s t c.loop.invariant.3 c.loop.invariant.0.at c.step.ensures.call c.step.ensures.cause c.step.ensures.falls),
      (λ own settled. subst (λ l. OnTold t.told (AreSettled c.step.new.self.core l)) (waits_unanswered c.step.result own c.in-Again.is) (c.step.ensures.settles own (c.loop.invariant.4 own settled))),
      c.loop.invariant.5,
      waits_faults c.args.asked (g.S.Share.state c.args.share.now) t c.loop.opener.core.work c.step.new.self.core.work c.step.result c.loop.invariant.3.runs c.in-Again.is c.step.ensures.falls c.loop.invariant.6,
    )

pub returns-in-Answered-clause-start : goal.returns-in-Answered-clause-start
returns-in-Answered-clause-start g c = start_join _ _ _ c.loop.invariant.2 (start_made (g.S.Share.state c.loop.share) (g.S.Share.state c.step.new.share) c.step.ensures.makes)

pub returns-in-Answered-clause-outcome : goal.returns-in-Answered-clause-outcome
returns-in-Answered-clause-outcome g c =
    let s = g.S.Share.state c.loop.share in
    let t = g.S.Share.state c.step.new.share in
    let at = came c.args.asked c.args.opener.now.core.holds c.loop.opener.core c.step.new.self.core (step.Answered c.in-Answered.answer) s t c.loop.invariant.3 c.loop.invariant.0.at c.in-Answered.ensures.call c.in-Answered.ensures.cause c.in-Answered.ensures.falls in
    (at.0 ∙ sym c.loop.invariant.0.who ∙ c.loop.invariant.1.who ∙ c.requires.tied.who, at.1, at.2)

pub returns-in-Stopped-clause-outcome : goal.returns-in-Stopped-clause-outcome
returns-in-Stopped-clause-outcome g c =
    let s = g.S.Share.state c.loop.share in
    let t = g.S.Share.state c.step.new.share in
    let held = c.args.opener.now.core.holds in
    stopped_outcome c.args.asked held c.args.opener.now.core.who c.in-Stopped.stop c.step.new.self.core c.outcome_of.result c.who-who.result c.loop.invariant.5 c.outcome_of.ensures.ok
    (came c.args.asked held c.loop.opener.core c.step.new.self.core (step.Stopped c.in-Stopped.stop) s t c.loop.invariant.3 c.loop.invariant.0.at c.in-Stopped.ensures.call c.in-Stopped.ensures.cause c.in-Stopped.ensures.falls)

pub returns-in-Stopped-clause-idle : goal.returns-in-Stopped-clause-idle
returns-in-Stopped-clause-idle g c =
    let s = g.S.Share.state c.loop.share in
    let t = g.S.Share.state c.step.new.share in
    let held = c.args.opener.now.core.holds in
    stopped_idle c.args.asked held c.args.opener.now.core.who c.in-Stopped.stop c.step.new.self.core c.outcome_of.result c.who-who.result c.loop.invariant.5 c.outcome_of.ensures.ok
    (came c.args.asked held c.loop.opener.core c.step.new.self.core (step.Stopped c.in-Stopped.stop) s t c.loop.invariant.3 c.loop.invariant.0.at c.in-Stopped.ensures.call c.in-Stopped.ensures.cause c.in-Stopped.ensures.falls)

pub returns-in-Stopped-clause-holds : goal.returns-in-Stopped-clause-holds
returns-in-Stopped-clause-holds g c =
    let s = g.S.Share.state c.loop.share in
    let t = g.S.Share.state c.step.new.share in
    let held = c.args.opener.now.core.holds in
    stopped_holds c.args.asked held c.args.opener.now.core.who c.in-Stopped.stop c.step.new.self.core c.outcome_of.result c.who-who.result c.loop.invariant.5 c.outcome_of.ensures.ok
    (came c.args.asked held c.loop.opener.core c.step.new.self.core (step.Stopped c.in-Stopped.stop) s t c.loop.invariant.3 c.loop.invariant.0.at c.in-Stopped.ensures.call c.in-Stopped.ensures.cause c.in-Stopped.ensures.falls)

pub returns-in-Stopped-clause-fault : goal.returns-in-Stopped-clause-fault
returns-in-Stopped-clause-fault g c =
    trouble_faults (g.S.Share.state c.args.share.now) (g.S.Share.state c.loop.share) (g.S.Share.state c.step.new.share) c.loop.invariant.1 c.loop.opener.core.work c.in-Stopped.stop c.outcome_of.result
    c.loop.invariant.6 c.in-Stopped.ensures.cause c.outcome_of.ensures.err
