use Rattle.std.proofs.Common.{ap, sym, subst, ◌∙◌}
use Rattle.opener.specs.State.{OpenerState}
use Rattle.region_words.specs.Told.{OnBoth, OnTold}
use Rattle.script_lang.specs.Parts.{answers_in}
use Rattle.race_core.specs.Worker.{HasChangedNothing, IsSettledAt, RestsFor}
use Rattle.race_core.proofs.Resting.{first_told, idle_settled, settled_then}
use Rattle.race_core.proofs.worker.live.Goals as goal

pub returns-in-Ok-clause-settled : goal.returns-in-Ok-clause-settled
returns-in-Ok-clause-settled g c = λ none.
    let s = g.S.Share.state c.args.share.now in
    let m = g.S.Share.state c.make_calls-made.new.share in
    let t = g.S.Share.state c.end.new.share in
    let first = c.opener_of-opener.result.core in
    let last = c.make_calls-made.new.opener.core in
    let own = answers_in c.make_calls-made.new.outcomes.items in
    let same = c.make_calls-made.ensures.same.who in
    let quiet = subst (λ w. OnTold s.told (HasChangedNothing w)) (sym (ap (λ (o : OpenerState). o.who) c.opener_of-opener.ensures.core)) c.requires.quiet in
    let begun = first_told first s.told (ap (λ (o : OpenerState). o.work) c.opener_of-opener.ensures.core) quiet in
    let settled = idle_settled last own m.told c.in-Ok.ensures.idle (c.in-Ok.ensures.settled begun) in
    settled_then s.who own m.told t.told (subst (λ w. OnBoth m.told t.told (RestsFor w)) same (c.end.ensures.rests c.in-Ok.ensures.idle))
    (subst (λ w. OnTold m.told (IsSettledAt w own)) (sym c.make_calls-made.ensures.tied.who ∙ same) settled)
