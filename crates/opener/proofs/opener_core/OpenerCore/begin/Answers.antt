use Rattle.std.proofs.Common.{ℕ, ◌+◌, ◌*◌, ◌≤◌, sym, subst, ap, ◌∙◌}
use Rattle.opener.specs.Begins.{begun_at}
use Rattle.opener.specs.Bound.{steps_left}
use Rattle.opener.specs.Fresh.{CountsSoFar, HasCounted}
use Rattle.opener.specs.Opener.{running_as}
use Rattle.opener.specs.State.{OpenerState}
use Rattle.opener.specs.declared.work.Running.{Running}
use Rattle.opener.proofs.Begun.{begun_tied}
use Rattle.opener.proofs.Counting.{first_counted}
use Rattle.opener.proofs.Falling.{first_bound}
use Rattle.opener.proofs.Settles.{begin_settles}
use Rattle.opener.proofs.opener_core.OpenerCore.begin.Goals as goal

pub returns-clause-tied : goal.returns-clause-tied
returns-clause-tied g c =
    let o = c.args.self.now in
    begun_tied o c.run.new.self c.args.call c.args.now c.changes-begun.result (g.S.Share.state c.args.share.now) c.requires (c.refusal.ensures.bytes c.in_default.is) (sym c.refusal.ensures.why ∙ c.in_default.is)
    c.changes-begun.ensures c.first_stage-stage.result c.first_stage-stage.ensures (c.run.ensures ∙ ap (λ (r : Running). running_as o r c.first_stage-stage.result) c.begun_at.ensures)

pub returns-clause-bound : goal.returns-clause-bound
returns-clause-bound g c =
    let o = c.args.self.now in
    subst (λ (n : OpenerState). (words : ℕ) → steps_left words n.work ≤ 6 * words + 100) (sym c.run.ensures)
    (first_bound o.image o.holds c.args.call c.first_stage-stage.result c.first_stage-stage.ensures)

pub returns-clause-settles : goal.returns-clause-settles
returns-clause-settles g c =
    let o = c.args.self.now in
    begin_settles (g.S.Share.state c.args.share.now) c.args.call c.args.now o c.run.new.self (sym c.refusal.ensures.why ∙ c.in_default.is)
    (record {
      next = c.first_stage-stage.result;
      first = c.first_stage-stage.ensures;
      work = c.run.ensures ∙ ap (λ (r : Running). running_as o r c.first_stage-stage.result) (c.begun_at.ensures ∙ ap (begun_at c.args.call c.args.now) c.changes-begun.ensures);
    })

pub returns-clause-counts : goal.returns-clause-counts
returns-clause-counts g c =
    let o = c.args.self.now in
    subst (λ (n : OpenerState). CountsSoFar n.work) (sym c.run.ensures)
    (subst (λ (r : Running). HasCounted c.first_stage-stage.result r) (sym c.begun_at.ensures)
    (first_counted o.image o.holds c.args.call c.args.now c.changes-begun.result c.first_stage-stage.result c.first_stage-stage.ensures))
