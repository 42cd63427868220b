use Rattle.std.proofs.Common.{sym, ap, ◌∙◌, subst}
use Rattle.opener.specs.State.{OpenerState}
use Rattle.opener.specs.Opener.{is_storing}
use Rattle.opener.specs.Quiet.{ShowsQuietly}
use Rattle.opener.specs.declared.work.Work.TheVariants.{Ended}
use Rattle.opener.proofs.Quiet.{idle_quietly, shows_quietly}
use Rattle.opener.proofs.RefusedRecords.{refused_stops, step_refused}
use Rattle.opener.proofs.Settles.{step_settles}
use Rattle.opener.proofs.opener_core.OpenerCore.step.Goals as goal

pub returns-in-Runs-clause-settles : goal.returns-in-Runs-clause-settles
returns-in-Runs-clause-settles g c =
    let e = c.go.ensures.steps in
    step_settles _ c.args.self.now c.in-Runs.running c.in-Runs.stage c.go.result c.go.new.self (g.S.Share.state c.args.share.now) (g.S.Share.state c.go.new.share) c.self.view_is
    (sym c.replace.ensures.value ∙ c.in-Runs.is) c.requires e.tied e.makes e.adds e.call e.answer

pub returns-in-Runs-clause-refused : goal.returns-in-Runs-clause-refused
returns-in-Runs-clause-refused g c =
    step_refused _ c.args.self.now c.in-Runs.running c.in-Runs.stage c.go.result c.go.new.self (g.S.Share.state c.go.new.share) c.self.view_is
    (sym c.replace.ensures.value ∙ c.in-Runs.is) (refused_stops c.go.ensures.steps)

pub returns-in-Runs-clause-quiet : goal.returns-in-Runs-clause-quiet
returns-in-Runs-clause-quiet g c = shows_quietly c.go.new.self (g.S.Share.state c.go.new.share) c.go.ensures.steps.tied

pub returns-in-Idle-clause-quiet : goal.returns-in-Idle-clause-quiet
returns-in-Idle-clause-quiet g c =
    idle_quietly _ c.args.self.now c.replace.new.dest (g.S.Share.state c.args.share.now) c.self.view_is (ap is_storing (sym c.replace.ensures.value ∙ c.in-Idle.is)) c.requires

pub returns-in-Ended-clause-quiet : goal.returns-in-Ended-clause-quiet
returns-in-Ended-clause-quiet g c =
    subst (λ (x : OpenerState). ShowsQuietly x.who x.work (g.S.Share.state c.args.share.now)) (sym c.set_work.ensures)
    (idle_quietly _ c.args.self.now Ended (g.S.Share.state c.args.share.now) c.self.view_is (ap is_storing (sym c.replace.ensures.value ∙ c.in-Ended.is)) c.requires)
