use Rattle.std.proofs.Common.{ap, sym, subst}
use Rattle.script_lang.specs.Parts.{answers_in}
use Rattle.step_desk.specs.Passes.{PassState}
use Rattle.race_core.specs.Worker.{IsSettledAt, history_of}
use Rattle.race_core.proofs.worker.work.Goals as goal

pub returns-clause-settled : goal.returns-clause-settled
returns-clause-settled g c = λ none.
    let own = answers_in c.live-ceased.new.outcomes.items in
    subst (λ (p : PassState). IsSettledAt c.args.job.pass.view.who own (history_of p)) (sym c.into_pass.ensures)
    (subst (λ w. IsSettledAt w own (history_of c.live-ceased.new.share)) (ap (λ (p : PassState). p.view.who) c.seat-seat.ensures) (c.live-ceased.ensures.settled none))
