use Rattle.std.proofs.Common.{◌∙◌, ap, sym, subst}
use Rattle.region_words.specs.Lawful.{Lawful}
use Rattle.step_desk.specs.Passes.{PassState}
use Rattle.race_core.proofs.Joining.{goes_rests, lawful_longer}
use Rattle.race_core.proofs.threads.take_in.Goals as goal

pub returns-clause-ours : goal.returns-clause-ours
returns-clause-ours c =
    let old = c.args.seat.now.view in
    let new = c.join.new.self.view in
    let same = ap (λ (p : PassState). p.view.about.start) c.join.ensures.view in
    goes_rests new.about.start old new.seen (sym same)
    (subst (λ (p : PassState). Lawful p.view.about.start p.view.seen) (sym c.join.ensures.view)
    (lawful_longer old.about.start old.seen c.args.pass.view.seen c.requires.lawful (subst (λ r. Lawful r c.args.pass.view.seen) c.requires.start c.requires.pass_lawful)))
    c.join.ensures.ours

pub returns-clause-theirs : goal.returns-clause-theirs
returns-clause-theirs c =
    let old = c.args.seat.now.view in
    let new = c.join.new.self.view in
    let same = ap (λ (p : PassState). p.view.about.start) c.join.ensures.view in
    goes_rests new.about.start c.args.pass.view new.seen (c.requires.start ∙ sym same)
    (subst (λ (p : PassState). Lawful p.view.about.start p.view.seen) (sym c.join.ensures.view)
    (lawful_longer old.about.start old.seen c.args.pass.view.seen c.requires.lawful (subst (λ r. Lawful r c.args.pass.view.seen) c.requires.start c.requires.pass_lawful)))
    c.join.ensures.theirs
