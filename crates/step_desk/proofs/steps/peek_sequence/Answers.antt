use Rattle.std.proofs.Common.{rules, ℕ, ◌∙◌, sym, subst}
use Rattle.step_desk.specs.Mirrors.{sequence_after}
use Rattle.step_desk.specs.Steps.{M}
use Rattle.step_desk.specs.Passes.{PassIs}
use Rattle.step_desk.proofs.Moves.{peeks_sequence}
use Rattle.step_desk.proofs.Keeping.{peeked_pass, word_is}
use Rattle.step_desk.proofs.steps.peek_sequence.Goals as goal

pub load-found-requires : goal.load-found-requires
load-found-requires c = (search rules, search rules, peeks_sequence _ _ _ _ _ _ c.requires.pass.ready)

pub returns-clause-pass : goal.returns-clause-pass
returns-clause-pass c =
    let same = c.look.ensures.same in
    subst (λ (p : M × ℕ × ℕ). PassIs p.0 p.1 p.2) (λ i. ((sym same.0 i).me, sym same.1 i, sym c.look.ensures.made i)) (peeked_pass sequence_after _ _ _ _ _ c.requires.pass c.load-found.ensures.2)

pub returns-clause-sequence : goal.returns-clause-sequence
returns-clause-sequence c =
    c.look.ensures.word ∙ word_is sequence_after _ _ _ _ _ c.requires.pass c.load-found.ensures.2
    ∙ (λ i. sequence_after c.args.hand.now.token.me.0.about.start (sym c.look.ensures.same.0 i).me.0.seen)
