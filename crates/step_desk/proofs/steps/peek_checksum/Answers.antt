use Rattle.std.proofs.Common.{rules, ℕ, ◌∙◌, sym, subst}
use Rattle.step_desk.specs.Mirrors.{checksum_after}
use Rattle.step_desk.specs.Steps.{M}
use Rattle.step_desk.specs.Passes.{PassIs}
use Rattle.step_desk.proofs.Moves.{peeks_checksum}
use Rattle.step_desk.proofs.Keeping.{peeked_pass, word_is}
use Rattle.step_desk.proofs.steps.peek_checksum.Goals as goal

pub load-found-requires : goal.load-found-requires
load-found-requires c = (search rules, search rules, peeks_checksum _ _ _ _ _ _ c.requires.pass.ready)

pub returns-clause-pass : goal.returns-clause-pass
returns-clause-pass c =
    let same = c.look-checksum.ensures.same in
    subst (λ (p : M × ℕ × ℕ). PassIs p.0 p.1 p.2) (λ i. ((sym same.0 i).me, sym same.1 i, sym c.look-checksum.ensures.made i)) (peeked_pass checksum_after _ _ _ _ _ c.requires.pass c.load-found.ensures.2)

pub returns-clause-checksum : goal.returns-clause-checksum
returns-clause-checksum c =
    c.look-checksum.ensures.word ∙ word_is checksum_after _ _ _ _ _ c.requires.pass c.load-found.ensures.2
    ∙ (λ i. checksum_after c.args.hand.now.token.me.0.about.start (sym c.look-checksum.ensures.same.0 i).me.0.seen)
