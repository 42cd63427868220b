use Rattle.std.proofs.Common.{rules, ℕ, sym, subst, [], ◌∙◌}
use Rattle.atomic_table.specs.Table.{Splits}
use Rattle.step_desk.specs.Rule.{TableIs}
use Rattle.step_desk.specs.Steps.{M, keeper, handed}
use Rattle.step_desk.proofs.Moves.{settles_allowed}
use Rattle.step_desk.proofs.Passing.{splits_allowed}
use Rattle.step_desk.proofs.Keeping.{kept_pass, handed_pass}
use Rattle.step_desk.proofs.steps.split.Goals as goal

pub load-requires : goal.load-requires
load-requires g c = (search rules, search rules, settles_allowed _ _ _ _ _ c.requires.pass.ready.live)

pub split_seat-token-requires : goal.split_seat-token-requires
split_seat-token-requires g c =
    let region = c.args.board.now.key.region.value in
    let seats = c.args.board.now.key.seats in (
      search rules,
      search rules,
      subst (λ (t : ℕ × M). Splits (TableIs region seats) c.load.new.seat.id t.1.0 (keeper t.1.0 t.0) (handed t.1.0 t.0)) (λ i. (sym c.requires.picked i, sym c.load.ensures.2.0 i))
          (splits_allowed region seats c.load.new.seat.id c.args.hand.now.token.me.0 c.args.who c.requires.pass.ready.live c.requires.pass.ready.stage c.requires.may),
    )

pub returns-clause-pass : goal.returns-clause-pass
returns-clause-pass g c =
    kept_pass _ _ _ _ c.args.who c.requires.pass (c.split_seat-token.ensures.2 ∙ (λ i. let m : M = c.load.ensures.2.0 i in let n : M = (keeper m.0 (c.requires.picked i), m.1) in n))

pub returns-clause-handed_pass : goal.returns-clause-handed_pass
returns-clause-handed_pass g c =
    handed_pass _ _ _ _ c.args.who c.requires.pass c.requires.may (c.split_seat-token.ensures.4 ∙ (λ i. let m : M = c.load.ensures.2.0 i in let n : M = (handed m.0 (c.requires.picked i), []) in n))
