use Rattle.std.proofs.Common.{rules, ℕ, Some, sym, subst}
use Rattle.step_desk.specs.Steps.{IsReady}
use Rattle.step_desk.proofs.Moves.{takes_allowed}
use Rattle.step_desk.proofs.Turning.{took_slot}
use Rattle.step_desk.proofs.Keeping.{refused_pass}
use Rattle.step_desk.proofs.steps.take.Goals as goal

pub compare_exchange-requires : goal.compare_exchange-requires
compare_exchange-requires c = (search rules, search rules, takes_allowed _ _ _ _ _ _ (subst (λ (k : ℕ). IsReady k c.args.hand.now.token.me) (sym c.from.ensures) c.requires.pass.ready))

pub exchange-requires : goal.exchange-requires
exchange-requires c = let t = c.compare_exchange.ensures.2.0 c.if-compare_exchange-ne0.false in (search rules, (Some t.0, took_slot _ _ _ t.1))

pub returns-then-compare_exchange-ne0-clause-refused : goal.returns-then-compare_exchange-ne0-clause-refused
returns-then-compare_exchange-ne0-clause-refused c = refused_pass _ _ _ _ c.requires.pass (c.compare_exchange.ensures.2.1 c.if-compare_exchange-ne0.true)
