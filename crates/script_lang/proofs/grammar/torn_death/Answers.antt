use Rattle.script_lang.proofs.Naming.{no_torn, torn_line}
use Rattle.script_lang.proofs.grammar.torn_death.Goals as goal

pub returns-in_err-torn : goal.returns-in_err-torn
returns-in_err-torn c = rw c.from_residual-in_err-torn.ensures (no_torn c.args.who.now c.args.torn.now c.in_err-torn.ensures)

pub returns : goal.returns
returns c = torn_line c.args.who.now c.args.torn.now c.in_ok-who.who c.in_ok-torn.torn c.in_ok-who.ensures c.in_ok-torn.ensures
