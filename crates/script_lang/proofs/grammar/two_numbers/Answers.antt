use Rattle.script_lang.proofs.Naming.{last_number, both_numbers}
use Rattle.script_lang.proofs.grammar.two_numbers.Goals as goal

pub returns-in_err-second : goal.returns-in_err-second
returns-in_err-second c = rw c.from_residual-in_err-second.ensures (last_number c.args.text.now c.in_ok-first.first.now c.in_ok-first.second.now c.in_ok-first.ensures.words c.in_err-second.ensures)

pub returns : goal.returns
returns c = both_numbers c.args.text.now c.in_ok-first.first.now c.in_ok-first.second.now c.in_ok-first-2.first c.in_ok-second.second c.in_ok-first.ensures.words c.in_ok-first-2.ensures c.in_ok-second.ensures
