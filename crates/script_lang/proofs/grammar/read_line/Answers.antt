use Rattle.script_lang.proofs.Meaning.{line_found, no_utf8, not_a_line}
use Rattle.script_lang.proofs.grammar.read_line.Goals as goal

pub returns-in_default-clause-bad : goal.returns-in_default-clause-bad
returns-in_default-clause-bad c = λ x. not_a_line c.args.line.now (λ e. cc (rw e at c.is_empty.ensures, c.if-is_empty.false)) c.if-line-eq35.false (no_utf8 c.args.line.now c.in_default.ensures.cases.0)

pub returns-in-Some-clause-ok : goal.returns-in-Some-clause-ok
returns-in-Some-clause-ok c = line_found c.args.line.now c.in-Some.line (rw c.in-Some.is at (rw c.in-Ok.ensures.cases.0 at c.in_ok-line.ensures))

pub returns-in-None-clause-bad : goal.returns-in-None-clause-bad
returns-in-None-clause-bad c = λ x. not_a_line c.args.line.now (λ e. cc (rw e at c.is_empty.ensures, c.if-is_empty.false)) c.if-line-eq35.false (rw c.in-None.is at (rw c.in-Ok.ensures.cases.0 at c.in_ok-line.ensures))
