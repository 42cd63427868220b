use Rattle.script_lang.specs.Splitting.{words_of}
use Rattle.script_lang.proofs.Naming.{no_step, no_such_step}
use Rattle.script_lang.proofs.grammar.steps.Goals as goal

pub returns-else-may_step : goal.returns-else-may_step
returns-else-may_step c =
    no_such_step (words_of c.args.text.now) (c.in-Some.who, c.in-Some.count) c.in-Some.ensures (λ low high. absurd (cc (c.may_step.ensures.1 (low, high), c.if-may_step.false)))

pub returns-in-None : goal.returns-in-None
returns-in-None c = no_step (words_of c.args.text.now) (λ t m low high. c.in-None.ensures t m)
