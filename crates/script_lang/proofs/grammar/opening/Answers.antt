use Rattle.std.proofs.Common.{ap, ◌∙◌, ◌∷◌}
use Rattle.std.specs.Prelude.{codes}
use Rattle.script_lang.specs.Splitting.{words_of}
use Rattle.script_lang.proofs.Naming.{no_open, strategy_words}
use Rattle.script_lang.proofs.grammar.opening.Goals as goal

pub returns-in-Some : goal.returns-in-Some
returns-in-Some c = ap (λ ws. codes "open" ∷ ws) (ap words_of c.in-Some.ensures ∙ strategy_words c.in-Some.strategy)

pub returns-in-None : goal.returns-in-None
returns-in-None c = no_open c.args.text.now c.in-None.ensures
