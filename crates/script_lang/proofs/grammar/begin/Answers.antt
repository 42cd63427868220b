use Rattle.script_lang.specs.Splitting.{words_of}
use Rattle.script_lang.proofs.Naming.{no_begin}
use Rattle.script_lang.proofs.grammar.begin.Goals as goal

pub returns-in-None : goal.returns-in-None
returns-in-None c = no_begin (words_of c.args.text.now) (rw c.in-None.is at c.in_ok-who.ensures)
