use Rattle.script_lang.specs.Splitting.{words_of}
use Rattle.script_lang.proofs.Naming.{no_next}
use Rattle.script_lang.proofs.grammar.next.Goals as goal

pub returns-in-None : goal.returns-in-None
returns-in-None c = no_next (words_of c.args.text.now) (rw c.in-None.is at c.in_ok-who.ensures)
