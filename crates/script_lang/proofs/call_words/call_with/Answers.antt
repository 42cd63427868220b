use Rattle.script_lang.proofs.Calling.{no_get, no_remove}
use Rattle.script_lang.proofs.call_words.call_with.Goals as goal

pub returns-in-None : goal.returns-in-None
returns-in-None c = no_get c.args.name.now c.args.word.now c.in-get.is (rw c.in-None.is at c.in_ok-key-in-get.ensures.ok)

pub returns-in-None-2 : goal.returns-in-None-2
returns-in-None-2 c = no_remove c.args.name.now c.args.word.now c.in-remove.is (rw c.in-None-2.is at c.in_ok-key-in-remove.ensures.ok)
