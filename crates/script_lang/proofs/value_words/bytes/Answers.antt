use Rattle.script_lang.proofs.Spelled.{bytes_within}
use Rattle.script_lang.proofs.value_words.bytes.Goals as goal

pub returns-in-Ok-clause-within : goal.returns-in-Ok-clause-within
returns-in-Ok-clause-within c = rw c.of_vec-in-Ok.ensures (bytes_within c.args.word.now _ c.in-Ok.ensures.ok)
