use Rattle.script_lang.proofs.Cutting.{no_words}
use Rattle.script_lang.proofs.call_words.put_words.Goals as goal

pub returns-in-Some-clause-words : goal.returns-in-Some-clause-words
returns-in-Some-clause-words c = λ w x y z m. no_words c.in-Some.field-0.1.now (cc (m, c.in_ok-key.ensures.words, c.in_ok-kind.ensures.words, c.in_ok-value.ensures.words, c.in-Some.ensures.words))
