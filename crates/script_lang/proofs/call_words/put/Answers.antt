use Rattle.script_lang.specs.Splitting.{words_of}
use Rattle.script_lang.proofs.Calling.{no_put}
use Rattle.script_lang.proofs.call_words.put.Goals as goal

pub returns-in_default-2 : goal.returns-in_default-2
returns-in_default-2 c =
    no_put (words_of c.args.text.now) c.in-Some.words.key.now c.in-Some.words.kind.now c.in-Some.words.value.now c.in-Some.words.seconds.now c.in-Some.ensures.words
    (λ key value seconds is_key is_value is_seconds. (rw c.in_default-2.is at c.in_ok-value.ensures) value is_value)

pub returns-in-None : goal.returns-in-None
returns-in-None c =
    no_put (words_of c.args.text.now) c.in-Some.words.key.now c.in-Some.words.kind.now c.in-Some.words.value.now c.in-Some.words.seconds.now c.in-Some.ensures.words
    (λ key value seconds is_key is_value is_seconds. (rw c.in-None.is at c.in_ok-key.ensures.ok) key is_key)
