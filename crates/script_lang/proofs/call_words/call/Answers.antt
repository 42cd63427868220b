use Rattle.std.proofs.Common.{◌≡◌, ◌∷◌}
use Rattle.script_lang.specs.Splitting.{words_of}
use Rattle.script_lang.proofs.Cutting.{some_word}
use Rattle.script_lang.proofs.Calling.{no_long}
use Rattle.script_lang.proofs.call_words.call.Goals as goal

pub returns-in-Some-cut : goal.returns-in-Some-cut
returns-in-Some-cut c =
    let s = some_word c.in-Some-cut.field-0.1.now in
    let long : words_of c.args.text.now ≡ c.in-Some.name.now ∷ c.in-Some-cut.field-0.0.now ∷ s.0 ∷ s.1 = cc (c.in-Some.ensures.words, c.in-Some-cut.ensures.words, s.2) in
    no_long (words_of c.args.text.now) c.in-Some.name.now c.in-Some-cut.field-0.0.now s.0 s.1 long c.in_default-name.not-put
