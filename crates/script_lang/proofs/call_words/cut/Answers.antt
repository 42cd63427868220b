use Rattle.script_lang.proofs.Cutting.{cut_words}
use Rattle.script_lang.proofs.call_words.cut.Goals as goal

pub returns-clause-words : goal.returns-clause-words
returns-clause-words c = cut_words c.args.text.now c.split_once.result c.split_once.ensures.cases
