use Rattle.script_lang.proofs.OneMeaning.{names_one_thing}
use Rattle.script_lang.proofs.laws.a_line_names_one_thing.Goals as goal

pub returns : goal.returns
returns c = names_one_thing
