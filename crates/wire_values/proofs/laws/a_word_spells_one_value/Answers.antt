use Rattle.wire_values.proofs.WordLaws.{word_one}
use Rattle.wire_values.proofs.laws.a_word_spells_one_value.Goals as goal

pub returns : goal.returns
returns c = word_one
