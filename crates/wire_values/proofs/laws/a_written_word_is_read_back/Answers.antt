use Rattle.wire_values.proofs.WordLaws.{word_back}
use Rattle.wire_values.proofs.laws.a_written_word_is_read_back.Goals as goal

pub returns : goal.returns
returns c = word_back
