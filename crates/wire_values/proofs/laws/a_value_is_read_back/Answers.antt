use Rattle.wire_values.proofs.Numbers.{spells_back}
use Rattle.wire_values.proofs.laws.a_value_is_read_back.Goals as goal

pub returns : goal.returns
returns c = spells_back
