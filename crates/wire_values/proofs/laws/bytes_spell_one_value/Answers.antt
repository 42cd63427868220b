use Rattle.wire_values.proofs.Numbers.{spells_one}
use Rattle.wire_values.proofs.laws.bytes_spell_one_value.Goals as goal

pub returns : goal.returns
returns c = spells_one
