use Rattle.wire_values.proofs.Numbers.{shortest_is}
use Rattle.wire_values.proofs.laws.no_spelling_is_shorter.Goals as goal

pub returns : goal.returns
returns c = shortest_is
