use Rattle.region_words.proofs.Rest.{at_rest}
use Rattle.region_words.proofs.laws.no_row_is_under_way_where_nobody_holds_exclusive.Goals as goal

pub returns : goal.returns
returns c = λ start past phase lawful reaches free. at_rest start past phase lawful reaches free
