use Rattle.lock_rules.proofs.Counting.{counts_tell}
use Rattle.lock_rules.proofs.laws.an_opener_holds_what_it_counts.Goals as goal

pub returns : goal.returns
returns c = counts_tell
