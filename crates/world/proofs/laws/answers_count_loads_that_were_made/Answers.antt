use Rattle.world.proofs.Loaded.{loads_counted}
use Rattle.world.proofs.laws.answers_count_loads_that_were_made.Goals as goal

pub returns : goal.returns
returns c = loads_counted
