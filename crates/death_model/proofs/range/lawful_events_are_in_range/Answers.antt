use Rattle.death_model.proofs.Ranges.{lawful_in_range}
use Rattle.death_model.proofs.range.lawful_events_are_in_range.Goals as goal

pub returns : goal.returns
returns c = λ start past l. lawful_in_range start past l
