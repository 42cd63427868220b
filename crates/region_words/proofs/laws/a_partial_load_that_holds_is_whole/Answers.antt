use Rattle.region_words.proofs.PartialLoad.{loads_on, goes_on}
use Rattle.region_words.proofs.laws.a_partial_load_that_holds_is_whole.Goals as goal

pub returns-clause-holds : goal.returns-clause-holds
returns-clause-holds c = λ start later past n m run apart kept same on. loads_on start past n m kept later run.region run.lawful apart same on

pub returns-clause-whole : goal.returns-clause-whole
returns-clause-whole c = λ start later past n size m run apart kept same shows. goes_on start past n m kept later run.region run.lawful apart same size shows
