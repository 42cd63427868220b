use Rattle.region_words.proofs.Regions.{lawful_region, lawful_accepted}
use Rattle.region_words.proofs.laws.a_region_stays_a_region.Goals as goal

pub returns-clause-region : goal.returns-clause-region
returns-clause-region c = λ start past run. lawful_region start past run.lawful run.region

pub returns-clause-accepted : goal.returns-clause-accepted
returns-clause-accepted c = λ start past accepted lawful. lawful_accepted start past accepted lawful
