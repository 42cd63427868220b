use Rattle.region_words.proofs.Held.{held}
use Rattle.region_words.proofs.laws.a_holder_sees_one_region.Goals as goal

pub returns : goal.returns
returns c = λ start later past who lawful holds others. held start later past who lawful holds others
