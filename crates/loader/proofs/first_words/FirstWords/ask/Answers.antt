use Rattle.region_words.proofs.Telling.{has_first_words}
use Rattle.loader.proofs.Answered.{place_small}
use Rattle.loader.proofs.first_words.FirstWords.ask.Goals as goal

pub load-requires-clause-inside : goal.load-requires-clause-inside
load-requires-clause-inside g c = has_first_words _ c.requires.sound _ _ (place_small _)
