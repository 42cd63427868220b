use Rattle.region_words.specs.declared.event.Side.TheVariants.{Meta}
use Rattle.region_words.proofs.Telling.{has_first_words}
use Rattle.loader.proofs.RecordAnswered.{record_place_small}
use Rattle.loader.proofs.record_words.RecordWords.ask.Goals as goal

pub load-requires-clause-inside : goal.load-requires-clause-inside
load-requires-clause-inside g c = has_first_words _ c.requires.sound Meta _ (record_place_small c.args.self.now.made)
