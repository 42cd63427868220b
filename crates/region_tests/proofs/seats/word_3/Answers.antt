use Rattle.std.proofs.Common.{lit<}
use Rattle.region_words.specs.declared.event.Side.TheVariants.{Data}
use Rattle.region_words.proofs.Telling.{has_first_words}
use Rattle.region_tests.proofs.seats.word_3.Goals as goal

pub load-requires-clause-inside : goal.load-requires-clause-inside
load-requires-clause-inside g c = has_first_words (g.S.Share.state c.args.share.now) c.who.ensures.sound Data 3 (lit< tt)
