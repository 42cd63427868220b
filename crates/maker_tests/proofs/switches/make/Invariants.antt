use Rattle.region_words.specs.Rows.{Row}
use Rattle.region_words.specs.Owing.{IsOwing}
use Rattle.maker_tests.proofs.switches.make.Given as goal

abbrev pub invariant-loop : goal.invariant-loop
invariant-loop g l = (row : Row) × IsOwing row l.maker.events (g.S.Share.state l.share)
