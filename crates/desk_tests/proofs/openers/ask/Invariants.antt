use Rattle.opener.specs.Opener.{Tied}
use Rattle.region_words.specs.Share.{IsSameShare}
use Rattle.desk_tests.proofs.openers.ask.Given as goal

abbrev pub invariant-loop : goal.invariant-loop
invariant-loop g l = Tied l.opener.core (g.S.Share.state l.share) × IsSameShare (g.S.Share.state l.fn.share) (g.S.Share.state l.share)
