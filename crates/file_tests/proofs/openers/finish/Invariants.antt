use Rattle.opener.specs.Opener.{Tied}
use Rattle.file_tests.proofs.openers.finish.Given as goal

abbrev pub invariant-loop : goal.invariant-loop
invariant-loop g l = Tied l.opener.core (g.S.Share.state l.share)
