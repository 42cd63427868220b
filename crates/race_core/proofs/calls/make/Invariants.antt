use Rattle.std.specs.Prelude.{◌≡◌, IfSome, List}
use Rattle.change_log.specs.declared.call.Answer.{Answer}
use Rattle.opener.specs.Opener.{Tied, stop_found}
use Rattle.opener.specs.Settles.{AreSettled}
use Rattle.region_words.specs.Share.{IsSameShare}
use Rattle.region_words.specs.Told.{OnBoth, OnTold}
use Rattle.race_core.specs.Calls.{FaultsWhereListed, IsMaking, StartsAs}
use Rattle.race_core.proofs.calls.make.Given as goal

abbrev pub invariant-loop : goal.invariant-loop
invariant-loop g l =
    let was = g.S.Share.state l.fn.share in
    let now = g.S.Share.state l.share in
    Tied l.opener.core now × IsSameShare was now × OnBoth was.told now.told StartsAs × IsMaking l.fn.asked l.fn.opener.core.holds l.opener.core
    × ((own : List Answer) → OnTold was.told (AreSettled l.fn.opener.core own) → OnTold now.told (AreSettled l.opener.core own))
    × (l.who ≡ l.fn.opener.core.who)
    × IfSome (stop_found l.opener.core.work) (FaultsWhereListed was)
