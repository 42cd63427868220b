use Rattle.std.specs.Prelude.{◌≡◌}
use Rattle.opener.specs.Opener.{Tied}
use Rattle.opener.specs.declared.work.Work.TheVariants.{Idle}
use Rattle.region_words.specs.Share.{IsSameShare}
use Rattle.region_words.specs.Told.{OnBoth}
use Rattle.race_core.specs.Calls.{StartsAs}
use Rattle.race_core.specs.Worker.{RestsFor}
use Rattle.race_core.proofs.worker.end.Given as goal

abbrev pub invariant-loop : goal.invariant-loop
invariant-loop g l =
    let was = g.S.Share.state l.fn.share in
    let now = g.S.Share.state l.share in
    Tied l.living.core now × (l.living.core ≡ l.fn.opener.core) × IsSameShare was now × OnBoth was.told now.told StartsAs
    × (l.fn.opener.core.work ≡ Idle → OnBoth was.told now.told (RestsFor was.who))
