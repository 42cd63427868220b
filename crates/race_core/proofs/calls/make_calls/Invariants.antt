use Rattle.std.specs.Prelude.{◌≡◌, [], ◌++◌, List}
use Rattle.std.specs.Vec.Iter.{into_iter_items}
use Rattle.opener.specs.Opener.{Tied}
use Rattle.opener.specs.Settles.{AreSettled}
use Rattle.opener.specs.declared.work.Work.TheVariants.{Idle}
use Rattle.region_words.specs.Share.{IsSameShare}
use Rattle.region_words.specs.Told.{OnBoth, OnTold}
use Rattle.script_lang.specs.Parts.{answers_in}
use Rattle.race_core.specs.declared.entrant.TimedCall.{TimedCall}
use Rattle.race_core.specs.Calls.{AreAllowed, AreOutcomes, StartsAs}
use Rattle.race_core.proofs.calls.make_calls.Given as goal

abbrev pub invariant-loop-asked : goal.invariant-loop-asked
invariant-loop-asked g l =
    let was = g.S.Share.state l.fn.share in
    let now = g.S.Share.state l.share in
    Tied l.opener.core now × IsSameShare was now × OnBoth was.told now.told StartsAs × (l.opener.core.work ≡ Idle) × (l.opener.core.who ≡ l.fn.opener.core.who)
    × AreAllowed l.opener.core.holds (into_iter_items l.asked-iterator)
    × ((made : List TimedCall) × (l.fn.calls.items ≡ made ++ into_iter_items l.asked-iterator) × AreOutcomes l.fn.opener.core.who made l.outcomes.items)
    × (OnTold was.told (AreSettled l.fn.opener.core []) → OnTold now.told (AreSettled l.opener.core (answers_in l.outcomes.items)))
