use Rattle.std.proofs.Common.{◌≡◌, ◌≢◌, ◌-◌, ◌≤◌, false}
use Rattle.std.specs.Prelude.{None}
use Rattle.region_words.specs.Past.{region_after}
use Rattle.region_words.specs.Told.{OnTold}
use Rattle.loader.specs.PartialLoads.{HasLoadedPart, IsGoing, loads_made}
use Rattle.maker_tests.proofs.partials.go_on.Given as goal

abbrev pub invariant-loop-made : goal.invariant-loop-made
invariant-loop-made g l =
    record {
      alive : (g.S.Share.state l.share).ended ≡ false;
      lock : (g.S.Share.state l.share).holds ≢ None;
      going : IsGoing l.loading;
      so_far : OnTold (g.S.Share.state l.share).told (λ h. HasLoadedPart l.loading (region_after h.start h.past));
      made : l.made ≡ loads_made l.loading;
      few : l.made ≤ 16777220;
    }

abbrev pub decreases-loop-made : goal.decreases-loop-made
decreases-loop-made g l = 16777220 - loads_made l.loading
