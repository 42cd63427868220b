use Rattle.std.proofs.Common.{◌≡◌, ◌≢◌, ◌-◌, ◌≤◌, false}
use Rattle.std.specs.Prelude.{None}
use Rattle.region_words.specs.Past.{region_after}
use Rattle.region_words.specs.Told.{OnTold}
use Rattle.loader.specs.Loads.{HasLoaded, loads_of, is_done}
use Rattle.maker_tests.proofs.loads.load_all.Given as goal

abbrev pub invariant-loop-went : goal.invariant-loop-went
invariant-loop-went g l =
    record {
      alive : (g.S.Share.state l.share).ended ≡ false;
      lock : (g.S.Share.state l.share).holds ≢ None;
      going : is_done l.loading ≡ false;
      so_far : OnTold (g.S.Share.state l.share).told (λ h. HasLoaded l.loading (region_after h.start h.past));
      made : l.made ≡ loads_of l.loading;
      few : l.made ≤ 16777226;
    }

abbrev pub decreases-loop-went : goal.decreases-loop-went
decreases-loop-went g l = 16777226 - loads_of l.loading
