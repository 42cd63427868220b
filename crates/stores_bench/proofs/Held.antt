-- The lock is taken in the start.
use Rattle.std.proofs.Common.{◌≡◌, ℕ, ◌-◌, List, ◌++◌, [], false, length, sym, subst, ◌∙◌}
use Rattle.std.specs.Prelude.{replicate}
use Rattle.lock_rules.specs.declared.table.LockKind.TheVariants.{Exclusive}
use Rattle.region_words.specs.Region.{Region, region_of}
use Rattle.region_words.specs.Stores.{filled_up, whole_pages}
use Rattle.region_words.specs.Share.{Goes, locked}
use Rattle.region_words.specs.Local.{Seated, seat_state}
use Rattle.region_words.proofs.FirstLock.{locked_past}
use Rattle.stores_bench.specs.Start.{IsStart, IsHeld}
use Rattle.stores_bench.specs.declared.start.TheConstants.{FIRST_BYTES, RECORD_BYTES}

-- the files begin with the start's bytes
pub start_of : (r : Region) (body meta : List ℕ) → r ≡ region_of (filled_up body) (filled_up meta) → ((behind : List ℕ) × (body ≡ FIRST_BYTES ++ behind)) → meta ≡ RECORD_BYTES → IsStart r
start_of r body meta is (behind, first) whole =
    let more = whole_pages (length body) - length body in
    (behind ++ replicate more 0, is ∙ (λ i. region_of (first i ++ replicate more 0) (filled_up (whole i))))

pub held_first : (s t : Seated) → s.who ≡ 1 → (seat_state s).ended ≡ false → IsStart s.region.start → s.region.past ≡ [] →
    Goes (locked Exclusive (seat_state s)) (seat_state s) (seat_state t) → IsHeld t
held_first s t one alive start none goes =
    let told = locked_past s t one none goes in
    record { who = told.0; alive = goes.after.ended ∙ alive; holds = goes.after.holds; start = subst IsStart (sym told.1) start; past = told.2 }
