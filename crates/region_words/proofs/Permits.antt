-- Events that may come at any moment: a death, and a lock that nobody stands against.
use Rattle.std.proofs.Common.{◌≡◌, ℕ, ◌≤◌, Bool, true, false, List, ◌∷◌, refl}
use Rattle.std.specs.Prelude.{None}
use Rattle.expiring_map.specs.Map.{Map}
use Rattle.lock_rules.specs.Locks.{MayTake, holds_exclusive}
use Rattle.lock_rules.specs.declared.table.LockKind.{LockKind}
use Rattle.region_words.specs.Region.{Region}
use Rattle.region_words.specs.Past.{region_after, locks_after, has_died}
use Rattle.region_words.specs.Lawful.{Lawful, Phase, Between, Dies, map_after}
use Rattle.region_words.specs.Local.{event_of}
use Rattle.region_words.specs.declared.event.What.TheVariants.{Lock, Died}
use Rattle.region_words.specs.declared.event.Event.{Event}
use Rattle.region_words.proofs.Regions.{lawful_accepted}
use Rattle.region_words.proofs.ReadLaws.{run_of}

some_cut : (b : Bool) (r : Region) (m : Map) (who : ℕ) (old : Phase) → (new : Phase) × Dies b r m who old None new
some_cut true r m who old = (Between None, (tt, refl))
some_cut false r m who old = (old, refl)

pub may_die : (start : Region) (past : List Event) (who : ℕ) → Lawful start past → (1 ≤ who) × (who ≤ 64) → has_died past who ≡ false →
    Lawful start (event_of who (Died None) ∷ past)
may_die start past who lawful maker alive = (
  lawful,
  record { maker = maker; alive = alive; possible = (tt, tt); accepted = λ ok. lawful_accepted start past ok lawful },
  λ apart.
      let run = run_of start past lawful apart in
      let cut = some_cut (holds_exclusive (locks_after past) who) (region_after start past) (map_after start past) who run.0 in
      (cut.0, (run.0, run.1, cut.1)),
)

pub may_lock : (start : Region) (past : List Event) (who : ℕ) (kind : LockKind) → Lawful start past → (1 ≤ who) × (who ≤ 64) → has_died past who ≡ false →
    MayTake (locks_after past) who kind → Lawful start (event_of who (Lock kind) ∷ past)
may_lock start past who kind lawful maker alive may = (
  lawful,
  record { maker = maker; alive = alive; possible = may; accepted = λ ok. lawful_accepted start past ok lawful },
  λ apart. let run = run_of start past lawful apart in (run.0, (run.0, run.1, refl)),
)
