-- A row goes on, event by event.
use Rattle.std.proofs.Common.{◌≡◌, ℕ, List, [], ◌∷◌, ◌++◌, refl, sym, subst, ap}
use Rattle.std.specs.Prelude.{Some}
use Rattle.expiring_map.specs.Map.{Map}
use Rattle.change_log.specs.Acts.{replay}
use Rattle.lock_rules.specs.Locks.{Locks}
use Rattle.lock_rules.specs.declared.table.LockKind.TheVariants.{Exclusive}
use Rattle.region_words.specs.Region.{Region, base}
use Rattle.region_words.specs.Past.{region_after, locks_after, NoneOf}
use Rattle.region_words.specs.Rows.{Row}
use Rattle.region_words.specs.Apart.{Apart}
use Rattle.region_words.specs.Lawful.{Lawful, IsPermitted, Phase, Between, Within, Reaches, MayComeNext, IsStep, room_of, phase_with, map_after}
use Rattle.region_words.specs.Local.{event_of, lock_after}
use Rattle.region_words.specs.Coming.{IsComing, IsStoring}
use Rattle.region_words.specs.declared.event.What.{What}
use Rattle.region_words.specs.declared.event.What.TheVariants.{Store, Grow, Lock, Unlock, Died}
use Rattle.region_words.specs.declared.event.Event.{Event}
use Rattle.region_words.proofs.Held.{held}
use Rattle.region_words.proofs.LockOf.{exclusive_holds}
use Rattle.region_words.proofs.Later.{reaches_later}

step_of : (r : Region) (m : Map) (locks : Locks) (who : ℕ) (old : Phase) (row : Row) (what : What) (rest : List What) → IsStoring what →
    MayComeNext r m who old row (what ∷ rest) → IsStep r m locks who old what (phase_with row rest)
step_of r m locks who old row (Store side word value mark) rest is next = (row, rest, next, refl)
step_of r m locks who old row (Grow size) rest is next = (row, rest, next, refl)
step_of r m locks who old row (Lock kind) rest is next = absurd is
step_of r m locks who old row Unlock rest is next = absurd is
step_of r m locks who old row (Died torn) rest is next = absurd is

-- the next event leads on
pub reaches_next : (start : Region) (past : List Event) (who : ℕ) (row : Row) (what : What) (rest : List What) → IsStoring what →
    IsComing start past who row (what ∷ rest) → Reaches start (event_of who what ∷ past) (phase_with row rest)
reaches_next start past who row what rest is c =
    (c.phase, c.reached, step_of (region_after start past) (map_after start past) (locks_after past) who c.phase row what rest is c.next)

-- it is lawful
pub next_lawful : (start : Region) (past : List Event) (who : ℕ) (row : Row) (what : What) (rest : List What) → IsStoring what → Lawful start past →
    IsPermitted start past (event_of who what) → (Apart start past → IsComing start past who row (what ∷ rest)) → Lawful start (event_of who what ∷ past)
next_lawful start past who row what rest is l permitted coming =
    (l, permitted, λ apart. (phase_with row rest, reaches_next start past who row what rest is (coming apart)))

-- after it the rest is to come,
pub coming_next : (start : Region) (past : List Event) (who : ℕ) (row : Row) (what second : What) (rest : List What) → IsStoring what →
    IsComing start past who row (what ∷ second ∷ rest) → IsComing start (event_of who what ∷ past) who row (second ∷ rest)
coming_next start past who row what second rest is c =
    record { phase = Within row (second ∷ rest); reached = reaches_next start past who row what (second ∷ rest) is c; next = (refl, refl) }

-- and after the last one no row is under way
pub reaches_end : (start : Region) (past : List Event) (who : ℕ) (row : Row) (what : What) → IsStoring what →
    IsComing start past who row (what ∷ []) → Reaches start (event_of who what ∷ past) (Between (room_of row))
reaches_end start past who row what is c = reaches_next start past who row what [] is c

-- what others do meanwhile leaves the events to come
pub coming_later : (start : Region) (others past : List Event) (who : ℕ) (row : Row) (events : List What) → Lawful start (others ++ past) → NoneOf who others →
    lock_after past who ≡ Some Exclusive → IsComing start past who row events → IsComing start (others ++ past) who row events
coming_later start others past who row events l n mine c =
    let same = held start others past who l (exclusive_holds (locks_after past) who mine) n in
    let map_is : map_after start (others ++ past) ≡ map_after start past = ap (replay (base start)) same.1 in
    record {
      phase = c.phase;
      reached = reaches_later start others past who c.phase l n mine c.reached;
      next = subst (λ r. MayComeNext r (map_after start (others ++ past)) who c.phase row events) (sym same.0) (subst (λ m. MayComeNext (region_after start past) m who c.phase row events) (sym map_is) c.next);
    }
