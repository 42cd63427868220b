-- What an opener that holds the lock exclusive may do, it may still do after what others did meanwhile.
use Rattle.std.proofs.Common.{◌≡◌, ◌≢◌, ℕ, ◌≤◌, Bool, true, false, List, [], ◌∷◌, ◌++◌, refl, sym, ◌∙◌, subst, ap, inl, inr, arith}
use Rattle.std.specs.Prelude.{Option, Some, None, IsTrue, ◌==◌}
use Rattle.std.specs.Option.{option_map_or}
use Rattle.std.specs.FinSet as set
use Rattle.std.proofs.lemmas.Bool.Decides.{nat_tests}
use Rattle.expiring_map.specs.Map.{Map}
use Rattle.change_log.specs.Acts.{replay}
use Rattle.lock_rules.specs.Locks.{Locks, IsSound, holds, holds_exclusive}
use Rattle.lock_rules.specs.declared.table.LockKind.{LockKind}
use Rattle.lock_rules.specs.declared.table.LockKind.TheVariants.{Exclusive}
use Rattle.region_words.specs.Region.{Region, IsAccepted, base}
use Rattle.region_words.specs.Past.{region_after, region_step, locks_after, has_died, NoneOf}
use Rattle.region_words.specs.Lawful.{Lawful, IsPossible, Phase, Between, Reaches, IsStep, IsTornIn, IsTearer, Dies, Advances, map_after}
use Rattle.region_words.specs.Images.{IsResting}
use Rattle.region_words.specs.Coming.{IsStoring}
use Rattle.region_words.specs.Share.{lock_of}
use Rattle.region_words.specs.Local.{event_of, lock_after}
use Rattle.region_words.specs.declared.event.TornWord.{TornWord}
use Rattle.region_words.specs.declared.event.What.{What}
use Rattle.region_words.specs.declared.event.What.TheVariants.{Store, Grow, Lock, Unlock, Died}
use Rattle.region_words.specs.declared.event.Event.{Event}
use Rattle.region_words.proofs.Held.{held, no_other, locks_sound, two_ways}
use Rattle.region_words.proofs.ReadLaws.{apart_front, run_of}
use Rattle.region_words.proofs.Regions.{lawful_accepted}
use Rattle.region_words.proofs.LockOf.{lock_other, exclusive_holds, exclusive_is, died_other}

-- others leave an opener's lock and its life alone
pub lock_others : (start : Region) (others past : List Event) (who : ℕ) → Lawful start (others ++ past) → NoneOf who others → lock_after (others ++ past) who ≡ lock_after past who
lock_others start [] past who l n = refl
lock_others start (e ∷ others) past who l n =
    lock_other (region_after start (others ++ past)) (locks_after (others ++ past)) e.who who e.what (λ s. n.0 (sym s)) l.1.possible ∙ lock_others start others past who l.0 n.1

pub died_others : (others past : List Event) (who : ℕ) → NoneOf who others → has_died (others ++ past) who ≡ has_died past who
died_others [] past who n = refl
died_others (e ∷ others) past who n = died_other e (others ++ past) who (λ s. n.0 (sym s)) ∙ died_others others past who n.1

no_holder : (b : Bool) → (IsTrue b → ⊥) → b ≡ false
no_holder true n = absurd (n refl)
no_holder false n = refl

-- where one holds exclusive, another holds nothing
holds_alone : (locks : Locks) (other who : ℕ) → other ≢ who → IsSound locks → lock_of locks who ≡ Some Exclusive → holds locks other ≡ true → ⊥
unfolding IsSound
holds_alone locks other who n sound mine h =
    let x = exclusive_is locks who mine in
    elim sound [
      | inl none ↦ absurd (nobody locks.exclusive none x)
      | inr free ↦ elim (two_ways locks.exclusive (set.contains locks.shared other) other h) [
        | inl e ↦ n (sym (same locks.exclusive e x))
        | inr c ↦ let no = free other in absurd cc
      ]
    ]
  where
    nobody : (o : Option ℕ) → o ≡ None → IsTrue (option_map_or (λ h. h == who) o false) → ⊥
    nobody None e t = cc
    nobody (Some y) e t = cc

    same : (o : Option ℕ) → o ≡ Some other → IsTrue (option_map_or (λ h. h == who) o false) → who ≡ other
    same None e t = absurd cc
    same (Some y) e t = grind (arith, nat_tests)

-- an event of another leaves the phase, while this opener holds exclusive
quiet : (r : Region) (m : Map) (locks : Locks) (other who : ℕ) (what : What) (phase : Phase) → other ≢ who → IsPossible r locks other what → IsSound locks →
    lock_of locks who ≡ Some Exclusive → IsStep r m locks other phase what phase
quiet r m locks other who (Store side word value mark) phase n p sound mine = absurd (no_other locks other who n sound (exclusive_holds locks who mine) p.0)
quiet r m locks other who (Grow size) phase n p sound mine = absurd (no_other locks other who n sound (exclusive_holds locks who mine) p.0)
quiet r m locks other who (Lock kind) phase n p sound mine = refl
quiet r m locks other who Unlock phase n p sound mine = absurd (holds_alone locks other who n sound mine p)
quiet r m locks other who (Died torn) phase n p sound mine =
    let none : holds_exclusive locks other ≡ false = no_holder (holds_exclusive locks other) (λ e. no_other locks other who n sound (exclusive_holds locks who mine) e) in
    subst (λ b. Dies b r m other phase torn phase) (sym none) refl

-- so a run goes on to the same phase
pub reaches_later : (start : Region) (others past : List Event) (who : ℕ) (phase : Phase) → Lawful start (others ++ past) → NoneOf who others →
    lock_after past who ≡ Some Exclusive → Reaches start past phase → Reaches start (others ++ past) phase
reaches_later start [] past who phase l n mine run = run
reaches_later start (e ∷ others) past who phase l n mine run = (
  phase,
  reaches_later start others past who phase l.0 n.1 mine run,
  quiet (region_after start (others ++ past)) (map_after start (others ++ past)) (locks_after (others ++ past)) e.who who e.what phase n.0 l.1.possible
      (locks_sound start (others ++ past) l.0) (lock_others start others past who l.0 n.1 ∙ mine),
)

storing_possible : (r s : Region) (locks now : Locks) (who : ℕ) (what : What) → IsStoring what → s ≡ r → IsTrue (holds_exclusive now who) → IsPossible r locks who what → IsPossible s now who what
storing_possible r s locks now who (Store side word value mark) is same mine p = let q = subst (λ x. IsPossible x locks who (Store side word value mark)) (sym same) p in (mine, q.1, q.2, q.3, q.4)
storing_possible r s locks now who (Grow size) is same mine p = let q = subst (λ x. IsPossible x locks who (Grow size)) (sym same) p in (mine, q.1, q.2, q.3)
storing_possible r s locks now who (Lock kind) is same mine p = absurd is
storing_possible r s locks now who Unlock is same mine p = absurd is
storing_possible r s locks now who (Died torn) is same mine p = absurd is

storing_step : (r s : Region) (m q : Map) (locks now : Locks) (who : ℕ) (old new : Phase) (what : What) → IsStoring what → s ≡ r → q ≡ m → IsStep r m locks who old what new → IsStep s q now who old what new
storing_step r s m q locks now who old new (Store side word value mark) is same map_is step =
    subst (λ x. Advances x q who old (Store side word value mark) new) (sym same) (subst (λ y. Advances r y who old (Store side word value mark) new) (sym map_is) step)
storing_step r s m q locks now who old new (Grow size) is same map_is step =
    subst (λ x. Advances x q who old (Grow size) new) (sym same) (subst (λ y. Advances r y who old (Grow size) new) (sym map_is) step)
storing_step r s m q locks now who old new (Lock kind) is same map_is step = absurd is
storing_step r s m q locks now who old new Unlock is same map_is step = absurd is
storing_step r s m q locks now who old new (Died torn) is same map_is step = absurd is

-- the holder's store is lawful still
pub store_later : (start : Region) (others past : List Event) (who : ℕ) (what : What) → IsStoring what → Lawful start (event_of who what ∷ past) → Lawful start (others ++ past) → NoneOf who others →
    lock_after past who ≡ Some Exclusive → Lawful start (event_of who what ∷ others ++ past)
store_later start others past who what is l now n mine =
    let same = held start others past who now (exclusive_holds (locks_after past) who mine) n in
    let still : lock_after (others ++ past) who ≡ Some Exclusive = lock_others start others past who now n ∙ mine in
    let map_is : map_after start (others ++ past) ≡ map_after start past = ap (replay (base start)) same.1 in (
      now,
      record {
        maker = l.1.maker;
        alive = died_others others past who n ∙ l.1.alive;
        possible = storing_possible (region_after start past) (region_after start (others ++ past)) (locks_after past) (locks_after (others ++ past)) who what is same.0 (exclusive_is (locks_after (others ++ past)) who still) l.1.possible;
        accepted = λ ok. subst (λ r. IsAccepted (region_step r what)) (sym same.0) (l.1.accepted ok);
      },
      λ apart.
          let run = l.2 (apart_front start others past apart) in (
            run.0,
            (
              run.1.0,
              reaches_later start others past who run.1.0 now n mine run.1.1,
              storing_step (region_after start past) (region_after start (others ++ past)) (map_after start past) (map_after start (others ++ past)) (locks_after past) (locks_after (others ++ past)) who run.1.0 run.0 what is same.0 map_is run.1.2,
            ),
          ),
    )

-- and so is its death, within a store or not
pub death_later : (start : Region) (others past : List Event) (who : ℕ) (torn : Option TornWord) → Lawful start (event_of who (Died torn) ∷ past) → Lawful start (others ++ past) →
    NoneOf who others → lock_after past who ≡ Some Exclusive → Lawful start (event_of who (Died torn) ∷ others ++ past)
death_later start others past who torn l now n mine =
    let same = held start others past who now (exclusive_holds (locks_after past) who mine) n in
    let still : lock_after (others ++ past) who ≡ Some Exclusive = lock_others start others past who now n ∙ mine in
    let map_is : map_after start (others ++ past) ≡ map_after start past = ap (replay (base start)) same.1 in
    let here = exclusive_is (locks_after (others ++ past)) who still in
    let there = exclusive_is (locks_after past) who mine in (
      now,
      record {
        maker = l.1.maker;
        alive = died_others others past who n ∙ l.1.alive;
        possible = (tears (locks_after (others ++ past)) torn here, subst (λ r. IsTornIn r torn) (sym same.0) l.1.possible.1);
        accepted = λ ok. subst (λ r. IsAccepted (region_step r (Died torn))) (sym same.0) (l.1.accepted ok);
      },
      λ apart.
          let run = l.2 (apart_front start others past apart) in (
            run.0,
            (
              run.1.0,
              reaches_later start others past who run.1.0 now n mine run.1.1,
              subst (λ b. Dies b (region_after start (others ++ past)) (map_after start (others ++ past)) who run.1.0 torn run.0) (there ∙ sym here)
                  (subst (λ r. Dies (holds_exclusive (locks_after past) who) r (map_after start (others ++ past)) who run.1.0 torn run.0) (sym same.0)
                  (subst (λ m. Dies (holds_exclusive (locks_after past) who) (region_after start past) m who run.1.0 torn run.0) (sym map_is) run.1.2)),
            ),
          ),
    )
  where
    tears : (locks : Locks) (torn : Option TornWord) → IsTrue (holds_exclusive locks who) → IsTearer locks who torn
    tears locks None e = tt
    tears locks (Some t) e = e

-- and so is its unlock
pub unlock_later : (start : Region) (others past : List Event) (who : ℕ) → Lawful start (event_of who Unlock ∷ past) → Lawful start (others ++ past) → NoneOf who others →
    lock_after past who ≡ Some Exclusive → Lawful start (event_of who Unlock ∷ others ++ past)
unlock_later start others past who l now n mine =
    let still : lock_after (others ++ past) who ≡ Some Exclusive = lock_others start others past who now n ∙ mine in (
      now,
      record {
        maker = l.1.maker;
        alive = died_others others past who n ∙ l.1.alive;
        possible = exclusive_holds (locks_after (others ++ past)) who still;
        accepted = λ ok. lawful_accepted start (others ++ past) ok now;
      },
      λ apart.
          let run = l.2 (apart_front start others past apart) in
          (run.0, (run.1.0, reaches_later start others past who run.1.0 now n mine run.1.1, run.1.2)),
    )

-- A lock may be given up where no row is under way.
pub may_unlock : (start : Region) (past : List Event) (who : ℕ) → Lawful start past → (1 ≤ who) × (who ≤ 64) → has_died past who ≡ false → holds (locks_after past) who ≡ true →
    IsResting start past → Lawful start (event_of who Unlock ∷ past)
may_unlock start past who l maker alive mine rests = (
  l,
  record { maker = maker; alive = alive; possible = mine; accepted = λ ok. lawful_accepted start past ok l },
  λ apart. let run = run_of start past l apart in (Between None, (run.0, run.1, (rests run.0 run.1, refl))),
)

-- after a lock no row is under way where none was before
pub rests_locked : (start : Region) (past : List Event) (who : ℕ) (kind : LockKind) → IsResting start past → IsResting start (event_of who (Lock kind) ∷ past)
rests_locked start past who kind rests = λ p lead. let before = rests lead.0 lead.1 in (before.0, lead.2 ∙ before.1)
