-- The first lock of a region in memory may be given up again.
use Rattle.std.proofs.Common.{◌≡◌, [], ◌∷◌, ◌++◌, refl, sym, subst, ap, ◌∙◌, lit≤}
use Rattle.std.specs.Prelude.{None}
use Rattle.lock_rules.specs.declared.table.LockKind.TheVariants.{Exclusive}
use Rattle.region_words.specs.Region.{Region}
use Rattle.region_words.specs.Lawful.{Lawful}
use Rattle.region_words.specs.Share.{Goes, MayMake, locked, made_by}
use Rattle.region_words.specs.Local.{Seated, seat_state, event_of}
use Rattle.region_words.specs.declared.event.What.TheVariants.{Lock, Unlock}
use Rattle.region_words.proofs.Later.{may_unlock, rests_locked}

-- what has happened after it
pub locked_past : (s t : Seated) → s.who ≡ 1 → s.region.past ≡ [] → Goes (locked Exclusive (seat_state s)) (seat_state s) (seat_state t) →
    (t.who ≡ 1) × (t.region.start ≡ s.region.start) × (t.region.past ≡ event_of 1 (Lock Exclusive) ∷ [])
locked_past s t one none goes =
    let g = goes.after.told in (
      goes.after.same.who ∙ one,
      g.start,
      g.past ∙ ap (λ others. made_by s.who (Lock Exclusive ∷ []) ++ (others ++ s.region.past)) (g.none refl)
          ∙ ap (λ past. made_by s.who (Lock Exclusive ∷ []) ++ past) none ∙ ap (λ w. made_by w (Lock Exclusive ∷ [])) one,
    )

unlocks : (start : Region) → Lawful start (event_of 1 (Lock Exclusive) ∷ []) → Lawful start (event_of 1 Unlock ∷ event_of 1 (Lock Exclusive) ∷ [])
unlocks start l = may_unlock start (event_of 1 (Lock Exclusive) ∷ []) 1 l (lit≤ tt, lit≤ tt) refl refl (rests_locked start [] 1 Exclusive (λ p lead. (None, lead)))

pub may_unlock_first : (s t : Seated) → s.who ≡ 1 → s.region.past ≡ [] → Goes (locked Exclusive (seat_state s)) (seat_state s) (seat_state t) → MayMake Unlock (seat_state t)
may_unlock_first s t one none goes =
    let told = locked_past s t one none goes in
    let start = t.region.start in
    let lawful = unlocks start (subst (λ past. Lawful start past) told.2 goes.after.sound.told.lawful) in
    subst (λ w. Lawful start (event_of w Unlock ∷ t.region.past)) (sym told.0) (subst (λ past. Lawful start (event_of 1 Unlock ∷ past)) (sym told.2) lawful)
