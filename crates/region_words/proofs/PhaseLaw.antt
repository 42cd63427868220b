-- What holds when a row begins, and that its events keep, holds while it is under way.
use Rattle.std.proofs.Common.{◌≡◌, ℕ, Bool, true, false, List, [], ◌∷◌, refl, sym, subst}
use Rattle.std.specs.Prelude.{Option, Some, None}
use Rattle.expiring_map.specs.Map.{Map}
use Rattle.lock_rules.specs.Locks.{holds_exclusive}
use Rattle.region_words.specs.Region.{Region, IsRegion, IsAccepted}
use Rattle.region_words.specs.Past.{region_after, region_step, locks_after}
use Rattle.region_words.specs.Rows.{Row, MayBegin, events_of}
use Rattle.region_words.specs.Lawful.{Phase, Between, Within, Reaches, Lawful, IsStep, Advances, MayComeNext, Dies, IsTearer, phase_with, map_after}
use Rattle.region_words.specs.declared.event.TornWord.{TornWord}
use Rattle.region_words.specs.declared.event.What.{What}
use Rattle.region_words.specs.declared.event.What.TheVariants.{Store, Grow, Lock, Unlock, Died}
use Rattle.region_words.specs.declared.event.Event.{Event}
use Rattle.region_words.proofs.View.{View, view}
use Rattle.region_words.proofs.Kept.{Fit}
use Rattle.region_words.proofs.Changes.{after, view_after}
use Rattle.region_words.proofs.Safe.{Inside}
use Rattle.region_words.proofs.Frame.{sized, accepted, fit_of, inside_of}

module _ (P : Row → List What → View → Type 0)
    (begins : (r : Region) (m : Map) (who : ℕ) (room : Option ℕ) (row : Row) → Fit (view r) → MayBegin r m room row → P row (events_of r m who row) (view r))
    (goes : (row : Row) (what : What) (rest : List What) (v : View) → Fit v → Inside v what → P row (what ∷ rest) v → P row rest (after v what))
    (start : Region) (region : IsRegion start) (ok : IsAccepted start) where
  Holding : Region → Phase → Type 0
  Holding r (Between room) = Unit {0}
  Holding r (Within row rest) = P row rest (view r)

  come : (r : Region) (m : Map) (who : ℕ) (old : Phase) (row : Row) (events : List What) → Fit (view r) → Holding r old → MayComeNext r m who old row events → P row events (view r)
  unfolding Holding
  come r m who (Between room) row events fit h (may_begin, is, _) = subst (λ x. P row x (view r)) (sym is) (begins r m who room row fit may_begin)
  come r m who (Within under rest) row events fit h (same, is) = subst (λ x. P x events (view r)) (sym same) (subst (λ x. P under x (view r)) (sym is) h)

  left : (r : Region) (row : Row) (rest : List What) → P row rest (view r) → Holding r (phase_with row rest)
  unfolding Holding
  left r row [] h = tt
  left r row (what ∷ rest) h = h

  advance : (e : Event) (past : List Event) (old new : Phase) → Lawful start (e ∷ past) → Holding (region_after start past) old →
      Advances (region_after start past) (map_after start past) e.who old e.what new → Holding (region_after start (e ∷ past)) new
  advance e past old new l h (row, rest, c, is) =
      let r = region_after start past in
      let s = sized start past region l.0 in
      let here = come r (map_after start past) e.who old row (e.what ∷ rest) (fit_of r s) h c in
      let next = goes row e.what rest (view r) (fit_of r s) (inside_of r (locks_after past) e.who e.what l.1.possible) here in
      let same = view_after r (locks_after past) e.who e.what s.some l.1.possible (accepted start past ok l.0) (l.1.accepted ok) in
      subst (Holding (region_after start (e ∷ past))) (sym is) (left (region_after start (e ∷ past)) row rest (subst (P row rest) (sym same) next))

  cut : (b : Bool) (who : ℕ) (torn : Option TornWord) (past : List Event) (old new : Phase) → IsTearer (locks_after past) who torn → holds_exclusive (locks_after past) who ≡ b →
      Holding (region_after start past) old → Dies b (region_after start past) (map_after start past) who old torn new → Holding (region_step (region_after start past) (Died torn)) new
  unfolding Holding
  cut true who torn past old new t x h c = subst (Holding (region_step (region_after start past) (Died torn))) (sym c.1) tt
  cut false who None past old new t x h c = subst (Holding (region_after start past)) (sym c) h
  cut false who (Some torn) past old new t x h c = absurd cc

  one_more : (who : ℕ) (what : What) (past : List Event) (old new : Phase) → let e : Event = record { who = who; what = what } in
      Lawful start (e ∷ past) → Holding (region_after start past) old → IsStep (region_after start past) (map_after start past) (locks_after past) who old what new →
      Holding (region_after start (e ∷ past)) new
  unfolding Holding
  one_more who (Store side word value mark) past old new l h g = advance (record { who = who; what = Store side word value mark }) past old new l h g
  one_more who (Grow size) past old new l h g = advance (record { who = who; what = Grow size }) past old new l h g
  one_more who (Lock kind) past old new l h g = subst (Holding (region_after start past)) (sym g) h
  one_more who Unlock past old new l h g = subst (Holding (region_after start past)) (sym g.1) tt
  one_more who (Died torn) past old new l h g = cut (holds_exclusive (locks_after past) who) who torn past old new l.1.possible.0 refl h g

  holding : (past : List Event) (phase : Phase) → Lawful start past → Reaches start past phase → Holding (region_after start past) phase
  unfolding Holding
  holding [] phase l leads = subst (Holding start) (sym leads) tt
  holding (e ∷ past) phase l leads = one_more e.who e.what past leads.0 phase l (holding past leads.0 l.0 leads.1) leads.2

  -- while the row is under way
  pub phase_law : (past : List Event) (row : Row) (rest : List What) → Lawful start past → Reaches start past (Within row rest) → P row rest (view (region_after start past))
  unfolding Holding
  phase_law past row rest l leads = holding past (Within row rest) l leads
