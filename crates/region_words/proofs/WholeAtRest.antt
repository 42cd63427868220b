-- Without a death, a region is as it began, or shows a whole image, whenever no row is under way.
use Rattle.std.proofs.Common.{◌≡◌, ◌≢◌, ℕ, true, false, List, [], ◌∷◌, ◌++◌, refl, sym, ap, ◌∙◌, eq-eqb, inl, inr, ◌⊎◌, subst, append-nil}
use Rattle.std.specs.Prelude.{Option, Some, None, ◌==◌, if◌then◌else◌}
use Rattle.std.specs.Option.{option_map_or}
use Rattle.lock_rules.specs.declared.table.LockKind.TheVariants.{Shared, Exclusive}
use Rattle.meta_record.specs.declared.shown.Shown.TheVariants.{Whole}
use Rattle.region_words.specs.Apart.{Apart}
use Rattle.region_words.specs.Lawful.{Between, IsStep, Lawful, Phase, Reaches, map_after}
use Rattle.region_words.specs.Outcome.{AtRest}
use Rattle.region_words.specs.Past.{AreSteps, NoneDies, changes_of, is_death, locks_after, locks_step, region_after}
use Rattle.region_words.specs.Region.{IsAccepted, IsRegion, Region, shown}
use Rattle.region_words.specs.Share.{lock_of}
use Rattle.region_words.specs.declared.event.Event.{Event}
use Rattle.region_words.specs.declared.event.What.{What}
use Rattle.region_words.specs.declared.event.What.TheVariants.{Died, Grow, Lock, Store, Unlock}
use Rattle.region_words.proofs.Held.{Apart-front}
use Rattle.region_words.proofs.LastStore.{no_last_growth}
use Rattle.region_words.proofs.LockOf.{is_exclusive}
use Rattle.region_words.proofs.MainLaw.{whole_law}
use Rattle.region_words.proofs.Notices.{free_rests}

module _ (start : Region) (region : IsRegion start) (ok : IsAccepted start) where
  -- nothing was stored or changed; or an image is shown whole
  abbrev Rests : List Event → Type 0
  Rests past = ((region_after start past ≡ start) × (changes_of past ≡ [])) ⊎ ((k : ℕ) × (shown (region_after start past) ≡ Whole k))

  -- an event that stores nothing leaves it so
  as_before : (past : List Event) → Rests past → ((region_after start past ≡ start) × (changes_of past ++ [] ≡ [])) ⊎ ((k : ℕ) × (shown (region_after start past) ≡ Whole k))
  as_before past (inl (same, none)) = inl (same, append-nil (changes_of past) ∙ none)
  as_before past (inr whole) = inr whole

  -- one event more
  rest_step : (who : ℕ) (what : What) (past : List Event) (old : Phase) (room : Option ℕ) → let e : Event = record { who = who; what = what } in
      Lawful start (e ∷ past) → Apart start (e ∷ past) → is_death what ≡ false → Reaches start past old →
      IsStep (region_after start past) (map_after start past) (locks_after past) who old what (Between room) →
      ((before : Option ℕ) → Reaches start past (Between before) → Rests past) → Rests (e ∷ past)
  rest_step who (Store side word value mark) past old room lawful apart lives leads step earlier =
      inr (whole_law start (record { who = who; what = Store side word value mark }) past room region ok lawful apart refl (old, leads, step))
  rest_step who (Grow size) past old room lawful apart lives leads step earlier = absurd (no_last_growth start region ok who size past old room lawful.0 leads step)
  rest_step who (Lock kind) past old room lawful apart lives leads step earlier = as_before past (earlier room (subst (Reaches start past) (sym step) leads))
  rest_step who Unlock past old room lawful apart lives leads step earlier = as_before past (earlier step.0.0 (subst (Reaches start past) step.0.1 leads))
  rest_step who (Died torn) past old room lawful apart lives leads step earlier = absurd cc

  pub rests_without_death : (past : List Event) (room : Option ℕ) → Lawful start past → Apart start past → NoneDies past → Reaches start past (Between room) → Rests past
  rests_without_death [] room lawful apart live leads = inl (refl, refl)
  rests_without_death (e ∷ past) room lawful apart live leads =
      rest_step e.who e.what past leads.0 room lawful apart live.0 leads.1 leads.2
      (λ before rests. rests_without_death past before lawful.0 (Apart-front start e past apart) live.1 rests)

  pub whole_at_rest : (past : List Event) (room : Option ℕ) (n : ℕ) → Lawful start past → Apart start past → NoneDies past → Reaches start past (Between room) →
      shown start ≡ Whole n → (k : ℕ) × (shown (region_after start past) ≡ Whole k)
  whole_at_rest past room n lawful apart live leads shows = elim (rests_without_death past room lawful apart live leads) [
    | inl (same, none) ↦ (n, ap shown same ∙ shows)
    | inr whole ↦ whole
  ]

-- the steps of one opener are no deaths
pub steps_live : (who : ℕ) (past : List Event) → AreSteps who past → NoneDies past
steps_live who [] own = tt
steps_live who (e ∷ past) own = (own.0.1, steps_live who past own.1)

-- where all events are of one opener that lives on, nobody else holds the lock exclusive
its_own : (mine : ℕ) (past : List Event) → AreSteps mine past → ((locks_after past).exclusive ≡ None) ⊎ ((locks_after past).exclusive ≡ Some mine)
its_own mine [] own = inl refl
its_own mine (e ∷ past) own = go e.who e.what own.0.0 own.0.1 (its_own mine past own.1)
  where
    AtMost : Option ℕ → Type 0
    AtMost holder = (holder ≡ None) ⊎ (holder ≡ Some mine)

    without : (holder : Option ℕ) (who : ℕ) → who ≡ mine → AtMost holder → AtMost (option_map_or (λ h. if h == who then None else Some h) holder None)
    without None who one at = inl refl
    without (Some h) who one (inl none) = absurd cc
    without (Some h) who one (inr is) = let same : h ≡ who = (let e : h ≡ mine = cc in e ∙ sym one) in let test : (h == who) ≡ true = eq-eqb h who same in rw test (inl refl)

    go : (who : ℕ) (what : What) → who ≡ mine → is_death what ≡ false → AtMost (locks_after past).exclusive → AtMost (locks_step (locks_after past) who what).exclusive
    go who (Store side word value mark) one lives at = at
    go who (Grow size) one lives at = at
    go who (Lock Shared) one lives at = at
    go who (Lock Exclusive) one lives at = inr (ap Some one)
    go who Unlock one lives at = without (locks_after past).exclusive who one at
    go who (Died torn) one lives at = absurd cc

-- then no row is under way where it doesn't hold it so
pub rests_free : (who : ℕ) (start : Region) (past : List Event) → AreSteps who past → Lawful start past → Apart start past → lock_of (locks_after past) who ≢ Some Exclusive → AtRest start past
rests_free who start past own lawful apart free = free_rests start past lawful apart (go (its_own who past own))
  where
    go : ((locks_after past).exclusive ≡ None) ⊎ ((locks_after past).exclusive ≡ Some who) → (locks_after past).exclusive ≡ None
    go (inl none) = none
    go (inr one) = absurd (free (is_exclusive (locks_after past) who (ap (λ o. option_map_or (λ h. h == who) o false) one ∙ eq-eqb who who refl)))
