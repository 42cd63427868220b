use Rattle.std.proofs.Common.{◌≡◌, ◌≢◌, ℕ, Bool, true, false, List, [], ◌∷◌, ◌++◌, refl, ap, ◌∙◌, inl, inr, append-nil, ◌⊎◌, arith, ◌&&◌, ◌||◌}
use Rattle.std.specs.Prelude.{Option, Some, None, IsTrue, ◌==◌, if◌then◌else◌}
use Rattle.std.specs.Option.{option_map_or}
use Rattle.std.specs.Ordering.{nat_cmp}
use Rattle.std.specs.Cmp.{nat_cmp_total}
use Rattle.std.specs.FinSet as set
use Rattle.std.proofs.lemmas.List.Elements.{Contains-append_right}
use Rattle.std.proofs.lemmas.Bool.Decides.{nat_tests}
use Rattle.lock_rules.specs.Locks.{Locks, IsSound, holds, holds_exclusive, without_holder}
use Rattle.lock_rules.specs.declared.table.LockKind.TheVariants.{Shared, Exclusive}
use Rattle.region_words.specs.Region.{Region}
use Rattle.region_words.specs.Past.{region_after, locks_after, changes_of, change_of, region_step, locks_step}
use Rattle.region_words.specs.Apart.{Apart, strings, recorded_payloads, meant_by}
use Rattle.region_words.specs.Lawful.{Lawful, IsPossible}
use Rattle.region_words.specs.declared.event.What.{What}
use Rattle.region_words.specs.declared.event.What.TheVariants.{Store, Grow, Lock, Unlock, Died}
use Rattle.region_words.specs.declared.event.Event.{Event}
use Rattle.region_words.specs.Past.{NoneOf}

-- payloads that are told apart after an event were so before it
pub Apart-front : (start : Region) (e : Event) (past : List Event) → Apart start (e ∷ past) → Apart start past
Apart-front start e past a =
    let after = region_after start (e ∷ past) in
    let wider = Contains-append_right (recorded_payloads after ++ meant_by after past e.what) (strings start past) in
    λ s t in_s in_t same. a s t (wider s in_s) (wider t in_t) same

pub none_without : (o : Option ℕ) (who : ℕ) → o ≡ None → option_map_or (λ h. if h == who then None else Some h) o None ≡ None
none_without None who e = refl
none_without (Some x) who e = absurd cc

and_false : (a b : Bool) → b ≡ false → (a && b) ≡ false
and_false true b e = e
and_false false b e = refl

without_sound : (locks : Locks) (who : ℕ) → IsSound locks → IsSound (without_holder locks who)
unfolding IsSound
without_sound locks who (inl e) = inl (none_without locks.exclusive who e)
without_sound locks who (inr f) = inr (λ q. set.contains-remove nat_cmp_total locks.shared who q ∙ and_false _ _ (f q))

relocked_sound : (r : Region) (locks : Locks) (who : ℕ) (what : What) → IsPossible r locks who what → IsSound locks → IsSound (locks_step locks who what)
unfolding IsSound
relocked_sound r locks who (Store side word value mark) p s = s
relocked_sound r locks who (Grow size) p s = s
relocked_sound r locks who (Lock Shared) p s = inl p.1
relocked_sound r locks who (Lock Exclusive) p s = inr (λ q. ap (λ m. set.contains m q) p.0 ∙ set.contains-empty nat_cmp q)
relocked_sound r locks who Unlock p s = without_sound locks who s
relocked_sound r locks who (Died torn) p s = without_sound locks who s

pub locks_sound : (start : Region) (past : List Event) → Lawful start past → IsSound (locks_after past)
unfolding IsSound
locks_sound start [] l = inl refl
locks_sound start (e ∷ past) l = relocked_sound (region_after start past) (locks_after past) e.who e.what l.1.possible (locks_sound start past l.0)

-- what is said of one holder, by the two ways to hold
pub two_ways : (o : Option ℕ) (c : Bool) (who : ℕ) → (option_map_or (λ h. h == who) o false || c) ≡ true → (o ≡ Some who) ⊎ (c ≡ true)
two_ways None c who e = inr e
two_ways (Some x) true who e = inr refl
two_ways (Some x) false who e = inl (ap Some (grind (arith, nat_tests)))

by_exclusive : (o : Option ℕ) (c : Bool) (who : ℕ) → o ≡ Some who → (option_map_or (λ h. h == who) o false || c) ≡ true
by_exclusive None c who e = absurd cc
by_exclusive (Some x) c who e = grind (arith, nat_tests)

by_shared : (b c : Bool) → c ≡ true → (b || c) ≡ true
by_shared true c e = refl
by_shared false c e = e

-- the exclusive holder is one
one_exclusive : (o : Option ℕ) (other who : ℕ) → o ≡ Some who → IsTrue (option_map_or (λ h. h == other) o false) → other ≡ who
one_exclusive None other who e h = absurd cc
one_exclusive (Some x) other who e h = grind (arith, nat_tests)

kept_exclusive : (o : Option ℕ) (other who : ℕ) → other ≢ who → o ≡ Some who → option_map_or (λ h. if h == other then None else Some h) o None ≡ Some who
kept_exclusive None other who n e = absurd cc
kept_exclusive (Some x) other who n e = grind (arith, nat_tests)

-- a holder stays one through what another does
kept_without : (locks : Locks) (other who : ℕ) → other ≢ who → holds locks who ≡ true → holds (without_holder locks other) who ≡ true
kept_without locks other who n h =
    elim (two_ways locks.exclusive (set.contains locks.shared who) who h) [
      | inl e ↦ by_exclusive _ _ who (kept_exclusive locks.exclusive other who n e)
      | inr e ↦ by_shared _ _ (set.contains-remove nat_cmp_total locks.shared other who ∙ grind (arith, nat_tests))
    ]

-- another can't store while this one holds
pub no_other : (locks : Locks) (other who : ℕ) → other ≢ who → IsSound locks → holds locks who ≡ true → IsTrue (holds_exclusive locks other) → ⊥
unfolding IsSound
no_other locks other who n s h e =
    elim (two_ways locks.exclusive (set.contains locks.shared who) who h) [
      | inl x ↦ n (one_exclusive locks.exclusive other who x e)
      | inr x ↦ elim s [
        | inl none ↦ absurd (none_holds locks.exclusive other none e)
        | inr nobody ↦ let free = nobody who in absurd cc
      ]
    ]
  where
    none_holds : (o : Option ℕ) (other : ℕ) → o ≡ None → IsTrue (option_map_or (λ h. h == other) o false) → ⊥
    none_holds None other e h = cc
    none_holds (Some x) other e h = cc

kept_holding : (r : Region) (locks : Locks) (other who : ℕ) (what : What) → other ≢ who → IsPossible r locks other what → IsSound locks →
    holds locks who ≡ true → holds (locks_step locks other what) who ≡ true
kept_holding r locks other who (Store side word value mark) n p s h = h
kept_holding r locks other who (Grow size) n p s h = h
kept_holding r locks other who (Lock Shared) n p s h =
    elim (two_ways locks.exclusive (set.contains locks.shared who) who h) [
      | inl e ↦ by_exclusive _ _ who e
      | inr e ↦ by_shared _ _ (set.contains-insert nat_cmp_total locks.shared other who ∙ by_shared _ _ e)
    ]
kept_holding r locks other who (Lock Exclusive) n p s h =
    elim (two_ways locks.exclusive (set.contains locks.shared who) who h) [
      | inl e ↦ let free = p.1 in absurd cc
      | inr e ↦ let free = ap (λ m. set.contains m who) p.0 ∙ set.contains-empty nat_cmp who in absurd cc
    ]
kept_holding r locks other who Unlock n p s h = kept_without locks other who n h
kept_holding r locks other who (Died torn) n p s h = kept_without locks other who n h

kept_region : (r : Region) (locks : Locks) (other who : ℕ) (what : What) → other ≢ who → IsPossible r locks other what → IsSound locks →
    holds locks who ≡ true → (region_step r what ≡ r) × (change_of what ≡ [])
kept_region r locks other who (Store side word value mark) n p s h = absurd (no_other locks other who n s h p.0)
kept_region r locks other who (Grow size) n p s h = absurd (no_other locks other who n s h p.0)
kept_region r locks other who (Lock kind) n p s h = (refl, refl)
kept_region r locks other who Unlock n p s h = (refl, refl)
kept_region r locks other who (Died None) n p s h = (refl, refl)
kept_region r locks other who (Died (Some torn)) n p s h = absurd (no_other locks other who n s h p.0)

-- while an opener holds a lock, shared or exclusive, the others change nothing, and it holds it still
pub held : (start : Region) (later past : List Event) (who : ℕ) → Lawful start (later ++ past) → holds (locks_after past) who ≡ true →
    NoneOf who later →
    (region_after start (later ++ past) ≡ region_after start past) × (changes_of (later ++ past) ≡ changes_of past)
    × (holds (locks_after (later ++ past)) who ≡ true)
held start [] past who l h n = (refl, refl, h)
held start (e ∷ later) past who l h n =
    let before = held start later past who l.0 h n.1 in
    let sound = locks_sound start (later ++ past) l.0 in
    let same = kept_region (region_after start (later ++ past)) (locks_after (later ++ past)) e.who who e.what n.0 l.1.possible sound before.2 in (
      same.0 ∙ before.0,
      ap (λ c. changes_of (later ++ past) ++ c) same.1 ∙ append-nil _ ∙ before.1,
      kept_holding (region_after start (later ++ past)) (locks_after (later ++ past)) e.who who e.what n.0 l.1.possible sound before.2,
    )
