-- A region that was taken is where the pass left it, but for events of others: what the pass might do it may still do.
use Rattle.std.proofs.Common.{◌≡◌, ◌≢◌, ℕ, ◌-◌, ◌≤◌, Bool, true, false, List, [], ◌∷◌, ◌++◌, length, replicate, refl, sym, ◌∙◌, ap, subst, inl, inr, arith, length-append, ◌||◌, not, eq-eqb}
use Rattle.std.specs.Prelude.{Option, Some, None, ◌==◌, if◌then◌else◌}
use Rattle.std.specs.FinSet as set
use Rattle.atomic_table.specs.Seated.{TableId}
use Rattle.lock_rules.specs.Locks.{Locks, IsSound, holds_exclusive}
use Rattle.lock_rules.specs.declared.table.LockKind.{LockKind}
use Rattle.lock_rules.specs.declared.table.LockKind.TheVariants.{Shared, Exclusive}
use Rattle.meta_record.proofs.WordLemmas.{length-with_word}
use Rattle.region_words.specs.Region.{Region}
use Rattle.region_words.specs.Past.{region_after, region_step, locks_after, has_died, NoneOf}
use Rattle.region_words.specs.Lawful.{Lawful, IsPossible, IsWordOf}
use Rattle.region_words.specs.Coming.{IsStoring}
use Rattle.region_words.specs.Share.{lock_of, torn_word, MayTearAt, HasWord}
use Rattle.region_words.specs.Local.{Seated, seat_state, lock_after, reserved_in, event_of}
use Rattle.region_words.specs.declared.event.Side.{Side}
use Rattle.region_words.specs.declared.event.Side.TheVariants.{Data, Meta}
use Rattle.region_words.specs.declared.event.What.{What}
use Rattle.region_words.specs.declared.event.What.TheVariants.{Store, Grow, Lock, Unlock, Died}
use Rattle.region_words.specs.declared.event.Event.{Event}
use Rattle.region_words.specs.declared.stops.TornStore.{TornStore}
use Rattle.region_words.proofs.Held.{held, locks_sound}
use Rattle.region_words.proofs.Rest.{at_rest}
use Rattle.region_words.proofs.LockOf.{exclusive_holds, holds_some}
use Rattle.region_words.proofs.Later.{lock_others, died_others, store_later, death_later, unlock_later, may_unlock}
use Rattle.step_desk.specs.declared.counts.CallCounts.{CallCounts}
use Rattle.step_desk.specs.declared.view.View.{View}
use Rattle.step_desk.specs.Rule.{room_in, is_admitted, Continues}
use Rattle.step_desk.specs.Steps.{M}
use Rattle.step_desk.specs.Passes.{IsKnown, IsTaken, share_of}

-- a region, in a seat, that goes on from what the pass has seen
pub record From (v : View) (a : Seated) : Type 0 where
  pub who : a.who ≡ v.who
  pub continues : Continues v.about a.region
  pub later : List Event
  pub past : a.region.past ≡ later ++ v.seen
  pub others : NoneOf v.who later
  pub places : reserved_in a.region v.who ≡ v.places
  pub room : room_in a.region v.who ≡ v.room

pub from_taken : (me mid : M) (v : View) (a : Seated) → me.0 ≡ v → IsTaken me a mid → From v a
from_taken me mid v a is t = subst (λ u. From u a) is (record {
  who = t.who;
  continues = t.took.continues;
  later = t.took.later;
  past = t.took.past;
  others = t.took.others;
  places = t.took.places;
  room = t.took.room;
})

-- no event makes a file shorter
step_longer : (r : Region) (locks : Locks) (who : ℕ) (what : What) → IsPossible r locks who what →
    (length r.data_bytes ≤ length (region_step r what).data_bytes) × (length r.meta_bytes ≤ length (region_step r what).meta_bytes)
step_longer r locks who (Store Data word value mark) p = (omega (arith, length-with_word r.data_bytes word value p.1), omega arith)
step_longer r locks who (Store Meta word value mark) p = (omega arith, omega (arith, length-with_word r.meta_bytes word value p.1))
step_longer r locks who (Grow size) p = (omega (arith, length-append r.data_bytes (replicate (size - length r.data_bytes) 0)), omega arith)
step_longer r locks who (Lock kind) p = (omega arith, omega arith)
step_longer r locks who Unlock p = (omega arith, omega arith)
step_longer r locks who (Died None) p = (omega arith, omega arith)
step_longer r locks who (Died (Some torn)) p = (omega (arith, length-with_word r.data_bytes torn.word torn.value p.1.1), omega arith)

files_longer : (start : Region) (later past : List Event) → Lawful start (later ++ past) →
    (length (region_after start past).data_bytes ≤ length (region_after start (later ++ past)).data_bytes) × (length (region_after start past).meta_bytes ≤ length (region_after start (later ++ past)).meta_bytes)
files_longer start [] past l = (omega arith, omega arith)
files_longer start (e ∷ later) past l =
    let before = files_longer start later past l.0 in
    let step = step_longer (region_after start (later ++ past)) (locks_after (later ++ past)) e.who e.what l.1.possible in
    (omega (arith, before.0, step.0), omega (arith, before.1, step.1))

word_later : (start : Region) (later past : List Event) (side : Side) (word : ℕ) → Lawful start (later ++ past) → IsWordOf (region_after start past) side word → IsWordOf (region_after start (later ++ past)) side word
word_later start later past Data word l w = omega (arith, w, (files_longer start later past l).0)
word_later start later past Meta word l w = omega (arith, w, (files_longer start later past l).1)

-- while a lock is held as shared, nobody holds exclusive
no_exclusive : (locks : Locks) (who : ℕ) → IsSound locks → lock_of locks who ≡ Some Shared → locks.exclusive ≡ None
unfolding IsSound
no_exclusive locks who (inl none) mine = none
no_exclusive locks who (inr nobody) mine = absurd (go (holds_exclusive locks who) (set.contains locks.shared who) (nobody who) refl mine)
  where
    go : (x s : Bool) → s ≡ false → holds_exclusive locks who ≡ x → (if x then Some Exclusive else (if s then Some Shared else None)) ≡ Some Shared → ⊥
    go true s none is e = cc
    go false true none is e = cc
    go false false none is e = cc

unlock_shared : (start : Region) (later past : List Event) (who : ℕ) → Lawful start (event_of who Unlock ∷ past) → Lawful start (later ++ past) → NoneOf who later →
    lock_after past who ≡ Some Shared → Lawful start (event_of who Unlock ∷ later ++ past)
unlock_shared start later past who l now n mine =
    let still : lock_after (later ++ past) who ≡ Some Shared = lock_others start later past who now n ∙ mine in
    let free = no_exclusive (locks_after (later ++ past)) who (locks_sound start (later ++ past) now) still in
    may_unlock start (later ++ past) who now l.1.maker (died_others later past who n ∙ l.1.alive) (holds_some (locks_after (later ++ past)) who (λ none. some_none (sym still ∙ none)))
    (λ p leads. (None, at_rest start (later ++ past) p now leads free))
  where
    some_none : Some Shared ≡ None → ⊥
    some_none e = cc

-- a number is itself
pub own_if : {A : Type 0} (n : ℕ) (x y : A) → (if n == n then x else y) ≡ x
own_if n x y = ap (λ b. if b then x else y) (eq-eqb n n refl)

module _ (v : View) (a : Seated) (k : IsKnown v) (f : From v a) where
  pub lawful_now : Lawful v.about.start (f.later ++ v.seen)
  lawful_now = subst (Lawful v.about.start) f.past f.continues.lawful

  pub lock_is : lock_after a.region.past a.who ≡ lock_after v.seen v.who
  lock_is = (λ i. lock_after (f.past i) (f.who i)) ∙ lock_others v.about.start f.later v.seen v.who lawful_now f.others

  pub ended_is : (seat_state a).ended ≡ (not (is_admitted v.about v.who) || has_died v.seen v.who)
  ended_is =
      ap (λ b. not b || has_died a.region.past a.who) (f.continues.admitted a.who) ∙ (λ i. not (is_admitted v.about (f.who i)) || has_died (f.past i) (f.who i))
      ∙ ap (λ d. not (is_admitted v.about v.who) || d) (died_others f.later v.seen v.who f.others)

  pub places_are : reserved_in a.region a.who ≡ (if v.who == v.who then v.places else 0)
  places_are = ap (reserved_in a.region) f.who ∙ f.places ∙ sym (own_if v.who v.places 0)

  pub room_is : room_in a.region a.who ≡ (if v.who == v.who then v.room else 0)
  room_is = ap (room_in a.region) f.who ∙ f.room ∙ sym (own_if v.who v.room 0)

  -- what is lawful for the pass after what it has seen and events of others
  to_region : (what : What) → Lawful v.about.start (event_of v.who what ∷ (f.later ++ v.seen)) → Lawful a.region.start (event_of a.who what ∷ a.region.past)
  to_region what l = subst (λ (t : ℕ × Region × List Event). Lawful t.1 (event_of t.0 what ∷ t.2)) (λ i. (sym f.who i, sym f.continues.start i, sym f.past i)) l

  pub may_store : (what : What) → IsStoring what → lock_after v.seen v.who ≡ Some Exclusive → Lawful v.about.start (event_of v.who what ∷ v.seen) → Lawful a.region.start (event_of a.who what ∷ a.region.past)
  may_store what is mine l = to_region what (store_later v.about.start f.later v.seen v.who what is l lawful_now f.others mine)

  pub may_give_up : lock_after v.seen v.who ≢ None → Lawful v.about.start (event_of v.who Unlock ∷ v.seen) → Lawful a.region.start (event_of a.who Unlock ∷ a.region.past)
  may_give_up some l = to_region Unlock (go (lock_after v.seen v.who) refl)
    where
      go : (o : Option LockKind) → lock_after v.seen v.who ≡ o → Lawful v.about.start (event_of v.who Unlock ∷ (f.later ++ v.seen))
      go None is = absurd (some is)
      go (Some Shared) is = unlock_shared v.about.start f.later v.seen v.who l lawful_now f.others is
      go (Some Exclusive) is = unlock_later v.about.start f.later v.seen v.who l lawful_now f.others is

  -- while the pass's opener holds exclusive, the others change nothing
  pub region_same : lock_after v.seen v.who ≡ Some Exclusive → region_after a.region.start a.region.past ≡ region_after v.about.start v.seen
  region_same mine = (λ i. region_after (f.continues.start i) (f.past i)) ∙ (held v.about.start f.later v.seen v.who lawful_now (exclusive_holds (locks_after v.seen) v.who mine) f.others).0

  pub may_tear : (table : TableId) (counts : CallCounts) (torn : Option TornStore) → MayTearAt torn (share_of table v counts) → MayTearAt torn (seat_state a)
  may_tear table counts None may = tt
  may_tear table counts (Some t) may = (
    lock_is ∙ may.0,
    subst (λ r. Lawful a.region.start (event_of a.who (Died (torn_word r (Some t))) ∷ a.region.past)) (sym (region_same may.0))
        (to_region (Died (torn_word (region_after v.about.start v.seen) (Some t))) (death_later v.about.start f.later v.seen v.who (torn_word (region_after v.about.start v.seen) (Some t)) may.1 lawful_now f.others may.0)),
  )

  pub has_word : (table : TableId) (counts : CallCounts) (side : Side) (word : ℕ) → HasWord side word (share_of table v counts) → HasWord side word (seat_state a)
  has_word table counts side word w = subst (λ (t : Region × List Event). IsWordOf (region_after t.0 t.1) side word) (λ i. (sym f.continues.start i, sym f.past i)) (word_later v.about.start f.later v.seen side word lawful_now w)
