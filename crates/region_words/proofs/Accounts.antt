-- The accounts of a region in memory agree with what has happened, whatever comes.
use Rattle.std.proofs.Common.{◌≡◌, ◌≢◌, ℕ, zero, suc, ◌+◌, ◌-◌, ◌≤◌, ◌<◌, Bool, true, false, eqb, List, ◌∷◌, length, set, refl, sym, subst, ap, ◌∙◌, arith, inl, inr, ◌⊎◌, ◌&&◌, ◌||◌, not, get_or-set_other, get_or-set_same}
use Rattle.std.proofs.lemmas.List.{length-set}
use Rattle.std.proofs.lemmas.Bool.Decides.{eqb_tells, nat_tests}
use Rattle.std.specs.Prelude.{Option, Some, None, IsTrue, nat_lt, ◌==◌, if◌then◌else◌}
use Rattle.std.specs.Option.{option_map_or}
use Rattle.std.specs.Ordering.{nat_cmp}
use Rattle.std.specs.FinSet as set
use Rattle.lock_rules.specs.Locks.{Locks, holds, holds_exclusive, MayTake}
use Rattle.lock_rules.specs.declared.table.LockKind.{LockKind}
use Rattle.lock_rules.specs.declared.table.LockKind.TheVariants.{Shared, Exclusive}
use Rattle.region_words.specs.Region.{Region}
use Rattle.region_words.specs.Past.{region_after, locks_after, has_died, is_death}
use Rattle.region_words.specs.Lawful.{Lawful, IsPossible}
use Rattle.region_words.specs.Share.{lock_of, unlock_place, most_events, places_for}
use Rattle.region_words.specs.Local.{Local, IsLocal, IsAccount, IsKeptFor, HasRoomFor, HasPlace, LacksPlaces, account_of, no_account, account_after, kept_in, kept_after, reserved_in, lock_after, with_event, event_of, with_account, after_admission, after_reserve}
use Rattle.region_words.specs.Places.{LacksRoom}
use Rattle.region_words.specs.declared.account.Account.{Account}
use Rattle.region_words.specs.declared.places.AdmitStop.{AdmitStop}
use Rattle.region_words.specs.declared.places.AdmitStop.TheVariants.{JournalFull, Memory}
use Rattle.region_words.specs.declared.event.What.{What}
use Rattle.region_words.specs.declared.event.What.TheVariants.{Store, Grow, Lock, Unlock, Died}
use Rattle.region_words.specs.declared.event.Event.{Event}
use Rattle.region_words.proofs.Totals.{total_same, total_set}
use Rattle.region_words.proofs.LockOf.{exclusive_holds, holds_none, none_holds, is_exclusive, lock_other, lock_without, lock_with, died_other}

pub own_account : (accounts : List Account) (who : ℕ) (a : Account) → who < length accounts → account_of (set accounts who a) who ≡ a
own_account accounts who a inside = get_or-set_same accounts who a no_account inside

pub other_account : (accounts : List Account) (who w : ℕ) (a : Account) → w ≢ who → account_of (set accounts who a) w ≡ account_of accounts w
other_account accounts who w a apart = get_or-set_other accounts who w a no_account apart

-- what is said of each account after one was changed
pub each_set : (accounts : List Account) (who : ℕ) (a : Account) (P : ℕ → Account → Type 0) → who < length accounts →
    P who a → ((w : ℕ) → w ≢ who → P w (account_of accounts w)) → (w : ℕ) → P w (account_of (set accounts who a) w)
each_set accounts who a P inside own others w = go (eqb_tells w who)
  where
    go : ((eqb w who ≡ true) × (w ≡ who)) ⊎ ((eqb w who ≡ false) × (w ≢ who)) → P w (account_of (set accounts who a) w)
    go (inl same) = subst (λ v. P v (account_of (set accounts who a) v)) (sym same.1) (subst (P who) (sym (own_account accounts who a inside)) own)
    go (inr apart) = subst (P w) (sym (other_account accounts who w a apart.1)) (others w apart.1)

-- the places kept after one account was changed
pub kept_set : (accounts : List Account) (who : ℕ) (a : Account) → 1 ≤ who → who ≤ 64 → length accounts ≡ 65 →
    kept_in (set accounts who a) + (account_of accounts who).kept ≡ kept_in accounts + a.kept
kept_set accounts who a least most len =
    let own : (account_of (set accounts who a) who).kept ≡ a.kept = ap (λ (x : Account). x.kept) (own_account accounts who a (omega (arith, most, len))) in
    total_set (λ w. (account_of accounts w).kept) (λ w. (account_of (set accounts who a) w).kept) 64 who least most
    (λ w apart. ap (λ (x : Account). x.kept) (other_account accounts who w a apart))
    ∙ ap (λ n. kept_in accounts + n) own

pub above_none : (n : ℕ) → 0 < n → nat_lt 0 n ≡ true
above_none n p = grind (arith, nat_tests)

-- an event of another leaves an account alone
account_other : (past : List Event) (e : Event) (w : ℕ) (a : Account) → has_died (e ∷ past) w ≡ has_died past w → lock_after (e ∷ past) w ≡ lock_after past w →
    IsAccount past w a → IsAccount (e ∷ past) w a
account_other past e w a died lock is =
    record {
      lives = ap (λ d. a.admitted && not d) died ∙ is.lives;
      fresh = λ n. died ∙ is.fresh n;
      unlocks = λ p. subst (λ k. 1 + unlock_place k ≤ a.kept) (sym lock) (is.unlocks p);
      idle = λ p. lock ∙ is.idle p;
      unreserved = λ n.
          let before = is.unreserved (λ e. n (lock ∙ e)) in
          (subst (λ k. a.kept ≤ 1 + unlock_place k) (sym lock) before.0, before.1);
    }

-- an event that is no death leaves its maker alive or dead
pub not_dead : (past : List Event) (who : ℕ) (what : What) → is_death what ≡ false → has_died (event_of who what ∷ past) who ≡ has_died past who
not_dead past who what e = go (who == who) (is_death what) e
  where
    go : (b d : Bool) → d ≡ false → ((b && d) || has_died past who) ≡ has_died past who
    go true true e = absurd cc
    go true false e = refl
    go false d e = refl

pub now_dead : (past : List Event) (who : ℕ) (what : What) → is_death what ≡ true → has_died (event_of who what ∷ past) who ≡ true
now_dead past who what e = let same : (who == who) ≡ true = grind (arith, nat_tests) in rw (same, e) refl

-- who may take a lock holds none
pub free_holds_none : (locks : Locks) (who : ℕ) (kind : LockKind) → MayTake locks who kind → lock_of locks who ≡ None
free_holds_none locks who Shared may = none_holds locks who may.0
free_holds_none locks who Exclusive may =
    let x : holds_exclusive locks who ≡ false = ap (λ o. option_map_or (λ h. h == who) o false) may.1 in
    let s : set.contains locks.shared who ≡ false = ap (λ m. set.contains m who) may.0 ∙ set.contains-empty nat_cmp who in
    none_holds locks who (both x s)
  where
    both : {a b : Bool} → a ≡ false → b ≡ false → (a || b) ≡ false
    both p q = cc

pub has_more : (kept u : ℕ) → 0 < kept - (1 + u) → 1 + u < kept
has_more kept u p = omega (arith, p)

-- who has places was admitted
pub admitted_by : (past : List Event) (who : ℕ) (a : Account) → IsAccount past who a → 0 < a.kept → a.admitted ≡ false → ⊥
admitted_by past who a is p n =
    let none : nat_lt 0 a.kept ≡ false = sym is.lives ∙ ap (λ x. x && not (has_died past who)) n in
    let some = above_none a.kept p in
    cc

-- a holder has a place for its death and one for its unlock
pub held_places : (past : List Event) (who : ℕ) (a : Account) → IsAccount past who a → IsTrue (holds (locks_after past) who) → 2 ≤ a.kept
held_places past who a is h =
    go a.kept refl (lock_after past who) refl
  where
    go : (n : ℕ) → a.kept ≡ n → (k : Option LockKind) → lock_after past who ≡ k → 2 ≤ a.kept
    go zero e k f = let free = holds_none (locks_after past) who (is.idle e) in absurd cc
    go (suc n) e None f = let free = holds_none (locks_after past) who f in absurd cc
    go (suc n) e (Some kind) f = let u = subst (λ k. 1 + unlock_place k ≤ a.kept) f (is.unlocks (omega (arith, e))) in omega (arith, u)

module _ (r : Region) (past : List Event) (who : ℕ) (a : Account) (is : IsAccount past who a) where
  -- a store or a growth takes one of the places that are reserved
  spent : (what : What) → is_death what ≡ false → lock_after (event_of who what ∷ past) who ≡ lock_after past who → lock_after past who ≡ Some Exclusive →
      0 < a.kept - (1 + unlock_place (lock_after past who)) → IsAccount (event_of who what ∷ past) who (record a { kept = a.kept - 1 })
  spent what quiet lock exclusive place =
      let more = has_more a.kept (unlock_place (lock_after past who)) place in
      record {
        lives = ap (λ d. a.admitted && not d) (not_dead past who what quiet) ∙ is.lives ∙ above_none a.kept (omega (arith, more)) ∙ sym (above_none (a.kept - 1) (omega (arith, more)));
        fresh = λ n. absurd (admitted_by past who a is (omega (arith, more)) n);
        unlocks = λ p. subst (λ k. 1 + unlock_place k ≤ a.kept - 1) (sym lock) (omega (arith, more));
        idle = λ p. absurd (omega (arith, p, more));
        unreserved = λ n. absurd (n (lock ∙ exclusive));
      }

  -- what its own event leaves of an account
  pub account_own : (what : What) → IsPossible r (locks_after past) who what → IsKeptFor a (lock_after past who) what → IsAccount (event_of who what ∷ past) who (account_after what a)
  account_own (Store side word value mark) possible place =
      spent (Store side word value mark) refl refl (is_exclusive (locks_after past) who possible.0) place
  account_own (Grow size) possible place = spent (Grow size) refl refl (is_exclusive (locks_after past) who possible.0) place
  account_own (Lock kind) possible place =
      let before : lock_after past who ≡ None = free_holds_none (locks_after past) who kind possible in
      let now : lock_after (event_of who (Lock kind) ∷ past) who ≡ Some kind = lock_with (locks_after past) who kind possible in
      let free = is.unreserved (λ e. absurd (some_none (sym before ∙ e))) in
      let least = subst (λ k. a.kept ≤ 1 + unlock_place k) before free.0 in
      record {
        lives = ap (λ d. a.admitted && not d) (not_dead past who (Lock kind) refl) ∙ is.lives ∙ above_none a.kept place ∙ sym (above_none (a.kept + 1) (omega (arith, place)));
        fresh = λ n. absurd (admitted_by past who a is place n);
        unlocks = λ p. subst (λ k. 1 + unlock_place k ≤ a.kept + 1) (sym now) (omega (arith, place));
        idle = λ p. absurd (omega (arith, p));
        unreserved = λ n. (subst (λ k. a.kept + 1 ≤ 1 + unlock_place k) (sym now) (omega (arith, least)), free.1);
      }
    where
      some_none : None ≡ Some Exclusive → ⊥
      some_none e = cc
  account_own Unlock possible place =
      let now : lock_after (event_of who Unlock ∷ past) who ≡ None = lock_without (locks_after past) who in
      let held : 0 < a.kept = omega (arith, held_places past who a is possible) in
      record {
        lives = ap (λ d. a.admitted && not d) (not_dead past who Unlock refl) ∙ is.lives ∙ above_none a.kept held;
        fresh = λ n. absurd (admitted_by past who a is held n);
        unlocks = λ p. subst (λ k. 1 + unlock_place k ≤ 1) (sym now) (omega arith);
        idle = λ p. absurd cc;
        unreserved = λ n. (subst (λ k. 1 ≤ 1 + unlock_place k) (sym now) (omega arith), refl);
      }
  account_own (Died torn) possible place =
      let now : lock_after (event_of who (Died torn) ∷ past) who ≡ None = lock_without (locks_after past) who in
      record {
        lives = ap (λ d. a.admitted && not d) (now_dead past who (Died torn) refl) ∙ none a.admitted;
        fresh = λ n. absurd (admitted_by past who a is place n);
        unlocks = λ p. absurd (omega (arith, p));
        idle = λ p. now;
        unreserved = λ n. (omega arith, refl);
      }
    where
      none : (b : Bool) → (b && false) ≡ false
      none true = refl
      none false = refl

-- a region in memory after one more event
module _ (l : Local) (is : IsLocal l) (who : ℕ) (what : What) (least : 1 ≤ who) (most : who ≤ 64) where
  inside : who < length l.accounts
  inside = omega (arith, most, is.accounts)

  abbrev own : Account
  own = account_of l.accounts who

  -- the places that an event takes are no more than it leaves free
  taken : IsKeptFor own (lock_after l.past who) what → IsPossible (region_after l.start l.past) (locks_after l.past) who what → HasRoomFor l what →
      length l.past + 1 + kept_in (set l.accounts who (account_after what own)) ≤ most_events
  taken kept possible room = go what (kept_set l.accounts who (account_after what own) least most is.accounts) kept possible room
    where
      go : (x : What) → kept_in (set l.accounts who (account_after x own)) + own.kept ≡ kept_in l.accounts + (account_after x own).kept →
          IsKeptFor own (lock_after l.past who) x → IsPossible (region_after l.start l.past) (locks_after l.past) who x → HasRoomFor l x →
          length l.past + 1 + kept_in (set l.accounts who (account_after x own)) ≤ most_events
      go (Store side word value mark) sum kept possible room = omega (arith, sum, is.few, has_more own.kept (unlock_place (lock_after l.past who)) kept)
      go (Grow size) sum kept possible room = omega (arith, sum, is.few, has_more own.kept (unlock_place (lock_after l.past who)) kept)
      go (Lock kind) sum kept possible room = omega (arith, sum, room)
      go Unlock sum kept possible room = omega (arith, sum, is.few, held_places l.past who own (is.each who) possible)
      go (Died torn) sum kept possible room = omega (arith, sum, is.few, kept)

  pub local_event : Lawful l.start (event_of who what ∷ l.past) → HasPlace l who what → IsLocal (with_event l who what)
  local_event lawful place =
      let e = event_of who what in
      let possible = lawful.1.possible in
      let r = region_after l.start l.past in
      record {
        region = is.region;
        lawful = lawful;
        accounts = length-set l.accounts who (account_after what own) ∙ is.accounts;
        each = each_set l.accounts who (account_after what own) (λ w a. IsAccount (e ∷ l.past) w a) inside
            (account_own r l.past who own (is.each who) what possible place.kept)
            (λ w apart. account_other l.past e w (account_of l.accounts w) (died_other e l.past w apart) (lock_other r (locks_after l.past) who w what apart possible) (is.each w));
        few = omega (arith, taken place.kept possible place.room);
      }

-- after an account was changed in what events don't decide
pub local_account : (l : Local) → IsLocal l → (who : ℕ) (a : Account) → 1 ≤ who → who ≤ 64 → IsAccount l.past who a →
    length l.past + kept_in l.accounts + a.kept ≤ most_events + (account_of l.accounts who).kept → IsLocal (with_account l who a)
local_account l is who a least most good few =
    record {
      region = is.region;
      lawful = is.lawful;
      accounts = length-set l.accounts who a ∙ is.accounts;
      each = each_set l.accounts who a (λ w x. IsAccount l.past w x) (omega (arith, most, is.accounts)) good (λ w apart. is.each w);
      few = omega (arith, few, kept_set l.accounts who a least most is.accounts);
    }

-- a count moves nothing that an account must keep
pub counted : (past : List Event) (who : ℕ) (a b : Account) → IsAccount past who a → b.admitted ≡ a.admitted → b.kept ≡ a.kept → b.room ≡ a.room → IsAccount past who b
counted past who a b is admitted kept room =
    record {
      lives = ap (λ x. x && not (has_died past who)) admitted ∙ is.lives ∙ ap (nat_lt 0) (sym kept);
      fresh = λ n. is.fresh (sym admitted ∙ n);
      unlocks = λ p. subst (λ n. 1 + unlock_place (lock_after past who) ≤ n) (sym kept) (is.unlocks (omega (arith, p, kept)));
      idle = λ p. is.idle (sym kept ∙ p);
      unreserved = λ n. let free = is.unreserved n in (omega (arith, free.0, kept), room ∙ free.1);
    }

-- an opener that is admitted
pub admitted_account : (past : List Event) (who : ℕ) (a : Account) → IsAccount past who a → a.admitted ≡ false →
    (a.kept ≡ 0) × IsAccount past who (after_admission a)
admitted_account past who a is new =
    let none : nat_lt 0 a.kept ≡ false = sym is.lives ∙ ap (λ x. x && not (has_died past who)) new in
    let zero_kept : a.kept ≡ 0 = grind (arith, nat_tests) in
    let lock : lock_after past who ≡ None = is.idle zero_kept in
    let free = is.unreserved (λ e. clash (sym lock ∙ e)) in (
      zero_kept,
      record {
        lives = ap not (is.fresh new);
        fresh = λ n. absurd cc;
        unlocks = λ p. subst (λ k. 1 + unlock_place k ≤ 1) (sym lock) (omega arith);
        idle = λ p. absurd cc;
        unreserved = λ n. (subst (λ k. 1 ≤ 1 + unlock_place k) (sym lock) (omega arith), free.1);
      },
    )
  where
    clash : None ≡ Some Exclusive → ⊥
    clash e = cc

-- more is reserved for the holder
pub reserved_account : (past : List Event) (who : ℕ) (a : Account) (events size : ℕ) → IsAccount past who a → lock_after past who ≡ Some Exclusive →
    (0 < a.kept) × IsAccount past who (after_reserve events size a)
reserved_account past who a events size is exclusive =
    let some = held_places past who a is (exclusive_holds (locks_after past) who exclusive) in
    let living : 0 < a.kept = omega (arith, some) in (
      living,
      record {
        lives = is.lives ∙ above_none a.kept living ∙ sym (above_none (a.kept + events) (omega (arith, living)));
        fresh = λ n. is.fresh n;
        unlocks = λ p. let u = is.unlocks living in omega (arith, u);
        idle = λ p. absurd (omega (arith, p, living));
        unreserved = λ n. absurd (n exclusive);
      },
    )

-- the places of an account are those for its opener
places_are : (past : List Event) (who : ℕ) (a : Account) → IsAccount past who a →
    (if a.admitted && not (has_died past who) then 1 + unlock_place (lock_after past who) + (a.kept - (1 + unlock_place (lock_after past who))) else 0) ≡ a.kept
places_are past who a is = go (a.admitted && not (has_died past who)) is.lives
  where
    go : (b : Bool) → b ≡ nat_lt 0 a.kept →
        (if b then 1 + unlock_place (lock_after past who) + (a.kept - (1 + unlock_place (lock_after past who))) else 0) ≡ a.kept
    go true e = let some : 0 < a.kept = grind (arith, nat_tests) in let more = is.unlocks some in omega (arith, more)
    go false e = grind (arith, nat_tests)

-- the places in the accounts are those that are kept for the openers
kept_is : (l : Local) → IsLocal l → kept_in l.accounts ≡ kept_after l
kept_is l is =
    sym (total_same (λ w. (account_of l.accounts w).kept) (places_for (λ w. (account_of l.accounts w).admitted) (reserved_in l) l.past) 64 (λ w lo hi. places_are l.past w (account_of l.accounts w) (is.each w)))

-- the journal has room for them
pub kept_few : (l : Local) → IsLocal l → length l.past + kept_after l ≤ most_events
kept_few l is = omega (arith, is.few, kept_is l is)

-- and where it hasn't for so many more, that is why
pub lacks_places : (l : Local) → IsLocal l → (asked n : ℕ) (stop : AdmitStop) → LacksRoom n stop → n ≡ length l.past + kept_in l.accounts + asked → LacksPlaces l asked stop
lacks_places l is asked n JournalFull lacks sum = omega (arith, sum, lacks, kept_is l is)
lacks_places l is asked n Memory lacks sum = tt
