-- The fields of a region in memory keep what they say, whatever is done.
use Rattle.std.proofs.Common.{◌≡◌, ℕ, ◌+◌, ◌≤◌, ◌<◌, List, [], ◌∷◌, length, set, sym, ap, ◌∙◌, arith, length-append}
use Rattle.lock_rules.specs.Locks.{Locks}
use Rattle.region_words.specs.Region.{Region}
use Rattle.region_words.specs.Past.{region_after, region_step, changes_of, change_of, locks_after, locks_step}
use Rattle.region_words.specs.Lawful.{Lawful, IsPossible}
use Rattle.region_words.specs.Share.{most_events, unlock_place}
use Rattle.region_words.specs.Local.{Local, IsAccount, Keeps, HasPlace, TakesPlace, HasRoomToGrow, account_of, account_after, kept_in, lock_after, with_event, event_of, with_account}
use Rattle.region_words.specs.Opening.{LiesIn, HasBytes, IsNoLock}
use Rattle.region_words.specs.declared.account.Account.{Account}
use Rattle.region_words.specs.declared.event.Side.TheVariants.{Data, Meta}
use Rattle.region_words.specs.declared.event.Mark.TheVariants.{Plain, Commit}
use Rattle.region_words.specs.declared.event.What.{What}
use Rattle.region_words.specs.declared.event.What.TheVariants.{Store, Grow, Lock, Unlock, Died}
use Rattle.std.specs.Prelude.{Some, None}
use Rattle.region_words.specs.declared.event.Event.{Event}
use Rattle.region_words.proofs.Totals.{total_holds}
use Rattle.region_words.proofs.Accounts.{each_set, kept_set, local_account, local_event, held_places, has_more, counted}

-- an opener's places are among all
pub own_places : (accounts : List Account) (who : ℕ) → 1 ≤ who → who ≤ 64 → (account_of accounts who).kept ≤ kept_in accounts
own_places accounts who least most = total_holds (λ w. (account_of accounts w).kept) 64 who least most

few_changes : (what : What) → length (change_of what) ≤ 1
few_changes (Store side word value Plain) = omega arith
few_changes (Store side word value (Commit change)) = omega arith
few_changes (Grow size) = omega arith
few_changes (Lock kind) = omega arith
few_changes Unlock = omega arith
few_changes (Died torn) = omega arith

-- there are no more changes than events
pub changes_few : (past : List Event) → length (changes_of past) ≤ length past
changes_few [] = omega arith
changes_few (e ∷ past) = omega (arith, changes_few past, few_changes e.what, length-append (changes_of past) (change_of e.what))

module _ (l : Local) (body meta : List ℕ) (locks : Locks) (kept changes places room : ℕ) (k : Keeps l body meta locks kept changes places room)
    (who : ℕ) (least : 1 ≤ who) (most : who ≤ 64) where
  abbrev own : Account
  own = account_of l.accounts who

  rooms : (a : Account) (room2 : ℕ) → a.room ≤ room2 → room ≤ room2 → (w : ℕ) → (account_of (set l.accounts who a) w).room ≤ room2
  rooms a room2 here more = each_set l.accounts who a (λ w (x : Account). x.room ≤ room2) (omega (arith, most, k.good.accounts)) here (λ w apart. let r = k.room_for_each w in omega (arith, r, more))

  -- an account was changed
  pub keeps_account : (a : Account) (kept2 places2 room2 : ℕ) → IsAccount l.past who a → kept2 + own.kept ≡ kept + a.kept →
      length l.past + kept2 ≤ most_events → length l.past + kept2 ≤ places2 → a.room ≤ room2 → room ≤ room2 →
      Keeps (with_account l who a) body meta locks kept2 changes places2 room2
  keeps_account a kept2 places2 room2 good sum few fit here more =
      let all = kept_set l.accounts who a least most k.good.accounts in
      record {
        good = local_account l k.good who a least most good (omega (arith, sum, few, k.kept_is));
        data_is = k.data_is;
        meta_is = k.meta_is;
        locks_are = k.locks_are;
        kept_is = omega (arith, sum, all, k.kept_is);
        changes_are = k.changes_are;
        places_for_all = fit;
        room_for_each = rooms a room2 here more;
      }

  -- a count of an opener's went up
  pub keeps_count : (a : Account) → a.admitted ≡ own.admitted → a.kept ≡ own.kept → a.room ≡ own.room → Keeps (with_account l who a) body meta locks kept changes places room
  keeps_count a admitted same wide =
      keeps_account a kept places room (counted l.past who own a (k.good.each who) admitted same wide) (omega (arith, same)) (omega (arith, k.good.few, k.kept_is)) k.places_for_all
      (let r = k.room_for_each who in omega (arith, r, wide)) (omega arith)

  -- an event came
  pub keeps_event : (what : What) → Lawful l.start (event_of who what ∷ l.past) → HasPlace l who what → (body2 meta2 : List ℕ) (locks2 : Locks) (kept2 changes2 places2 room2 : ℕ) →
      body2 ≡ (region_step (record { data_bytes = body; meta_bytes = meta }) what).data_bytes →
      meta2 ≡ (region_step (record { data_bytes = body; meta_bytes = meta }) what).meta_bytes →
      locks2 ≡ locks_step locks who what → kept2 + own.kept ≡ kept + (account_after what own).kept → changes2 ≡ changes + length (change_of what) →
      length l.past + 1 + kept2 ≤ places2 → (account_after what own).room ≤ room2 → room ≤ room2 →
      Keeps (with_event l who what) body2 meta2 locks2 kept2 changes2 places2 room2
  keeps_event what lawful place body2 meta2 locks2 kept2 changes2 places2 room2 data_is meta_is locks_are sum changes_are fit here more =
      let same : record { data_bytes = body; meta_bytes = meta } ≡ region_after l.start l.past = λ i. record { data_bytes = k.data_is i; meta_bytes = k.meta_is i } in
      let all = kept_set l.accounts who (account_after what own) least most k.good.accounts in
      record {
        good = local_event l k.good who what least most lawful place;
        data_is = data_is ∙ ap (λ (r : Region). (region_step r what).data_bytes) same;
        meta_is = meta_is ∙ ap (λ (r : Region). (region_step r what).meta_bytes) same;
        locks_are = locks_are ∙ ap (λ x. locks_step x who what) k.locks_are;
        kept_is = omega (arith, sum, all, k.kept_is);
        changes_are = changes_are ∙ ap (λ n. n + length (change_of what)) k.changes_are ∙ sym (length-append (changes_of l.past) (change_of what));
        places_for_all = omega (arith, fit);
        room_for_each = rooms (account_after what own) room2 here more;
      }

  -- what an event that takes a kept place leaves to its opener
  pub takes : (what : What) → TakesPlace l who what → IsPossible (region_after l.start l.past) (locks_after l.past) who what →
      (0 < own.kept) × ((account_after what own).kept + 1 ≤ own.kept) × ((account_after what own).room ≤ own.room) × HasPlace l who what × IsNoLock what
  takes (Store side word value mark) place possible =
      let more = has_more own.kept (unlock_place (lock_after l.past who)) place in
      (omega (arith, more), omega (arith, more), omega arith, record { kept = place; room = tt }, tt)
  takes (Grow size) place possible =
      let more = has_more own.kept (unlock_place (lock_after l.past who)) place in
      (omega (arith, more), omega (arith, more), omega arith, record { kept = place; room = tt }, tt)
  takes (Lock kind) place possible = absurd place
  takes Unlock place possible =
      let two = held_places l.past who own (k.good.each who) possible in
      (omega (arith, two), omega (arith, two), omega arith, record { kept = tt; room = tt }, tt)
  takes (Died torn) place possible = (place, omega (arith, place), omega arith, record { kept = place; room = tt }, tt)

  -- the words that a lawful event changes lie in the files, and a growth has memory
  pub lies_in : (what : What) → IsPossible (region_after l.start l.past) (locks_after l.past) who what → LiesIn body meta what
  lies_in (Store Data word value mark) possible = omega (arith, possible.1, ap length k.data_is)
  lies_in (Store Meta word value mark) possible = omega (arith, possible.1, ap length k.meta_is)
  lies_in (Grow size) possible = omega (arith, possible.1, ap length k.data_is)
  lies_in (Lock kind) possible = tt
  lies_in Unlock possible = tt
  lies_in (Died None) possible = tt
  lies_in (Died (Some torn)) possible = omega (arith, possible.1.1, ap length k.data_is)

  pub has_bytes : (what : What) → HasRoomToGrow l who what → HasBytes room what
  has_bytes (Store side word value mark) h = tt
  has_bytes (Grow size) h = let r = k.room_for_each who in omega (arith, h, r)
  has_bytes (Lock kind) h = tt
  has_bytes Unlock h = tt
  has_bytes (Died torn) h = tt

-- the same facts, where memory grew
pub keeps_wider : (l : Local) (body meta : List ℕ) (locks locks2 : Locks) (kept changes places places2 room room2 : ℕ) → Keeps l body meta locks kept changes places room →
    locks2 ≡ locks → places ≤ places2 → room ≤ room2 → Keeps l body meta locks2 kept changes places2 room2
keeps_wider l body meta locks locks2 kept changes places places2 room room2 k same more wide =
    record {
      good = k.good;
      data_is = k.data_is;
      meta_is = k.meta_is;
      locks_are = same ∙ k.locks_are;
      kept_is = k.kept_is;
      changes_are = k.changes_are;
      places_for_all = let p = k.places_for_all in omega (arith, p, more);
      room_for_each = λ w. let r = k.room_for_each w in omega (arith, r, wide);
    }
