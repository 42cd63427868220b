-- What the calls of a seat are for a share: from the region in memory before and after to the words of the trait.
use Rattle.std.proofs.Common.{◌≡◌, ◌≢◌, ℕ, ◌+◌, ◌-◌, ◌≤◌, ◌<◌, Bool, true, false, eqb, List, [], ◌∷◌, ◌++◌, length, set, refl, sym, subst, ap, ◌∙◌, arith, inl, inr, ◌⊎◌, ◌&&◌, ◌||◌, not}
use Rattle.std.proofs.lemmas.Bool.Decides.{eqb_tells, nat_tests}
use Rattle.std.specs.Prelude.{Option, Some, None, nat_lt, Contains}
use base.Stored.{coded_list, coded_ℕ}
use Rattle.lock_rules.specs.Locks.{MayTake}
use Rattle.lock_rules.specs.declared.limits.TheConstants.{MOST_OPENERS}
use Rattle.lock_rules.specs.declared.table.LockKind.{LockKind}
use Rattle.lock_rules.specs.declared.table.LockKind.TheVariants.{Exclusive}
use Rattle.region_words.specs.Past.{region_after, locks_after, has_died, is_death}
use Rattle.region_words.specs.Lawful.{Lawful, IsWordOf}
use Rattle.region_words.specs.Outside.{one_more}
use Rattle.region_words.specs.Share.{ShareState, IsSound, IsSameShare, Counts, most_events, After, Left, unlock_place, made_by, stored, locked, unlocked_by, died, failed, loaded, refused, reserving, unmoved, MayTearAt, torn_word, IsNotDue, StopsReserving, StopsTrying}
use Rattle.region_words.specs.Local.{Local, Seated, IsLocal, HasPlace, seat_state, account_of, account_after, kept_in, lock_after, reserved_in, with_event, event_of, with_account, called, after_load, after_refusal, after_fault, after_reserve, LacksPlaces, stop_of}
use Rattle.region_words.specs.declared.account.Account.{Account}
use Rattle.region_words.specs.declared.event.TornWord.{TornWord}
use Rattle.region_words.specs.declared.stops.TornStore.{TornStore}
use Rattle.region_words.specs.declared.places.AdmitStop.{AdmitStop}
use Rattle.region_words.specs.declared.places.AdmitStop.TheVariants.{JournalFull, Memory}
use Rattle.region_words.specs.declared.event.Side.{Side}
use Rattle.region_words.specs.declared.event.Side.TheVariants.{Meta}
use Rattle.region_words.specs.declared.event.Mark.{Mark}
use Rattle.region_words.specs.declared.event.What.{What}
use Rattle.region_words.specs.declared.event.What.TheVariants.{Store, Grow, Lock, Unlock, Died}
use Rattle.region_words.proofs.Beside.{beside_same}
use Rattle.region_words.proofs.LockOf.{exclusive_holds, lock_other, lock_without, lock_with}
use Rattle.region_words.proofs.Accounts.{kept_few, own_account, other_account, local_account, local_event, held_places, not_dead, now_dead, free_holds_none, counted, reserved_account}
use Rattle.region_words.proofs.Permits.{may_die}
use Rattle.region_words.proofs.Regions.{lawful_region}

-- a seat says of itself what its journal says
pub seat_sound : (s : Seated) → (1 ≤ s.who) × (s.who ≤ 64) → IsLocal s.region → IsSound (seat_state s)
seat_sound s maker is =
    let l = s.region in
    record {
      maker = maker;
      unreserved = λ n. let free = (is.each s.who).unreserved n in (none (account_of l.accounts s.who).kept (unlock_place (lock_after l.past s.who)) free.0, free.1);
      told = record {
        region = is.region;
        lawful = is.lawful;
        holds = refl;
        ended = refl;
        few = λ _. kept_few l is;
      };
    }
  where
    none : (kept u : ℕ) → kept ≤ 1 + u → kept - (1 + u) ≡ 0
    none kept u p = omega (arith, p)

-- one opener's account is this now, and for the others all is as it was
pub record Moves (who : ℕ) (l k : Local) (a : Account) : Type 0 where
  pub start : k.start ≡ l.start
  pub own : account_of k.accounts who ≡ a
  pub others : (w : ℕ) → w ≢ who → account_of k.accounts w ≡ account_of l.accounts w
  pub admitted : a.admitted ≡ (account_of l.accounts who).admitted
  pub locks : (w : ℕ) → w ≢ who → lock_after k.past w ≡ lock_after l.past w
  pub listed : k.failing.listed ≡ l.failing.listed

moved_admitted : (who : ℕ) (l k : Local) (a : Account) → Moves who l k a → (w : ℕ) → (account_of k.accounts w).admitted ≡ (account_of l.accounts w).admitted
moved_admitted who l k a m w = go (eqb_tells w who)
  where
    go : ((eqb w who ≡ true) × (w ≡ who)) ⊎ ((eqb w who ≡ false) × (w ≢ who)) → (account_of k.accounts w).admitted ≡ (account_of l.accounts w).admitted
    go (inl same) = subst (λ v. (account_of k.accounts v).admitted ≡ (account_of l.accounts v).admitted) (sym same.1) (ap (λ (x : Account). x.admitted) m.own ∙ m.admitted)
    go (inr apart) = ap (λ (x : Account). x.admitted) (m.others w apart.1)

same_share : (who : ℕ) (l k : Local) (a : Account) → Moves who l k a →
    IsSameShare (seat_state (record { who = who; region = l })) (seat_state (record { who = who; region = k }))
same_share who l k a m =
    record {
      who = refl;
      alone = refl;
      turnless = refl;
      fails = ap Some m.listed;
      tag = ap (coded_list coded_ℕ).code (beside_same who l.accounts k.accounts MOST_OPENERS m.others);
      admitted = moved_admitted who l k a m;
      reserved = λ w apart.
          ap (λ (x : Account). x.kept - (1 + unlock_place (lock_after k.past w))) (m.others w apart)
          ∙ ap (λ o. (account_of l.accounts w).kept - (1 + unlock_place o)) (m.locks w apart);
      room = λ w apart. ap (λ (x : Account). x.room) (m.others w apart);
    }

-- the counts of an account
abbrev counts_of : Account → Counts
counts_of a = record { faults = a.faults; loads = a.loads; busy = a.busy; turns = 0 }

-- what a call left
record Leaves (who : ℕ) (l k : Local) (a : Account) (left : Left) : Type 0 where
  moves : Moves who l k a
  good : IsLocal k
  holds : lock_after k.past who ≡ left.holds
  ended : (not a.admitted || has_died k.past who) ≡ left.ended
  places : a.kept - (1 + unlock_place (lock_after k.past who)) ≡ left.places
  room : a.room ≡ left.room
  counts : counts_of a ≡ left.counts
  calls : k.failing.made ≡ one_more l.failing.made
  past : k.past ≡ made_by who left.own ++ ([] ++ l.past)

after_call : (who : ℕ) (l k : Local) (a : Account) (left : Left) → (1 ≤ who) × (who ≤ 64) → Leaves who l k a left →
    After left (seat_state (record { who = who; region = l })) (seat_state (record { who = who; region = k }))
after_call who l k a left maker c =
    record {
      same = same_share who l k a c.moves;
      holds = c.holds;
      ended = ap (λ (x : Account). not x.admitted || has_died k.past who) c.moves.own ∙ c.ended;
      places = ap (λ (x : Account). x.kept - (1 + unlock_place (lock_after k.past who))) c.moves.own ∙ c.places;
      room = ap (λ (x : Account). x.room) c.moves.own ∙ c.room;
      counts = ap counts_of c.moves.own ∙ c.counts;
      calls = λ _. c.calls;
      told = record { start = c.moves.start; others = []; by_others = tt; none = λ _. refl; past = c.past };
      sound = seat_sound (record { who = who; region = k }) maker c.good;
    }

pub local_called : (l : Local) (fails : Bool) → IsLocal l → IsLocal (called l fails)
local_called l fails is = record { region = is.region; lawful = is.lawful; accounts = is.accounts; each = is.each; few = is.few }

module _ (who : ℕ) (l : Local) (is : IsLocal l) (maker : (1 ≤ who) × (who ≤ 64)) where
  abbrev s : ShareState
  s = seat_state (record { who = who; region = l })

  abbrev own : Account
  own = account_of l.accounts who

  abbrev state_of : Local → ShareState
  state_of k = seat_state (record { who = who; region = k })

  inside : who < length l.accounts
  inside = omega (arith, maker.1, is.accounts)

  -- an account that is set
  moves_set : (k : Local) (a : Account) → k.start ≡ l.start → k.accounts ≡ set l.accounts who a → a.admitted ≡ own.admitted →
      ((w : ℕ) → w ≢ who → lock_after k.past w ≡ lock_after l.past w) → k.failing.listed ≡ l.failing.listed → Moves who l k a
  moves_set k a start accounts admitted locks listed =
      record {
        start = start;
        own = ap (λ xs. account_of xs who) accounts ∙ own_account l.accounts who a inside;
        others = λ w apart. ap (λ xs. account_of xs w) accounts ∙ other_account l.accounts who w a apart;
        admitted = admitted;
        locks = locks;
        listed = listed;
      }

  -- no event and no count
  pub after_nothing : After (unmoved s) s (state_of (called l false))
  after_nothing =
      after_call who l (called l false) own (unmoved s) maker
      (record {
        moves = record { start = refl; own = refl; others = λ w apart. refl; admitted = refl; locks = λ w apart. refl; listed = refl };
        good = local_called l false is;
        holds = refl;
        ended = refl;
        places = refl;
        room = refl;
        counts = refl;
        calls = refl;
        past = refl;
      })

  -- a count alone
  local_counted : (a : Account) → a.admitted ≡ own.admitted → a.kept ≡ own.kept → a.room ≡ own.room → IsLocal (with_account (called l false) who a)
  local_counted a admitted kept room =
      local_account (called l false) (local_called l false is) who a maker.0 maker.1 (counted l.past who own a (is.each who) admitted kept room) (omega (arith, is.few, kept))

  pub after_loading : After (loaded s) s (state_of (with_account (called l false) who (after_load own)))
  after_loading =
      let k = with_account (called l false) who (after_load own) in
      after_call who l k (after_load own) (loaded s) maker
      (record {
        moves = moves_set k (after_load own) refl refl refl (λ w apart. refl) refl;
        good = local_counted (after_load own) refl refl refl;
        holds = refl;
        ended = refl;
        places = refl;
        room = refl;
        counts = refl;
        calls = refl;
        past = refl;
      })

  pub after_refusing : After (refused s) s (state_of (with_account (called l false) who (after_refusal own)))
  after_refusing =
      let k = with_account (called l false) who (after_refusal own) in
      after_call who l k (after_refusal own) (refused s) maker
      (record {
        moves = moves_set k (after_refusal own) refl refl refl (λ w apart. refl) refl;
        good = local_counted (after_refusal own) refl refl refl;
        holds = refl;
        ended = refl;
        places = refl;
        room = refl;
        counts = refl;
        calls = refl;
        past = refl;
      })

  -- places and room are reserved
  pub local_reserving : (events size : ℕ) → lock_after l.past who ≡ Some Exclusive → length l.past + kept_in l.accounts + events ≤ most_events →
      IsLocal (with_account (called l false) who (after_reserve events size own))
  local_reserving events size exclusive few =
      let a = after_reserve events size own in
      local_account (called l false) (local_called l false is) who a maker.0 maker.1 (reserved_account l.past who own events size (is.each who) exclusive).1 (omega (arith, few))

  pub after_reserving : (events size : ℕ) → lock_after l.past who ≡ Some Exclusive → length l.past + kept_in l.accounts + events ≤ most_events →
      After (reserving events size s) s (state_of (with_account (called l false) who (after_reserve events size own)))
  after_reserving events size exclusive few =
      let k = with_account (called l false) who (after_reserve events size own) in
      let a = after_reserve events size own in
      let u : 1 + unlock_place (lock_after l.past who) ≤ own.kept = held_two in
      after_call who l k a (reserving events size s) maker
      (record {
        moves = moves_set k a refl refl refl (λ w apart. refl) refl;
        good = local_reserving events size exclusive few;
        holds = refl;
        ended = refl;
        places = omega (arith, u);
        room = refl;
        counts = refl;
        calls = refl;
        past = refl;
      })
    where
      held_two : 1 + unlock_place (lock_after l.past who) ≤ own.kept
      held_two = subst (λ o. 1 + unlock_place o ≤ own.kept) (sym exclusive) (held_places l.past who own (is.each who) (exclusive_holds (locks_after l.past) who exclusive))

  -- an event of this opener, in a call that was counted
  pub local_made : (fails : Bool) (what : What) → Lawful l.start (event_of who what ∷ l.past) → HasPlace l who what → IsLocal (with_event (called l fails) who what)
  local_made fails what lawful place =
      local_event (called l fails) (local_called l fails is) who what maker.0 maker.1 lawful (record { kept = place.kept; room = place.room })

  moves_made : (fails : Bool) (what : What) (a : Account) → a ≡ account_after what own → a.admitted ≡ own.admitted → Lawful l.start (event_of who what ∷ l.past) →
      Moves who l (with_event (called l fails) who what) a
  moves_made fails what a same admitted lawful =
      moves_set (with_event (called l fails) who what) a refl (ap (set l.accounts who) (sym same)) admitted
      (λ w apart. lock_other (region_after l.start l.past) (locks_after l.past) who w what apart lawful.1.possible) refl

  alive_still : (what : What) → is_death what ≡ false → (not own.admitted || has_died (event_of who what ∷ l.past) who) ≡ (not own.admitted || has_died l.past who)
  alive_still what quiet = ap (λ d. not own.admitted || d) (not_dead l.past who what quiet)

  one_less : (kept u : ℕ) → kept - 1 - (1 + u) ≡ kept - (1 + u) - 1
  one_less kept u = omega arith

  pub after_store : (side : Side) (word value : ℕ) (mark : Mark) → let what = Store side word value mark in
      Lawful l.start (event_of who what ∷ l.past) → 0 < reserved_in l who → After (stored what s) s (state_of (with_event (called l false) who what))
  after_store side word value mark lawful place =
      let what = Store side word value mark in
      let k = with_event (called l false) who what in
      let a = account_after what own in
      after_call who l k a (stored what s) maker
      (record {
        moves = moves_made false what a refl refl lawful;
        good = local_made false what lawful (record { kept = place; room = tt });
        holds = refl;
        ended = alive_still what refl;
        places = one_less own.kept (unlock_place (lock_after l.past who));
        room = refl;
        counts = refl;
        calls = refl;
        past = refl;
      })

  pub after_grow : (size : ℕ) → Lawful l.start (event_of who (Grow size) ∷ l.past) → 0 < reserved_in l who →
      After (stored (Grow size) s) s (state_of (with_event (called l false) who (Grow size)))
  after_grow size lawful place =
      let what = Grow size in
      let k = with_event (called l false) who what in
      let a = account_after what own in
      after_call who l k a (stored what s) maker
      (record {
        moves = moves_made false what a refl refl lawful;
        good = local_made false what lawful (record { kept = place; room = tt });
        holds = refl;
        ended = alive_still what refl;
        places = one_less own.kept (unlock_place (lock_after l.past who));
        room = refl;
        counts = refl;
        calls = refl;
        past = refl;
      })

  pub after_lock : (kind : LockKind) → MayTake (locks_after l.past) who kind → Lawful l.start (event_of who (Lock kind) ∷ l.past) → HasPlace l who (Lock kind) →
      After (locked kind s) s (state_of (with_event (called l false) who (Lock kind)))
  after_lock kind may lawful place =
      let what = Lock kind in
      let k = with_event (called l false) who what in
      let a = account_after what own in
      let now : lock_after k.past who ≡ Some kind = lock_with (locks_after l.past) who kind may in
      let before : lock_after l.past who ≡ None = free_holds_none (locks_after l.past) who kind may in
      after_call who l k a (locked kind s) maker
      (record {
        moves = moves_made false what a refl refl lawful;
        good = local_made false what lawful place;
        holds = now;
        ended = alive_still what refl;
        places = ap (λ o. own.kept + 1 - (1 + unlock_place o)) now ∙ two_more own.kept ∙ sym (ap (λ o. own.kept - (1 + unlock_place o)) before);
        room = refl;
        counts = refl;
        calls = refl;
        past = refl;
      })
    where
      two_more : (n : ℕ) → n + 1 - (1 + 1) ≡ n - (1 + 0)
      two_more n = omega arith

  pub after_unlock : Lawful l.start (event_of who Unlock ∷ l.past) → After (unlocked_by s) s (state_of (with_event (called l false) who Unlock))
  after_unlock lawful =
      let k = with_event (called l false) who Unlock in
      let a = account_after Unlock own in
      let now : lock_after k.past who ≡ None = lock_without (locks_after l.past) who in
      after_call who l k a (unlocked_by s) maker
      (record {
        moves = moves_made false Unlock a refl refl lawful;
        good = local_made false Unlock lawful (record { kept = tt; room = tt });
        holds = now;
        ended = alive_still Unlock refl;
        places = ap (λ o. 1 - (1 + unlock_place o)) now;
        room = refl;
        counts = refl;
        calls = refl;
        past = refl;
      })

  or_true : (b : Bool) → (b || true) ≡ true
  or_true true = refl
  or_true false = refl

  pub after_death : (torn : Option TornWord) → Lawful l.start (event_of who (Died torn) ∷ l.past) → 0 < own.kept →
      After (died torn s) s (state_of (with_event (called l false) who (Died torn)))
  after_death torn lawful place =
      let k = with_event (called l false) who (Died torn) in
      let a = account_after (Died torn) own in
      let now : lock_after k.past who ≡ None = lock_without (locks_after l.past) who in
      after_call who l k a (died torn s) maker
      (record {
        moves = moves_made false (Died torn) a refl refl lawful;
        good = local_made false (Died torn) lawful (record { kept = place; room = tt });
        holds = now;
        ended = ap (λ d. not own.admitted || d) (now_dead l.past who (Died torn) refl) ∙ or_true (not own.admitted);
        places = ap (λ o. 0 - (1 + unlock_place o)) now;
        room = refl;
        counts = refl;
        calls = refl;
        past = refl;
      })

  -- who isn't ended lives, and has a place for its death
  pub living : s.ended ≡ false → (has_died l.past who ≡ false) × (0 < own.kept)
  living e =
      let both = split own.admitted (has_died l.past who) e in
      let lives : nat_lt 0 own.kept ≡ true = sym (is.each who).lives ∙ alive own.admitted (has_died l.past who) both.0 both.1 in
      (both.1, grind (arith, nat_tests))
    where
      split : (a d : Bool) → (not a || d) ≡ false → (a ≡ true) × (d ≡ false)
      split true true e = absurd cc
      split true false e = (refl, refl)
      split false d e = absurd cc

      alive : (a d : Bool) → a ≡ true → d ≡ false → (a && not d) ≡ true
      alive a d p q = cc

  -- a call that fails: the opener's death, and one fault more
  abbrev pub after_failing : Local
  after_failing =
      let k = with_event (called l true) who (Died None) in
      with_account k who (after_fault (account_of k.accounts who))

  pub after_failure : s.ended ≡ false → After (failed s) s (state_of after_failing)
  after_failure e =
      let live = living e in
      let lawful = may_die l.start l.past who is.lawful maker live.0 in
      let k = with_event (called l true) who (Died None) in
      let a = account_after (Died None) own in
      let good = local_made true (Died None) lawful (record { kept = live.1; room = tt }) in
      let first : Moves who l k a = moves_made true (Died None) a refl refl lawful in
      let b = after_fault (account_of k.accounts who) in
      let same : b ≡ after_fault a = ap after_fault first.own in
      let size : who < length k.accounts = omega (arith, maker.1, good.accounts) in
      let now : lock_after k.past who ≡ None = lock_without (locks_after l.past) who in
      after_call who l after_failing (after_fault a) (failed s) maker
      (record {
        moves = record {
          start = refl;
          own = own_account k.accounts who b size ∙ same;
          others = λ w apart. other_account k.accounts who w b apart ∙ first.others w apart;
          admitted = refl;
          locks = first.locks;
          listed = refl;
        };
        good = local_account k good who b maker.0 maker.1 (counted k.past who (account_of k.accounts who) b (good.each who) refl refl refl) (omega (arith, good.few));
        holds = now;
        ended = ap (λ d. not own.admitted || d) (now_dead l.past who (Died None) refl) ∙ or_true (not own.admitted);
        places = ap (λ o. 0 - (1 + unlock_place o)) now;
        room = refl;
        counts = refl;
        calls = refl;
        past = refl;
      })

  -- a death that was asked for is lawful
  pub death_lawful : (torn : Option TornStore) → MayTearAt torn s → s.ended ≡ false → Lawful l.start (event_of who (Died (torn_word (region_after l.start l.past) torn)) ∷ l.past)
  death_lawful None may e = may_die l.start l.past who is.lawful maker (living e).0
  death_lawful (Some t) may e = may.1

  -- why places weren't reserved, and why the lock wasn't tried
  pub stops_reserving : (events : ℕ) (stop : AdmitStop) → LacksPlaces l events stop → IsNotDue s → StopsReserving events (stop_of stop) s (state_of (called l false))
  stops_reserving events JournalFull lacks due = (record { after = after_nothing; not_due = due }, lacks)
  stops_reserving events Memory lacks due = record { after = after_nothing; not_due = due }

  pub stops_trying : (kind : LockKind) (stop : AdmitStop) → LacksPlaces l 2 stop → MayTake (locks_after l.past) who kind → IsNotDue s →
      StopsTrying kind (stop_of stop) s (state_of (called l false))
  stops_trying kind JournalFull lacks free due = (record { after = after_nothing; not_due = due }, lacks, free)
  stops_trying kind Memory lacks free due = (record { after = after_nothing; not_due = due }, free)

-- a list that has something isn't empty
pub has_some : (xs : List ℕ) (x : ℕ) → Contains xs x → xs ≢ []
has_some xs x (i, within, is) none = absurd (omega (arith, within, ap length none))

-- the words of the meta file that are read lie in it
pub meta_word : (l : Local) → IsLocal l → (w : ℕ) → w < 1024 → IsWordOf (region_after l.start l.past) Meta w
meta_word l is w few =
    let file = (lawful_region l.start l.past is.lawful is.region).meta_file in
    omega (arith, few, file.pages, file.not_empty)
