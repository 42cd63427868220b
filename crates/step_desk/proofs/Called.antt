-- A call on the region is a call on the seat, after events of others.
use Rattle.std.proofs.Common.{◌≡◌, ◌≢◌, ◌⊎◌, ℕ, ◌+◌, ◌<◌, ◌≤◌, true, false, eqb, List, [], ◌∷◌, ◌++◌, length, refl, sym, ◌∙◌, ap, subst, inl, inr, ⊎_elim, arith, ◌||◌, ◌&&◌, not, ne_eqb}
use Rattle.std.proofs.lemmas.Bool.Decides.{eqb_tells}
use Rattle.std.specs.Prelude.{Option, Some, None, IsTrue, ◌==◌, if◌then◌else◌}
use Rattle.std.specs.Option.{option_map_or}
use Rattle.atomic_table.specs.Seated.{TableId}
use Rattle.lock_rules.specs.Locks.{Locks, MayTake}
use Rattle.lock_rules.specs.declared.table.LockKind.{LockKind}
use Rattle.lock_rules.specs.declared.table.LockKind.TheVariants.{Shared, Exclusive}
use Rattle.meta_record.proofs.WordLemmas.{other_word}
use Rattle.region_words.specs.Region.{Region}
use Rattle.region_words.specs.Past.{region_after, locks_after, has_died}
use Rattle.region_words.specs.Lawful.{Lawful}
use Rattle.region_words.specs.Share.{ShareState, Counts, Left, After, Goes, Fails, IsTurnedAway, IsNotDue, made_by, most_events, total, places_for, places_kept, unlock_place, HasRoom, IsFull}
use Rattle.region_words.specs.Local.{Seated, seat_state, lock_after, reserved_in}
use Rattle.region_words.specs.declared.event.Side.TheVariants.{Data, Meta}
use Rattle.region_words.specs.declared.event.What.{What}
use Rattle.region_words.specs.declared.event.What.TheVariants.{Store, Grow, Lock, Unlock, Died}
use Rattle.region_words.specs.declared.event.Event.{Event}
use Rattle.region_words.proofs.Held.{no_other, locks_sound}
use Rattle.region_words.proofs.LockOf.{holds_some, exclusive_is}
use Rattle.region_words.proofs.Later.{lock_others}
use Rattle.region_words.proofs.Totals.{total_same}
use Rattle.step_desk.specs.declared.counts.CallCounts.{CallCounts}
use Rattle.step_desk.specs.declared.view.Stage.TheVariants.{Idle, Holding}
use Rattle.step_desk.specs.declared.view.View.{View}
use Rattle.step_desk.specs.Mirrors.{checksum_after, sequence_after}
use Rattle.step_desk.specs.Rule.{room_in, is_admitted, Continues}
use Rattle.step_desk.specs.Steps.{seeing, PutsBack, ChangesOneWord}
use Rattle.step_desk.specs.Passes.{IsKnown, share_of, counts_of}
use Rattle.step_desk.proofs.Lists.{none_made}
use Rattle.step_desk.proofs.Carrying.{From, own_if}

-- a seat says of itself what its pass has seen
pub is_sound : (table : TableId) (v : View) (counts : CallCounts) → IsKnown v → Rattle.region_words.specs.Share.IsSound (share_of table v counts)
is_sound table v counts k = record {
  maker = k.maker;
  unreserved = λ n. let free = k.unreserved n in (own_if v.who v.places 0 ∙ free.0, own_if v.who v.room 0 ∙ free.1);
  told = record { region = k.region; lawful = k.lawful; holds = refl; ended = refl; few = λ alone. absurd (not_alone alone) };
}
  where
    not_alone : false ≡ true → ⊥
    not_alone e = cc

-- a store changes one word
store_word : (start : Region) (past : List Event) (who word value : ℕ) (mark : _) → Lawful start (record { who = who; what = Store Meta word value mark } ∷ past) → ChangesOneWord start past (record { who = who; what = Store Meta word value mark } ∷ past)
unfolding checksum_after sequence_after
store_word start past who word value mark l = ⊎_elim
    (λ (t : (eqb word 0 ≡ true) × (word ≡ 0)). inr (other_word (region_after start past).meta_bytes word value l.1.possible.1 2 (λ e. let z = t.1 in omega (arith, e, z))))
    (λ (t : (eqb word 0 ≡ false) × (word ≢ 0)). inl (other_word (region_after start past).meta_bytes word value l.1.possible.1 0 (λ e. t.1 (sym e))))
    (eqb_tells word 0)

one_word : (start : Region) (past : List Event) (who : ℕ) (what : What) → Lawful start (record { who = who; what = what } ∷ past) → ChangesOneWord start past (record { who = who; what = what } ∷ past)
unfolding checksum_after
one_word start past who (Store Data word value mark) l = inl refl
one_word start past who (Store Meta word value mark) l = store_word start past who word value mark l
one_word start past who (Grow size) l = inl refl
one_word start past who (Lock kind) l = inl refl
one_word start past who Unlock l = inl refl
one_word start past who (Died None) l = inl refl
one_word start past who (Died (Some torn)) l = inl refl

at_most_one_word : (start : Region) (past : List Event) (who : ℕ) (own : List What) → length own ≤ 1 → Lawful start (made_by who own ++ past) → ChangesOneWord start past (made_by who own ++ past)
at_most_one_word start past who [] one l = inl refl
at_most_one_word start past who (what ∷ []) one l = one_word start past who what l
at_most_one_word start past who (what ∷ again ∷ own) one l = absurd (omega (arith, one))

abbrev pub list_in : Option (List ℕ) → List ℕ
list_in None = []
list_in (Some xs) = xs

-- a call by the pass that knows this, on the region that it took
module _ (v : View) (a b : Seated) (k : IsKnown v) (f : From v a) (left : Left) (after : After left (seat_state a) (seat_state b)) where
  who_is : b.who ≡ v.who
  who_is = after.same.who ∙ f.who

  start_is : b.region.start ≡ v.about.start
  start_is = after.told.start ∙ f.continues.start

  own_past : b.region.past ≡ made_by a.who left.own ++ a.region.past
  own_past = after.told.past ∙ ap (λ others. made_by a.who left.own ++ (others ++ a.region.past)) (after.told.none refl)

  past_is : b.region.past ≡ made_by v.who left.own ++ (f.later ++ v.seen)
  past_is = own_past ∙ (λ i. made_by (f.who i) left.own ++ f.past i)

  lawful_after : Lawful v.about.start b.region.past
  lawful_after = subst (λ start. Lawful start b.region.past) start_is after.sound.told.lawful

  other_lock : (w : ℕ) → w ≢ a.who → lock_after b.region.past w ≡ lock_after a.region.past w
  other_lock w apart =
      ap (λ past. lock_after past w) own_past
      ∙ lock_others v.about.start (made_by a.who left.own) a.region.past w (subst (Lawful v.about.start) own_past lawful_after) (none_made a.who w left.own (λ e. apart (sym e)))

  no_places : (n : ℕ) → lock_after b.region.past n ≢ Some Exclusive → reserved_in b.region n ≡ 0
  no_places n free = go (eqb_tells n a.who)
    where
      go : ((eqb n a.who ≡ true) × (n ≡ a.who)) ⊎ ((eqb n a.who ≡ false) × (n ≢ a.who)) → reserved_in b.region n ≡ 0
      go (inl same) = let e : n ≡ b.who = same.1 ∙ sym after.same.who in subst (λ w. reserved_in b.region w ≡ 0) (sym e) (after.sound.unreserved (λ held. free (ap (lock_after b.region.past) e ∙ held))).0
      go (inr apart) = after.same.reserved n apart.1 ∙ f.continues.unreserved n (λ held. free (other_lock n apart.1 ∙ held))

  pub continued : Continues v.about b.region
  continued = record {
    start = start_is;
    listed = ap list_in after.same.fails ∙ f.continues.listed;
    admitted = λ n. after.same.admitted n ∙ f.continues.admitted n;
    lawful = lawful_after;
    unreserved = no_places;
  }

  -- the pass knows the region that it puts back
  pub known_after : IsKnown (seeing v Idle b.region)
  known_after = record {
    maker = k.maker;
    region = k.region;
    lawful = lawful_after;
    unreserved = λ free. subst (λ w. (lock_after b.region.past w ≢ Some Exclusive) → (reserved_in b.region w ≡ 0) × (room_in b.region w ≡ 0)) who_is after.sound.unreserved free;
    hands = k.hands;
  }

  pub puts : v.live ≡ true → length left.own ≤ 1 → PutsBack left.own (seeing v Holding a.region, (0, None) ∷ []) b.region
  puts live one = record {
    carries = record {
      live = live;
      at = refl;
      slots = refl;
      continues = continued;
      one = one;
      past = own_past ∙ ap (λ w. made_by w left.own ++ a.region.past) f.who;
      others = λ w apart. let ne : w ≢ a.who = λ e. apart (e ∙ f.who) in (after.same.reserved w ne, after.same.room w ne);
    };
    word = subst (λ past. ChangesOneWord b.region.start a.region.past past) (sym own_past) (at_most_one_word b.region.start a.region.past a.who left.own one (subst (Lawful b.region.start) own_past after.sound.told.lawful));
  }

  -- what the call left of the seat
  pub share_after : (table : TableId) (c c' : CallCounts) (left' : Left) → left'.own ≡ left.own → left'.holds ≡ left.holds → left'.ended ≡ left.ended → left'.places ≡ left.places → left'.room ≡ left.room →
      left'.counts ≡ counts_of c' v.turns → After left' (share_of table v c) (share_of table (seeing v Idle b.region) c')
  share_after table c c' left' own holds ended places room counts = record {
    same = record {
      who = refl;
      alone = refl;
      turnless = refl;
      fails = refl;
      tag = refl;
      admitted = λ w. refl;
      reserved = λ w apart. rw (ne_eqb w v.who apart) refl;
      room = λ w apart. rw (ne_eqb w v.who apart) refl;
    };
    holds = ap (lock_after b.region.past) (sym who_is) ∙ after.holds ∙ sym holds;
    ended =
        ap (λ d. not d || has_died b.region.past v.who) (sym (continued.admitted v.who))
        ∙ ap (λ w. not (is_admitted b.region w) || has_died b.region.past w) (sym who_is) ∙ after.ended ∙ sym ended;
    places = own_if v.who (reserved_in b.region v.who) 0 ∙ ap (reserved_in b.region) (sym f.who) ∙ after.places ∙ sym places;
    room = own_if v.who (room_in b.region v.who) 0 ∙ ap (room_in b.region) (sym f.who) ∙ after.room ∙ sym room;
    counts = sym counts;
    calls = λ alone. absurd (not_alone alone);
    told = record {
      start = refl;
      others = f.later;
      by_others = f.others;
      none = λ alone. absurd (not_alone alone);
      past = past_is ∙ ap (λ o. made_by v.who o ++ (f.later ++ v.seen)) (sym own);
    };
    sound = is_sound table (seeing v Idle b.region) c' known_after;
  }
    where
      not_alone : false ≡ true → ⊥
      not_alone e = cc

  -- nobody else holds exclusive: this opener holds a lock, or might take one
  pub none_beside : lock_after b.region.past b.who ≢ None → (w : ℕ) → w ≢ b.who → lock_after b.region.past w ≢ Some Exclusive
  none_beside some w apart exclusive =
      no_other (locks_after b.region.past) w b.who apart (locks_sound v.about.start b.region.past lawful_after) (holds_some (locks_after b.region.past) b.who some) (exclusive_is (locks_after b.region.past) w exclusive)

  -- so the places that are kept are those that the seat counts
  module _ (none : (w : ℕ) → w ≢ b.who → lock_after b.region.past w ≢ Some Exclusive) where
    own_places : ℕ → ℕ
    own_places w = if w == v.who then reserved_in b.region v.who else 0

    reserved_same : (w : ℕ) → ((eqb w v.who ≡ true) × (w ≡ v.who)) ⊎ ((eqb w v.who ≡ false) × (w ≢ v.who)) → own_places w ≡ reserved_in b.region w
    unfolding own_places
    reserved_same w (inl same) = rw same.0 (ap (reserved_in b.region) (sym same.1))
    reserved_same w (inr apart) = rw apart.0 (sym (no_places w (none w (λ e. apart.1 (e ∙ who_is)))))

    each_same : (w : ℕ) → places_for (is_admitted v.about) own_places b.region.past w ≡ places_for (is_admitted b.region) (reserved_in b.region) b.region.past w
    each_same w = λ i. if sym (continued.admitted w) i && not (has_died b.region.past w) then 1 + unlock_place (lock_after b.region.past w) + reserved_same w (eqb_tells w v.who) i else 0

    pub places_same : (table : TableId) (c : CallCounts) → let s = share_of table (seeing v Idle b.region) c in
        places_kept s.admitted s.reserved b.region.past ≡ places_kept (seat_state b).admitted (seat_state b).reserved b.region.past
    unfolding own_places
    places_same table c = total_same (places_for (is_admitted b.region) (reserved_in b.region) b.region.past) (places_for (is_admitted v.about) own_places b.region.past) 64 (λ w least most. each_same w)

    pub room_same : (table : TableId) (c : CallCounts) → HasRoom (seat_state b) → HasRoom (share_of table (seeing v Idle b.region) c)
    room_same table c has = subst (λ n. length b.region.past + n ≤ most_events) (sym (places_same table c)) has

    pub full_same : (table : TableId) (c : CallCounts) (asked : ℕ) → IsFull asked (seat_state b) → IsFull asked (share_of table (seeing v Idle b.region) c)
    full_same table c asked full = subst (λ n. most_events < length b.region.past + n + asked) (sym (places_same table c)) full

-- nobody holds exclusive where a lock might be taken
pub none_against : (locks : Locks) (who : ℕ) (kind : LockKind) → MayTake locks who kind → (w : ℕ) → Rattle.region_words.specs.Share.lock_of locks w ≢ Some Exclusive
none_against locks who kind may w exclusive = absurd (go locks.exclusive (free kind may) (exclusive_is locks w exclusive))
  where
    free : (kind : LockKind) → MayTake locks who kind → locks.exclusive ≡ None
    free Shared may = may.1
    free Exclusive may = may.1

    go : (o : Option ℕ) → o ≡ None → IsTrue (option_map_or (λ h. h == w) o false) → ⊥
    go None e t = cc
    go (Some x) e t = cc
