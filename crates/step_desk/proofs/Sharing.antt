-- What a call on a seat answers, by what the call on its region answered.
use Rattle.std.proofs.Common.{◌≡◌, ◌≢◌, ℕ, ◌+◌, ◌-◌, ◌≤◌, true, false, max, List, [], ◌∷◌, length, refl, sym, ◌∙◌, ap, subst, arith}
use Rattle.std.specs.Prelude.{Option, Some, None, Result, Ok, Err, IfOk, OnOk, IfErr}
use Rattle.atomic_table.specs.Seated.{TableId}
use Rattle.lock_rules.specs.Locks.{MayTake, IsLeastAgainst}
use Rattle.lock_rules.specs.declared.table.LockKind.{LockKind}
use Rattle.lock_rules.specs.declared.table.LockKind.TheVariants.{Exclusive}
use Rattle.lock_rules.specs.declared.table.Tried.{Tried}
use Rattle.lock_rules.specs.declared.table.Tried.TheVariants.{Taken, Busy}
use Rattle.region_words.specs.Region.{Region}
use Rattle.region_words.specs.Past.{region_after, locks_after}
use Rattle.region_words.specs.Outside.{one_more}
use Rattle.region_words.specs.Share.{ShareState, Left, After, Goes, Fails, IsTurnedAway, Stops, StopsReserving, StopsTrying, Tries, Dies, HasRoom, IsFull, IsFree, unmoved, stored, locked, unlocked_by, died, failed, loaded, refused, turned_away, reserving, torn_word, MayTearAt}
use Rattle.region_words.specs.Local.{Seated, seat_state, lock_after}
use Rattle.region_words.specs.Told.{OnTold}
use Rattle.region_words.specs.declared.event.TornWord.{TornWord}
use Rattle.region_words.specs.declared.event.What.{What}
use Rattle.region_words.specs.declared.stops.ShareStop.{ShareStop}
use Rattle.region_words.specs.declared.stops.ShareStop.TheVariants.{Failed, Turn, Memory, JournalFull}
use Rattle.region_words.specs.declared.stops.TornStore.{TornStore}
use Rattle.region_words.specs.declared.stops.Unstored.{Unstored}
use Rattle.step_desk.specs.declared.counts.CallCounts.{CallCounts}
use Rattle.step_desk.specs.declared.view.Stage.TheVariants.{Idle, Holding}
use Rattle.step_desk.specs.declared.view.View.{View}
use Rattle.step_desk.specs.Mirrors.{changes_made}
use Rattle.step_desk.specs.Steps.{M, seeing, PutsBack}
use Rattle.step_desk.specs.Passes.{IsKnown, PassIs, IsTaken, PassState, share_of, state_of, counts_of, counts_after_stop, counts_after_try}
use Rattle.step_desk.proofs.Carrying.{From, from_taken, lock_is, ended_is, places_are, room_is, region_same}
use Rattle.step_desk.proofs.Called.{share_after, room_same, full_same, none_beside, none_against, puts, known_after}

-- some call or none on a region, of one event at most
pub record Moved (a b : Seated) : Type 0 where
  pub left : Left
  pub one : length left.own ≤ 1
  pub after : After left (seat_state a) (seat_state b)

module _ (a b : Seated) where
  moved_stop : (stop : ShareStop) → Stops stop (seat_state a) (seat_state b) → Moved a b
  moved_stop Failed s = record { left = failed (seat_state a); one = omega arith; after = s.after }
  moved_stop Turn s = record { left = turned_away (seat_state a); one = omega arith; after = s.after }
  moved_stop Memory s = absurd s
  moved_stop JournalFull s = absurd s

  pub moved_by : {T : Type 0} (result : Result T ShareStop) (left : Left) → length left.own ≤ 1 → OnOk result (Goes left (seat_state a) (seat_state b)) → IfErr result (λ stop. Stops stop (seat_state a) (seat_state b)) → Moved a b
  moved_by (Ok x) left one ok err = record { left = left; one = one; after = ok.after }
  moved_by (Err stop) left one ok err = moved_stop stop err

  pub moved_store : {T : Type 0} (result : Result T Unstored) (left : Left) (P : Unstored → Type 0) → length left.own ≤ 1 → OnOk result (Goes left (seat_state a) (seat_state b)) →
      IfErr result (λ u. P u × Stops u.stop (seat_state a) (seat_state b)) → Moved a b
  moved_store (Ok x) left P one ok err = record { left = left; one = one; after = ok.after }
  moved_store (Err u) left P one ok err = moved_stop u.stop err.1

  moved_reserving : (events : ℕ) (stop : ShareStop) → StopsReserving events stop (seat_state a) (seat_state b) → Moved a b
  moved_reserving events Failed s = moved_stop Failed s
  moved_reserving events Turn s = moved_stop Turn s
  moved_reserving events Memory s = record { left = unmoved (seat_state a); one = omega arith; after = s.after }
  moved_reserving events JournalFull s = record { left = unmoved (seat_state a); one = omega arith; after = s.0.after }

  pub moved_reserve : {T : Type 0} (result : Result T ShareStop) (events size : ℕ) → OnOk result (Goes (reserving events size (seat_state a)) (seat_state a) (seat_state b)) →
      IfErr result (λ stop. StopsReserving events stop (seat_state a) (seat_state b)) → Moved a b
  moved_reserve (Ok x) events size ok err = record { left = reserving events size (seat_state a); one = omega arith; after = ok.after }
  moved_reserve (Err stop) events size ok err = moved_reserving events stop err

  moved_tried : (kind : LockKind) (tried : Tried) → Tries kind tried (seat_state a) (seat_state b) → Moved a b
  moved_tried kind Taken t = record { left = locked kind (seat_state a); one = omega arith; after = t.0.after }
  moved_tried kind (Busy holder) t = record { left = refused (seat_state a); one = omega arith; after = t.0.after }

  moved_trying : (kind : LockKind) (stop : ShareStop) → StopsTrying kind stop (seat_state a) (seat_state b) → Moved a b
  moved_trying kind Failed s = moved_stop Failed s
  moved_trying kind Turn s = moved_stop Turn s
  moved_trying kind Memory s = record { left = unmoved (seat_state a); one = omega arith; after = s.0.after }
  moved_trying kind JournalFull s = record { left = unmoved (seat_state a); one = omega arith; after = s.0.after }

  pub moved_try : (result : Result Tried ShareStop) (kind : LockKind) → IfOk result (λ tried. Tries kind tried (seat_state a) (seat_state b)) → IfErr result (λ stop. StopsTrying kind stop (seat_state a) (seat_state b)) → Moved a b
  moved_try (Ok tried) kind ok err = moved_tried kind tried ok
  moved_try (Err stop) kind ok err = moved_trying kind stop err

  pub moved_death : {T : Type 0} (result : Result T ShareStop) (torn : Option TornStore) → OnOk result (Dies torn (seat_state a) (seat_state b)) → IfErr result (λ stop. Stops stop (seat_state a) (seat_state b)) → Moved a b
  moved_death (Ok x) torn ok err = record { left = died ok.left (seat_state a); one = omega arith; after = ok.goes.after }
  moved_death (Err stop) torn ok err = moved_stop stop err

-- the region may be put back
pub back : (me mid : M) (v : View) (a b : Seated) (who made : ℕ) → me.0 ≡ v → PassIs me who made → IsTaken me a mid → Moved a b → (own : List What) × PutsBack own mid b.region
back me mid v a b who made is pass t m = (
  m.left.own,
  subst (λ n. PutsBack m.left.own n b.region) (sym (t.took.view ∙ seen)) (puts v a b (subst IsKnown is pass.known) (from_taken me mid v a is t) m.left m.after (ap (λ (u : View). u.live) (sym is) ∙ pass.ready.live) m.one),
)
  where
    seen : ◌≡◌ {A = M} (seeing me.0 Holding a.region, (0, None) ∷ []) (seeing v Holding a.region, (0, None) ∷ [])
    seen = λ i. let n : M = (seeing (is i) Holding a.region, (0, None) ∷ []) in n

-- a call by a seat, which took the region and put it back
pub record Made (k : PassState) (a b : Seated) (last : M) (table : TableId) : Type 0 where
  pub known : IsKnown k.view
  pub from : From k.view a
  pub here : table ≡ k.table
  pub view : last.0 ≡ seeing k.view Idle b.region

pub call_made : (me mid last : M) (k : PassState) (a b : Seated) (who number : ℕ) (here table : TableId) (counts : CallCounts) → ◌≡◌ {A = PassState} (record { table = here; view = me.0; counts = counts }) k →
    PassIs me who number → IsTaken me a mid → last ≡ (seeing mid.0 Idle b.region, []) → table ≡ here → Made k a b last table
call_made me mid last k a b who number here table counts is pass t given same =
    let view_is = ap (λ (k : PassState). k.view) is in
    record {
      known = subst IsKnown view_is pass.known;
      from = from_taken me mid k.view a view_is t;
      here = same ∙ ap (λ (k : PassState). k.table) is;
      view = ap (λ (m : M). m.0) given ∙ ap (λ (m : M). seeing m.0 Idle b.region) t.took.view ∙ ap (λ (u : View). seeing u Idle b.region) view_is;
    }

-- the pass, after the call
pub done : (me mid last : M) (a b : Seated) (who who' number number' : ℕ) → PassIs me who number → IsTaken me a mid → Moved a b → last ≡ (seeing mid.0 Idle b.region, []) → who' ≡ who → number' ≡ changes_made b.region.past → PassIs last who' number'
done me mid last a b who who' number number' pass t m given same so = subst (λ (p : M × ℕ). PassIs p.0 p.1 number') (λ i. (sym (given ∙ seen) i, sym same i)) (record {
  ready = record { live = pass.ready.live; stage = refl; is = pass.ready.is; maker = pass.ready.maker; slots = refl };
  made_is = so;
  known = known_after me.0 a b pass.known (from_taken me mid me.0 a refl t) m.left m.after;
})
  where
    seen : ◌≡◌ {A = M} (seeing mid.0 Idle b.region, []) (seeing me.0 Idle b.region, [])
    seen = ap (λ (m : M). let n : M = (seeing m.0 Idle b.region, []) in n) t.took.view

-- the parts of what a call leaves, but for the counts
pub record SameLeft (left left' : Left) : Type 0 where
  pub own : left'.own ≡ left.own
  pub holds : left'.holds ≡ left.holds
  pub ended : left'.ended ≡ left.ended
  pub places : left'.places ≡ left.places
  pub room : left'.room ≡ left.room

module _ (k : PassState) (a b : Seated) (last : M) (table : TableId) (m : Made k a b last table) where
  holds_same : (state_of k).holds ≡ (seat_state a).holds
  holds_same = sym (lock_is k.view a m.known m.from)

  ended_same : (state_of k).ended ≡ (seat_state a).ended
  ended_same = sym (ended_is k.view a m.known m.from)

  places_same : (state_of k).reserved (state_of k).who ≡ (seat_state a).reserved (seat_state a).who
  places_same = sym (places_are k.view a m.known m.from)

  rooms_same : (state_of k).room (state_of k).who ≡ (seat_state a).room (seat_state a).who
  rooms_same = sym (room_is k.view a m.known m.from)

  pub unmoved_same : SameLeft (unmoved (seat_state a)) (unmoved (state_of k))
  unmoved_same = record { own = refl; holds = holds_same; ended = ended_same; places = places_same; room = rooms_same }

  pub loaded_same : SameLeft (loaded (seat_state a)) (loaded (state_of k))
  loaded_same = record { own = refl; holds = holds_same; ended = ended_same; places = places_same; room = rooms_same }

  pub refused_same : SameLeft (refused (seat_state a)) (refused (state_of k))
  refused_same = record { own = refl; holds = holds_same; ended = ended_same; places = places_same; room = rooms_same }

  pub stored_same : (what : What) → SameLeft (stored what (seat_state a)) (stored what (state_of k))
  stored_same what = record { own = refl; holds = holds_same; ended = ended_same; places = ap (λ n. n - 1) places_same; room = rooms_same }

  pub locked_same : (kind : LockKind) → SameLeft (locked kind (seat_state a)) (locked kind (state_of k))
  locked_same kind = record { own = refl; holds = refl; ended = ended_same; places = places_same; room = rooms_same }

  pub reserving_same : (events size : ℕ) → SameLeft (reserving events size (seat_state a)) (reserving events size (state_of k))
  reserving_same events size = record { own = refl; holds = holds_same; ended = ended_same; places = ap (λ n. n + events) places_same; room = ap (λ n. max n size) rooms_same }

  pub unlocked_same : SameLeft (unlocked_by (seat_state a)) (unlocked_by (state_of k))
  unlocked_same = record { own = refl; holds = refl; ended = ended_same; places = refl; room = refl }

  died_same : (torn : Option TornWord) → SameLeft (died torn (seat_state a)) (died torn (state_of k))
  died_same torn = record { own = refl; holds = refl; ended = refl; places = refl; room = refl }

  failed_same : SameLeft (failed (seat_state a)) (failed (state_of k))
  failed_same = record { own = refl; holds = refl; ended = refl; places = refl; room = refl }

  not_alone : false ≡ true → ⊥
  not_alone e = cc

  -- from the seat as the call left it to the seat as it is
  to_last : (c' : CallCounts) (P : ShareState → Type 0) → P (share_of k.table (seeing k.view Idle b.region) c') → P (share_of table last.0 c')
  to_last c' P p = subst (λ (t : TableId × View). P (share_of t.0 t.1 c')) (λ i. (sym m.here i, sym m.view i)) p

  after_to : (left left' : Left) → SameLeft left left' → (c' : CallCounts) → left'.counts ≡ counts_of c' k.view.turns → After left (seat_state a) (seat_state b) → After left' (state_of k) (share_of table last.0 c')
  after_to left left' s c' counts after = to_last c' (After left' (state_of k)) (share_after k.view a b m.known m.from left after k.table k.counts c' left' s.own s.holds s.ended s.places s.room counts)

  pub goes_to : (left left' : Left) → SameLeft left left' → (c' : CallCounts) → left'.counts ≡ counts_of c' k.view.turns → Goes left (seat_state a) (seat_state b) → Goes left' (state_of k) (share_of table last.0 c')
  goes_to left left' s c' counts g = record { after = after_to left left' s c' counts g.after; not_due = λ alone due. not_alone alone }

  fails_to : (c' : CallCounts) → (failed (state_of k)).counts ≡ counts_of c' k.view.turns → Fails (seat_state a) (seat_state b) → Fails (state_of k) (share_of table last.0 c')
  fails_to c' counts f = record {
    after = after_to (failed (seat_state a)) (failed (state_of k)) failed_same c' counts f.after;
    due = ((λ none. f.due.0 (m.from.continues.listed ∙ none)), (λ alone. absurd (not_alone alone)));
  }

  -- the region takes no turns
  no_turn : {A : Type 0} → IsTurnedAway (seat_state a) (seat_state b) → A
  no_turn {A} t = absurd (turns t.takes_turns)
    where
      turns : true ≡ false → ⊥
      turns e = cc

  module _ (c c' : CallCounts) (same : c ≡ k.counts) where
    counted : (f : CallCounts → CallCounts) → c' ≡ f c → counts_of (f k.counts) k.view.turns ≡ counts_of c' k.view.turns
    counted f is = sym (ap (λ c. counts_of c k.view.turns) (is ∙ ap f same))

    stops_by : (stop : ShareStop) → c' ≡ counts_after_stop stop c → Stops stop (seat_state a) (seat_state b) → Stops stop (state_of k) (share_of table last.0 c')
    stops_by Failed is s = fails_to c' (counted (counts_after_stop Failed) is) s
    stops_by Turn is s = no_turn s
    stops_by Memory is s = absurd s
    stops_by JournalFull is s = absurd s

    pub stops_on : {T : Type 0} (result : Result T ShareStop) → IfErr result (λ stop. c' ≡ counts_after_stop stop c) → IfErr result (λ stop. Stops stop (seat_state a) (seat_state b)) →
        IfErr result (λ stop. Stops stop (state_of k) (share_of table last.0 c'))
    stops_on (Ok x) is s = s
    stops_on (Err stop) is s = stops_by stop is s

    pub stops_store : {T : Type 0} (result : Result T Unstored) (P : Unstored → Type 0) → IfErr result (λ u. c' ≡ counts_after_stop u.stop c) → IfErr result (λ u. P u × Stops u.stop (seat_state a) (seat_state b)) →
        IfErr result (λ u. P u × Stops u.stop (state_of k) (share_of table last.0 c'))
    stops_store (Ok x) P is s = s
    stops_store (Err u) P is s = (s.0, stops_by u.stop is s.1)

    pub ok_loaded : {T : Type 0} (result : Result T ShareStop) → OnOk result (c' ≡ record c { loads = one_more c.loads }) → OnOk result (Goes (loaded (seat_state a)) (seat_state a) (seat_state b)) →
        OnOk result (Goes (loaded (state_of k)) (state_of k) (share_of table last.0 c'))
    ok_loaded (Ok x) is g = goes_to (loaded (seat_state a)) (loaded (state_of k)) loaded_same c' (counted (λ c. record c { loads = one_more c.loads }) is) g
    ok_loaded (Err stop) is g = g

    pub ok_called : {T E : Type 0} (result : Result T E) (left left' : Left) → SameLeft left left' → left'.counts ≡ counts_of k.counts k.view.turns → OnOk result (c' ≡ c) → OnOk result (Goes left (seat_state a) (seat_state b)) →
        OnOk result (Goes left' (state_of k) (share_of table last.0 c'))
    ok_called (Ok x) left left' s counts is g = goes_to left left' s c' (counts ∙ counted (λ c. c) is) g
    ok_called (Err e) left left' s counts is g = g

    -- the same words of the death are torn
    torn_same : (by : Option TornStore) (word : Option TornWord) → MayTearAt by (state_of k) → word ≡ torn_word (region_after a.region.start a.region.past) by → word ≡ torn_word (region_after k.view.about.start k.view.seen) by
    torn_same None word may is = is
    torn_same (Some t) word may is = is ∙ ap (λ (r : Region). torn_word r (Some t)) (region_same k.view a m.known m.from may.0)

    pub ok_dies : {T : Type 0} (result : Result T ShareStop) (by : Option TornStore) → MayTearAt by (state_of k) → OnOk result (c' ≡ c) → OnOk result (Dies by (seat_state a) (seat_state b)) →
        OnOk result (Dies by (state_of k) (share_of table last.0 c'))
    ok_dies (Ok x) by may is d = record {
      left = d.left;
      torn = torn_same by d.left may d.torn;
      goes = goes_to (died d.left (seat_state a)) (died d.left (state_of k)) (died_same d.left) c' (counted (λ c. c) is) d.goes;
    }
    ok_dies (Err stop) by may is d = d

    -- nobody else holds exclusive while this opener holds a lock
    module _ (left : Left) (after : After left (seat_state a) (seat_state b)) where
      holder_has_room : lock_after b.region.past b.who ≢ None → HasRoom (seat_state b) → HasRoom (share_of table last.0 c')
      holder_has_room some has = to_last c' HasRoom (room_same k.view a b m.known m.from left after (none_beside k.view a b m.known m.from left after some) k.table c' has)

      holder_is_full : (asked : ℕ) → lock_after b.region.past b.who ≢ None → IsFull asked (seat_state b) → IsFull asked (share_of table last.0 c')
      holder_is_full asked some full = to_last c' (IsFull asked) (full_same k.view a b m.known m.from left after (none_beside k.view a b m.known m.from left after some) k.table c' asked full)

      who_same : b.who ≡ k.view.who
      who_same = after.same.who ∙ m.from.who

      free_to : (kind : LockKind) → IsFree kind (seat_state b) → IsFree kind (share_of table last.0 c')
      free_to kind free = to_last c' (IsFree kind) (subst (λ w. MayTake (locks_after b.region.past) w kind) who_same free)

      free_is_full : (asked : ℕ) (kind : LockKind) → IsFree kind (seat_state b) → IsFull asked (seat_state b) → IsFull asked (share_of table last.0 c')
      free_is_full asked kind free full = to_last c' (IsFull asked) (full_same k.view a b m.known m.from left after (λ w _. none_against (locks_after b.region.past) b.who kind free w) k.table c' asked full)

      least_to : (kind : LockKind) (holder : ℕ) → IsLeastAgainst (locks_after b.region.past) b.who kind holder → OnTold (share_of table last.0 c').told (λ h. IsLeastAgainst (locks_after h.past) (share_of table last.0 c').who kind holder)
      least_to kind holder least = to_last c' (λ s. OnTold s.told (λ h. IsLeastAgainst (locks_after h.past) s.who kind holder)) (subst (λ w. IsLeastAgainst (locks_after b.region.past) w kind holder) who_same least)

    exclusive_some : (o : Option LockKind) (kind : LockKind) → o ≡ Some kind → o ≢ None
    exclusive_some o kind is none = clash (sym is ∙ none)
      where
        clash : Some kind ≡ None → ⊥
        clash e = cc

    pub room_reserved : {T : Type 0} (result : Result T ShareStop) (events size : ℕ) → (state_of k).holds ≡ Some Exclusive → OnOk result (Goes (reserving events size (seat_state a)) (seat_state a) (seat_state b)) →
        OnOk result (HasRoom (seat_state b)) → OnOk result (HasRoom (share_of table last.0 c'))
    room_reserved (Ok x) events size mine g has =
        holder_has_room (reserving events size (seat_state a)) g.after (exclusive_some (lock_after b.region.past b.who) Exclusive (g.after.holds ∙ sym holds_same ∙ mine)) has
    room_reserved (Err stop) events size mine g has = has

    stops_reserving_by : (events : ℕ) (stop : ShareStop) → (state_of k).holds ≡ Some Exclusive → c' ≡ counts_after_stop stop c → StopsReserving events stop (seat_state a) (seat_state b) →
        StopsReserving events stop (state_of k) (share_of table last.0 c')
    stops_reserving_by events Failed mine is s = stops_by Failed is s
    stops_reserving_by events Turn mine is s = no_turn s
    stops_reserving_by events Memory mine is s = goes_to (unmoved (seat_state a)) (unmoved (state_of k)) unmoved_same c' (counted (λ c. c) is) s
    stops_reserving_by events JournalFull mine is s = (
      goes_to (unmoved (seat_state a)) (unmoved (state_of k)) unmoved_same c' (counted (λ c. c) is) s.0,
      holder_is_full (unmoved (seat_state a)) s.0.after events (exclusive_some (lock_after b.region.past b.who) Exclusive (s.0.after.holds ∙ sym holds_same ∙ mine)) s.1,
    )

    pub stops_reserving : {T : Type 0} (result : Result T ShareStop) (events : ℕ) → (state_of k).holds ≡ Some Exclusive → IfErr result (λ stop. c' ≡ counts_after_stop stop c) →
        IfErr result (λ stop. StopsReserving events stop (seat_state a) (seat_state b)) → IfErr result (λ stop. StopsReserving events stop (state_of k) (share_of table last.0 c'))
    stops_reserving (Ok x) events mine is s = s
    stops_reserving (Err stop) events mine is s = stops_reserving_by events stop mine is s

    tries_by : (kind : LockKind) (tried : Tried) → c' ≡ counts_after_try tried c → Tries kind tried (seat_state a) (seat_state b) → Tries kind tried (state_of k) (share_of table last.0 c')
    tries_by kind Taken is t = (
      goes_to (locked kind (seat_state a)) (locked kind (state_of k)) (locked_same kind) c' (counted (λ c. c) is) t.0,
      holder_has_room (locked kind (seat_state a)) t.0.after (exclusive_some (lock_after b.region.past b.who) kind t.0.after.holds) t.1,
    )
    tries_by kind (Busy holder) is t = (
      goes_to (refused (seat_state a)) (refused (state_of k)) refused_same c' (counted (counts_after_try (Busy holder)) is) t.0,
      least_to (refused (seat_state a)) t.0.after kind holder t.1,
    )

    pub ok_tried : (result : Result Tried ShareStop) (kind : LockKind) → IfOk result (λ tried. c' ≡ counts_after_try tried c) → IfOk result (λ tried. Tries kind tried (seat_state a) (seat_state b)) →
        IfOk result (λ tried. Tries kind tried (state_of k) (share_of table last.0 c'))
    ok_tried (Ok tried) kind is t = tries_by kind tried is t
    ok_tried (Err stop) kind is t = t

    stops_trying_by : (kind : LockKind) (stop : ShareStop) → c' ≡ counts_after_stop stop c → StopsTrying kind stop (seat_state a) (seat_state b) → StopsTrying kind stop (state_of k) (share_of table last.0 c')
    stops_trying_by kind Failed is s = stops_by Failed is s
    stops_trying_by kind Turn is s = no_turn s
    stops_trying_by kind Memory is s = (
      goes_to (unmoved (seat_state a)) (unmoved (state_of k)) unmoved_same c' (counted (λ c. c) is) s.0,
      free_to (unmoved (seat_state a)) s.0.after kind s.1,
    )
    stops_trying_by kind JournalFull is s = (
      goes_to (unmoved (seat_state a)) (unmoved (state_of k)) unmoved_same c' (counted (λ c. c) is) s.0,
      free_is_full (unmoved (seat_state a)) s.0.after 2 kind s.2 s.1,
      free_to (unmoved (seat_state a)) s.0.after kind s.2,
    )

    pub stops_trying : (result : Result Tried ShareStop) (kind : LockKind) → IfErr result (λ stop. c' ≡ counts_after_stop stop c) → IfErr result (λ stop. StopsTrying kind stop (seat_state a) (seat_state b)) →
        IfErr result (λ stop. StopsTrying kind stop (state_of k) (share_of table last.0 c'))
    stops_trying (Ok tried) kind is s = s
    stops_trying (Err stop) kind is s = stops_trying_by kind stop is s
