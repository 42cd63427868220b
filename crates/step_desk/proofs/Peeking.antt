-- Calls on a seat that don't reach the region: peeks, and those that were refused the turn.
use Rattle.std.proofs.Common.{◌≡◌, ℕ, true, false, [], ◌++◌, refl, sym, ◌∙◌, ap, subst, ◌||◌, not}
use Rattle.atomic_table.specs.Seated.{TableId}
use Rattle.lock_rules.specs.declared.table.LockKind.{LockKind}
use Rattle.region_words.specs.Region.{record_of}
use Rattle.region_words.specs.Past.{region_after}
use Rattle.region_words.specs.Outside.{one_more}
use Rattle.region_words.specs.Share.{Goes, IsTurnedAway, Stops, StopsReserving, StopsTrying, loaded}
use Rattle.region_words.specs.declared.stops.ShareStop.{ShareStop}
use Rattle.region_words.specs.declared.stops.ShareStop.TheVariants.{Turn}
use Rattle.region_words.proofs.Later.{lock_others, died_others}
use Rattle.step_desk.specs.declared.counts.CallCounts.{CallCounts}
use Rattle.step_desk.specs.declared.view.View.{View}
use Rattle.step_desk.specs.Mirrors.{checksum_after, sequence_after}
use Rattle.step_desk.specs.Rule.{is_admitted}
use Rattle.step_desk.specs.Steps.{M, having_seen, Looked, turned_away}
use Rattle.step_desk.specs.Passes.{IsKnown, PassIs, PassState, share_of, state_of, counts_of}
use Rattle.step_desk.proofs.Keeping.{known_later}
use Rattle.step_desk.proofs.Called.{is_sound}

not_alone : false ≡ true → ⊥
not_alone e = cc

-- a call that was refused the turn
turned : (table : TableId) (v : View) (c : CallCounts) → IsKnown v → IsTurnedAway (share_of table v c) (share_of table (turned_away v) c)
turned table v c known = record {
  after = record {
    same = record { who = refl; alone = refl; turnless = refl; fails = refl; tag = refl; admitted = λ w. refl; reserved = λ w apart. refl; room = λ w apart. refl };
    holds = refl;
    ended = refl;
    places = refl;
    room = refl;
    counts = refl;
    calls = λ alone. absurd (not_alone alone);
    told = record { start = refl; others = []; by_others = tt; none = λ alone. refl; past = refl };
    sound = is_sound table (turned_away v) c (record { maker = known.maker; region = known.region; lawful = known.lawful; unreserved = known.unreserved; hands = known.hands });
  };
  takes_turns = refl;
}

-- by the pass before and after it
module _ (me new : M) (k : PassState) (who number : ℕ) (here table : TableId) (counts c' : CallCounts) (stop : ShareStop) (is : ◌≡◌ {A = PassState} (record { table = here; view = me.0; counts = counts }) k) (pass : PassIs me who number)
    (same : table ≡ here) (counted : c' ≡ counts) (turn : stop ≡ Turn) (view : new ≡ (turned_away me.0, me.1)) where
  turned_by : IsTurnedAway (state_of k) (share_of table new.0 c')
  turned_by =
      subst (λ (q : PassState). IsTurnedAway (state_of q) (share_of table new.0 c')) is
      (subst (λ (t : TableId × M × CallCounts). IsTurnedAway (share_of here me.0 counts) (share_of t.0 t.1.0 t.2)) (λ i. (sym same i, sym view i, sym counted i))
      (turned here me.0 counts pass.known))

  pub turned_stop : Stops stop (state_of k) (share_of table new.0 c')
  turned_stop = subst (λ (s : ShareStop). Stops s (state_of k) (share_of table new.0 c')) (sym turn) turned_by

  pub turned_reserving : (events : ℕ) → StopsReserving events stop (state_of k) (share_of table new.0 c')
  turned_reserving events = subst (λ (s : ShareStop). StopsReserving events s (state_of k) (share_of table new.0 c')) (sym turn) turned_by

  pub turned_trying : (kind : LockKind) → StopsTrying kind stop (state_of k) (share_of table new.0 c')
  turned_trying kind = subst (λ (s : ShareStop). StopsTrying kind s (state_of k) (share_of table new.0 c')) (sym turn) turned_by

-- a peek
module _ (me new : M) (k : PassState) (who number : ℕ) (here table : TableId) (counts c' : CallCounts) (is : ◌≡◌ {A = PassState} (record { table = here; view = me.0; counts = counts }) k) (pass : PassIs me who number) (l : Looked me new) where
  peeked : c' ≡ record counts { loads = one_more counts.loads } → Goes (loaded (share_of here me.0 counts)) (share_of here me.0 counts) (share_of here (having_seen me.0 (l.later ++ me.0.seen)) c')
  peeked counted = record {
    after = record {
      same = record { who = refl; alone = refl; turnless = refl; fails = refl; tag = refl; admitted = λ w. refl; reserved = λ w apart. refl; room = λ w apart. refl };
      holds = lock_others me.0.about.start l.later me.0.seen me.0.who l.lawful l.others;
      ended = ap (λ d. not (is_admitted me.0.about me.0.who) || d) (died_others l.later me.0.seen me.0.who l.others);
      places = refl;
      room = refl;
      counts = ap (λ c. counts_of c me.0.turns) counted;
      calls = λ alone. absurd (not_alone alone);
      told = record { start = refl; others = l.later; by_others = l.others; none = λ alone. absurd (not_alone alone); past = refl };
      sound = is_sound here (having_seen me.0 (l.later ++ me.0.seen)) c' (known_later me.0 l.later pass.known l.others l.lawful);
    };
    not_due = λ alone due. not_alone alone;
  }

  pub peek_goes : table ≡ here → c' ≡ record counts { loads = one_more counts.loads } → Goes (loaded (state_of k)) (state_of k) (share_of table new.0 c')
  peek_goes same counted =
      subst (λ (q : PassState). Goes (loaded (state_of q)) (state_of q) (share_of table new.0 c')) is
      (subst (λ (t : TableId × M). Goes (loaded (share_of here me.0 counts)) (share_of here me.0 counts) (share_of t.0 t.1.0 c')) (λ i. (sym same i, sym l.view i)) (peeked counted))

-- the words that were peeked at are those of the journal that the seat then tells
pub checksum_told : (me new : M) (x : ℕ) → Looked me new → x ≡ checksum_after me.0.about.start new.0.seen → x ≡ (record_of (region_after new.0.about.start new.0.seen)).checksum
unfolding checksum_after
checksum_told me new x l is = is ∙ ap (λ (m : M). (record_of (region_after m.0.about.start new.0.seen)).checksum) (sym l.view)

pub sequence_told : (me new : M) (x : ℕ) → Looked me new → x ≡ sequence_after me.0.about.start new.0.seen → x ≡ (record_of (region_after new.0.about.start new.0.seen)).sequence
unfolding sequence_after
sequence_told me new x l is = is ∙ ap (λ (m : M). (record_of (region_after m.0.about.start new.0.seen)).sequence) (sym l.view)
