-- A line of steps is taken, or ends the play.
use Rattle.std.proofs.Common.{◌≡◌, ◌≢◌, ℕ, zero, suc, ◌+◌, ◌-◌, ◌<◌, ◌≤◌, ◌⊎◌, Bool, true, false, not, eqb, List, [], ◌∷◌, ◌++◌, length, set, refl, sym, ap, ◌∙◌, inl, inr, arith, subst, append-nil}
use Rattle.std.proofs.lemmas.Bool.Decides.{eqb_tells, nat_tests}
use Rattle.std.proofs.lemmas.List.{length-set}
use Rattle.std.proofs.lemmas.List.Concat.{flat_map-append}
use Rattle.std.specs.Prelude.{All, Option, Some, None, IfErr, IsTrue, OnOk, Result, Ok, Err, flat_map, nat_le, option_map, slice_get, ◌&&◌}
use Rattle.change_log.specs.Settled.{AreEndedBy}
use Rattle.handlers.specs.declared.handler.Strategy.{Strategy}
use Rattle.opener.specs.Opener.{OnAnswer, IsAnswer}
use Rattle.opener.specs.Settles.{answers_by}
use Rattle.opener.specs.State.{OpenerState}
use Rattle.opener.specs.declared.calls.Step.TheVariants as step
use Rattle.opener.specs.declared.calls.Stop.{Stop}
use Rattle.opener.specs.declared.calls.Stop.TheVariants as stop
use Rattle.region_words.specs.Apart.{Apart}
use Rattle.region_words.specs.Lawful.{Lawful}
use Rattle.region_words.specs.Past.{changes_of, has_died, region_after}
use Rattle.region_words.specs.Region.{Region, file_size}
use Rattle.region_words.specs.Share.{most_events}
use Rattle.region_words.specs.declared.event.Event.{Event}
use Rattle.script_lang.specs.Texts.{outcome_line}
use Rattle.script_lang.specs.declared.line.Line.TheVariants.{Step as StepLine}
use Rattle.world.specs.World.{IsSound, Lives}
use Rattle.world.specs.Moves.{IsSaid}
use Rattle.world.specs.declared.moves.Moved.{Moved}
use Rattle.world.specs.declared.moves.Moved.TheVariants as moved
use Rattle.world.proofs.Numbered.{set_elsewhere, set_is}
use Rattle.world.proofs.Turns.{holds_exclusive}
use Rattle.std.proofs.lemmas.Bool.{cases_lt}
use Rattle.std.proofs.lemmas.List.Elements.{All-nil}
use Rattle.change_log.specs.declared.change.Change.{Change}
use Rattle.lock_rules.specs.declared.table.LockKind.TheVariants.{Exclusive}
use Rattle.opener.specs.Opener.{Tied, is_ended}
use Rattle.region_words.specs.Local.{account_of, lock_after}
use Rattle.world.specs.World.{share_of}
use Rattle.mmkv_top.proofs.Marking.{line_marked, line_marks, none_marked, own_marks}
use Rattle.mmkv_top.proofs.Stepping.{right_false}
use Rattle.mmkv_top.specs.State.{PlayState}
use Rattle.mmkv_top.specs.declared.halt.Halt.{Halt}
use Rattle.mmkv_top.specs.declared.halt.Halt.TheVariants as halt
use Rattle.script_lang.specs.Parts.{Part, answers_in, asked_of, going_on, holds_of, listed, lives as living, outcomes_of, past_of, running, Running, strategies}
use Rattle.script_lang.specs.Journal.{AreAnswered, CanTake}
use Rattle.script_lang.specs.Played.{MetFullJournal, MetNoImage, Stock, drawn, places_after, stocked}
use Rattle.mmkv_top.specs.Progress.{AreEarlier, CameTo, FollowsWork, FoundIs, FoundSaw, HaltsBy, HasHalted, HasMarked, HasStored, IsAt, IsLeft, IsNobody, IsOpenTo, IsOpened, IsTextOf, IsUnopened, IsUnsaid, LeavesFewer, MetFull, Notes, SawNoImage, StopSaw, StoppedFull, StoppedIs, StoppedSaw, Stepped, Takes, TakesOne, Walks, seat_at}
use Rattle.mmkv_top.proofs.Histories.{history_of, shown_of}
use Rattle.mmkv_top.proofs.InTime.{in_time, line_bounded}
use Rattle.mmkv_top.proofs.LineEnds.{LineEnds, Outcomes, answers_join, is_step_line, line_ends, listed_answers, outcome_is, own_outcome, said_stopped}
use Rattle.mmkv_top.proofs.NoPlaces.{opener_there, roomy}
use Rattle.script_lang.specs.Kept.{kept_after, kept_of, looked, looks_of}
use Rattle.script_lang.proofs.Calls.{going_none, running_own, still_running}
use Rattle.script_lang.proofs.Looks.{looks_own}
use Rattle.mmkv_top.specs.Looking.{HasLooked, IsLooking}
use Rattle.mmkv_top.proofs.LineLooks.{line_by_words, line_looking}
use Rattle.mmkv_top.proofs.Others.{Spares, left_other, living_left, steps_spare, unopened_other}
use Rattle.mmkv_top.proofs.Reasoning.{is_reasoned}
use Rattle.mmkv_top.proofs.Storing.{line_stored}

-- an opener within the world lives
pub lives_in : (parts : List Part) (openers : List OpenerState) (who : ℕ) (o : OpenerState) → length openers ≡ length (strategies parts) → has_died (past_of parts) who ≡ false → Lives openers who o → IsTrue (living who parts)
lives_in parts openers who o count undead lives =
    go (nat_le 1 who) (nat_le who (length (strategies parts))) (has_died (past_of parts) who) (yes 1 who lives.numbered) (yes who (length (strategies parts)) (omega (arith, lives.numbered, count, within openers (who - 1) o lives.there)))
    undead
  where
    yes : (a b : ℕ) → a ≤ b → nat_le a b ≡ true
    yes a b le = grind (arith, nat_tests)

    within : (xs : List OpenerState) (i : ℕ) (x : OpenerState) → slice_get xs i ≡ Some x → i < length xs
    within [] i x is = absurd cc
    within (y ∷ xs) zero x is = omega arith
    within (y ∷ xs) (suc i) x is = omega (arith, within xs i x is)

    go : (a b d : Bool) → a ≡ true → b ≡ true → d ≡ false → IsTrue (a && (b && not d))
    go true true false p q r = refl
    go true true true p q r = absurd cc
    go true false d p q r = absurd cc
    go false b d p q r = absurd cc

-- and hasn't died
pub alive_in : (stock left : Stock) (start : Region) (parts : List Part) (p : PlayState) (who : ℕ) (o : OpenerState) → IsSound p.world → IsAt stock left start parts p → Lives p.world.openers who o → IsTrue (living who parts)
alive_in stock left start parts p who o sound at lives = lives_in parts p.world.openers who o at.count undead lives
  where
    tied : Tied o (share_of p.world.region who)
    tied = let is : (who - 1) + 1 ≡ who = omega (arith, lives.numbered) in subst (λ w. Tied o (share_of p.world.region w)) is (sound.each (who - 1) o lives.there).tied

    undead : has_died (past_of parts) who ≡ false
    undead = ap (λ past. has_died past who) (sym at.past) ∙ right_false (not (account_of p.world.region.accounts who).admitted) (has_died p.world.region.past who) (tied.ended ∙ lives.alive)

-- the call of the line found no places
met_journal : (who : ℕ) (start : Region) (parts : List Part) (count : ℕ) → MetFull who (length (strategies parts)) start (past_of parts) (running who parts) count → MetFullJournal start parts who count
met_journal who start parts count f = record { call = f.call; runs = f.runs; made = f.made; few = f.few; own = f.own; asked = f.asked; asks = f.asks; full = f.full }

-- there is room for the events and the places kept
abbrev pub IsRoomy : ℕ → List Event → Type 0
IsRoomy opened past = length past + places_after opened past ≤ most_events

-- the opener of a number that lives is one that was opened
pub opened_at : (stock left : Stock) (start : Region) (parts : List Part) (p : PlayState) (who : ℕ) (o : OpenerState) → IsAt stock left start parts p → Lives p.world.openers who o → IsOpened start parts who o
opened_at stock left start parts p who o at lives = let is : (who - 1) + 1 ≡ who = omega (arith, lives.numbered) in subst (λ w. IsOpened start parts w o) is ((at.openers (who - 1) o lives.there).alive lives.alive)

-- an opener with a hold has the lock for itself
holds_lock : (stock left : Stock) (start : Region) (parts : List Part) (p : PlayState) → IsSound p.world → IsAt stock left start parts p → (who : ℕ) → 0 < holds_of who parts → lock_after (past_of parts) who ≡ Some Exclusive
holds_lock stock left start parts p sound at who some = go (cases_lt 0 who) (cases_lt (length (strategies parts)) who)
  where
    nobody : IsNobody (length (strategies parts)) who → lock_after (past_of parts) who ≡ Some Exclusive
    nobody is = absurd (omega (arith, some, (at.unopened who is).held))

    holder : (o : OpenerState) → IsLeft start parts who o → Tied o (share_of p.world.region who) → (b : Bool) → is_ended o.work ≡ b → lock_after (past_of parts) who ≡ Some Exclusive
    holder o left_so tied true dead = absurd (omega (arith, some, (left_so.dead dead).held))
    holder o left_so tied false alive = ap (λ past. lock_after past who) (sym at.past) ∙ tied.holds ∙ holds_exclusive o o.work refl alive (omega (arith, some, (left_so.alive alive).holds))

    go : (0 < who) ⊎ (who ≤ 0) → (length (strategies parts) < who) ⊎ (who ≤ length (strategies parts)) → lock_after (past_of parts) who ≡ Some Exclusive
    go (inr none) most = nobody (inl (omega (arith, none)))
    go (inl least) (inl far) = nobody (inr far)
    go (inl least) (inr within) =
        let there = opener_there p.world.openers (who - 1) (omega (arith, least, within, at.count)) in
        let is : who - 1 + 1 ≡ who = omega (arith, least) in
        let left_so : IsLeft start parts who there.0 = subst (λ w. IsLeft start parts w there.0) is (at.openers (who - 1) there.0 there.1) in
        let tied : Tied there.0 (share_of p.world.region who) = subst (λ w. Tied there.0 (share_of p.world.region w)) is (sound.each (who - 1) there.0 there.1).tied in
        holder there.0 left_so tied (is_ended there.0.work) refl

module _ (stock left : Stock) (start : Region) (parts : List Part) (p q : PlayState) (who count : ℕ) (o : OpenerState) (said : Moved)
    (at : IsAt stock left start parts p) (before : IsSound p.world) (lives : Lives p.world.openers who o) (op : IsOpened start parts who o) (sound : IsSound q.world)
    (walks : Walks who (length (strategies parts)) start (past_of parts) (holds_of who parts) (running who parts) o.work count said p.world q.world) where
  abbrev st : Stepped who (length (strategies parts)) start (past_of parts) (holds_of who parts) (running who parts) o.work count walks.came walks.made walks.next (seat_at who q.world.region)
  st = walks.stepped

  abbrev all : List Event
  all = walks.made ++ past_of parts

  -- what holds of the region and its events holds of the start and of these
  here : (P : Region → List Event → Type 0) → P q.world.region.start q.world.region.past → P start all
  here P h = subst (λ x. P x all) st.start_is (subst (P q.world.region.start) st.past_is h)

  count_now : length q.world.openers ≡ length (strategies parts)
  count_now = ap length walks.leaves.openers ∙ length-set p.world.openers (who - 1) walks.next ∙ at.count

  number : (who - 1) + 1 ≡ who
  number = omega (arith, lives.numbered)

  inside : 1 ≤ who
  inside = lives.numbered

  below : who ≤ length (strategies parts)
  below = omega (arith, number, at.count, within p.world.openers (who - 1) o lives.there)
    where
      within : (xs : List OpenerState) (i : ℕ) (x : OpenerState) → slice_get xs i ≡ Some x → i < length xs
      within [] i x is = absurd cc
      within (y ∷ xs) zero x is = omega arith
      within (y ∷ xs) (suc i) x is = omega (arith, within xs i x is)

  lawful : Lawful start all
  lawful = here Lawful sound.lawful

  came : CameTo who all (holds_of who parts) (option_map (going_on walks.made) (running who parts)) walks.came walks.next
  came = subst (λ x. CameTo who x (holds_of who parts) (option_map (going_on walks.made) (running who parts)) walks.came walks.next) st.past_is st.came

  looks_now : Apart start (walks.made ++ past_of parts) →
      HasLooked start (kept_of who parts) (looks_of who parts) (looked (looks_of who parts) count (past_of parts)) walks.came walks.next (option_map (going_on walks.made) (running who parts)) (walks.made ++ past_of parts)
  looks_now = walks.looking o lives (kept_of who parts) (looks_of who parts) op.looking

  module _ (more : List ℕ) (notes : IsTextOf who q.world.answers said more) (text : q.text ≡ p.text ++ more) where
    abbrev ended : Outcomes who walks.came more
    ended = outcome_is who p.world.answers q.world.answers said walks.came more walks.leaves.answers walks.is notes

    ends : LineEnds who start (past_of parts) walks.made (answers_in (outcomes_of parts)) (holds_of who parts) (running who parts) walks.next ended.outcome
    ends =
        line_ends who start (past_of parts) walks.made (answers_in (outcomes_of parts)) (holds_of who parts) walks.next at.answered at.within (running who parts) walks.came ended.outcome op.earlier
        (here (λ r past. OnAnswer walks.came (λ a. IsAnswer a r past)) st.answer) came st.stored ended.at

    abbrev grown : List Part
    grown = record { line = Some (StepLine who count); made = walks.made; outcome = ended.outcome } ∷ parts

    joined : answers_in (outcomes_of parts) ++ answers_in (listed ended.outcome) ≡ answers_in (outcomes_of (record { line = Some (StepLine who count); made = walks.made; outcome = ended.outcome } ∷ parts))
    joined = sym (answers_join (outcomes_of parts) (listed ended.outcome))

    opened_now : IsOpened start (record { line = Some (StepLine who count); made = walks.made; outcome = ended.outcome } ∷ parts) who walks.next
    opened_now =
        let same = running_own who count parts walks.made ended.outcome st.own in
        record {
          follows = subst (FollowsWork walks.next.work) (sym same) ends.follows;
          holds = ends.holds;
          earlier = subst (λ r. AreEarlier who r (answers_in (outcomes_of grown))) (sym same) (subst (AreEarlier who _) joined ends.earlier);
          bounded = line_bounded who start (past_of parts) walks.made (holds_of who parts) (asked_of who parts) count (running who parts) o.work walks.came walks.next ended.outcome op.follows lawful came op.bounded
              (here (λ r past. LeavesFewer walks.came o.work walks.next.work count (file_size (region_after r past))) st.fewer) ended.at;
          found = here (FoundIs who walks.next.work) st.found;
          saw = here (FoundSaw walks.next.work) st.saw;
          unfull = st.unfull;
          marked = subst (HasMarked who step.Going walks.next.work) (sym same)
              (line_marked who all (holds_of who parts) (option_map (going_on walks.made) (running who parts)) walks.came walks.next ended.outcome came ended.at st.marked);
          stored = subst (HasStored step.Going walks.next.work) (sym same)
              (line_stored who all (holds_of who parts) (option_map (going_on walks.made) (running who parts)) walks.came walks.next ended.outcome came ended.at st.stored);
          looking = λ apart.
              subst (IsLooking start (kept_after who all ended.outcome (kept_of who parts)) (looks_of who grown) walks.next.image walks.next.work) (sym same)
              (subst (λ l. IsLooking start (kept_after who all ended.outcome (kept_of who parts)) l walks.next.image walks.next.work (still_running ended.outcome walks.made (running who parts)))
              (sym (looks_own who count (past_of parts) (looks_of who parts)))
              (line_looking who (holds_of who parts) start all (kept_of who parts) (looks_of who parts) (looked (looks_of who parts) count (past_of parts)) (option_map (going_on walks.made) (running who parts)) walks.came walks.next
              ended.outcome came ended.at (looks_now apart)));
        }

    spares : (v : ℕ) → who ≢ v → Spares start parts (record { line = Some (StepLine who count); made = walks.made; outcome = ended.outcome }) v
    spares v n = steps_spare start parts who v count walks.made ended.outcome n st.own (own_outcome who (past_of parts) walks.made (running who parts) ended.outcome ends.ends) lawful

    each_opened : (i : ℕ) (x : OpenerState) → slice_get q.world.openers i ≡ Some x → IsLeft start (record { line = Some (StepLine who count); made = walks.made; outcome = ended.outcome } ∷ parts) (i + 1) x
    each_opened i x is = go (eqb_tells (who - 1) i)
      where
        there : slice_get (set p.world.openers (who - 1) walks.next) i ≡ Some x
        there = subst (λ l. slice_get l i ≡ Some x) walks.leaves.openers is

        go : ((eqb (who - 1) i ≡ true) × (who - 1 ≡ i)) ⊎ ((eqb (who - 1) i ≡ false) × (who - 1 ≢ i)) → IsLeft start grown (i + 1) x
        go (inl same) =
            let x_is : x ≡ walks.next = set_is p.world.openers (who - 1) o walks.next x lives.there (subst (λ n. slice_get (set p.world.openers (who - 1) walks.next) n ≡ Some x) (sym same.1) there) in
            let own : who ≡ i + 1 = sym number ∙ ap (λ n. n + 1) same.1 in
            subst (λ w. IsLeft start grown w x) own (subst (IsLeft start grown who) (sym x_is) (living_left start grown who walks.next opened_now))
        go (inr apart) =
            let n : who ≢ i + 1 = (λ e. apart.1 (omega (arith, e, number))) in
            left_other start parts _ (i + 1) (spares (i + 1) n) x (at.openers i x (sym (set_elsewhere p.world.openers (who - 1) i walks.next apart.1) ∙ there))

    nobody_else : (v : ℕ) → IsNobody (length (strategies parts)) v → IsUnopened (record { line = Some (StepLine who count); made = walks.made; outcome = ended.outcome } ∷ parts) v
    nobody_else v is = unopened_other start parts _ v (spares v (apart is)) (at.unopened v is)
      where
        apart : IsNobody (length (strategies parts)) v → who ≢ v
        apart (inl none) e = absurd (omega (arith, inside, e, none))
        apart (inr far) e = absurd (omega (arith, below, e, far))

    -- nobody else's change is marked under a hold
    line_held : (v : ℕ) → 0 < holds_of v parts → ((eqb who v ≡ true) × (who ≡ v)) ⊎ ((eqb who v ≡ false) × (who ≢ v)) → All (λ c. c.maker ≡ v) (changes_of walks.made)
    line_held v some (inl same) = subst (λ w. All (λ c. c.maker ≡ w) (changes_of walks.made)) same.1 (own_marks start walks.made (past_of parts) who lawful st.own)
    line_held v some (inr apart) =
        subst (All (λ c. c.maker ≡ v)) (sym (none_marked start walks.made (past_of parts) who v lawful apart.1 st.own (holds_lock stock left start parts p before at v some))) (All-nil (λ (c : Change). c.maker ≡ v))

    same_strategies : strategies (record { line = Some (StepLine who count); made = walks.made; outcome = ended.outcome } ∷ parts) ≡ strategies parts
    same_strategies = append-nil (strategies parts)

    answers_now : q.world.answers ≡ answers_in (outcomes_of (record { line = Some (StepLine who count); made = walks.made; outcome = ended.outcome } ∷ parts))
    answers_now =
        walks.leaves.answers ∙ ap (λ l. l ++ answers_by walks.came) at.answers
        ∙ ap (λ l. answers_in (outcomes_of parts) ++ l) (sym (listed_answers who walks.came ended.outcome ended.at)) ∙ joined

    pub steps_taken : TakesOne stock left start parts (Some (StepLine who count)) q
    steps_taken = (
      walks.made,
      ended.outcome,
      record {
        region = at.region;
        start_is = st.start_is;
        past = st.past_is;
        answers = answers_now;
        text = text ∙ ap (λ l. l ++ more) at.text ∙ ap (λ l. flat_map outcome_line (outcomes_of parts) ++ l) ended.text_is
            ∙ sym (flat_map-append outcome_line (outcomes_of parts) (listed ended.outcome));
        steady = st.steady;
        each = (
          at.each,
          (
            alive_in stock left start parts p who o before at lives,
            is_step_line who (past_of parts) walks.made count (running who parts) ended.outcome st.few st.own st.idle ends.ends
                (line_marks who all walks.made (holds_of who parts) (running who parts) walks.came walks.next ended.outcome came ended.at st.marked),
          ),
        );
        playable = (at.playable, tt);
        held = (at.held, λ v some. line_held v some (eqb_tells who v));
        in_time = (
          at.in_time,
          in_time start grown q.world.openers each_opened (λ v is. nobody_else v (subst (λ n. IsNobody n v) count_now is)),
        );
        reasoned = (
          at.reasoned,
          is_reasoned who start (record { line = Some (StepLine who count); made = walks.made; outcome = ended.outcome }) parts walks.came ended.at
              (here (StoppedIs who walks.came (running who parts)) st.stopped),
        );
        torn = (at.torn, λ w bits t is. absurd cc);
        roomy = (
          at.roomy,
          subst (λ n. IsRoomy n all) (sym (ap length same_strategies)) (subst (IsRoomy (length (strategies parts))) st.past_is (roomy q.world sound (length (strategies parts)) st.open_to (sym count_now))),
        );
        histories = (at.histories, history_of start grown q.world sound st.start_is st.past_is answers_now);
        shown = (at.shown, shown_of start grown q.world at.region sound st.start_is st.past_is answers_now);
        by_words = (at.by_words, line_by_words who count (holds_of who parts) start parts walks.made walks.came walks.next ended.outcome came ended.at looks_now);
        answered = subst (AreAnswered start all) joined ends.answered;
        within = subst (AreEndedBy (length (changes_of all))) joined ends.within;
        count = count_now ∙ sym (ap length same_strategies);
        open_to = subst (λ n. IsOpenTo n q.world.region) (sym (ap length same_strategies)) st.open_to;
        drawn = subst (λ (l : List Strategy). (s : Strategy) → stocked left s + drawn s l ≡ stocked stock s) (sym same_strategies) at.drawn;
        openers = each_opened;
        unopened = λ v is. nobody_else v (subst (λ n. IsNobody n v) (ap length same_strategies) is);
      },
    )

  -- a line whose call saw no whole image
  line_saw : (found : Stop) → walks.came ≡ step.Stopped found → IsUnsaid found → MetNoImage start parts who count
  line_saw found came_is unsaid = go (running who parts) refl (subst (λ x. CameTo who all (holds_of who parts) (option_map (going_on walks.made) (running who parts)) x walks.next) came_is came)
    where
      saw : (found : Stop) → IsUnsaid found → StopSaw found start all → SawNoImage start all
      saw (stop.NotWhole seen) unsaid h = h
      saw (stop.Version n) unsaid h = absurd h
      saw (stop.Flags n) unsaid h = absurd h
      saw stop.Fault unsaid h = absurd h
      saw stop.Memory unsaid h = absurd unsaid
      saw stop.JournalFull unsaid h = absurd unsaid
      saw (stop.Full need) unsaid h = absurd unsaid
      saw stop.SequenceEnd unsaid h = absurd unsaid
      saw stop.ExpiryOff unsaid h = absurd unsaid
      saw stop.ExpiryRange unsaid h = absurd unsaid
      saw stop.AlreadyOn unsaid h = absurd unsaid
      saw stop.AlreadyOff unsaid h = absurd unsaid

      w : SawNoImage start all
      w = saw found unsaid (subst (λ x. StoppedSaw x start all) came_is (here (StoppedSaw walks.came) st.stopped_saw))

      go : (r : Option Running) → running who parts ≡ r → CameTo who all (holds_of who parts) (option_map (going_on walks.made) r) (step.Stopped found) walks.next → MetNoImage start parts who count
      go None is came = absurd came
      go (Some r) is came =
          record { call = r; runs = is; made = walks.made; few = st.few; own = st.own; later = w.later; earlier = w.earlier; is = w.is; not_whole = w.not_whole; apart = w.apart }

  can : CanTake stock parts (Some (StepLine who count))
  can = (alive_in stock left start parts p who o before at lives, tt)

  -- a line whose last step has no text
  line_halted : (why : Halt) → HaltsBy said why → HasHalted stock start parts (Some (StepLine who count)) why
  line_halted halt.Refused halts = absurd halts.2
  line_halted halt.Memory halts = tt
  line_halted halt.JournalFull halts =
      let is : walks.came ≡ step.Stopped stop.JournalFull = said_stopped _ walks.came stop.JournalFull (subst (λ m. IsSaid (length p.world.answers) walks.came m) (halts.1 ∙ ap moved.Stopped halts.2) walks.is) in
      let met : MetFull who (length (strategies parts)) start (past_of parts) (running who parts) count = subst (λ x. StoppedFull who (length (strategies parts)) x start (past_of parts) (running who parts) count) is st.full in
      (StepLine who count, refl, can, met_journal who start parts count met)
  line_halted halt.NotWhole halts =
      let is : walks.came ≡ step.Stopped halts.0 = said_stopped _ walks.came halts.0 (subst (λ m. IsSaid (length p.world.answers) walks.came m) halts.1 walks.is) in
      (StepLine who count, refl, can, line_saw halts.0 is halts.2)

  -- what comes of the line
  pub takes_steps : {A : Type 0} (result : Result A Halt) → OnOk result (Notes who q.world.answers said p.text q.text) → IfErr result (HaltsBy said) → Takes stock left start parts (Some (StepLine who count)) q result
  takes_steps (Ok x) notes err = steps_taken notes.0 notes.1 notes.2
  takes_steps (Err why) notes err = line_halted why err

-- a line that ends the play for want of places
pub steps_halted : (stock left : Stock) (start : Region) (parts : List Part) (p : PlayState) (who count : ℕ) (o : OpenerState) (why : Halt) → IsSound p.world → IsAt stock left start parts p → Lives p.world.openers who o →
    why ≡ halt.JournalFull → MetFull who (length (strategies parts)) start (past_of parts) (running who parts) count → HasHalted stock start parts (Some (StepLine who count)) why
steps_halted stock left start parts p who count o why sound at lives is met =
    subst (HasHalted stock start parts (Some (StepLine who count))) (sym is)
    (StepLine who count, refl, (alive_in stock left start parts p who o sound at lives, tt), met_journal who start parts count met)

-- a line of steps begins here
first_step : (stock left : Stock) (start : Region) (parts : List Part) (p : PlayState) (who : ℕ) (o : OpenerState) → IsSound p.world → IsAt stock left start parts p → Lives p.world.openers who o →
    Stepped who (length (strategies parts)) start (past_of parts) (holds_of who parts) (running who parts) o.work 0 step.Going [] o (seat_at who p.world.region)
first_step stock left start parts p who o sound at lives =
    let op = opened_at stock left start parts p who o at lives in
    let back : (P : Region → List Event → Type 0) → P start (past_of parts) → P p.world.region.start p.world.region.past = (λ P h. subst (λ x. P x p.world.region.past) (sym at.start_is) (subst (P start) (sym at.past) h)) in
    let is : (who - 1) + 1 ≡ who = omega (arith, lives.numbered) in
    record {
      few = omega arith;
      own = tt;
      idle = λ none. refl;
      number = (sound.each (who - 1) o lives.there).number ∙ is;
      seat = refl;
      start_is = at.start_is;
      past_is = at.past;
      steady = at.steady;
      answer = tt;
      came = (subst (FollowsWork o.work) (sym (going_none (running who parts))) op.follows, op.holds);
      fewer = λ words fits. omega arith;
      found = back (FoundIs who o.work) op.found;
      stopped = tt;
      open_to = at.open_to;
      saw = back (FoundSaw o.work) op.saw;
      stopped_saw = tt;
      unfull = op.unfull;
      full = tt;
      stored = subst (HasStored step.Going o.work) (sym (going_none (running who parts))) op.stored;
      marked = subst (HasMarked who step.Going o.work) (sym (going_none (running who parts))) op.marked;
    }

-- what comes of a line of steps that were walked
module _ (stock left : Stock) (start : Region) (parts : List Part) (p : PlayState) (who count : ℕ) (o : OpenerState) (sound : IsSound p.world) (at : IsAt stock left start parts p) (lives : Lives p.world.openers who o) where
  begins : Stepped who (length p.world.openers) start (past_of parts) (holds_of who parts) (running who parts) o.work 0 step.Going [] o (seat_at who p.world.region)
  begins =
      subst (λ n. Stepped who n start (past_of parts) (holds_of who parts) (running who parts) o.work 0 step.Going [] o (seat_at who p.world.region)) (sym at.count)
      (first_step stock left start parts p who o sound at lives)

  pub takes_line : {A : Type 0} (q : PlayState) (said : Moved) (result : Result A Halt) → IsSound q.world →
      ((start : Region) (past : List Event) (held : ℕ) (before : Option Running) → Stepped who (length p.world.openers) start past held before o.work 0 step.Going [] o (seat_at who p.world.region) →
      Walks who (length p.world.openers) start past held before o.work count said p.world q.world) →
      OnOk result (Notes who q.world.answers said p.text q.text) → IfErr result (HaltsBy said) → Takes stock left start parts (Some (StepLine who count)) q result
  takes_line q said result after walks notes err =
      let walked = walks start (past_of parts) (holds_of who parts) (running who parts) begins in
      takes_steps stock left start parts p q who count o said at sound lives (opened_at stock left start parts p who o at lives) after
      (subst (λ n. Walks who n start (past_of parts) (holds_of who parts) (running who parts) o.work count said p.world q.world) at.count walked) result notes err

  pub halts_line : (why : Halt) → why ≡ halt.JournalFull →
      ((start : Region) (past : List Event) (held : ℕ) (before : Option Running) → Stepped who (length p.world.openers) start past held before o.work 0 step.Going [] o (seat_at who p.world.region) →
      MetFull who (length p.world.openers) start past before count) → HasHalted stock start parts (Some (StepLine who count)) why
  halts_line why is met =
      steps_halted stock left start parts p who count o why sound at lives is
      (subst (λ n. MetFull who n start (past_of parts) (running who parts) count) at.count (met start (past_of parts) (holds_of who parts) (running who parts) begins))
