-- A line that begins a call, or names nothing.
use Rattle.std.proofs.Common.{◌≡◌, ◌≢◌, ℕ, zero, suc, ◌+◌, ◌-◌, ◌<◌, ◌≤◌, ◌⊎◌, Bool, true, false, not, ◌||◌, eqb, List, [], ◌∷◌, ◌++◌, length, set, refl, sym, ap, ◌∙◌, inl, inr, arith, subst, append-nil, eq-eqb}
use Rattle.std.proofs.lemmas.Bool.Decides.{eqb_tells, nat_tests}
use Rattle.std.proofs.lemmas.List.{length-set}
use Rattle.std.specs.Prelude.{Option, Some, None, IfSome, IsTrue, flat_map, nat_le, option_map, slice_get, ◌&&◌, ◌==◌, if◌then◌else◌}
use Rattle.std.proofs.lemmas.List.Elements.{All-nil}
use Rattle.change_log.specs.declared.change.Change.{Change}
use Rattle.change_log.specs.declared.call.Call.{Call as Asked}
use Rattle.change_log.specs.Settled.{AreEndedBy}
use Rattle.handlers.specs.declared.handler.Strategy.{Strategy}
use Rattle.opener.specs.Begins.{Begins, call_refusal, refusal_at}
use Rattle.opener.specs.Opener.{Tied, is_ended}
use Rattle.opener.specs.State.{OpenerState}
use Rattle.opener.specs.declared.calls.Stop.TheVariants as stop
use Rattle.opener.specs.declared.calls.Step.TheVariants as step
use Rattle.opener.specs.declared.work.Work.{Work}
use Rattle.opener.specs.declared.work.Work.TheVariants.{Idle, Ended, Runs}
use Rattle.region_words.specs.Local.{Local, account_of}
use Rattle.region_words.specs.Past.{changes_of, has_died, region_after}
use Rattle.region_words.specs.Region.{Region, file_size}
use Rattle.region_words.specs.declared.event.Event.{Event}
use Rattle.script_lang.specs.Texts.{outcome_line}
use Rattle.script_lang.specs.declared.line.Line.{Line}
use Rattle.script_lang.specs.declared.line.Line.TheVariants.{Begin, Die, Step as StepLine}
use Rattle.world.specs.World.{IsSound, Lives, share_of}
use Rattle.world.specs.Moves.{BeginsCall, IsNotBegun}
use Rattle.world.specs.declared.stops.WorldStop.{WorldStop}
use Rattle.world.specs.declared.stops.WorldStop.TheVariants as begin
use Rattle.world.proofs.Numbered.{set_elsewhere, set_is}
use Rattle.mmkv_top.specs.Halting.{of_begin}
use Rattle.mmkv_top.specs.State.{PlayState}
use Rattle.script_lang.specs.Parts.{going_on, Part, answers_in, asked_of, lives, opened_by, outcomes_of, past_of, running, Running, strategies}
use Rattle.script_lang.specs.Journal.{AreAnswered, IsPlayableLine}
use Rattle.script_lang.specs.Played.{IsPartOf, Stock, drawn, stocked}
use Rattle.mmkv_top.specs.Progress.{AreEarlier, FollowsWork, HasHalted, HasMarked, HasStored, IsAt, IsBounded, IsLeft, IsNobody, IsOpenTo, IsOpened, IsUnopened, StopSaw, TakesOne}
use Rattle.mmkv_top.proofs.Histories.{history_of, shown_of}
use Rattle.mmkv_top.proofs.Answering.{earlier_now}
use Rattle.mmkv_top.proofs.InTime.{begin_bounded, in_time}
use Rattle.mmkv_top.proofs.NoPlaces.{opener_there, roomy}
use Rattle.script_lang.specs.Kept.{kept_of, looks_of}
use Rattle.script_lang.proofs.Calls.{begin_asked, begin_other}
use Rattle.script_lang.proofs.Looks.{looks_begin, looks_begin_other}
use Rattle.mmkv_top.specs.Looking.{IsLooking}
use Rattle.mmkv_top.proofs.LineLooks.{begun_looking}
use Rattle.mmkv_top.proofs.Others.{Spares, left_other, living_left, quiet_spares, unopened_other}
use Rattle.mmkv_top.proofs.Reasoning.{begin_found, begun_stopless, quiet_reasoned}
use Rattle.mmkv_top.proofs.Marking.{begun_marked}
use Rattle.mmkv_top.proofs.Storing.{begun_stored}
use Rattle.mmkv_top.proofs.Walked.{IsRoomy, alive_in, opened_at}

-- A line that makes nothing was taken, and left the world so.
pub record Quiet (stock left left' : Stock) (start : Region) (parts : List Part) (line : Option Line) (p q : PlayState) : Type 0 where
  pub sound : IsSound q.world
  pub start_is : q.world.region.start ≡ p.world.region.start
  pub past : q.world.region.past ≡ p.world.region.past
  pub listed : q.world.region.failing.listed ≡ p.world.region.failing.listed
  pub answers : q.world.answers ≡ p.world.answers
  pub text : q.text ≡ p.text
  pub may : IsPartOf stock parts line [] None
  pub playable : IsPlayableLine line
  pub stepless : (w n : ℕ) → line ≢ Some (StepLine w n)
  pub deathless : (w : ℕ) (bits : Option ℕ) → line ≢ Some (Die w bits)
  pub count : length q.world.openers ≡ length (strategies (record { line = line; made = []; outcome = None } ∷ parts))
  pub open_to : IsOpenTo (length (strategies (record { line = line; made = []; outcome = None } ∷ parts))) q.world.region
  pub drawn : (s : Strategy) → stocked left' s + drawn s (strategies (record { line = line; made = []; outcome = None } ∷ parts)) ≡ stocked stock s
  pub openers : (i : ℕ) (o : OpenerState) → slice_get q.world.openers i ≡ Some o → IsLeft start (record { line = line; made = []; outcome = None } ∷ parts) (i + 1) o
  pub unopened : (who : ℕ) → IsNobody (length (strategies (record { line = line; made = []; outcome = None } ∷ parts))) who → IsUnopened (record { line = line; made = []; outcome = None } ∷ parts) who

pub quiet_taken : (stock left left' : Stock) (start : Region) (parts : List Part) (line : Option Line) (p q : PlayState) → IsAt stock left start parts p → Quiet stock left left' start parts line p q →
    TakesOne stock left' start parts line q
quiet_taken stock left left' start parts line p q at k = (
  [],
  None,
  record {
    region = at.region;
    start_is = k.start_is ∙ at.start_is;
    past = k.past ∙ at.past;
    answers = k.answers ∙ at.answers ∙ same_answers;
    text = k.text ∙ at.text ∙ sym (ap (flat_map outcome_line) (append-nil (outcomes_of parts)));
    steady = k.listed ∙ at.steady;
    each = (at.each, k.may);
    playable = (at.playable, k.playable);
    held = (at.held, λ who some. All-nil (λ (c : Change). c.maker ≡ who));
    in_time = (at.in_time, in_time start grown q.world.openers k.openers (λ who is. k.unopened who (subst (λ n. IsNobody n who) k.count is)));
    reasoned = (at.reasoned, quiet_reasoned start (record { line = line; made = []; outcome = None }) parts refl);
    roomy = (at.roomy, subst (IsRoomy (length (strategies grown))) (k.past ∙ at.past) (roomy q.world k.sound (length (strategies grown)) k.open_to (sym k.count)));
    histories = (at.histories, history_of start grown q.world k.sound (k.start_is ∙ at.start_is) (k.past ∙ at.past) (k.answers ∙ at.answers ∙ same_answers));
    shown = (at.shown, shown_of start grown q.world at.region k.sound (k.start_is ∙ at.start_is) (k.past ∙ at.past) (k.answers ∙ at.answers ∙ same_answers));
    answered = subst (AreAnswered start (past_of parts)) same_answers at.answered;
    torn = (at.torn, λ w bits t is. absurd (k.deathless w bits is));
    by_words = (at.by_words, λ w n c step. absurd (k.stepless w n step));
    within = subst (AreEndedBy (length (changes_of (past_of parts)))) same_answers at.within;
    count = k.count;
    open_to = k.open_to;
    drawn = k.drawn;
    openers = k.openers;
    unopened = k.unopened;
  },
)
  where
    grown : List Part
    grown = record { line = line; made = []; outcome = None } ∷ parts

    same_answers : answers_in (outcomes_of parts) ≡ answers_in (outcomes_of (record { line = line; made = []; outcome = None } ∷ parts))
    same_answers = sym (ap answers_in (append-nil (outcomes_of parts)))

-- Where the line opens nobody, the strategies stay.
module _ (stock left : Stock) (start : Region) (parts : List Part) (line : Option Line) (none : opened_by line ≡ []) where
  still : strategies (record { line = line; made = []; outcome = None } ∷ parts) ≡ strategies parts
  still = ap (λ l. strategies parts ++ l) none ∙ append-nil (strategies parts)

  drawn_still : ((s : Strategy) → stocked left s + drawn s (strategies parts) ≡ stocked stock s) →
      (s : Strategy) → stocked left s + drawn s (strategies (record { line = line; made = []; outcome = None } ∷ parts)) ≡ stocked stock s
  drawn_still was = subst (λ (l : List Strategy). (s : Strategy) → stocked left s + drawn s l ≡ stocked stock s) (sym still) was

-- a line that names nothing
pub nothing_taken : (stock left : Stock) (start : Region) (parts : List Part) (p : PlayState) (line : Option Line) → line ≡ None → IsSound p.world → IsAt stock left start parts p →
    TakesOne stock left start parts line p
nothing_taken stock left start parts p line none sound at =
    subst (λ l. TakesOne stock left start parts l p) (sym none)
    (quiet_taken stock left left start parts None p p at
    (record {
      sound = sound;
      start_is = refl;
      past = refl;
      listed = refl;
      answers = refl;
      text = refl;
      may = (refl, refl);
      playable = tt;
      stepless = λ w n e. absurd cc;
      deathless = λ w bits e. absurd cc;
      count = at.count ∙ sym (ap length kept);
      open_to = subst (λ n. IsOpenTo n p.world.region) (sym (ap length kept)) at.open_to;
      drawn = drawn_still stock left start parts None refl at.drawn;
      openers = λ i o is. left_other start parts _ (i + 1) (quiet_spares start parts None (i + 1) refl refl refl refl) o (at.openers i o is);
      unopened = λ who is. unopened_other start parts _ who (quiet_spares start parts None who refl refl refl refl) (at.unopened who (subst (λ n. IsNobody n who) (ap length kept) is));
    }))
  where
    kept : strategies (record { line = None; made = []; outcome = None } ∷ parts) ≡ strategies parts
    kept = still stock left start parts None refl

-- A call was begun.
idle_where : (work : Work) (call : Asked) (holds : ℕ) (r : Option Running) → FollowsWork work r → refusal_at work call holds ≡ None → (r ≡ None) × (call_refusal call holds ≡ None)
idle_where Idle call holds None follows none = (refl, none)
idle_where Idle call holds (Some r) follows none = absurd follows
idle_where Ended call holds r follows none = absurd cc
idle_where (Runs c at) call holds r follows none = absurd cc

begun_follows : (call : Asked) (now n : ℕ) (past : List Event) (old new : OpenerState) → n ≡ length (changes_of past) → Begins call now n old new →
    FollowsWork new.work (Some (record { call = call; now = now; past = past; since = [] }))
begun_follows call now n past old new is b =
    subst (λ (x : OpenerState). FollowsWork x.work (Some (record { call = call; now = now; past = past; since = [] }))) (sym b.work)
    (record { call = refl; moment = refl; begun = is; stores = refl; locks = refl })

module _ (stock left : Stock) (start : Region) (parts : List Part) (p q : PlayState) (who now : ℕ) (call : Asked) (o next : OpenerState) (before : IsSound p.world) (sound : IsSound q.world)
    (at : IsAt stock left start parts p) (b : BeginsCall who call now o next p.world q.world) (text : q.text ≡ p.text) where
  op : IsOpened start parts who o
  op = opened_at stock left start parts p who o at b.lives

  free : (running who parts ≡ None) × (call_refusal call o.holds ≡ None)
  free = idle_where o.work call o.holds (running who parts) op.follows b.first

  asked : Running
  asked = record { call = call; now = now; past = past_of parts; since = [] }

  runs_now : running who (record { line = Some (Begin who now call); made = []; outcome = None } ∷ parts) ≡ Some (record { call = call; now = now; past = past_of parts; since = [] })
  runs_now = ap (λ t. if t then Some (record { call = call; now = now; past = past_of parts; since = [] }) else option_map (going_on []) (running who parts)) (eq-eqb who who refl)

  none_asked : asked_of who (record { line = Some (Begin who now call); made = []; outcome = None } ∷ parts) ≡ 0
  none_asked = go (who == who) (eq-eqb who who refl)
    where
      go : (t : Bool) → t ≡ true → (if t then 0 else asked_of who parts) ≡ 0
      go true e = refl
      go false e = absurd cc

  abbrev grown : List Part
  grown = record { line = Some (Begin who now call); made = []; outcome = None } ∷ parts

  begun_at : length (changes_of p.world.region.past) ≡ length (changes_of (past_of parts))
  begun_at = ap (λ x. length (changes_of x)) at.past

  opened_now : IsOpened start (record { line = Some (Begin who now call); made = []; outcome = None } ∷ parts) who next
  opened_now =
      record {
        follows = subst (FollowsWork next.work) (sym runs_now) (begun_follows call now (length (changes_of p.world.region.past)) (past_of parts) o next begun_at b.begins);
        holds = ap (λ (x : OpenerState). x.holds) b.begins.work ∙ op.holds;
        earlier = subst (λ r. AreEarlier who r (answers_in (outcomes_of grown))) (sym runs_now)
            (subst (λ l. AreEarlier who (Some (record { call = call; now = now; past = past_of parts; since = [] })) (answers_in l)) (sym (append-nil (outcomes_of parts)))
            (earlier_now who (record { call = call; now = now; past = past_of parts; since = [] }) (answers_in (outcomes_of parts)) at.within));
        bounded = subst (λ n. IsBounded next.work n (file_size (region_after start (past_of parts)))) (sym none_asked)
            (begin_bounded call now (length (changes_of p.world.region.past)) (file_size (region_after start (past_of parts))) o next b.begins b.few);
        found = begin_found who call now (length (changes_of p.world.region.past)) o next start (past_of parts) b.begins;
        saw = subst (λ x. IfSome x (λ why. StopSaw why start (past_of parts))) (sym (begun_stopless call now (length (changes_of p.world.region.past)) o next b.begins)) tt;
        unfull = λ e. let both : None ≡ Some stop.JournalFull = sym (begun_stopless call now (length (changes_of p.world.region.past)) o next b.begins) ∙ e in absurd cc;
        marked = subst (HasMarked who step.Going next.work) (sym runs_now)
            (begun_marked who call now (length (changes_of p.world.region.past)) o next (record { call = call; now = now; past = past_of parts; since = [] }) b.begins refl refl refl);
        stored = subst (HasStored step.Going next.work) (sym runs_now) (begun_stored next.work (record { call = call; now = now; past = past_of parts; since = [] }) refl);
        looking = λ distinct.
            subst (IsLooking start (kept_of who parts) (looks_of who grown) next.image next.work) (sym runs_now)
            (subst (λ l. IsLooking start (kept_of who parts) l next.image next.work (Some (record { call = call; now = now; past = past_of parts; since = [] }))) (sym (looks_begin who now call (past_of parts) (looks_of who parts)))
            (begun_looking call now (length (changes_of p.world.region.past)) start (kept_of who parts) (looks_of who parts) (past_of parts) o next (running who parts) b.first (op.looking distinct) b.begins));
      }

  number : (who - 1) + 1 ≡ who
  number = omega (arith, b.lives.numbered)

  kept : strategies (record { line = Some (Begin who now call); made = []; outcome = None } ∷ parts) ≡ strategies parts
  kept = append-nil (strategies parts)

  count_now : length q.world.openers ≡ length (strategies parts)
  count_now = ap length b.openers ∙ length-set p.world.openers (who - 1) next ∙ at.count

  spares : (v : ℕ) → who ≢ v → Spares start parts (record { line = Some (Begin who now call); made = []; outcome = None }) v
  spares v n =
      quiet_spares start parts (Some (Begin who now call)) v (begin_other who v now call (past_of parts) (running v parts) n) (begin_asked who v now call (asked_of v parts) n)
      (looks_begin_other who v now call (past_of parts) (looks_of v parts) n) refl

  each_opened : (i : ℕ) (x : OpenerState) → slice_get q.world.openers i ≡ Some x → IsLeft start (record { line = Some (Begin who now call); made = []; outcome = None } ∷ parts) (i + 1) x
  each_opened i x is = go (eqb_tells (who - 1) i)
    where
      there : slice_get (set p.world.openers (who - 1) next) i ≡ Some x
      there = subst (λ l. slice_get l i ≡ Some x) b.openers is

      go : ((eqb (who - 1) i ≡ true) × (who - 1 ≡ i)) ⊎ ((eqb (who - 1) i ≡ false) × (who - 1 ≢ i)) → IsLeft start grown (i + 1) x
      go (inl same) =
          let x_is : x ≡ next = set_is p.world.openers (who - 1) o next x b.lives.there (subst (λ n. slice_get (set p.world.openers (who - 1) next) n ≡ Some x) (sym same.1) there) in
          let own : who ≡ i + 1 = sym number ∙ ap (λ n. n + 1) same.1 in
          subst (λ w. IsLeft start grown w x) own (subst (IsLeft start grown who) (sym x_is) (living_left start grown who next opened_now))
      go (inr apart) =
          let n : who ≢ i + 1 = (λ e. apart.1 (omega (arith, e, number))) in
          left_other start parts _ (i + 1) (spares (i + 1) n) x
          (at.openers i x (sym (set_elsewhere p.world.openers (who - 1) i next apart.1) ∙ there))

  below : who ≤ length (strategies parts)
  below = omega (arith, number, at.count, within p.world.openers (who - 1) o b.lives.there)
    where
      within : (xs : List OpenerState) (i : ℕ) (x : OpenerState) → slice_get xs i ≡ Some x → i < length xs
      within [] i x is = absurd cc
      within (y ∷ xs) zero x is = omega arith
      within (y ∷ xs) (suc i) x is = omega (arith, within xs i x is)

  nobody_else : (v : ℕ) → IsNobody (length (strategies parts)) v → IsUnopened (record { line = Some (Begin who now call); made = []; outcome = None } ∷ parts) v
  nobody_else v is = unopened_other start parts _ v (spares v (apart is)) (at.unopened v is)
    where
      apart : IsNobody (length (strategies parts)) v → who ≢ v
      apart (inl none) e = absurd (omega (arith, b.lives.numbered, e, none))
      apart (inr far) e = absurd (omega (arith, below, e, far))

  pub begin_taken : TakesOne stock left start parts (Some (Begin who now call)) q
  begin_taken =
      quiet_taken stock left left start parts (Some (Begin who now call)) p q at
      (record {
        sound = sound;
        start_is = ap (λ (l : Local). l.start) b.region;
        past = ap (λ (l : Local). l.past) b.region;
        listed = ap (λ (l : Local). l.failing.listed) b.region;
        answers = b.answers;
        text = text;
        may = (record { alive = alive_in stock left start parts p who o before at b.lives; idle = free.0; asks = subst (λ h. call_refusal call h ≡ None) op.holds free.1 }, (refl, refl));
        playable = tt;
        stepless = λ w n e. absurd cc;
        deathless = λ w bits e. absurd cc;
        count = count_now ∙ sym (ap length kept);
        open_to = subst (λ n. IsOpenTo n q.world.region) (sym (ap length kept)) (subst (λ (l : Local). IsOpenTo (length (strategies parts)) l) (sym b.region) at.open_to);
        drawn = drawn_still stock left start parts (Some (Begin who now call)) refl at.drawn;
        openers = each_opened;
        unopened = λ v is. nobody_else v (subst (λ n. IsNobody n v) (ap length kept) is);
      })

-- A call that was not begun can't be.
-- no opener of that number lives
pub unliving_halted : (stock left : Stock) (start : Region) (parts : List Part) (p : PlayState) (who : ℕ) → IsSound p.world → IsAt stock left start parts p → IsTrue (lives who parts) →
    ((o : OpenerState) → Lives p.world.openers who o → ⊥) → ⊥
unliving_halted stock left start parts p who sound at living none = go (nat_le 1 who) (nat_le who (length (strategies parts))) (has_died (past_of parts) who) refl refl refl living
  where
    within : (a b : ℕ) → nat_le a b ≡ true → a ≤ b
    within a b t = grind (arith, nat_tests)

    -- an opener that was let in and has ended has died
    has_ended : (a d : Bool) → a ≡ true → (not a || d) ≡ true → d ≡ true
    has_ended true d admitted ended = ended
    has_ended false d admitted ended = absurd cc

    dead : (o : OpenerState) → Tied o (share_of p.world.region who) → (account_of p.world.region.accounts who).admitted ≡ true → is_ended o.work ≡ true → has_died (past_of parts) who ≡ true
    dead o tied admitted ended =
        ap (λ past. has_died past who) (sym at.past) ∙ has_ended (account_of p.world.region.accounts who).admitted (has_died p.world.region.past who) admitted (tied.ended ∙ ended)

    there : 1 ≤ who → nat_le who (length (strategies parts)) ≡ true → (o : OpenerState) → slice_get p.world.openers (who - 1) ≡ Some o → has_died (past_of parts) who ≡ false → (b : Bool) → is_ended o.work ≡ b → ⊥
    there some most o at_place undead false alive = none o (record { numbered = some; there = at_place; alive = alive })
    there some most o at_place undead true ended =
        let is : who - 1 + 1 ≡ who = omega (arith, some) in
        let tied : Tied o (share_of p.world.region who) = subst (λ w. Tied o (share_of p.world.region w)) is (sound.each (who - 1) o at_place).tied in
        let both : false ≡ true = sym undead ∙ dead o tied (at.open_to who some ∙ most) ended in absurd cc

    go : (a b d : Bool) → nat_le 1 who ≡ a → nat_le who (length (strategies parts)) ≡ b → has_died (past_of parts) who ≡ d → IsTrue (a && (b && not d)) → ⊥
    go true true false least most undead t =
        let some = within 1 who least in
        let place = opener_there p.world.openers (who - 1) (omega (arith, some, within who (length (strategies parts)) most, at.count)) in
        there some most place.0 place.1 undead (is_ended place.0.work) refl
    go true true true least most undead t = absurd cc
    go true false d least most undead t = absurd cc
    go false b d least most undead t = absurd cc

refused_never : (work : Work) (call : Asked) (holds : ℕ) → FollowsWork work None → call_refusal call holds ≡ None → refusal_at work call holds ≡ None
refused_never Idle call holds follows none = none
refused_never Ended call holds follows none = absurd follows
refused_never (Runs c at) call holds follows none = absurd follows

pub begin_halted : (stock left : Stock) (start : Region) (parts : List Part) (p : PlayState) (who now : ℕ) (call : Asked) (why : WorldStop) → IsSound p.world → IsAt stock left start parts p → IsNotBegun why who call p.world →
    HasHalted stock start parts (Some (Begin who now call)) (of_begin why)
begin_halted stock left start parts p who now call begin.NoOpener sound at nobody = λ can. unliving_halted stock left start parts p who sound at can.0.alive nobody
begin_halted stock left start parts p who now call (begin.Refused why) sound at (o, lives, refuses) = λ can.
    let may = can.0 in
    let op = opened_at stock left start parts p who o at lives in
    let idle = subst (FollowsWork o.work) may.idle op.follows in
    let none = refused_never o.work call o.holds idle (subst (λ h. call_refusal call h ≡ None) (sym op.holds) may.asks) in
    let both : None ≡ Some why = sym none ∙ refuses in absurd cc
begin_halted stock left start parts p who now call begin.Memory sound at is = tt
