-- A line of a death.
use Rattle.std.proofs.Common.{◌≡◌, ◌≢◌, ℕ, zero, suc, ◌+◌, ◌-◌, ◌<◌, ◌≤◌, ◌⊎◌, Bool, true, false, cond, eqb, List, [], ◌∷◌, ◌++◌, length, set, refl, sym, ap, ◌∙◌, inl, inr, subst, arith, append-nil, eq-eqb}
use Rattle.std.proofs.lemmas.Bool.Decides.{eqb_tells, nat_tests}
use Rattle.std.proofs.lemmas.List.{length-set}
use Rattle.std.proofs.lemmas.List.Elements.{All-nil}
use Rattle.std.specs.Prelude.{All, Option, Some, None, flat_map, option_map, slice_get, ◌==◌}
use Rattle.std.specs.Option.{option_map_or}
use Rattle.change_log.specs.Settled.{AreEndedBy}
use Rattle.change_log.specs.History.{IsMade, IsPlaced}
use Rattle.change_log.specs.declared.change.Change.{Change}
use Rattle.expiring_map.specs.Map.{Map}
use Rattle.handlers.specs.declared.handler.Strategy.{Strategy}
use Rattle.opener.specs.Deaths.{DiesAt, torn_at, torn_first}
use Rattle.opener.specs.Opener.{Owes, Tied, is_ended, is_storing}
use Rattle.opener.specs.Quick.{ended_as}
use Rattle.opener.specs.State.{OpenerState}
use Rattle.opener.specs.declared.work.Stage.TheVariants as stage
use Rattle.opener.specs.declared.work.Work.{Work}
use Rattle.opener.specs.declared.work.Work.TheVariants.{Idle, Ended, Runs}
use Rattle.region_words.specs.Apart.{Apart}
use Rattle.region_words.specs.Lawful.{Between, Lawful, MayComeNext, Phase, Within, map_after, room_of}
use Rattle.region_words.specs.Local.{Local, Seated, seat_state}
use Rattle.region_words.specs.Owing.{Comes}
use Rattle.region_words.specs.Past.{changes_of, region_after}
use Rattle.region_words.specs.Region.{Region, base}
use Rattle.region_words.specs.Rows.{Row}
use Rattle.region_words.specs.Share.{Dies, ShareState, made_by, torn_word}
use Rattle.region_words.specs.declared.event.Event.{Event}
use Rattle.region_words.specs.declared.event.Side.TheVariants.{Data, Meta}
use Rattle.region_words.specs.declared.event.TornWord.{TornWord}
use Rattle.region_words.specs.declared.event.What.{What}
use Rattle.region_words.specs.declared.event.What.TheVariants.{Store, Grow, Lock, Unlock, Died}
use Rattle.region_words.proofs.ReadLaws.{apart_front}
use Rattle.script_lang.specs.Journal.{AreAnswered}
use Rattle.script_lang.specs.Parts.{Part, answers_in, going_on, holds_of, outcomes_of, own_of, past_of, running, strategies}
use Rattle.script_lang.specs.Played.{IsTorn, MayLeave, StoresNoPayload, Stock, drawn, stocked}
use Rattle.script_lang.specs.Texts.{outcome_line}
use Rattle.script_lang.specs.declared.line.Line.TheVariants.{Die}
use Rattle.world.specs.Moves.{Kills}
use Rattle.world.specs.World.{IsSound, share_of}
use Rattle.world.proofs.Numbered.{set_elsewhere, set_is}
use Rattle.mmkv_top.specs.Progress.{IsAt, IsGone, IsLeft, IsNobody, IsOpenTo, IsUnopened, TakesOne}
use Rattle.mmkv_top.specs.State.{PlayState}
use Rattle.mmkv_top.proofs.Histories.{history_of, shown_of}
use Rattle.mmkv_top.proofs.InTime.{in_time}
use Rattle.mmkv_top.proofs.NoPlaces.{roomy}
use Rattle.mmkv_top.proofs.Others.{Spares, death_spares, left_other, unopened_other}
use Rattle.mmkv_top.proofs.Reasoning.{quiet_reasoned}
use Rattle.mmkv_top.proofs.Walked.{IsRoomy, alive_in}

-- What a death leaves of its row.
module _ (start : Region) (past : List Event) (who : ℕ) where
  abbrev r : Region
  r = region_after start past

  abbrev m : Map
  m = map_after start past

  still_calm : (phase : Phase) (row : Row) (what : What) (rest : List What) → StoresNoPayload (Within row (what ∷ rest)) → MayComeNext r m who phase row (what ∷ rest) → StoresNoPayload phase
  still_calm (Between room) row what rest calm next = tt
  still_calm (Within under left) row what rest calm (same, is) = subst StoresNoPayload (ap (λ k. Within k (what ∷ rest)) same ∙ ap (Within under) is) calm

  calm_next : (row : Row) (what : What) (rest : List What) (bits : Option ℕ) → StoresNoPayload (Within row (what ∷ rest)) → (Apart start past → Comes start past who row (what ∷ rest)) → MayLeave start past who bits None
  calm_next row what rest None calm coming = refl
  calm_next row what rest (Some bits) calm coming = λ held apart. let c = coming apart in (c.phase, c.reached, still_calm c.phase row what rest calm c.next)

  row_leaves : (events : List What) (bits : Option ℕ) (row : Row) → (Apart start past → Comes start past who row events) →
      MayLeave start past who bits (torn_word (region_after start past) (torn_first events bits))
  row_leaves [] None row coming = refl
  row_leaves [] (Some bits) row coming = λ held apart. (Between (room_of row), coming apart, tt)
  row_leaves (Store Data word new mark ∷ rest) None row coming = refl
  row_leaves (Store Data word new mark ∷ rest) (Some bits) row coming = go (word == 0) refl
    where
      go : (b : Bool) → (word == 0) ≡ b → MayLeave start past who (Some bits) (torn_word (region_after start past) (cond b None (Some (record { word = word; new = new; bits = bits }))))
      go true header = let zero_is : word ≡ 0 = grind (arith, nat_tests) in calm_next row (Store Data word new mark) rest (Some bits) zero_is coming
      go false payload = record { new = new; left = refl; next = λ apart. (row, mark, rest, coming apart) }
  row_leaves (Store Meta word new mark ∷ rest) None row coming = refl
  row_leaves (Store Meta word new mark ∷ rest) (Some bits) row coming = calm_next row (Store Meta word new mark) rest (Some bits) tt coming
  row_leaves (Grow size ∷ rest) None row coming = refl
  row_leaves (Grow size ∷ rest) (Some bits) row coming = calm_next row (Grow size) rest (Some bits) tt coming
  row_leaves (Lock kind ∷ rest) None row coming = refl
  row_leaves (Lock kind ∷ rest) (Some bits) row coming = calm_next row (Lock kind) rest (Some bits) tt coming
  row_leaves (Unlock ∷ rest) None row coming = refl
  row_leaves (Unlock ∷ rest) (Some bits) row coming = calm_next row Unlock rest (Some bits) tt coming
  row_leaves (Died torn ∷ rest) None row coming = refl
  row_leaves (Died torn ∷ rest) (Some bits) row coming = calm_next row (Died torn) rest (Some bits) tt coming

-- whatever its opener is at
module _ (o : OpenerState) (l : Local) (who : ℕ) (tied : Tied o (share_of l who)) (bits : Option ℕ) where
  calm : is_storing o.work ≡ false → MayLeave l.start l.past who bits None
  calm none = go bits
    where
      go : (bits : Option ℕ) → MayLeave l.start l.past who bits None
      go None = refl
      go (Some b) = λ held apart. (Between None, tied.told.facts.rests (sym tied.holds ∙ held) none apart, tt)

  pub death_leaves : MayLeave l.start l.past who bits (torn_word (region_after l.start l.past) (torn_at o.work bits))
  death_leaves = go o.work refl tied.owes
    where
      go : (work : Work) → o.work ≡ work → Owes o work (share_of l who) → MayLeave l.start l.past who bits (torn_word (region_after l.start l.past) (torn_at work bits))
      go Idle is owes = calm (ap is_storing is)
      go Ended is owes = calm (ap is_storing is)
      go (Runs c (stage.Store plan)) is owes = row_leaves l.start l.past who _ bits owes.row owes.owing.told.coming
      go (Runs c stage.PeekChecksum) is owes = calm (ap is_storing is)
      go (Runs c (stage.PeekSequence peek)) is owes = calm (ap is_storing is)
      go (Runs c (stage.LockShared extent)) is owes = calm (ap is_storing is)
      go (Runs c stage.LockExclusive) is owes = calm (ap is_storing is)
      go (Runs c (stage.Continue loading)) is owes = calm (ap is_storing is)
      go (Runs c (stage.Load loading)) is owes = calm (ap is_storing is)
      go (Runs c stage.Size) is owes = calm (ap is_storing is)
      go (Runs c (stage.Reserve plan)) is owes = calm (ap is_storing is)
      go (Runs c (stage.Unlock how)) is owes = calm (ap is_storing is)
      go (Runs c stage.Hold) is owes = calm (ap is_storing is)
      go (Runs c stage.Release) is owes = calm (ap is_storing is)

-- where no call of the region is to fail, it died by itself
by_itself : (work : Work) (bits : Option ℕ) (s : Seated) (t : ShareState) → is_ended work ≡ false → s.region.failing.listed ≡ [] → DiesAt work bits (seat_state s) t → Dies (torn_at work bits) (seat_state s) t
by_itself Idle bits s t alive steady (inl dies) = dies
by_itself Idle bits s t alive steady (inr fails) = absurd (fails.due.0 steady)
by_itself Ended bits s t alive steady same = absurd cc
by_itself (Runs c at) bits s t alive steady (inl dies) = dies
by_itself (Runs c at) bits s t alive steady (inr fails) = absurd (fails.due.0 steady)

-- the line that names a death, and the event that is one
same_line : (who w : ℕ) (bits b : Option ℕ) → Some (Die who bits) ≡ Some (Die w b) → (who ≡ w) × (bits ≡ b)
same_line who w bits b is = (cc, cc)

same_death : (who w : ℕ) (torn t : Option TornWord) → ◌≡◌ {A = List Event} (record { who = who; what = Died torn } ∷ []) (record { who = w; what = Died t } ∷ []) → torn ≡ t
same_death who w torn t is =
    let event_is : ◌≡◌ {A = Event} (record { who = who; what = Died torn }) (record { who = w; what = Died t }) = cc in
    let what_is : Died torn ≡ Died t = ap (λ (e : Event). e.what) event_is in
    cc

module _ (stock left : Stock) (start : Region) (parts : List Part) (p q : PlayState) (who : ℕ) (bits : Option ℕ) (o : OpenerState) (before : IsSound p.world) (sound : IsSound q.world)
    (at : IsAt stock left start parts p) (kills : Kills who bits o p.world q.world) (text : q.text ≡ p.text) where
  number : (who - 1) + 1 ≡ who
  number = omega (arith, kills.lives.numbered)

  tied : Tied o (share_of p.world.region who)
  tied = subst (λ w. Tied o (share_of p.world.region w)) number (before.each (who - 1) o kills.lives.there).tied

  abbrev s : Seated
  s = record { who = who; region = p.world.region }

  dies : Dies (torn_at o.work bits) (share_of p.world.region who) (share_of q.world.region who)
  dies = by_itself o.work bits s (share_of q.world.region who) kills.lives.alive at.steady kills.dies

  abbrev death : Event
  death = record { who = who; what = Died dies.left }

  abbrev line : Part
  line = record { line = Some (Die who bits); made = record { who = who; what = Died dies.left } ∷ []; outcome = None }

  abbrev grown : List Part
  grown = record { line = Some (Die who bits); made = record { who = who; what = Died dies.left } ∷ []; outcome = None } ∷ parts

  past_now : q.world.region.past ≡ record { who = who; what = Died dies.left } ∷ past_of parts
  past_now =
      let told = dies.goes.after.told in
      told.past ∙ ap (λ x. made_by who (Died dies.left ∷ []) ++ (x ++ p.world.region.past)) (told.none refl) ∙ ap (λ l. death ∷ l) at.past

  start_now : q.world.region.start ≡ start
  start_now = kills.start ∙ at.start_is

  lawful : Lawful start (record { who = who; what = Died dies.left } ∷ past_of parts)
  lawful = subst (λ x. Lawful x (death ∷ past_of parts)) start_now (subst (Lawful q.world.region.start) past_now sound.lawful)

  -- the word that it left torn, if any
  leaves : MayLeave start (past_of parts) who bits dies.left
  leaves =
      let here : MayLeave p.world.region.start p.world.region.past who bits dies.left = subst (MayLeave p.world.region.start p.world.region.past who bits) (sym dies.torn) (death_leaves o p.world.region who tied bits) in
      subst (λ x. MayLeave x (past_of parts) who bits dies.left) at.start_is (subst (λ x. MayLeave p.world.region.start x who bits dies.left) at.past here)

  is_torn : IsTorn start (record { line = Some (Die who bits); made = record { who = who; what = Died dies.left } ∷ []; outcome = None }) parts
  is_torn w b torn same made =
      let line_is = same_line who w bits b same in
      let torn_is = same_death who w dies.left torn made in
      subst (λ x. MayLeave start (past_of parts) x b torn) line_is.0 (subst (λ x. MayLeave start (past_of parts) who x torn) line_is.1 (subst (MayLeave start (past_of parts) who bits) torn_is leaves))

  same_strategies : strategies (record { line = Some (Die who bits); made = record { who = who; what = Died dies.left } ∷ []; outcome = None } ∷ parts) ≡ strategies parts
  same_strategies = append-nil (strategies parts)

  same_answers : answers_in (outcomes_of parts) ≡ answers_in (outcomes_of (record { line = Some (Die who bits); made = record { who = who; what = Died dies.left } ∷ []; outcome = None } ∷ parts))
  same_answers = sym (ap answers_in (append-nil (outcomes_of parts)))

  -- a death changes nothing
  same_changes : changes_of (past_of parts) ≡ changes_of (record { who = who; what = Died dies.left } ∷ past_of parts)
  same_changes = sym (append-nil (changes_of (past_of parts)))

  answered : AreAnswered start (record { who = who; what = Died dies.left } ∷ past_of parts) (answers_in (outcomes_of parts))
  answered =
      record {
        in_order = at.answered.in_order;
        made = subst (λ l. All (IsMade (base start) l) (answers_in (outcomes_of parts))) same_changes at.answered.made;
        placed = λ ok apart.
            subst (λ l. All (IsPlaced (base start) l) (answers_in (outcomes_of parts))) same_changes (at.answered.placed ok (apart_front start (death ∷ []) (past_of parts) apart));
      }

  count_now : length q.world.openers ≡ length (strategies parts)
  count_now = ap length kills.openers ∙ length-set p.world.openers (who - 1) (ended_as who) ∙ at.count

  open_now : IsOpenTo (length (strategies parts)) q.world.region
  open_now w least = dies.goes.after.same.admitted w ∙ at.open_to w least

  -- it is gone, and the others are left
  gone : IsGone (record { line = Some (Die who bits); made = record { who = who; what = Died dies.left } ∷ []; outcome = None } ∷ parts) who
  gone =
      record {
        idle = ap (λ b. cond b None (option_map (going_on (own_of who (death ∷ []))) (running who parts))) (eq-eqb who who refl);
        held = ap (λ b. cond b 0 (holds_of who parts)) (eq-eqb who who refl);
      }

  spares : (v : ℕ) → who ≢ v → Spares start parts (record { line = Some (Die who bits); made = record { who = who; what = Died dies.left } ∷ []; outcome = None }) v
  spares v n = death_spares start parts who v bits dies.left n lawful

  dead_left : (x : OpenerState) → x ≡ ended_as who → IsLeft start (record { line = Some (Die who bits); made = record { who = who; what = Died dies.left } ∷ []; outcome = None } ∷ parts) who x
  dead_left x is = record { alive = λ alive. let both : true ≡ false = ap (λ (y : OpenerState). is_ended y.work) (sym is) ∙ alive in absurd cc; dead = λ dead. gone }

  each_left : (i : ℕ) (x : OpenerState) → slice_get q.world.openers i ≡ Some x → IsLeft start (record { line = Some (Die who bits); made = record { who = who; what = Died dies.left } ∷ []; outcome = None } ∷ parts) (i + 1) x
  each_left i x is = go (eqb_tells (who - 1) i)
    where
      there : slice_get (set p.world.openers (who - 1) (ended_as who)) i ≡ Some x
      there = subst (λ l. slice_get l i ≡ Some x) kills.openers is

      go : ((eqb (who - 1) i ≡ true) × (who - 1 ≡ i)) ⊎ ((eqb (who - 1) i ≡ false) × (who - 1 ≢ i)) → IsLeft start grown (i + 1) x
      go (inl same) =
          let x_is : x ≡ ended_as who = set_is p.world.openers (who - 1) o (ended_as who) x kills.lives.there (subst (λ n. slice_get (set p.world.openers (who - 1) (ended_as who)) n ≡ Some x) (sym same.1) there) in
          let own : who ≡ i + 1 = sym number ∙ ap (λ n. n + 1) same.1 in
          subst (λ w. IsLeft start grown w x) own (dead_left x x_is)
      go (inr apart) =
          let n : who ≢ i + 1 = (λ e. apart.1 (omega (arith, e, number))) in
          left_other start parts _ (i + 1) (spares (i + 1) n) x (at.openers i x (sym (set_elsewhere p.world.openers (who - 1) i (ended_as who) apart.1) ∙ there))

  below : who ≤ length (strategies parts)
  below = omega (arith, number, at.count, within p.world.openers (who - 1) o kills.lives.there)
    where
      within : (xs : List OpenerState) (i : ℕ) (x : OpenerState) → slice_get xs i ≡ Some x → i < length xs
      within [] i x is = absurd cc
      within (y ∷ xs) zero x is = omega arith
      within (y ∷ xs) (suc i) x is = omega (arith, within xs i x is)

  nobody_else : (v : ℕ) → IsNobody (length (strategies parts)) v → IsUnopened (record { line = Some (Die who bits); made = record { who = who; what = Died dies.left } ∷ []; outcome = None } ∷ parts) v
  nobody_else v is = unopened_other start parts _ v (spares v (apart is)) (at.unopened v is)
    where
      apart : IsNobody (length (strategies parts)) v → who ≢ v
      apart (inl none) e = absurd (omega (arith, kills.lives.numbered, e, none))
      apart (inr far) e = absurd (omega (arith, below, e, far))

  pub death_taken : TakesOne stock left start parts (Some (Die who bits)) q
  death_taken = (
    record { who = who; what = Died dies.left } ∷ [],
    None,
    record {
      region = at.region;
      start_is = start_now;
      past = past_now;
      answers = kills.answers ∙ at.answers ∙ same_answers;
      text = text ∙ at.text ∙ sym (ap (flat_map outcome_line) (append-nil (outcomes_of parts)));
      steady = ap (λ o. option_map_or (λ (l : List ℕ). l) o []) dies.goes.after.same.fails ∙ at.steady;
      each = (at.each, (alive_in stock left start parts p who o before at kills.lives, ((dies.left, refl), refl)));
      playable = (at.playable, tt);
      in_time = (at.in_time, in_time start grown q.world.openers each_left (λ v is. nobody_else v (subst (λ n. IsNobody n v) count_now is)));
      reasoned = (at.reasoned, quiet_reasoned start line parts refl);
      torn = (at.torn, is_torn);
      held = (at.held, λ v some. All-nil (λ (c : Change). c.maker ≡ v));
      roomy = (
        at.roomy,
        subst (λ n. IsRoomy n (death ∷ past_of parts)) (sym (ap length same_strategies)) (subst (IsRoomy (length (strategies parts))) past_now (roomy q.world sound (length (strategies parts)) open_now (sym count_now))),
      );
      histories = (at.histories, history_of start grown q.world sound start_now past_now (kills.answers ∙ at.answers ∙ same_answers));
      shown = (at.shown, shown_of start grown q.world at.region sound start_now past_now (kills.answers ∙ at.answers ∙ same_answers));
      by_words = (at.by_words, λ w n c is. absurd cc);
      answered = subst (AreAnswered start (death ∷ past_of parts)) same_answers answered;
      within = subst (λ l. AreEndedBy (length l) (answers_in (outcomes_of grown))) same_changes (subst (AreEndedBy (length (changes_of (past_of parts)))) same_answers at.within);
      count = count_now ∙ sym (ap length same_strategies);
      open_to = subst (λ n. IsOpenTo n q.world.region) (sym (ap length same_strategies)) open_now;
      drawn = subst (λ (l : List Strategy). (s : Strategy) → stocked left s + drawn s l ≡ stocked stock s) (sym same_strategies) at.drawn;
      openers = each_left;
      unopened = λ v is. nobody_else v (subst (λ n. IsNobody n v) (ap length same_strategies) is);
    },
  )
