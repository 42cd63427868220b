-- A line that opens an opener.
use Rattle.std.proofs.Common.{◌≡◌, ◌≢◌, ℕ, ◌+◌, ◌-◌, ◌<◌, ◌≤◌, ◌⊎◌, Bool, true, false, not, ◌||◌, eqb, List, [], ◌∷◌, ◌++◌, length, refl, sym, ap, ◌∙◌, inl, inr, arith, subst, length-append}
use Rattle.std.proofs.lemmas.Bool.Decides.{eqb_tells, nat_tests}
use Rattle.std.proofs.lemmas.List.Elements.{All-head, filter-append}
use Rattle.std.specs.Prelude.{All, Option, Some, None, filter, nat_le, slice_get, if◌then◌else◌}
use Rattle.change_log.specs.declared.call.Answer.{Answer}
use Rattle.handlers.specs.Stock.{Draws}
use Rattle.lock_rules.specs.declared.table.LockKind.TheVariants.{Exclusive}
use Rattle.handlers.specs.declared.handler.Strategy.{Strategy}
use Rattle.handlers.specs.declared.handler.Strategy.TheVariants.{Discard, Recover, Leave}
use Rattle.opener.specs.Calls.{is_write}
use Rattle.opener.specs.Opener.{Tied}
use Rattle.opener.specs.State.{OpenerState}
use Rattle.opener.specs.declared.calls.Step.TheVariants as step
use Rattle.opener.specs.declared.work.Work.TheVariants.{Idle}
use Rattle.region_words.specs.Local.{Local, account_of, after_admission, kept_after}
use Rattle.region_words.specs.Past.{has_died, locks_after}
use Rattle.region_words.specs.Region.{IsRegion, Region}
use Rattle.region_words.specs.Share.{lock_of, most_events}
use Rattle.region_words.specs.declared.account.Account.{Account}
use Rattle.region_words.proofs.Accounts.{other_account}
use Rattle.script_lang.specs.declared.line.Line.TheVariants.{Open}
use Rattle.world.specs.World.{IsSound, WorldState, share_of}
use Rattle.world.specs.Moves.{IsNotOpened, Opens, new_opener}
use Rattle.world.specs.declared.stops.OpenStop.{OpenStop}
use Rattle.world.specs.declared.stops.OpenStop.TheVariants as opening
use Rattle.world.proofs.Fresh.{nothing_made}
use Rattle.world.proofs.Numbered.{pushed_is}
use Rattle.mmkv_top.specs.Halting.{of_opening}
use Rattle.mmkv_top.specs.State.{PlayState, play_state}
use Rattle.mmkv_top.specs.declared.halt.Halt.TheVariants as halt
use Rattle.script_lang.specs.Parts.{Part, Running, answers_in, outcomes_of, past_of, running, strategies}
use Rattle.script_lang.specs.Played.{IsTooFull, MetNoPlace, Stock, drawn, is_same, stocked}
use Rattle.mmkv_top.specs.Progress.{AreEarlier, FollowsWork, HasHalted, HasMarked, HasStored, IsAt, IsLeft, IsNobody, IsOpenTo, IsOpened, IsUnopened, TakesOne}
use Rattle.mmkv_top.proofs.Answering.{nothing_answered}
use Rattle.mmkv_top.proofs.NoPlaces.{Reserver, no_place, opener_there, reserves_alive, writing}
use Rattle.mmkv_top.specs.Looking.{IsKnown}
use Rattle.mmkv_top.proofs.Others.{Spares, left_other, living_left, quiet_spares, unopened_other}
use Rattle.mmkv_top.proofs.Beginning.{quiet_taken}

-- A handler was drawn from the stock, and one more opener let in.
some_in : {A : Type 0} (old new : List A) (last : A) → old ≡ new ++ last ∷ [] → length old ≡ length new + 1
some_in old new last is = omega (arith, ap length is, length-append new (last ∷ []))

both_more : (strategy : Strategy) (s : Strategy) (opened : List Strategy) → drawn s (opened ++ strategy ∷ []) ≡ drawn s opened + (if is_same s strategy then 1 else 0)
both_more strategy s opened =
    ap length (filter-append (is_same s) opened (strategy ∷ [])) ∙ length-append (filter (is_same s) opened) (filter (is_same s) (strategy ∷ [])) ∙ ap (λ n. drawn s opened + n) (one (is_same s strategy))
  where
    one : (b : Bool) → length (if b then strategy ∷ [] else []) ≡ (if b then 1 else 0)
    one true = refl
    one false = refl

-- one handler fewer of the strategy that was asked for
module _ {A : Type 0} (d d' r r' l l' : List A) where
  abbrev had : Stock
  had = record { discard = length d; recover = length r; leave = length l }

  abbrev has : Stock
  has = record { discard = length d'; recover = length r'; leave = length l' }

  pub one_drawn : (last : A) (strategy : Strategy) → Draws strategy Discard d d' (Some last) → Draws strategy Recover r r' (Some last) → Draws strategy Leave l l' (Some last) →
      (s : Strategy) → stocked (record { discard = length d'; recover = length r'; leave = length l' }) s + (if is_same s strategy then 1 else 0)
      ≡ stocked (record { discard = length d; recover = length r; leave = length l }) s
  one_drawn last Discard of_discard of_recover of_leave Discard = sym (some_in d d' last (of_discard.0 refl))
  one_drawn last Discard of_discard of_recover of_leave Recover = omega (arith, ap length (of_recover.1 (λ e. absurd cc)))
  one_drawn last Discard of_discard of_recover of_leave Leave = omega (arith, ap length (of_leave.1 (λ e. absurd cc)))
  one_drawn last Recover of_discard of_recover of_leave Discard = omega (arith, ap length (of_discard.1 (λ e. absurd cc)))
  one_drawn last Recover of_discard of_recover of_leave Recover = sym (some_in r r' last (of_recover.0 refl))
  one_drawn last Recover of_discard of_recover of_leave Leave = omega (arith, ap length (of_leave.1 (λ e. absurd cc)))
  one_drawn last Leave of_discard of_recover of_leave Discard = omega (arith, ap length (of_discard.1 (λ e. absurd cc)))
  one_drawn last Leave of_discard of_recover of_leave Recover = omega (arith, ap length (of_recover.1 (λ e. absurd cc)))
  one_drawn last Leave of_discard of_recover of_leave Leave = sym (some_in l l' last (of_leave.0 refl))

  pub none_left : (strategy : Strategy) → Draws strategy Discard d d' None → Draws strategy Recover r r' None → Draws strategy Leave l l' None →
      stocked (record { discard = length d; recover = length r; leave = length l }) strategy ≡ 0
  none_left Discard of_discard of_recover of_leave = ap length (of_discard.0 refl).0
  none_left Recover of_discard of_recover of_leave = ap length (of_recover.0 refl).0
  none_left Leave of_discard of_recover of_leave = ap length (of_leave.0 refl).0

is_itself : (s : Strategy) → is_same s s ≡ true
is_itself Discard = refl
is_itself Recover = refl
is_itself Leave = refl

one_of : (b : Bool) → b ≡ true → ◌≡◌ {A = ℕ} (if b then 1 else 0) 1
one_of true e = refl
one_of false e = absurd cc

-- a handler that was drawn or not
pub none_drawn : {A : Type 0} (d d' r r' l l' : List A) (drawn : Option A) (strategy : Strategy) → drawn ≡ None → Draws strategy Discard d d' drawn → Draws strategy Recover r r' drawn → Draws strategy Leave l l' drawn →
    stocked (record { discard = length d; recover = length r; leave = length l }) strategy ≡ 0
none_drawn d d' r r' l l' drawn strategy none of_discard of_recover of_leave =
    none_left d d' r r' l l' strategy (subst (Draws strategy Discard d d') none of_discard) (subst (Draws strategy Recover r r') none of_recover) (subst (Draws strategy Leave l l') none of_leave)

-- a stock without a handler of the strategy opens nobody
pub undrawn_halted : (stock left : Stock) (start : Region) (parts : List Part) (p : PlayState) (strategy : Strategy) → IsAt stock left start parts p → stocked left strategy ≡ 0 →
    HasHalted stock start parts (Some (Open strategy)) halt.Refused
undrawn_halted stock left start parts p strategy at none can = absurd (omega (arith, at.drawn strategy, none, can.0.1))

-- A stock that had one opens an opener where the world does.
module _ (stock left left' : Stock) (start : Region) (parts : List Part) (p : PlayState) (strategy : Strategy) (before : IsSound p.world) (at : IsAt stock left start parts p)
    (drew : (s : Strategy) → stocked left' s + (if is_same s strategy then 1 else 0) ≡ stocked left s) where
  enough : drawn strategy (strategies parts) < stocked stock strategy
  enough = omega (arith, at.drawn strategy, drew strategy, one_of (is_same strategy strategy) (is_itself strategy))

  -- whoever has places reserved runs a write
  writer : Reserver p.world before (length (strategies parts)) at.open_to (sym at.count) →
      (w : ℕ) × (c : Running) × (running w parts ≡ Some c) × (is_write c.call ≡ true) × (lock_of (locks_after (past_of parts)) w ≡ Some Exclusive)
  writer v =
      let there = opener_there p.world.openers (v.number - 1) (omega (arith, v.least, v.most, at.count)) in
      let is : v.number - 1 + 1 ≡ v.number = omega (arith, v.least) in
      let left_so : IsLeft start parts v.number there.0 = subst (λ w. IsLeft start parts w there.0) is (at.openers (v.number - 1) there.0 there.1) in
      let tied : Tied there.0 (share_of p.world.region v.number) = subst (λ w. Tied there.0 (share_of p.world.region w)) is (before.each (v.number - 1) there.0 there.1).tied in
      let runs = writing there.0 there.0.work (running v.number parts) (share_of p.world.region v.number) v.some tied.owes tied.at (left_so.alive (reserves_alive there.0 there.0.work (share_of p.world.region v.number) v.some tied.owes)).follows in
      (v.number, runs.0, runs.1, runs.2, subst (λ past. lock_of (locks_after past) v.number ≡ Some Exclusive) at.past v.holds)

  no_place_left : most_events < length p.world.region.past + kept_after p.world.region + 1 → MetNoPlace parts
  no_place_left full =
      let met = no_place p.world before (length (strategies parts)) at.open_to (sym at.count) full in
      record { reserved = met.0; by_writer = λ some. writer (met.1 some); full = subst (λ past. IsTooFull (length (strategies parts)) past (met.0 + 1)) at.past met.2 }

  -- none was opened
  pub open_halted : (why : OpenStop) → IsNotOpened why p.world → HasHalted stock start parts (Some (Open strategy)) (of_opening why)
  open_halted opening.TooMany most = λ can. absurd (omega (arith, most, at.count, can.0.0))
  open_halted opening.JournalFull lacks = (Open strategy, refl, ((omega (arith, lacks.0, at.count), enough), tt), no_place_left lacks.1)
  open_halted opening.Memory few = tt

  -- one was
  module _ (q : PlayState) (who : ℕ) (sound : IsSound q.world) (opens : Opens who p.world q.world) (text : q.text ≡ p.text) where
    abbrev grown : List Part
    grown = record { line = Some (Open strategy); made = []; outcome = None } ∷ parts

    n : ℕ
    n = length (strategies parts)

    more : length (strategies (record { line = Some (Open strategy); made = []; outcome = None } ∷ parts)) ≡ length (strategies parts) + 1
    more = length-append (strategies parts) (strategy ∷ [])

    who_is : who ≡ length (strategies parts) + 1
    who_is = omega (arith, opens.number, at.count)

    count_now : length q.world.openers ≡ length (strategies parts) + 1
    count_now = ap length opens.openers ∙ length-append p.world.openers (new_opener who ∷ []) ∙ ap (λ k. k + 1) at.count

    spares : (v : ℕ) → Spares start parts (record { line = Some (Open strategy); made = []; outcome = None }) v
    spares v = quiet_spares start parts (Some (Open strategy)) v refl refl refl refl

    fresh : IsUnopened parts (length (strategies parts) + 1)
    fresh = at.unopened (length (strategies parts) + 1) (inr (omega arith))

    still_fresh : IsUnopened (record { line = Some (Open strategy); made = []; outcome = None } ∷ parts) (length (strategies parts) + 1)
    still_fresh = unopened_other start parts _ (length (strategies parts) + 1) (spares (length (strategies parts) + 1)) fresh

    opened_now : IsOpened start (record { line = Some (Open strategy); made = []; outcome = None } ∷ parts) (length (strategies parts) + 1) (new_opener who)
    opened_now =
        record {
          follows = subst (FollowsWork Idle) (sym still_fresh.idle) tt;
          holds = sym still_fresh.held;
          earlier = subst (λ r. AreEarlier (length (strategies parts) + 1) r (answers_in (outcomes_of grown))) (sym still_fresh.idle) tt;
          bounded = tt;
          found = tt;
          saw = tt;
          unfull = λ e. absurd cc;
          stored = subst (HasStored step.Going Idle) (sym still_fresh.idle) tt;
          marked = subst (HasMarked (length (strategies parts) + 1) step.Going Idle) (sym still_fresh.idle) tt;
          looking = λ apart. subst (λ k. IsKnown start k None) (sym still_fresh.keeps) refl;
        }

    each_opened : (i : ℕ) (x : OpenerState) → slice_get q.world.openers i ≡ Some x → IsLeft start (record { line = Some (Open strategy); made = []; outcome = None } ∷ parts) (i + 1) x
    each_opened i x is = go (pushed_is p.world.openers (new_opener who) i x (subst (λ l. slice_get l i ≡ Some x) opens.openers is))
      where
        go : (slice_get p.world.openers i ≡ Some x) ⊎ ((i ≡ length p.world.openers) × (x ≡ new_opener who)) → IsLeft start grown (i + 1) x
        go (inl was) = left_other start parts _ (i + 1) (spares (i + 1)) x (at.openers i x was)
        go (inr (last, new)) =
            let place : length (strategies parts) + 1 ≡ i + 1 = omega (arith, last, at.count) in
            subst (λ w. IsLeft start grown w x) place (subst (IsLeft start grown (length (strategies parts) + 1)) (sym new) (living_left start grown (length (strategies parts) + 1) (new_opener who) opened_now))

    -- it was let in
    let_in : (account_of q.world.region.accounts who).admitted ≡ true
    let_in =
        let i = length p.world.openers in
        let there : slice_get q.world.openers i ≡ Some (new_opener who) = subst (λ l. slice_get l i ≡ Some (new_opener who)) (sym opens.openers) (last_there p.world.openers (new_opener who)) in
        let tied = (sound.each i (new_opener who) there).tied in
        subst (λ w. (account_of q.world.region.accounts w).admitted ≡ true) (sym opens.number) (admitted_by (account_of q.world.region.accounts (i + 1)).admitted (has_died q.world.region.past (i + 1)) tied.ended)
      where
        last_there : (xs : List OpenerState) (x : OpenerState) → slice_get (xs ++ x ∷ []) (length xs) ≡ Some x
        last_there [] x = refl
        last_there (y ∷ xs) x = last_there xs x

        admitted_by : (a d : Bool) → (not a || d) ≡ false → a ≡ true
        admitted_by true d e = refl
        admitted_by false d e = absurd cc

    open_now : IsOpenTo (length (strategies parts) + 1) q.world.region
    open_now w least = go (eqb_tells w who)
      where
        yes : (a b : ℕ) → a ≤ b → nat_le a b ≡ true
        yes a b le = grind (arith, nat_tests)

        same : (w n : ℕ) → w ≢ n + 1 → nat_le w n ≡ nat_le w (n + 1)
        same w n apart = grind (arith, nat_tests)

        go : ((eqb w who ≡ true) × (w ≡ who)) ⊎ ((eqb w who ≡ false) × (w ≢ who)) → (account_of q.world.region.accounts w).admitted ≡ nat_le w (length (strategies parts) + 1)
        go (inl here) = ap (λ v. (account_of q.world.region.accounts v).admitted) here.1 ∙ let_in ∙ sym (yes w (length (strategies parts) + 1) (omega (arith, here.1, who_is)))
        go (inr apart) =
            ap (λ (l : Local). (account_of l.accounts w).admitted) opens.region
            ∙ ap (λ (a : Account). a.admitted) (other_account p.world.region.accounts who w (after_admission (account_of p.world.region.accounts who)) apart.1)
            ∙ at.open_to w least ∙ same w (length (strategies parts)) (λ e. apart.1 (e ∙ sym who_is))

    pub open_taken : TakesOne stock left' start parts (Some (Open strategy)) q
    open_taken =
        quiet_taken stock left left' start parts (Some (Open strategy)) p q at
        (record {
          sound = sound;
          start_is = ap (λ (l : Local). l.start) opens.region;
          past = ap (λ (l : Local). l.past) opens.region;
          listed = ap (λ (l : Local). l.failing.listed) opens.region;
          answers = opens.answers;
          text = text;
          may = ((omega (arith, opens.least, at.count), enough), (refl, refl));
          playable = tt;
          stepless = λ w n e. absurd cc;
          deathless = λ w bits e. absurd cc;
          count = count_now ∙ sym more;
          open_to = subst (λ k. IsOpenTo k q.world.region) (sym more) open_now;
          drawn = λ s. omega (arith, both_more strategy s (strategies parts), drew s, at.drawn s);
          openers = each_opened;
          unopened = λ v is. unopened_other start parts _ v (spares v) (at.unopened v (nobody v (subst (λ k. IsNobody k v) more is)));
        })
      where
        nobody : (v : ℕ) → IsNobody (length (strategies parts) + 1) v → IsNobody (length (strategies parts)) v
        nobody v (inl none) = inl none
        nobody v (inr far) = inr (omega (arith, far))

-- A world without openers is a script of no lines.
none_in : (w : WorldState) → IsSound w → w.openers ≡ [] → IsOpenTo 0 w.region
none_in w sound none who least = (sound.unused who (omega (arith, least, ap length none))).outside ∙ sym (beyond who least)
  where
    beyond : (w : ℕ) → 1 ≤ w → nat_le w 0 ≡ false
    beyond w least = grind (arith, nat_tests)

-- nothing was answered there
nobody_answered : (answers : List Answer) → All (λ a. (1 ≤ a.who) × (a.who ≤ 0)) answers → answers ≡ []
nobody_answered [] theirs = refl
nobody_answered (a ∷ answers) theirs = let both = All-head (λ (b : Answer). (1 ≤ b.who) × (b.who ≤ 0)) a answers theirs in absurd (omega (arith, both.0, both.1))

pub none_answered : (w : WorldState) → IsSound w → w.openers ≡ [] → w.answers ≡ []
none_answered w sound none = nobody_answered w.answers (subst (λ n. All (λ a. (1 ≤ a.who) × (a.who ≤ n)) w.answers) (ap length none) sound.theirs)

pub no_lines : (stock : Stock) (w : WorldState) → IsRegion w.region.start → IsSound w → w.openers ≡ [] → w.region.failing.listed ≡ [] → IsAt stock stock w.region.start [] (play_state w [])
no_lines stock w region sound none listed =
    record {
      region = region;
      start_is = refl;
      past = nothing_made w.region w.openers w.answers none sound;
      answers = none_answered w sound none;
      text = refl;
      steady = listed;
      each = tt;
      playable = tt;
      held = tt;
      in_time = tt;
      reasoned = tt;
      torn = tt;
      roomy = tt;
      histories = tt;
      shown = tt;
      by_words = tt;
      answered = nothing_answered w.region.start;
      within = λ k d lt. absurd (omega (arith, lt));
      count = ap length none;
      open_to = none_in w sound none;
      drawn = λ s. omega arith;
      openers = λ i o is. let at : slice_get [] i ≡ Some o = subst (λ l. slice_get l i ≡ Some o) none is in absurd cc;
      unopened = λ who is. record { idle = refl; held = refl; keeps = refl };
    }
