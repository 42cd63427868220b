-- What the moves of a world leave of the loads that its answers count.
use Rattle.std.proofs.Common.{◌≡◌, ◌≢◌, ℕ, zero, suc, ◌+◌, ◌-◌, ◌≤◌, ◌<◌, ◌^◌, ◌⊎◌, min, Bool, true, false, cond, eqb, leb, List, [], ◌∷◌, ◌++◌, set, refl, sym, ap, ◌∙◌, inl, inr, arith, subst, ne_eqb}
use Rattle.std.proofs.lemmas.Bool.Decides.{eqb_tells, leb_tells}
use Rattle.std.specs.Prelude.{Option, Some, None, slice_get, ◌==◌}
use Rattle.change_log.specs.declared.call.Answer.{Answer}
use Rattle.change_log.specs.declared.call.Call.{Call}
use Rattle.opener.specs.Adds.{AddsTo, Counts, Loads, raised}
use Rattle.opener.specs.Deaths.{DiesAt}
use Rattle.opener.specs.Opener.{KeepsCall, KeepsWork, RunsOn}
use Rattle.opener.specs.Settles.{answers_by}
use Rattle.opener.specs.Quick.{ended_as}
use Rattle.opener.specs.State.{OpenerState}
use Rattle.opener.specs.declared.calls.Step.{Step}
use Rattle.opener.specs.declared.calls.Step.TheVariants as step
use Rattle.opener.specs.declared.work.Running.{Running}
use Rattle.opener.specs.declared.work.Work.{Work}
use Rattle.opener.specs.declared.work.Work.TheVariants.{Idle, Ended, Runs}
use Rattle.region_words.specs.Local.{Local, account_of, after_admission}
use Rattle.region_words.specs.Outside.{one_more}
use Rattle.region_words.specs.Share.{After, Counts as ShareCounts, Left, ShareState, died, failed}
use Rattle.region_words.specs.declared.account.Account.{Account}
use Rattle.world.specs.World.{WorldState, share_of}
use Rattle.world.specs.Moves.{BeginsCall, CameFrom, CountsLoads, Lead, Move, Opening, Beginning, Stepping, Dying, IsMove, Kills, Opens, Steps, loads_in, loads_of, new_opener}
use Rattle.world.specs.declared.moves.Moved.TheVariants as moved
use Rattle.world.proofs.Numbered.{AnswersOf, set_elsewhere, set_there}
use Rattle.world.proofs.Stepped.{after_stop, answers_for, at_work}

-- the loads of a call that runs
abbrev loads_at : Work → ℕ
loads_at (Runs running stage) = running.loads
loads_at _ = 0

abbrev loads_here : Option OpenerState → ℕ
loads_here (Some o) = loads_at o.work
loads_here None = 0

-- those of the running call of an opener, and of its answers
abbrev loads_running : ℕ → List OpenerState → ℕ
loads_running who openers = loads_here (slice_get openers (who - 1))

abbrev loads_so_far : ℕ → WorldState → ℕ
loads_so_far who w = loads_in who w.answers + loads_running who w.openers

-- a count of loads went up by one, or not
abbrev IsCounted : ℕ → ℕ → Type 0
IsCounted before now = (now ≡ before) ⊎ (now ≡ one_more before)

-- no more loads are counted than were made, unless the count stands at its end
abbrev IsMade : ℕ → WorldState → WorldState → Type 0
IsMade who old new = ((loads_of old who ≤ loads_of new who) × (loads_so_far who new + loads_of old who ≤ loads_so_far who old + loads_of new who)) ⊎ (loads_of new who ≡ 2 ^ 64 - 1)

record CountsMore (who : ℕ) (old new : WorldState) : Type 0 where
  counted : IsCounted (loads_of old who) (loads_of new who)
  made : IsMade who old new

counts_none : (who : ℕ) (old new : WorldState) → loads_of new who ≡ loads_of old who → loads_so_far who new ≤ loads_so_far who old → CountsMore who old new
counts_none who old new same few = record { counted = inl same; made = inl (omega (arith, same), omega (arith, same, few)) }

loads_join : (who : ℕ) (xs ys : List Answer) → loads_in who (xs ++ ys) ≡ loads_in who xs + loads_in who ys
loads_join who [] ys = omega arith
loads_join who (a ∷ xs) ys = let rest = loads_join who xs ys in omega (arith, rest)

-- an answer counts at most its loads, and another's none
own_answer : (who : ℕ) (a : Answer) → loads_in who (a ∷ []) ≤ a.loads
own_answer who a = go (a.who == who)
  where
    go : (b : Bool) → cond b a.loads 0 + 0 ≤ a.loads
    go true = omega arith
    go false = omega arith

other_answer : (who : ℕ) (a : Answer) → a.who ≢ who → loads_in who (a ∷ []) ≡ 0
other_answer who a apart = ap (λ b. cond b a.loads 0 + 0) (ne_eqb a.who who apart)

raised_least : (loads count : ℕ) → raised loads count ≤ count + loads
raised_least loads count = go (loads == 0)
  where
    go : (b : Bool) → cond b count (min (count + loads) 4294967295) ≤ count + loads
    go true = omega arith
    go false = omega arith

-- what a step of a call counts
module _ (who by holds : ℕ) (c : Running) (loads stores locks : ℕ) (next : OpenerState) where
  goes_on : (work : Work) → RunsOn c work → Counts c loads stores locks step.Going work → loads_at work ≤ c.loads + loads
  goes_on Idle on counts = absurd on
  goes_on Ended on counts = absurd on
  goes_on (Runs d stage) on counts = omega (arith, counts.loads_are, raised_least loads c.loads)

  counts_few : (came : Step) → KeepsCall by holds c came next → Counts c loads stores locks came next.work → loads_in who (answers_by came) + loads_at next.work ≤ c.loads + loads
  counts_few step.Idle keeps counts = absurd keeps
  counts_few step.Going keeps counts = let few = goes_on next.work keeps.0 counts in omega (arith, few)
  counts_few step.Again keeps counts = let few = goes_on next.work keeps.0 counts in omega (arith, few)
  counts_few (step.Blocked holder) keeps counts = let few = goes_on next.work keeps.0 counts in omega (arith, few)
  counts_few (step.Answered a) keeps counts = omega (arith, own_answer who a, counts.loads_are, raised_least loads c.loads, ap loads_at keeps.1)
  counts_few (step.Stopped why) keeps counts = after_stop (λ work. 0 + loads_at work ≤ c.loads + loads) (omega arith) (omega arith) by holds c next why keeps

-- no more loads are counted than are made
abbrev AreFew : ℕ → Step → Work → Work → ℕ → ℕ → Type 0
AreFew who came work next before now =
    ((before ≤ now) × (loads_in who (answers_by came) + loads_at next + before ≤ loads_at work + now)) ⊎ (now ≡ 2 ^ 64 - 1)

made_few : (loads counted before now : ℕ) (rest : ℕ) → counted ≤ rest + loads → ((loads ≡ 0) × (now ≡ before)) ⊎ ((loads ≡ 1) × (now ≡ one_more before)) →
    ((before ≤ now) × (counted + before ≤ rest + now)) ⊎ (now ≡ 2 ^ 64 - 1)
made_few loads counted before now rest few (inl none) = inl (omega (arith, none.1), omega (arith, few, none.0, none.1))
made_few loads counted before now rest few (inr one) = go (leb_tells (2 ^ 64 - 1) (before + 1))
  where
    go : ((leb (2 ^ 64 - 1) (before + 1) ≡ true) × (2 ^ 64 - 1 ≤ before + 1)) ⊎ ((leb (2 ^ 64 - 1) (before + 1) ≡ false) × (before + 1 < 2 ^ 64 - 1)) →
        ((before ≤ now) × (counted + before ≤ rest + now)) ⊎ (now ≡ 2 ^ 64 - 1)
    go (inl end) = inr (omega (arith, one.1, end.1))
    go (inr below) = let is : now ≡ before + 1 = omega (arith, one.1, below.1) in inl (omega (arith, is), omega (arith, is, few, one.0))

module _ (who : ℕ) (o next : OpenerState) (came : Step) (s t : ShareState) where
  step_few : (work : Work) → o.work ≡ work → KeepsWork o came next → AddsTo o.who work came next.work s t → AreFew who came work next.work s.counts.loads t.counts.loads
  step_few Idle is keeps adds =
      let k = at_work o next came Idle is keeps in
      let same = ap (λ (x : ShareState). x.counts.loads) adds in
      inl (omega (arith, same), omega (arith, same, ap (λ x. loads_in who (answers_by x)) k.0, ap (λ (p : OpenerState). loads_at p.work) k.1))
  step_few Ended is keeps adds =
      let k = at_work o next came Ended is keeps in
      let same = ap (λ (x : ShareState). x.counts.loads) adds in
      inl (omega (arith, same), omega (arith, same, ap (λ x. loads_in who (answers_by x)) k.0, ap (λ (p : OpenerState). loads_at p.work) k.1))
  step_few (Runs c at) is keeps adds =
      let few = counts_few who o.who o.holds c adds.loads _ _ next came (at_work o next came (Runs c at) is keeps) adds.counts in
      made_few adds.loads (loads_in who (answers_by came) + loads_at next.work) s.counts.loads t.counts.loads c.loads few adds.loaded

step_loads : (by : ℕ) (came : Step) (s t : ShareState) (work next : Work) → AddsTo by work came next s t → IsCounted s.counts.loads t.counts.loads
step_loads by came s t Idle next adds = inl (ap (λ (x : ShareState). x.counts.loads) adds)
step_loads by came s t Ended next adds = inl (ap (λ (x : ShareState). x.counts.loads) adds)
step_loads by came s t (Runs c at) next adds = go adds.loaded
  where
    go : Loads adds.loads s t → IsCounted s.counts.loads t.counts.loads
    go (inl none) = inl none.1
    go (inr one) = inr one.1

-- a step answers for the opener that makes it
others_none : (who : ℕ) (o next : OpenerState) (came : Step) → o.who ≢ who → AnswersOf o.who came → loads_in who (answers_by came) ≡ 0
others_none who o next (step.Answered a) apart own = other_answer who a (λ e. apart (sym own ∙ e))
others_none who o next step.Idle apart own = refl
others_none who o next step.Going apart own = refl
others_none who o next step.Again apart own = refl
others_none who o next (step.Blocked holder) apart own = refl
others_none who o next (step.Stopped why) apart own = refl

-- one step of an opener
module _ (maker who : ℕ) (o next : OpenerState) (came : Step) (old new : WorldState) (least : 1 ≤ who) (most : who ≤ 64) (steps : Steps maker o next came old new) where
  answered : loads_in who new.answers ≡ loads_in who old.answers + loads_in who (answers_by came)
  answered = ap (loads_in who) steps.answers ∙ loads_join who old.answers (answers_by came)

  own_step : maker ≡ who → CountsMore who old new
  own_step same =
      record {
        counted = subst (λ w. IsCounted (loads_of old w) (loads_of new w)) same (step_loads o.who came (share_of old.region maker) (share_of new.region maker) o.work next.work steps.adds);
        made = by few;
      }
    where
      was : loads_running who old.openers ≡ loads_at o.work
      was = ap (λ w. loads_here (slice_get old.openers (w - 1))) (sym same) ∙ ap loads_here steps.lives.there

      is : loads_running who new.openers ≡ loads_at next.work
      is = ap (λ w. loads_here (slice_get new.openers (w - 1))) (sym same) ∙ ap (λ l. loads_here (slice_get l (maker - 1))) steps.openers
          ∙ ap loads_here (set_there old.openers (maker - 1) o next steps.lives.there)

      few : AreFew who came o.work next.work (loads_of old who) (loads_of new who)
      few = subst (λ w. AreFew who came o.work next.work (loads_of old w) (loads_of new w)) same
          (step_few who o next came (share_of old.region maker) (share_of new.region maker) o.work refl steps.call steps.adds)

      by : AreFew who came o.work next.work (loads_of old who) (loads_of new who) → IsMade who old new
      by (inl few) = inl (few.0, omega (arith, few.1, answered, was, is))
      by (inr end) = inr end

  other_step : maker ≢ who → CountsMore who old new
  other_step apart =
      let slots : maker - 1 ≢ who - 1 = (λ e. apart (omega (arith, e, least, steps.lives.numbered))) in
      let same : loads_running who new.openers ≡ loads_running who old.openers = ap (λ l. loads_here (slice_get l (who - 1))) steps.openers ∙ ap loads_here (set_elsewhere old.openers (maker - 1) (who - 1) next slots) in
      let none = others_none who o next came (λ e. apart (sym steps.number ∙ e)) (answers_for o next came o.work refl steps.call) in
      counts_none who old new (steps.others who least most (λ e. apart (sym e))) (omega (arith, answered, same, none))

  step_counts : CountsMore who old new
  step_counts = go (eqb_tells maker who)
    where
      go : ((eqb maker who ≡ true) × (maker ≡ who)) ⊎ ((eqb maker who ≡ false) × (maker ≢ who)) → CountsMore who old new
      go (inl same) = own_step same.1
      go (inr apart) = other_step apart.1

-- one opener more
set_loads : (accounts : List Account) (who w : ℕ) (a : Account) → a.loads ≡ (account_of accounts who).loads → (account_of (set accounts who a) w).loads ≡ (account_of accounts w).loads
set_loads [] who w a same = refl
set_loads (b ∷ accounts) zero zero a same = same
set_loads (b ∷ accounts) zero (suc w) a same = refl
set_loads (b ∷ accounts) (suc who) zero a same = refl
set_loads (b ∷ accounts) (suc who) (suc w) a same = set_loads accounts who w a same

new_runs_none : (openers : List OpenerState) (n i : ℕ) → loads_here (slice_get (openers ++ new_opener n ∷ []) i) ≡ loads_here (slice_get openers i)
new_runs_none [] n zero = refl
new_runs_none [] n (suc i) = refl
new_runs_none (o ∷ openers) n zero = refl
new_runs_none (o ∷ openers) n (suc i) = new_runs_none openers n i

open_counts : (maker who : ℕ) (old new : WorldState) → Opens maker old new → CountsMore who old new
open_counts maker who old new opens =
    let loads : loads_of new who ≡ loads_of old who = ap (λ (l : Local). (account_of l.accounts who).loads) opens.region
    ∙ set_loads old.region.accounts maker who (after_admission (account_of old.region.accounts maker)) refl in
    let runs : loads_running who new.openers ≡ loads_running who old.openers = ap (λ l. loads_here (slice_get l (who - 1))) opens.openers ∙ new_runs_none old.openers maker (who - 1) in
    counts_none who old new loads (omega (arith, runs, ap (loads_in who) opens.answers))

-- a call that begins has loaded nothing
set_runs : (openers : List OpenerState) (i j : ℕ) (next : OpenerState) → loads_at next.work ≡ 0 → loads_here (slice_get (set openers i next) j) ≤ loads_here (slice_get openers j)
set_runs [] i j next none = omega arith
set_runs (o ∷ openers) zero zero next none = omega (arith, none)
set_runs (o ∷ openers) zero (suc j) next none = omega arith
set_runs (o ∷ openers) (suc i) zero next none = omega arith
set_runs (o ∷ openers) (suc i) (suc j) next none = set_runs openers i j next none

begin_counts : (maker who : ℕ) (asked : Call) (now : ℕ) (o next : OpenerState) (old new : WorldState) → BeginsCall maker asked now o next old new → CountsMore who old new
begin_counts maker who asked now o next old new b =
    let none : loads_at next.work ≡ 0 = ap (λ (p : OpenerState). loads_at p.work) b.begins.work in
    let loads : loads_of new who ≡ loads_of old who = ap (λ (l : Local). (account_of l.accounts who).loads) b.region in
    let runs : loads_running who new.openers ≤ loads_running who old.openers = subst (λ l. loads_here (slice_get l (who - 1)) ≤ loads_running who old.openers) (sym b.openers) (set_runs old.openers (maker - 1) (who - 1) next none) in
    counts_none who old new loads (omega (arith, runs, ap (loads_in who) b.answers))

-- one that dies has made no load more
dead_runs : (openers : List OpenerState) (i j n : ℕ) → loads_here (slice_get (set openers i (ended_as n)) j) ≤ loads_here (slice_get openers j)
dead_runs openers i j n = set_runs openers i j (ended_as n) refl

after_death : (left : Left) (s t : ShareState) → left.counts.loads ≡ s.counts.loads → After left s t → t.counts.loads ≡ s.counts.loads
after_death left s t none after = ap (λ (c : ShareCounts). c.loads) after.counts ∙ none

death_loads : (work : Work) (bits : Option ℕ) (s t : ShareState) → DiesAt work bits s t → t.counts.loads ≡ s.counts.loads
death_loads Ended bits s t same = ap (λ (x : ShareState). x.counts.loads) same
death_loads Idle bits s t (inl dies) = after_death (died dies.left s) s t refl dies.goes.after
death_loads Idle bits s t (inr fails) = after_death (failed s) s t refl fails.after
death_loads (Runs running at) bits s t (inl dies) = after_death (died dies.left s) s t refl dies.goes.after
death_loads (Runs running at) bits s t (inr fails) = after_death (failed s) s t refl fails.after

death_counts : (maker who : ℕ) (bits : Option ℕ) (o : OpenerState) (old new : WorldState) → 1 ≤ who → who ≤ 64 → Kills maker bits o old new → CountsMore who old new
death_counts maker who bits o old new least most kills = counts_none who old new (loads (eqb_tells maker who)) (omega (arith, runs, ap (loads_in who) kills.answers))
  where
    runs : loads_running who new.openers ≤ loads_running who old.openers
    runs = subst (λ l. loads_here (slice_get l (who - 1)) ≤ loads_running who old.openers) (sym kills.openers) (dead_runs old.openers (maker - 1) (who - 1) maker)

    loads : ((eqb maker who ≡ true) × (maker ≡ who)) ⊎ ((eqb maker who ≡ false) × (maker ≢ who)) → loads_of new who ≡ loads_of old who
    loads (inl same) = subst (λ w. loads_of new w ≡ loads_of old w) same.1 (death_loads o.work bits (share_of old.region maker) (share_of new.region maker) kills.dies)
    loads (inr apart) = kills.others who least most (λ e. apart.1 (sym e))

same_counts : (who : ℕ) (old new : WorldState) → new ≡ old → CountsMore who old new
same_counts who old new same = counts_none who old new (ap (λ w. loads_of w who) same) (omega (arith, ap (loads_so_far who) same))

-- one move
move_counts : (who : ℕ) (m : Move) (old new : WorldState) → 1 ≤ who → who ≤ 64 → IsMove m old new → CountsMore who old new
move_counts who (Opening maker) old new least most opens = open_counts maker who old new opens
move_counts who (Beginning maker asked now) old new least most b = begin_counts maker who asked now b.0 b.1 old new b.2
move_counts who (Dying maker bits) old new least most m = death_counts maker who bits m.0 old new least most m.1
move_counts who (Stepping maker moved.NoOpener) old new least most m = same_counts who old new m.0
move_counts who (Stepping maker moved.Idle) old new least most m = step_counts maker who m.0 m.1 m.2 old new least most m.4
move_counts who (Stepping maker moved.Going) old new least most m = step_counts maker who m.0 m.1 m.2 old new least most m.4
move_counts who (Stepping maker (moved.Blocked holder)) old new least most m = step_counts maker who m.0 m.1 m.2 old new least most m.4
move_counts who (Stepping maker (moved.Answered place)) old new least most m = step_counts maker who m.0 m.1 m.2 old new least most m.4
move_counts who (Stepping maker (moved.Stopped why)) old new least most m = step_counts maker who m.0 m.1 m.2 old new least most m.4

-- many moves
many_count : (who : ℕ) (moves : List Move) (old new : WorldState) → 1 ≤ who → who ≤ 64 → Lead moves old new → IsMade who old new
many_count who [] old new least most same = (same_counts who old new same).made
many_count who (m ∷ moves) old new least most (between, lead, is) = go (many_count who moves old between least most lead) (move_counts who m between new least most is)
  where
    at_end : loads_of between who ≡ 2 ^ 64 - 1 → IsCounted (loads_of between who) (loads_of new who) → loads_of new who ≡ 2 ^ 64 - 1
    at_end end (inl same) = same ∙ end
    at_end end (inr more) = omega (arith, more, end)

    go : IsMade who old between → CountsMore who between new → IsMade who old new
    go (inr end) c = inr (at_end end c.counted)
    go (inl so_far) c = after c.made
      where
        after : IsMade who between new → IsMade who old new
        after (inr end) = inr end
        after (inl more) = inl (omega (arith, so_far.0, more.0), omega (arith, so_far.1, more.1))

-- the moves of a world that had no openers
pub loads_counted : (who : ℕ) (old new : WorldState) → 1 ≤ who → who ≤ 64 → old.openers ≡ [] → old.answers ≡ [] → CameFrom old new → CountsLoads who old new
loads_counted who old new least most none silent came = go (many_count who came.moves old new least most came.lead)
  where
    nothing : loads_so_far who old ≡ 0
    nothing = let runs : loads_running who old.openers ≡ 0 = ap (λ l. loads_here (slice_get l (who - 1))) none in omega (arith, runs, ap (loads_in who) silent)

    go : IsMade who old new → CountsLoads who old new
    go (inl made) = inl (omega (arith, made.0, made.1, nothing))
    go (inr end) = inr end

-- no move was made, one more was, or more of them
pub came_still : (w : WorldState) → CameFrom w w
came_still w = record { moves = []; lead = refl }

pub came_on : (old between new : WorldState) (m : Move) → CameFrom old between → IsMove m between new → CameFrom old new
came_on old between new m came is = record { moves = m ∷ came.moves; lead = (between, came.lead, is) }

came_more : (more moves : List Move) (old between new : WorldState) → Lead moves old between → Lead more between new → Lead (more ++ moves) old new
came_more [] moves old between new first same = subst (Lead moves old) (sym same) first
came_more (m ∷ more) moves old between new first (last, lead, is) = (last, came_more more moves old between last first lead, is)

pub came_join : (old between new : WorldState) → CameFrom old between → CameFrom between new → CameFrom old new
came_join old between new first last = record { moves = last.moves ++ first.moves; lead = came_more last.moves first.moves old between new first.lead last.lead }
