-- What an opener knows after a step of a partial load.
use Rattle.std.proofs.Common.{◌≡◌, ◌+◌, ◌-◌, ◌/◌, ◌≤◌, ℕ, arith, Bool, true, false, List, [], length, refl, sym, ◌∙◌, subst, ap, take_all, inl, inr}
use Rattle.std.specs.Prelude.{Option, Some, None, ⊤}
use Rattle.change_log.specs.Acts.{replay}
use Rattle.kv_pairs.specs.Growth.{largest}
use Rattle.lock_rules.specs.declared.table.LockKind.{LockKind}
use Rattle.region_words.specs.Apart.{Apart}
use Rattle.region_words.specs.Lawful.{Lawful}
use Rattle.region_words.specs.Outcome.{AtRest}
use Rattle.region_words.specs.Past.{region_after, changes_of}
use Rattle.region_words.specs.Region.{Region, IsRegion, IsAccepted, base, file_size}
use Rattle.region_words.specs.Share.{ShareState, Goes, loaded}
use Rattle.region_words.specs.Told.{OnTold, changes_told}
use Rattle.region_words.specs.declared.event.Event.{Event}
use Rattle.region_words.specs.declared.standing.Standing.{Standing}
use Rattle.region_words.proofs.MainLaw.{main_law}
use Rattle.region_words.proofs.Notices.{kept_at_rest, whole_history}
use Rattle.region_words.proofs.Telling.{told_and, told_map}
use Rattle.expiring_map.specs.Map.{Map}
use Rattle.loader.specs.PartialLoads.{PartialLoad, Extends, GivesShown, GivesSound, HasLoadedPart, IsGoing, IsSoundImage, added_size, image_in, kept_image, loads_made}
use Rattle.loader.specs.declared.loaded.Image.{Image}
use Rattle.loader.proofs.GoingOn.{nothing_lacks}
use Rattle.loader.proofs.PartTelling.{extends_goes_on}
use Rattle.loader.proofs.RecordAnswered.{checksum-is}
use Rattle.opener.specs.State.{OpenerState}
use Rattle.opener.specs.Calls.{IsPlain, is_write}
use Rattle.opener.specs.Counted.{counted}
use Rattle.opener.specs.Ends.{answer_of, Finishes, GoesOn, IsReady, IsReadyBy, Leaves, LeavesBy, OnImage, Replies, lock_by}
use Rattle.opener.specs.Extents.{BeginsLoad, IsGoneOn}
use Rattle.opener.specs.Fresh.{LoadsFew, loads_counted}
use Rattle.opener.specs.Opener.{Facts, IsImage, IsLastPlace, IsShown, KeepsWords, LooksUnder, MatchesRegion, Tied, running_as}
use Rattle.opener.specs.Steps.{ContinuesTo, LoadFails, LoadHolds, Steps}
use Rattle.opener.specs.declared.calls.Step.{Step}
use Rattle.opener.specs.declared.calls.Step.TheVariants as step
use Rattle.opener.specs.declared.calls.Stop.{Stop}
use Rattle.opener.specs.declared.calls.Stop.TheVariants as why
use Rattle.opener.specs.declared.work.End.{End}
use Rattle.opener.specs.declared.work.End.TheVariants as end
use Rattle.opener.specs.declared.work.Extent.TheVariants.{Full}
use Rattle.opener.specs.declared.work.Running.{Running}
use Rattle.opener.specs.declared.work.Stage.{Stage}
use Rattle.opener.specs.declared.work.Stage.TheVariants.{Continue, Load, Size, Unlock}
use Rattle.opener.specs.declared.work.Work.TheVariants.{Runs}
use Rattle.opener.proofs.Carry.{changes_are, none_reserved, told_call, tied_after}
use Rattle.opener.proofs.Falling.{plainly_shorter}
use Rattle.opener.proofs.Leaves.{LeftWith, Leaving}
use Rattle.opener.proofs.Leaving.{rests_locked}
use Rattle.opener.proofs.LoadBegins.{whole_tied}
use Rattle.opener.proofs.Ready.{ReadyWith}
use Rattle.opener.proofs.Same.{SameLock, loaded_same}
use Rattle.opener.proofs.Stages.{looks_on}
use Rattle.opener.proofs.StepEnds.{loads_leave, loads_on, loads_ready}
use Rattle.opener.proofs.Stopped.{nothing_told}

abbrev stop_of_end : End → Stop
stop_of_end (end.Stop why) = why
stop_of_end (end.Answer place reply) = why.Memory

-- few loads were counted where a call goes on with an image, or is answered by it
module _ (at : PartialLoad) (i : Image) (next : Running) (few : next.loads ≤ (i.standing.size - at.kept.size + 3) / 4 + 8) where
  abbrev Few : Step → OpenerState → Type 0
  Few result new = LoadsFew new.image (Continue at) (loads_counted result new.work)

  going_few : (to : Stage) (mid : OpenerState) (result : Step) (new : OpenerState) → mid.image ≡ Some i → GoesOn next to mid result new → Few result new
  going_few to mid result new kept on =
      subst (λ r. Few r new) (sym on.0) (subst (λ (n : OpenerState). Few step.Going n) (sym on.1) (subst (λ z. LoadsFew z (Continue at) next.loads) (sym kept) few))

  finishes_few : (how : End) (ended : ℕ) (mid : OpenerState) (result : Step) (new : OpenerState) → mid.image ≡ Some i → Finishes next how ended mid result new → Few result new
  finishes_few (end.Answer place reply) ended mid result new kept is =
      subst (λ r. Few r new) (sym is.0)
      (subst (λ (n : OpenerState). Few (step.Answered (answer_of mid.who next place ended reply)) n) (sym is.1) (subst (λ z. LoadsFew z (Continue at) next.loads) (sym kept) few))
  finishes_few (end.Stop stop) ended mid result new kept is = subst (λ z. LoadsFew z (Continue at) (loads_counted result new.work)) (sym (ap (λ (n : OpenerState). n.image) is.1)) tt

  leaves_few : (how : End) (ended : ℕ) (mid : OpenerState) (result : Step) (new : OpenerState) → mid.image ≡ Some i → Leaves next how ended mid result new → Few result new
  leaves_few how ended mid result new kept leaves = go next.taken leaves
    where
      go : (taken : Option LockKind) → LeavesBy taken next how ended mid result new → Few result new
      go None is = finishes_few how ended mid result new kept is
      go (Some kind) is = going_few (Unlock how) mid result new kept is

  ready_few : (place ended : ℕ) (mid : OpenerState) (result : Step) (new : OpenerState) → mid.image ≡ Some i → IsReady next place ended mid result new → Few result new
  ready_few place ended mid result new kept ready = go (is_write next.call) ready
    where
      go : (b : Bool) → IsReadyBy b next place ended mid result new → Few result new
      go true on = going_few Size mid result new kept on
      go false (how, replies, leaves) = leaves_few how ended mid result new kept leaves

-- the image to which the kept one goes on is the one that the region shows, with the map of the history
module _ (start : Region) (past : List Event) (region : IsRegion start) (l : Lawful start past) (rests : Apart start past → AtRest start past) (p : PartialLoad) (m : Map) (i : Image)
    (before : IsImage (kept_image m p) start past) (shows : GivesShown p i) (is : i ≡ image_in p) (e : Extends m p) (has : HasLoadedPart p (region_after start past)) where
  shown_is : IsAccepted start → Apart start past → IsShown i start past
  shown_is ok apart =
      let was = before.shown ok apart in
      let now =
      shows m start past (record { region = region; accepted = ok; lawful = l; apart = apart })
      (record { later = was.later; earlier = was.earlier; is = was.is; kept = was.shown.kept; known = was.shown.known }) e has in
      record {
        kept = kept_at_rest start past i.standing.size i.map (rests apart) now.shows now.maps;
        known = now.known;
        history = whole_history start past i.standing.size i.map (main_law start past region ok l apart (rests apart)) now.shows now.maps;
      }

  matches_is : MatchesRegion (Some i) start past
  matches_is =
      let may = (nothing_lacks p e.complete).0 in
      let goes = extends_goes_on p m (region_after start past) has e in
      (ap (λ (i : Image). i.standing.checksum) is ∙ checksum-is p.words (region_after start past) may.made has.words, ap (λ (i : Image). i.standing.sequence) is ∙ sym goes.sequence)

  image_is : IsImage i start past
  image_is =
      record {
        accepted = before.accepted;
        file = omega (arith, has.file, ap (λ (i : Image). i.standing.file_size) is);
        firm = λ none. ap (λ (i : Image). i.standing.version) is ∙ before.firm none;
        shown = λ ok apart. record { later = []; earlier = past; is = refl; shown = shown_is ok apart };
      }

module _ (o : OpenerState) (running next : Running) (old : PartialLoad) (result : Step) (new : OpenerState) (s t : ShareState) (tied : Tied (running_as o running (Continue old)) s)
    (more : next ≡ record running { loads = counted (running.loads + 1) }) (goes : Goes (loaded s) s t) where
  same : SameLock running next
  same = loaded_same running next more

  lock : lock_by o.holds running.taken ≡ lock_by o.holds next.taken
  lock = ap (lock_by o.holds) (sym same.taken)

  looks_next : LooksUnder next (lock_by o.holds next.taken)
  looks_next = looks_on running next (lock_by o.holds next.taken) (lock_by o.holds running.taken) same.same.call lock tied.at.2.2

  counts : running.loads ≡ 2 + loads_made old → loads_made old ≤ 3 + largest / 4 → next.loads ≡ 3 + loads_made old
  counts has most = omega (arith, has, most, ap (λ (r : Running). r.loads) more)

  -- the load goes on
  pub going_steps : (now : PartialLoad) → IsGoing now → now.kept ≡ old.kept → now.map ≡ old.map → loads_made now ≡ loads_made old + 1 → loads_made now ≤ 4 + largest / 4 → loads_made now ≤ 4 + now.file_size / 4 →
      OnTold t.told (λ h. HasLoadedPart now (region_after h.start h.past)) → GoesOn next (Continue now) o result new → Steps o running (Continue old) result new s t
  going_steps now going kept map one most within told on =
      let image : kept_image now.map now ≡ kept_image old.map old = λ j. record { standing = kept j; map = map j } in
      loads_on tied (λ stored none. none) o next (Continue now) refl goes more tt (λ looks. (refl, λ j. Some (image j))) (λ has. counts has (omega (arith, one, most)) ∙ omega (arith, one)) on refl (λ so_far are. are)
      (tied_after (running_as o running (Continue old)) (running_as o next (Continue now)) s t (loaded s) (λ start past. HasLoadedPart now (region_after start past)) tied goes.after refl tied.ended
      (tied.holds ∙ lock) tied.deep tied.sound
      ((λ some. same.taken ∙ tied.at.0 some), subst IsPlain (sym same.same.call) tied.at.1, (going, (λ none. tied.at.2.1 (lock ∙ none)), looks_next, subst IsSoundImage (sym image) tied.at.2.3, tied.at.2.4))
      (none_reserved s t (loaded s) goes.after tied.owes) told
      (λ start past region lawful mine facts e. record {
        image = facts.image;
        rests = λ held. facts.rests (lock ∙ held);
        work = (omega (arith, same.same.begun, facts.work.0), (e, subst (λ i. IsImage i start past) (sym image) facts.work.1.1));
      }))
      (record {
        falls = λ words known. omega (arith, one, within, known);
        met = told_map t.told (λ h. HasLoadedPart now (region_after h.start h.past)) (λ h. now.file_size ≤ file_size (region_after h.start h.past)) (λ h has. has.file) told;
      })
      tt

  -- it doesn't hold, and a full load begins
  pub fails_steps : LoadFails old t → BeginsLoad Full next o result new → Steps o running (Continue old) result new s t
  fails_steps fails (loading, fresh, on) =
      loads_on tied (λ stored none. none) o next (Load loading) refl goes more fails tied.at.2.4 (λ has. omega (arith, fresh.none)) on refl (λ so_far are. are)
      (whole_tied o running next (Continue old) s t (loaded s) tied goes.after same.same
      (record {
        lock = tied.holds ∙ lock;
        held = λ none. tied.at.2.1 (lock ∙ none);
        alive = tied.ended;
        places = tied.owes;
        own = λ some. same.taken ∙ tied.at.0 some;
        plain = subst IsPlain (sym same.same.call) tied.at.1;
        looks = looks_next;
        rests = λ start past lawful facts held apart. facts.rests (lock ∙ held) refl apart;
      }) loading fresh)
      (plainly_shorter _ _ t refl (λ words. omega arith)) tt

  leaving : (image : Option Image) → OnImage image IsSoundImage → Leaving o (record o { image = image }) running next s t
  leaving image sound =
      record {
        left = loaded s;
        after = goes.after;
        alive = refl;
        lock = refl;
        places = tied.owes;
        who = refl;
        holds = refl;
        sound = sound;
        taken = same.taken;
        plain = subst IsPlain (sym same.same.call) tied.at.1;
      }

  -- memory is short
  pub memory_steps : (ended : ℕ) → ended ≡ changes_told t.told → Leaves next (end.Stop why.Memory) ended o result new → Steps o running (Continue old) result new s t
  memory_steps ended count left =
      loads_leave tied (λ stored none. none) o next (end.Stop why.Memory) ended (leaving o.image tied.sound) goes more tied.at.1 refl tt left count refl tt tt (λ so_far are. are) (λ looks. absurd cc) (λ has. tt)
      (told_call (running_as o running (Continue old)) s t (loaded s) (λ start past. ⊤) (LeftWith None o next (end.Stop why.Memory)) tied goes.after (nothing_told t.told)
      (λ start past region lawful mine facts e. record {
        begun = omega (arith, same.same.begun, facts.work.0);
        image = facts.image;
        end_is = tt;
        ends = tt;
        rests = λ held apart. facts.rests (lock ∙ held) refl apart;
      }))
      (plainly_shorter _ _ t refl (λ words. omega arith))

  -- it holds, and the image is kept from now on
  module _ (now : PartialLoad) (i : Image) (place : ℕ) (kept : now.kept ≡ old.kept) (is : i ≡ image_in now) (sound : GivesSound now i) (shows : GivesShown now i) (e : Extends old.map now)
      (told : OnTold t.told (λ h. HasLoadedPart now (region_after h.start h.past))) (count : place ≡ changes_told t.told) where
    abbrev mid : OpenerState
    mid = record o { image = Some i }

    kept_is : kept_image old.map now ≡ kept_image old.map old
    kept_is j = record { standing = kept j; map = old.map }

    ready : OnTold t.told (λ k. ReadyWith None mid i next place k.start k.past)
    ready =
        told_call (running_as o running (Continue old)) s t (loaded s) (λ start past. HasLoadedPart now (region_after start past) × (place ≡ length (changes_of past)))
        (ReadyWith None mid i next place) tied goes.after (told_and t.told _ _ _ (λ h p q. (p, q)) told (changes_are t.told place count))
        (λ start past region lawful mine facts e. go start past region lawful facts (rests_locked o running (Continue old) start past s.who lawful facts refl (lock_by o.holds running.taken) refl tied.at.2.1 (mine ∙ tied.holds)) e)
      where
        go : (start : Region) (past : List Event) → IsRegion start → Lawful start past → Facts (running_as o running (Continue old)) start past → (Apart start past → AtRest start past) →
            HasLoadedPart now (region_after start past) × (place ≡ length (changes_of past)) → ReadyWith None mid i next place start past
        go start past region lawful facts rests has =
            let before : IsImage (kept_image old.map now) start past = subst (λ k. IsImage k start past) (sym kept_is) facts.work.1.1 in
            record {
              begun = omega (arith, same.same.begun, facts.work.0, has.1);
              placed = omega (arith, has.1);
              image = image_is start past region lawful rests now old.map i before shows is e has.0;
              found = λ ok apart.
                  (shown_is start past region lawful rests now old.map i before shows is e has.0 ok apart).history
                  ∙ ap (replay (base start)) (sym (take_all place (changes_of past) (omega (arith, has.1))));
              now = λ write ok apart. shown_is start past region lawful rests now old.map i before shows is e has.0 ok apart;
              ends = λ reply read.
                  subst (λ w. IsLastPlace w place (length (changes_of past)) × KeepsWords w (Some i) start past) (sym read) (has.1, matches_is start past region lawful rests now old.map i before shows is e has.0);
              rests = λ held apart. facts.rests (lock ∙ held) refl apart;
            }

    pub holds_steps : loads_made old ≤ 3 + largest / 4 → LoadHolds old t → IsGoneOn next i place o result new → Steps o running (Continue old) result new s t
    holds_steps most holds on =
        loads_ready tied (λ stored none. none) mid next place place i (leaving (Some i) (sound old.map (subst IsSoundImage (sym kept_is) tied.at.2.3) e)) goes more tied.at.1 holds unlocks (λ a. holds) on count refl refl looks_next (λ so_far none. none) (λ looks. absurd cc)
        (λ has. omega (arith, counts has most)) (λ has read. omega (arith, counts has most)) ready (plainly_shorter _ _ t refl (λ words. omega arith)) (λ how. plainly_shorter _ _ t refl (λ words. omega arith))
      where
        unlocks : (how : End) → Replies next i place how → ContinuesTo old (Runs next (Unlock how)) t
        unlocks (end.Answer at reply) replies = holds
        unlocks (end.Stop stop) (inl (reply, replies, is)) = let both = is in absurd cc
        unlocks (end.Stop stop) (inr is) = ap stop_of_end is

    pub holds_few : loads_made now ≡ loads_made old + 1 → loads_made now ≤ 4 + largest / 4 → loads_made now ≤ 4 + (added_size now + 3) / 4 → running.loads ≡ 2 + loads_made old → IsGoneOn next i place o result new →
        LoadsFew new.image (Continue old) (loads_counted result new.work)
    holds_few one most bound has on =
        let may = (nothing_lacks now e.complete).0 in
        ready_few old i next
        (omega (arith, counts has (omega (arith, one, most)), one, bound, may.size, ap (λ (i : Image). i.standing.size) is, ap (λ (s : Standing). s.size) kept)) place place mid result new refl on
