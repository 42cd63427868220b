-- What an opener knows after a load.
use Rattle.std.proofs.Common.{◌+◌, ◌≡◌, ◌≢◌, ◌≤◌, ℕ, arith, List, [], length, refl, sym, ◌∙◌, subst, ap, take_all}
use Rattle.std.specs.Prelude.{Option, Some, None, IsOk, ⊤, unwrap_or, option_and_then}
use Rattle.std.specs.FinMap as fin
use Rattle.expiring_map.specs.Map.{Map}
use Rattle.change_log.specs.Acts.{replay}
use Rattle.lock_rules.specs.declared.table.LockKind.{LockKind}
use Rattle.meta_record.specs.Records.{checked}
use Rattle.meta_record.specs.declared.record.RecordFault.{RecordFault}
use Rattle.meta_record.specs.declared.record.RecordFault.TheVariants as fault
use Rattle.meta_record.specs.declared.shown.Shown.{Shown}
use Rattle.meta_record.specs.declared.shown.Shown.TheVariants as seen
use Rattle.region_words.specs.Region.{Region, IsRegion, IsAccepted, record_of, header, flag, payload_of, file_size, shown, size_of, map_shown, map_in, base}
use Rattle.region_words.specs.Past.{region_after, changes_of}
use Rattle.region_words.specs.Apart.{Apart}
use Rattle.region_words.specs.Lawful.{Lawful, Between, map_after}
use Rattle.region_words.specs.Standings.{standing_of}
use Rattle.region_words.specs.declared.standing.Standing.{Standing}
use Rattle.region_words.specs.Outcome.{AtRest}
use Rattle.region_words.specs.Told.{OnTold, changes_told}
use Rattle.region_words.specs.Share.{ShareState, Goes, loaded}
use Rattle.region_words.specs.Local.{lock_after}
use Rattle.region_words.specs.declared.event.Event.{Event}
use Rattle.region_words.proofs.BeganAccepted.{accepted_at_rest}
use Rattle.region_words.proofs.MainLaw.{main_law}
use Rattle.region_words.proofs.Notices.{kept_at_rest, whole_history}
use Rattle.region_words.proofs.Shows.{whole_shown}
use Rattle.region_words.proofs.Telling.{told_and, told_map}
use Rattle.loader.specs.Loads.{IsLoadOf, IsLoadedWhole, IsRefusedFor, Load as Loading, loads_of}
use Rattle.loader.specs.declared.loaded.Image.{Image}
use Rattle.loader.specs.declared.loaded.Loaded.{Loaded}
use Rattle.loader.proofs.Finished.{sound_image}
use Rattle.opener.specs.State.{OpenerState}
use Rattle.opener.specs.Calls.{IsPlain}
use Rattle.opener.specs.Ends.{IsLoaded, IsLoadedBy, Leaves, OnImage, lock_by, stop_of}
use Rattle.loader.specs.PartialLoads.{IsSoundImage}
use Rattle.opener.specs.Opener.{Tied, Facts, IsImage, IsLastPlace, IsShown, HasReason, KeepsWords, LooksUnder, MatchesRegion, MayEnd, running_as}
use Rattle.opener.specs.declared.calls.Step.{Step}
use Rattle.opener.specs.declared.calls.Stop.{Stop}
use Rattle.opener.specs.declared.calls.Stop.TheVariants as why
use Rattle.opener.specs.declared.work.Running.{Running}
use Rattle.opener.specs.declared.work.End.TheVariants as end
use Rattle.opener.specs.declared.work.Stage.TheVariants.{Load}
use Rattle.opener.specs.declared.work.Work.TheVariants.{Runs}
use Rattle.opener.proofs.Carry.{told_call, changes_are}
use Rattle.opener.proofs.Falling.{load_left, plainly_shorter}
use Rattle.opener.proofs.Leaves.{LeftWith, Leaving}
use Rattle.opener.proofs.Ready.{ReadyWith}
use Rattle.opener.proofs.RowEnds.{has_map, whole_matches}
use Rattle.opener.proofs.Same.{SameLock, loaded_same}
use Rattle.opener.proofs.StepEnds.{loads_leave, loads_ready}
use Rattle.opener.specs.Counted.{counted}
use Rattle.opener.specs.Steps.{Steps}
use Rattle.opener.proofs.Stages.{looks_on}
use Rattle.opener.proofs.Leaving.{rests_locked}
use Rattle.opener.proofs.Stopped.{nothing_told}

-- while an opener loads, no row is under way
rest_now : (o : OpenerState) (running : Running) (loading : Loading) (start : Region) (past : List Event) (who : ℕ) → Lawful start past → Facts (running_as o running (Load loading)) start past →
    (lock : Option LockKind) → lock_by o.holds running.taken ≡ lock → lock ≢ None → lock_after past who ≡ lock → Apart start past → AtRest start past
rest_now o running loading start past who l facts lock is some mine apart = rests_locked o running (Load loading) start past who l facts refl lock is some mine apart

-- a load that is done found the record accepted
load_accepted : (found : Loaded) (r : Region) → IsLoadedWhole found → IsLoadOf found r → IsAccepted r
load_accepted found r w is = subst (λ z. IsOk (checked z (header r))) is.rec (subst (λ h. IsOk (checked found.rec h)) is.header (subst IsOk (sym w.accepted) refl))

-- a whole image has the map of the history
module _ (start : Region) (past : List Event) (region : IsRegion start) (l : Lawful start past) (rests : Apart start past → AtRest start past) (found : Loaded)
    (is : IsLoadOf found (region_after start past)) (n : ℕ) (whole : found.shown ≡ seen.Whole n) where
  abbrev r : Region
  r = region_after start past

  shows : shown r ≡ seen.Whole n
  shows = sym is.shown ∙ whole

  mapped : (m : Map) × (map_shown r ≡ Some m)
  mapped =
      let s = whole_shown r n shows in
      let map_is = has_map (map_in (flag r) (payload_of r (record_of r).size)) s.2 in
      (map_is.0, ap (λ z. option_and_then (λ k. map_in (flag r) (payload_of r k)) (size_of z)) (shows ∙ ap seen.Whole s.0) ∙ map_is.1)

  map_is : found.image.map ≡ mapped.0
  map_is = is.map ∙ ap (λ m. unwrap_or m fin.empty) mapped.1

  size_is : found.image.standing ≡ standing_of r n
  size_is = is.standing ∙ ap (λ z. standing_of r (unwrap_or (size_of z) 0)) shows

  n_is : found.image.standing.size ≡ n
  n_is = ap (λ (s : Standing). s.size) size_is

  file_is : found.image.standing.file_size ≡ file_size r
  file_is = ap (λ (s : Standing). s.file_size) size_is

  matches_is : MatchesRegion (Some found.image) start past
  matches_is = whole_matches found.image start past n shows (ap (λ (s : Standing). s.checksum) size_is) (ap (λ (s : Standing). s.sequence) size_is)

  history : IsAccepted start → Apart start past → found.image.map ≡ map_after start past
  history ok apart = map_is ∙ whole_history start past n mapped.0 (main_law start past region ok l apart (rests apart)) shows mapped.1

  shown_is : IsAccepted start → Apart start past → IsShown found.image start past
  shown_is ok apart =
      record {
        kept = kept_at_rest start past found.image.standing.size found.image.map (rests apart) (shows ∙ ap seen.Whole (sym n_is)) (mapped.1 ∙ ap Some (sym map_is));
        known = record {
          known = ap (λ (f : ℕ). record found.image.standing { file_size = f }) (sym file_is) ∙ size_is ∙ ap (standing_of r) (sym n_is);
          within = omega (arith, file_is);
        };
        history = history ok apart;
      }

  image_is : IsLoadedWhole found → IsImage found.image start past
  image_is w =
      record {
        accepted = λ apart. accepted_at_rest start past (Between (rests apart).0) l (rests apart).1 (load_accepted found r w is);
        file = omega (arith, file_is);
        firm = λ none. ap (λ (s : Standing). s.version) size_is ∙ none;
        shown = λ ok apart. record { later = []; earlier = past; is = refl; shown = shown_is ok apart };
      }

module _ (o : OpenerState) (running next : Running) (old : Loading) (result : Step) (new : OpenerState) (s t : ShareState) (tied : Tied (running_as o running (Load old)) s)
    (more : next ≡ record running { loads = counted (running.loads + 1) }) (goes : Goes (loaded s) s t) where
  same : SameLock running next
  same = loaded_same running next more

  lock : lock_by o.holds running.taken ≡ lock_by o.holds next.taken
  lock = ap (lock_by o.holds) (sym same.taken)

  looks_next : LooksUnder next (lock_by o.holds next.taken)
  looks_next = looks_on running next (lock_by o.holds next.taken) (lock_by o.holds running.taken) same.same.call lock tied.at.2.2

  leaving : (image : Option Image) → OnImage image IsSoundImage → Leaving o (record o { image = image }) running next s t
  leaving image sound =
      record {
        left = loaded s;
        after = goes.after;
        alive = refl;
        lock = refl;
        places = tied.owes;
        who = refl;
        holds = refl;
        sound = sound;
        taken = same.taken;
        plain = subst IsPlain (sym same.same.call) tied.at.1;
      }

  stop_left : (stop : Stop) → OnTold t.told (λ k. LeftWith None o next (end.Stop stop) k.start k.past)
  stop_left stop =
      told_call (running_as o running (Load old)) s t (loaded s) (λ start past. ⊤) (LeftWith None o next (end.Stop stop)) tied goes.after (nothing_told t.told)
      (λ start past region lawful mine facts e. record {
        begun = omega (arith, same.same.begun, facts.work.0);
        image = facts.image;
        end_is = tt;
        ends = tt;
        rests = λ held apart. facts.rests (lock ∙ held) refl apart;
      })

  -- the call stops for what it loaded
  pub stop_steps : (stop : Stop) (ended : ℕ) → MayEnd (end.Stop stop) → HasReason (Runs running (Load old)) stop s t → ended ≡ changes_told t.told →
      Leaves next (end.Stop stop) ended o result new → Steps o running (Load old) result new s t
  stop_steps stop ended may reason count left =
      loads_leave tied (λ stored none. none) o next (end.Stop stop) ended (leaving o.image tied.sound) goes more tied.at.1 (λ none. absurd cc) tt left count refl may reason (λ so_far are. are) (λ looks. absurd cc) (λ has. tt) (stop_left stop)
      (load_left running next old t (end.Stop stop))

  -- the load is done
  module _ (found : Loaded) (place : ℕ) (sound : IsLoadedWhole found) (told : OnTold t.told (λ h. IsLoadOf found (region_after h.start h.past))) (count : place ≡ changes_told t.told) where
    abbrev mid : OpenerState
    mid = record o { image = Some found.image }

    whole_ready : (n : ℕ) → found.shown ≡ seen.Whole n → OnTold t.told (λ k. ReadyWith None mid found.image next place k.start k.past)
    whole_ready n whole =
        told_call (running_as o running (Load old)) s t (loaded s) (λ start past. IsLoadOf found (region_after start past) × (place ≡ length (changes_of past)))
        (ReadyWith None mid found.image next place) tied goes.after (told_and t.told _ _ _ (λ h p q. (p, q)) told (changes_are t.told place count))
        (λ start past region lawful mine facts e. go start past region lawful facts (rest_now o running old start past s.who lawful facts (lock_by o.holds running.taken) refl tied.at.2.1 (mine ∙ tied.holds)) e)
      where
        go : (start : Region) (past : List Event) → IsRegion start → Lawful start past → Facts (running_as o running (Load old)) start past → (Apart start past → AtRest start past) →
            IsLoadOf found (region_after start past) × (place ≡ length (changes_of past)) → ReadyWith None mid found.image next place start past
        go start past region lawful facts rests e =
            record {
              begun = omega (arith, same.same.begun, facts.work.0, e.1);
              placed = omega (arith, e.1);
              image = image_is start past region lawful rests found e.0 n whole sound;
              found = λ ok apart. history start past region lawful rests found e.0 n whole ok apart ∙ ap (replay (base start)) (sym (take_all place (changes_of past) (omega (arith, e.1))));
              now = λ write ok apart. shown_is start past region lawful rests found e.0 n whole ok apart;
              ends = λ reply read.
                  subst (λ w. IsLastPlace w place (length (changes_of past)) × KeepsWords w (Some found.image) start past) (sym read) (e.1, matches_is start past region lawful rests found e.0 n whole);
              rests = λ held apart. facts.rests (ap (lock_by o.holds) (sym same.taken) ∙ held) refl apart;
            }

    accepted : OnTold t.told (λ h. IsAccepted (region_after h.start h.past))
    accepted = told_map t.told (λ h. IsLoadOf found (region_after h.start h.past)) (λ h. IsAccepted (region_after h.start h.past)) (λ h is. load_accepted found (region_after h.start h.past) sound is) told

    seen_at_rest : OnTold t.told (λ h. (shown (region_after h.start h.past) ≡ found.shown) × (Apart h.start h.past → AtRest h.start h.past))
    seen_at_rest =
        told_call (running_as o running (Load old)) s t (loaded s) (λ start past. IsLoadOf found (region_after start past))
        (λ start past. (shown (region_after start past) ≡ found.shown) × (Apart start past → AtRest start past)) tied goes.after told
        (λ start past region lawful mine facts is. (sym is.shown, rest_now o running old start past s.who lawful facts (lock_by o.holds running.taken) refl tied.at.2.1 (mine ∙ tied.holds)))

    no_reason : (z : Shown) → ((n : ℕ) → z ≢ seen.Whole n) → found.shown ≡ z → HasReason (Runs running (Load old)) (why.NotWhole z) s t
    no_reason z other e = (
      tt,
      tt,
      told_and t.told (λ h. (shown (region_after h.start h.past) ≡ found.shown) × (Apart h.start h.past → AtRest h.start h.past)) (λ h. IsAccepted (region_after h.start h.past))
          (λ h. (shown (region_after h.start h.past) ≡ z) × ((n : ℕ) → z ≢ seen.Whole n) × (Apart h.start h.past → AtRest h.start h.past) × IsAccepted (region_after h.start h.past))
          (λ h is ok. (is.0 ∙ e, other, is.1, ok)) seen_at_rest accepted,
    )

    abbrev Is : Shown → Type 0
    Is z = IsLoadedBy z next found place o result new

    pub done_steps : 9 ≤ loads_of old → IsLoaded next found place o result new → Steps o running (Load old) result new s t
    done_steps last is = go found.shown refl is
      where
        stops : (z : Shown) → ((n : ℕ) → z ≢ seen.Whole n) → found.shown ≡ z → Leaves next (end.Stop (why.NotWhole z)) place o result new → Steps o running (Load old) result new s t
        stops z other e left = stop_steps (why.NotWhole z) place tt (no_reason z other e) count left

        go : (z : Shown) → found.shown ≡ z → Is z → Steps o running (Load old) result new s t
        go (seen.Whole n) e is =
            loads_ready tied (λ stored none. none) mid next place place found.image (leaving (Some found.image) (sound_image found sound)) goes more tied.at.1 (λ none ten. accepted) (λ how replies none ten. accepted) (λ a ten. accepted) is count refl refl looks_next (λ so_far none. none) (λ looks. absurd cc)
            (λ has. omega (arith, has, last, ap (λ (r : Running). r.loads) more)) (λ has read. omega (arith, has, last, ap (λ (r : Running). r.loads) more)) (whole_ready n e) (plainly_shorter _ _ t refl (λ words. omega arith)) (load_left running next old t)
        go (seen.Header n) e is = stops (seen.Header n) (λ k both. absurd cc) e is
        go (seen.Last n) e is = stops (seen.Last n) (λ k both. absurd cc) e is
        go (seen.Damaged d) e is = stops (seen.Damaged d) (λ k both. absurd cc) e is

pub refused_ends : (f : RecordFault) → MayEnd (end.Stop (stop_of f))
refused_ends (fault.Version n) = tt
refused_ends (fault.Flags n) = tt

-- a record that is refused is the reason to stop
pub refused_reason : (running : Running) (old : Loading) (f : RecordFault) (s t : ShareState) → loads_of old ≡ 9 → OnTold t.told (λ h. IsRefusedFor f (region_after h.start h.past)) →
    HasReason (Runs running (Load old)) (stop_of f) s t
refused_reason running old (fault.Version n) s t ten told = (ten, tt, told)
refused_reason running old (fault.Flags n) s t ten told = (ten, tt, told)
