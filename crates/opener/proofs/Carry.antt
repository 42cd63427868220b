-- What an opener knows of its share's journal is carried over what others do, and over its own calls.
use Rattle.std.proofs.Common.{◌≡◌, ◌≢◌, ℕ, zero, suc, ◌<◌, ◌≤◌, arith, Bool, true, false, cond, List, [], ◌∷◌, ◌++◌, length, take, refl, sym, ◌∙◌, subst, ap, append_assoc, length-append}
use Rattle.std.specs.Prelude.{Option, Some, None, slice_get, IfSome, ◌==◌}
use Rattle.std.proofs.lemmas.List.{take-append-le}
use Rattle.std.proofs.lemmas.Bool.Decides.{nat_tests}
use Rattle.change_log.specs.Acts.{act_of, replay}
use Rattle.change_log.specs.History.{reply_in}
use Rattle.change_log.specs.declared.call.Call.{Call}
use Rattle.change_log.specs.declared.call.Reply.{Reply}
use Rattle.change_log.specs.declared.change.Act.{Act}
use Rattle.change_log.specs.declared.change.Change.{Change}
use Rattle.lock_rules.specs.declared.table.LockKind.{LockKind}
use Rattle.lock_rules.specs.declared.table.LockKind.TheVariants.{Exclusive}
use Rattle.region_words.specs.Region.{Region, IsRegion, IsAccepted, base, file_size, record_of, shown, map_shown}
use Rattle.meta_record.specs.declared.shown.Shown.TheVariants.{Whole}
use Rattle.region_words.specs.Past.{region_after, after_all, changes_of, locks_after, NoneOf}
use Rattle.region_words.specs.Apart.{Apart}
use Rattle.region_words.specs.Rows.{Row, standing}
use Rattle.region_words.specs.Lawful.{Lawful, Between}
use Rattle.region_words.specs.Making.{Making}
use Rattle.region_words.specs.Owing.{AreStorable, Comes}
use Rattle.region_words.specs.Outcome.{AtRest}
use Rattle.region_words.specs.Standings.{IsStandingOf}
use Rattle.region_words.specs.Told.{History, OnTold, changes_told}
use Rattle.region_words.specs.Share.{ShareState, Agrees, After, Left, Grows, made_by}
use Rattle.region_words.specs.Local.{lock_after}
use Rattle.region_words.specs.declared.event.Event.{Event}
use Rattle.region_words.specs.declared.event.What.{What}
use Rattle.region_words.proofs.Coming.{coming_later}
use Rattle.region_words.proofs.Held.{held}
use Rattle.region_words.proofs.Later.{lock_others, reaches_later}
use Rattle.region_words.proofs.LockOf.{holds_some}
use Rattle.region_words.proofs.Notices.{kept_at_rest}
use Rattle.region_words.proofs.ReadLaws.{apart_front, changes_more, lawful_front}
use Rattle.region_words.proofs.StaysFirm.{fresh_before, file_grows}
use Rattle.region_words.proofs.Telling.{told_and, told_step, grows_to, grows_from}
use Rattle.expiring_map.specs.Map.{Map}
use Rattle.loader.specs.Loads.{HasLoaded}
use Rattle.loader.specs.declared.loaded.Image.{Image}
use Rattle.opener.specs.State.{OpenerState}
use Rattle.opener.specs.Calls.{is_write}
use Rattle.opener.specs.Ends.{OnImage, lock_by}
use Rattle.opener.proofs.UnderWay.{under_way_still}
use Rattle.opener.specs.Opener.{Facts, Knows, Tied, IsShown, WasShown, ImageIs, PlanIs, ReplyIs, ChangeIs, EndIs, EndsNow, IsLastPlace, KeepsWords, MatchesRegion, StageIs, WorkIs, IsAt, IsAtStage, Owes, image_at, lock_in, is_ended, is_storing, IsCalm}
use Rattle.loader.specs.PartialLoads.{HasLoadedPart, IsSoundImage, kept_image}
use Rattle.opener.specs.Plans.{IsPlanOf}
use Rattle.opener.specs.Writes.{MayStart, HasStanding, Leads, PlanLeads, commits_of, first_events}
use Rattle.opener.specs.declared.plan.Plan.{Plan}
use Rattle.opener.specs.declared.plan.Plan.TheVariants.{Append, Rewrite}
use Rattle.opener.specs.declared.work.Running.{Running}
use Rattle.opener.specs.declared.work.End.{End}
use Rattle.opener.specs.declared.work.End.TheVariants as end
use Rattle.opener.specs.declared.work.Stage.{Stage}
use Rattle.opener.specs.declared.work.Stage.TheVariants.{PeekChecksum, PeekSequence, LockShared, LockExclusive, Continue, Load, Size, Reserve, Store, Unlock, Hold, Release}
use Rattle.opener.specs.declared.work.Work.{Work}
use Rattle.opener.specs.declared.work.Work.TheVariants.{Idle, Ended, Runs}

-- a journal has no fewer changes later
pub more_changes : (more past : List Event) → length (changes_of past) ≤ length (changes_of (more ++ past))
more_changes more past = omega (arith, ap length (changes_more more past), length-append (changes_of past) (changes_of more))

was_shown_later : (i : Image) (start : Region) (more past : List Event) → WasShown i start past → WasShown i start (more ++ past)
was_shown_later i start more past w =
    record { later = more ++ w.later; earlier = w.earlier; is = append_assoc more w.later w.earlier ∙ ap (λ l. more ++ l) w.is; shown = w.shown }

pub image_later : (image : Option Image) (start : Region) (more past : List Event) → Lawful start (more ++ past) → ImageIs image start past → ImageIs image start (more ++ past)
image_later None start more past l is = tt
image_later (Some i) start more past l is =
    record {
      accepted = λ apart. is.accepted (apart_front start more past apart);
      file = omega (arith, is.file, file_grows start more past l);
      firm = λ none. is.firm (fresh_before start more past l none);
      shown = λ ok apart. was_shown_later i start more past (is.shown ok (apart_front start more past apart));
    }

-- a reply at an earlier place stays right
reply_later : (call : Call) (now : ℕ) (reply : Reply) (place : ℕ) (start : Region) (more past : List Event) → place ≤ length (changes_of past) →
    ReplyIs call now reply place start past → ReplyIs call now reply place start (more ++ past)
reply_later call now reply place start more past within is =
    λ ok apart.
    let front : take place (changes_of (more ++ past)) ≡ take place (changes_of past) =
    ap (take place) (changes_more more past) ∙ take-append-le place (changes_of past) (changes_of more) within in
    is ok (apart_front start more past apart) ∙ ap (λ l. reply_in (replay (base start) l) now call) (sym front)

get_front : (xs ys : List Change) (i : ℕ) (c : Change) → slice_get xs i ≡ Some c → slice_get (xs ++ ys) i ≡ Some c
get_front [] ys i c e = absurd cc
get_front (x ∷ xs) ys zero c e = e
get_front (x ∷ xs) ys (suc i) c e = get_front xs ys i c e

-- and so does an own change
change_later : (who : ℕ) (running : Running) (place : ℕ) (more past : List Event) → ChangeIs who running place past → ChangeIs who running place (more ++ past)
change_later who running place more past is = go (act_of running.call running.now) is
  where
    go : (act : Option Act) → IfSome act (λ a. slice_get (changes_of past) place ≡ Some (record { maker = who; act = a })) →
        IfSome act (λ a. slice_get (changes_of (more ++ past)) place ≡ Some (record { maker = who; act = a }))
    go None is = tt
    go (Some a) is = ap (λ l. slice_get l place) (changes_more more past) ∙ get_front (changes_of past) (changes_of more) place _ is

-- while a lock is held the region and the changes are as they were
pub still_held : (start : Region) (others past : List Event) (who : ℕ) (lock : Option LockKind) → Lawful start (others ++ past) → NoneOf who others →
    lock_after past who ≡ lock → lock ≢ None →
    (region_after start (others ++ past) ≡ region_after start past) × (changes_of (others ++ past) ≡ changes_of past)
still_held start others past who lock l none mine some =
    let h = held start others past who l (holds_some (locks_after past) who (λ e. some (sym mine ∙ e))) none in
    (h.0, h.1)

pub exclusive_some : (lock : Option LockKind) → lock ≡ Some Exclusive → lock ≢ None
exclusive_some lock e none = let both = sym e ∙ none in cc

pub end_later : (who : ℕ) (how : End) (running : Running) (start : Region) (others past : List Event) → EndIs who how running start past → EndIs who how running start (others ++ past)
end_later who (end.Answer place reply) running start others past is = (
  is.0,
  omega (arith, is.1, more_changes others past),
  reply_later running.call running.now reply place start others past is.1 is.2,
  change_later who running place others past is.3,
)
end_later who (end.Stop why) running start others past is = tt

-- where nothing is held the lock is the call's own
pub none_held : (holds : ℕ) → holds ≡ 0 → (holds == 0) ≡ true
none_held holds none = grind (arith, nat_tests)

pub own_if : (holds : ℕ) (taken : Option LockKind) → holds ≡ 0 → lock_by holds taken ≡ taken
own_if holds taken none = ap (λ b. cond b taken (Some Exclusive)) (none_held holds none)

pub none_or_some : (holds : ℕ) → (0 < holds → ⊥) → holds ≡ 0
none_or_some zero none = refl
none_or_some (suc n) none = absurd (none (omega arith))

-- a call that has taken a lock itself holds it
pub taken_held : (holds : ℕ) (taken : Option LockKind) → (0 < holds → taken ≡ None) → taken ≢ None → lock_by holds taken ≢ None
taken_held holds taken free some none = some (sym (own_if holds taken (none_or_some holds (λ more. some (free more)))) ∙ none)

matches_later : (image : Option Image) (start : Region) (others past : List Event) → region_after start (others ++ past) ≡ region_after start past → MatchesRegion image start past →
    MatchesRegion image start (others ++ past)
matches_later None start others past same is = is
matches_later (Some i) start others past same is = (is.0 ∙ sym (ap (λ r. (record_of r).checksum) same), is.1 ∙ sym (ap (λ r. (record_of r).sequence) same))

pub words_later : (write : Bool) (image : Option Image) (start : Region) (others past : List Event) → region_after start (others ++ past) ≡ region_after start past → KeepsWords write image start past →
    KeepsWords write image start (others ++ past)
words_later true image start others past same is = λ ok apart. matches_later image start others past same (is ok (apart_front start others past apart))
words_later false image start others past same is = matches_later image start others past same is

ends_later : (image : Option Image) (how : End) (running : Running) (start : Region) (others past : List Event) → region_after start (others ++ past) ≡ region_after start past →
    changes_of (others ++ past) ≡ changes_of past → EndsNow image how running start past → EndsNow image how running start (others ++ past)
ends_later image (end.Answer place reply) running start others past same changes is = (
  subst (λ l. IsLastPlace (is_write running.call) place (length l)) (sym changes) is.0,
  words_later (is_write running.call) image start others past same is.1,
)
ends_later image (end.Stop why) running start others past same changes is = tt

-- The same region and the same changes, at a later moment.
module _ (start : Region) (others past : List Event) (region : region_after start (others ++ past) ≡ region_after start past) (changes : changes_of (others ++ past) ≡ changes_of past) where
  pub leads_on : (k : Making) (m : Map) → Leads k m start past → Leads k m start (others ++ past)
  leads_on k m is =
      record {
        file = subst (λ r. k.standing.file_size ≤ file_size (after_all r k.events)) (sym region) is.file;
        firm = subst (λ r. (record_of (after_all r k.events)).version ≡ 0 → k.standing.version ≡ 0) (sym region) is.firm;
        stands = λ ok apart. subst (λ r. HasStanding (after_all r k.events) k.standing) (sym region) (is.stands ok (apart_front start others past apart));
        map = λ ok apart. ap (λ l. replay (base start) (l ++ commits_of k.events)) changes ∙ is.map ok (apart_front start others past apart);
      }

  pub plan_on : (plan : Plan) → PlanLeads plan start past → PlanLeads plan start (others ++ past)
  plan_on (Append a map) is = leads_on a map is
  plan_on (Rewrite r None map) is = leads_on r map is
  plan_on (Rewrite r (Some a) map) is = (is.0, leads_on r is.0 is.1, is.2)

  -- the call makes the same plan
  pub plan_is_on : (who : ℕ) (running : Running) (plan : Plan) → PlanIs who running plan start past → PlanIs who running plan start (others ++ past)
  plan_is_on who running plan is ok apart =
      let same : image_at start (others ++ past) ≡ image_at start past = λ j. record { standing = standing (region j); map = replay (base start) (changes j) } in
      subst (λ i. IsPlanOf who running.call running.now i plan) (sym same) (is ok (apart_front start others past apart))

  -- an image that is shown at rest is shown still
  pub shown_on : (i : Image) → AtRest start (others ++ past) → IsShown i start past → IsShown i start (others ++ past)
  shown_on i rests is =
      record {
        kept = kept_at_rest start (others ++ past) i.standing.size i.map rests
            (subst (λ r. shown r ≡ Whole i.standing.size) (sym region) is.kept.shows) (subst (λ r. map_shown r ≡ Some i.map) (sym region) is.kept.maps);
        known = subst (λ r. IsStandingOf r i.standing.size i.standing) (sym region) is.known;
        history = is.history ∙ sym (ap (replay (base start)) changes);
      }

comes_later : (start : Region) (others past : List Event) (who : ℕ) (row : Row) (events : List What) → Lawful start (others ++ past) → NoneOf who others →
    lock_after past who ≡ Some Exclusive → Comes start past who row events → Comes start (others ++ past) who row events
comes_later start others past who row [] l n mine c = reaches_later start others past who _ l n mine c
comes_later start others past who row (what ∷ rest) l n mine c = coming_later start others past who row (what ∷ rest) l n mine c

starts_later : (who : ℕ) (row : Row) (events : List What) (start : Region) (others past : List Event) → Lawful start (others ++ past) → NoneOf who others →
    lock_after past who ≡ Some Exclusive → MayStart row events who start past → MayStart row events who start (others ++ past)
starts_later who row events start others past l none mine is =
    let same = still_held start others past who (Some Exclusive) l none mine (λ e. cc) in
    record {
      storable = subst (λ r. AreStorable r who events) (sym same.0) is.storable;
      coming = λ apart. comes_later start others past who row events l none mine (is.coming (apart_front start others past apart));
    }

module _ (o : OpenerState) (running : Running) (start : Region) (others past : List Event) (l : Lawful start (others ++ past)) (none : NoneOf o.who others)
    (mine : lock_after past o.who ≡ lock_by o.holds running.taken) where
  abbrev lock : Option LockKind
  lock = lock_by o.holds running.taken

  same : lock ≢ None → (region_after start (others ++ past) ≡ region_after start past) × (changes_of (others ++ past) ≡ changes_of past)
  same some = still_held start others past o.who lock l none mine some

  peeked_later : (peek : _) → StageIs o running (PeekSequence peek) start past → StageIs o running (PeekSequence peek) start (others ++ past)
  peeked_later peek is = (
    record {
      later = others ++ is.0.later;
      earlier = is.0.earlier;
      is = append_assoc others is.0.later is.0.earlier ∙ ap (λ l. others ++ l) is.0.is;
      place = is.0.place;
      since = is.0.since;
      checksum = is.0.checksum;
      kept = is.0.kept;
    },
    λ e. is.1 e ∙ sym (ap (λ r. (record_of r).checksum) (same (exclusive_some lock e)).0),
  )

  pub stage_later : (stage : Stage) → (Apart start (others ++ past) → lock ≡ Some Exclusive → is_storing (Runs running stage) ≡ false → IsCalm start (others ++ past)) →
      (0 < o.holds → running.taken ≡ None) → IsAtStage o running stage → StageIs o running stage start past → StageIs o running stage start (others ++ past)
  stage_later PeekChecksum rests own at is = tt
  stage_later (PeekSequence peek) rests own at is = peeked_later peek is
  stage_later (LockShared extent) rests own at is = tt
  stage_later LockExclusive rests own at is = tt
  stage_later (Continue loading) rests own at is =
      (subst (HasLoadedPart loading) (sym (same at.1).0) is.0, image_later (Some (kept_image loading.map loading)) start others past l is.1)
  stage_later (Load loading) rests own at is = subst (HasLoaded loading) (sym (same at.1).0) is
  stage_later Size rests own at is = go o.image is
    where
      go : (image : Option Image) → OnImage image (λ i. IsAccepted start → Apart start past → IsShown i start past) →
          OnImage image (λ i. IsAccepted start → Apart start (others ++ past) → IsShown i start (others ++ past))
      go None is = tt
      go (Some i) is = λ ok apart.
          let s = same (exclusive_some lock at.1) in
          shown_on start others past s.0 s.1 i (None, rests apart at.1 refl) (is ok (apart_front start others past apart))
  stage_later (Reserve plan) rests own at is =
      let s = same (exclusive_some lock at.0) in (
        (is.0.0, is.0.1, starts_later o.who is.0.0 (first_events plan) start others past l none (mine ∙ at.0) is.0.2),
        plan_on start others past s.0 s.1 plan is.1,
        plan_is_on start others past s.0 s.1 o.who running plan is.2,
      )
  stage_later (Store plan) rests own at is =
      let s = same (exclusive_some lock at.0) in
      (plan_on start others past s.0 s.1 plan is.0, record { before = is.1.before; made = is.1.made; are = s.1 ∙ is.1.are; begun = is.1.begun; all = is.1.all }, under_way_still o.who running start plan others past none is.2)
  stage_later (Unlock how) rests own at is =
      let s = same (taken_held o.holds running.taken own at.0) in
      (end_later o.who how running start others past is.0, ends_later o.image how running start others past s.0 s.1 is.1)
  stage_later Hold rests own at is = tt
  stage_later Release rests own at is = tt

-- with a hold the lock is exclusive
pub some_holds : (holds : ℕ) → 0 < holds → (holds == 0) ≡ false
some_holds holds some = grind (arith, nat_tests)

pub exclusive_if : (holds : ℕ) (taken : Option LockKind) → 0 < holds → lock_by holds taken ≡ Some Exclusive
exclusive_if holds taken some = ap (λ b. cond b taken (Some Exclusive)) (some_holds holds some)

work_later : (o : OpenerState) (start : Region) (others past : List Event) → Lawful start (others ++ past) → NoneOf o.who others → (work : Work) → IsAt o work →
    (Apart start (others ++ past) → lock_in o.holds work ≡ Some Exclusive → is_storing work ≡ false → IsCalm start (others ++ past)) →
    lock_after past o.who ≡ lock_in o.holds work → WorkIs o work start past → WorkIs o work start (others ++ past)
work_later o start others past l none Idle at rests mine is = tt
work_later o start others past l none Ended at rests mine is = tt
work_later o start others past l none (Runs running stage) at rests mine is =
    (omega (arith, is.0, more_changes others past), stage_later o running start others past l none mine stage rests at.0 at.2 is.1)

pub carry : (o : OpenerState) (start : Region) (others past : List Event) → Lawful start (others ++ past) → NoneOf o.who others → IsAt o o.work →
    lock_after past o.who ≡ lock_in o.holds o.work → Facts o start past → Facts o start (others ++ past)
carry o start others past l none at mine f =
    record { image = image_later o.image start others past l f.image; rests = rests; work = work_later o start others past l none o.work at (λ apart held calm. rests held calm apart) mine f.work }
  where
    rests : lock_in o.holds o.work ≡ Some Exclusive → is_storing o.work ≡ false → Apart start (others ++ past) → IsCalm start (others ++ past)
    rests held calm apart = reaches_later start others past o.who (Between None) l none (mine ∙ held) (f.rests held calm (apart_front start others past apart))

-- what is known of one plain journal before an own event, and of the one after it, is known of the share's
pub told_call : (o : OpenerState) (s t : ShareState) (left : Left) (E P : Region → List Event → Type 0) → Tied o s → After left s t →
    OnTold t.told (λ k. E k.start k.past) →
    ((start : Region) (past : List Event) → IsRegion start → Lawful start (made_by s.who left.own ++ past) → lock_after past s.who ≡ s.holds → Facts o start past →
    E start (made_by s.who left.own ++ past) → P start (made_by s.who left.own ++ past)) →
    OnTold t.told (λ k. P k.start k.past)
told_call o s t left E P tied after learned follows =
    told_step s.told t.told (Knows o s) (λ k. Agrees t k × E k.start k.past) (λ k. P k.start k.past) (Grows s.who s.alone left.own) step
    tied.told after.told (told_and t.told (Agrees t) (λ k. E k.start k.past) _ (λ h p q. (p, q)) after.sound.told learned)
  where
    step : (h k : History) → Knows o s h → Grows s.who s.alone left.own h k → Agrees t k × E k.start k.past → P k.start k.past
    step h k knows g both =
        let lawful = grows_from s.who s.alone left.own h k g Lawful both.0.lawful in
        let before = lawful_front h.start (made_by s.who left.own) (g.others ++ h.past) lawful in
        let mine : lock_after h.past o.who ≡ lock_in o.holds o.work = ap (lock_after h.past) (sym tied.who) ∙ knows.agrees.holds ∙ tied.holds in
        let others : NoneOf o.who g.others = subst (λ w. NoneOf w g.others) tied.who g.by_others in
        let facts = carry o h.start g.others h.past before others tied.at mine knows.facts in
        let lock : lock_after (g.others ++ h.past) s.who ≡ s.holds = lock_others h.start g.others h.past s.who before g.by_others ∙ knows.agrees.holds in
        grows_to s.who s.alone left.own h k g P
        (follows h.start (g.others ++ h.past) knows.agrees.region lawful lock facts (grows_from s.who s.alone left.own h k g E both.1))

-- the share is tied to the opener that is left
pub tied_after : (o next : OpenerState) (s t : ShareState) (left : Left) (E : Region → List Event → Type 0) → Tied o s → After left s t → next.who ≡ o.who →
    left.ended ≡ is_ended next.work → left.holds ≡ lock_in next.holds next.work → next.holds ≤ 1000 → OnImage next.image IsSoundImage → IsAt next next.work → Owes next next.work t →
    OnTold t.told (λ k. E k.start k.past) →
    ((start : Region) (past : List Event) → IsRegion start → Lawful start (made_by s.who left.own ++ past) → lock_after past s.who ≡ s.holds → Facts o start past →
    E start (made_by s.who left.own ++ past) → Facts next start (made_by s.who left.own ++ past)) →
    Tied next t
tied_after o next s t left E tied after who ended holds deep sound at owes learned follows =
    record {
      who = after.same.who ∙ tied.who ∙ sym who;
      maker = subst (λ w. (1 ≤ w) × (w ≤ 64)) (sym who) tied.maker;
      ended = after.ended ∙ ended;
      holds = after.holds ∙ holds;
      deep = deep;
      sound = sound;
      at = at;
      owes = owes;
      told = told_and t.told (Agrees t) (λ k. Facts next k.start k.past) (Knows next t) (λ k a f. record { agrees = a; facts = f }) after.sound.told
          (told_call o s t left E (Facts next) tied after learned follows);
    }

-- no place is reserved after a call that leaves none
pub none_reserved : (s t : ShareState) (left : Left) → After left s t → left.places ≡ 0 → t.reserved t.who ≡ 0
none_reserved s t left after none = ap t.reserved after.same.who ∙ after.places ∙ none

-- where no stores are under way none is
pub unreserved : (o : OpenerState) (work : Work) (s : ShareState) → is_storing work ≡ false → Owes o work s → s.reserved s.who ≡ 0
unreserved o Idle s calm owes = owes
unreserved o Ended s calm owes = owes
unreserved o (Runs running PeekChecksum) s calm owes = owes
unreserved o (Runs running (PeekSequence peek)) s calm owes = owes
unreserved o (Runs running (LockShared extent)) s calm owes = owes
unreserved o (Runs running LockExclusive) s calm owes = owes
unreserved o (Runs running (Continue loading)) s calm owes = owes
unreserved o (Runs running (Load loading)) s calm owes = owes
unreserved o (Runs running Size) s calm owes = owes
unreserved o (Runs running (Reserve plan)) s calm owes = owes
unreserved o (Runs running (Store plan)) s calm owes = absurd cc
unreserved o (Runs running (Unlock how)) s calm owes = owes
unreserved o (Runs running Hold) s calm owes = owes
unreserved o (Runs running Release) s calm owes = owes

-- and then none is owed
pub owes_nothing : (o : OpenerState) (work : Work) (s : ShareState) → is_storing work ≡ false → s.reserved s.who ≡ 0 → Owes o work s
owes_nothing o Idle s calm none = none
owes_nothing o Ended s calm none = none
owes_nothing o (Runs running PeekChecksum) s calm none = none
owes_nothing o (Runs running (PeekSequence peek)) s calm none = none
owes_nothing o (Runs running (LockShared extent)) s calm none = none
owes_nothing o (Runs running LockExclusive) s calm none = none
owes_nothing o (Runs running (Continue loading)) s calm none = none
owes_nothing o (Runs running (Load loading)) s calm none = none
owes_nothing o (Runs running Size) s calm none = none
owes_nothing o (Runs running (Reserve plan)) s calm none = none
owes_nothing o (Runs running (Store plan)) s calm none = absurd cc
owes_nothing o (Runs running (Unlock how)) s calm none = none
owes_nothing o (Runs running Hold) s calm none = none
owes_nothing o (Runs running Release) s calm none = none

-- the number of changes that a share says is that of its journal
pub changes_are : (told : Option History) (n : ℕ) → n ≡ changes_told told → OnTold told (λ h. n ≡ length (changes_of h.past))
changes_are None n e = tt
changes_are (Some h) n e = e
