-- The pairs are written anew, and an item is appended next.
use Rattle.std.proofs.Common.{◌≡◌, ◌≢◌, ℕ, ◌+◌, ◌^◌, ◌<◌, arith, true, false, List, [], ◌∷◌, ◌++◌, length, refl, sym, ◌∙◌, subst, ap, append-nil}
use Rattle.std.specs.Prelude.{◌-◌, Option, Some, unwrap_or}
use Rattle.expiring_map.specs.Map.{Map}
use Rattle.change_log.specs.Acts.{applied, replay}
use Rattle.change_log.specs.declared.change.Change.{Change}
use Rattle.meta_record.specs.declared.shown.Shown.TheVariants.{Whole}
use Rattle.region_words.specs.Region.{Region, IsRegion, IsAccepted, base, flag, record_of, file_size, shown, size_of}
use Rattle.region_words.specs.Past.{region_after, after_all, changes_of, change_of}
use Rattle.region_words.specs.Apart.{Apart}
use Rattle.region_words.specs.Coming.{IsStoring}
use Rattle.region_words.specs.Lawful.{Lawful, Between, Reaches, room_of, map_after}
use Rattle.region_words.specs.Local.{event_of}
use Rattle.region_words.specs.Making.{Making, MakesFirst}
use Rattle.region_words.specs.Owing.{IsStorable, AreStorable, AreWithin, Comes, Owes, IsOwing}
use Rattle.region_words.specs.Rows.{Row, item_of, events_of, mark_of, append_stores, standing, MayBegin}
use Rattle.region_words.specs.Rows as rows
use Rattle.region_words.specs.Share.{ShareState, Agrees, After, Grows, stored}
use Rattle.region_words.specs.Standings.{IsStandingOf, standing_of}
use Rattle.region_words.specs.Told.{OnTold}
use Rattle.region_words.specs.declared.standing.Standing.{Standing}
use Rattle.region_words.specs.declared.event.Mark.TheVariants.{Commit}
use Rattle.region_words.specs.declared.event.What.{What}
use Rattle.region_words.specs.declared.event.What.TheVariants.{Store, Grow, Lock, Unlock, Died}
use Rattle.region_words.specs.declared.event.Event.{Event}
use Rattle.region_words.proofs.BeganAccepted.{accepted_stored}
use Rattle.region_words.proofs.ByStanding.{append_by_known}
use Rattle.region_words.proofs.LeftStanding.{append_leaves}
use Rattle.region_words.proofs.OwedRows.{append_within}
use Rattle.region_words.proofs.Regions.{All-from_Small, lawful_accepted, lawful_region}
use Rattle.region_words.proofs.RowsStand.{item_bytes}
use Rattle.region_words.proofs.StorableRows.{append_storable}
use Rattle.region_words.proofs.Telling.{told_and, told_step}
use Rattle.std.proofs.lemmas.List.Sums.{fold-append}
use Rattle.appender.specs.Appends.{CanAppend, appending}
use Rattle.opener.specs.State.{OpenerState}
use Rattle.opener.specs.Ends.{lock_by}
use Rattle.opener.proofs.UnderWay.{under_way_on}
use Rattle.opener.specs.Opener.{Tied, Facts, running_as}
use Rattle.loader.specs.PartialLoads.{IsSoundStanding}
use Rattle.opener.specs.Plans.{CanWrite, events_in}
use Rattle.opener.specs.Writes.{Follows, HasStanding, Leads, OwesPlan, commits_of}
use Rattle.opener.specs.declared.plan.Plan.TheVariants.{Append, Rewrite}
use Rattle.opener.specs.declared.work.Running.{Running}
use Rattle.opener.specs.declared.work.Stage.TheVariants as stage
use Rattle.opener.proofs.Carry.{told_call, tied_after, image_later, more_changes}
use Rattle.opener.proofs.Leading.{continued_below, all_firm, all_grows}
use Rattle.opener.proofs.Planned.{append_some}
use Rattle.opener.proofs.RowEnds.{row_shown, left_standing, left_map, left_file, left_firm}
use Rattle.opener.proofs.Same.{SameLock}
use Rattle.opener.proofs.Stored.{lead_next, made_on}

storing : (r : Region) (who : ℕ) (what : What) → IsStorable r who what → IsStoring what
storing r who (Store side word value mark) s = tt
storing r who (Grow size) s = tt
storing r who (Lock kind) s = absurd s
storing r who Unlock s = absurd s
storing r who (Died torn) s = absurd s

-- the event that was owed is a store or a growth
pub storing_told : (row : Row) (first : What) (rest : List What) (s t : ShareState) → IsOwing row (first ∷ rest) s → After (stored first s) s t → OnTold t.told (λ k. IsStoring first)
storing_told row first rest s t owing after =
    told_step s.told t.told (Owes row (first ∷ rest) s) (Agrees t) (λ k. IsStoring first) (Grows s.who s.alone (first ∷ []))
    (λ h k owes grows agrees. storing (region_after h.start h.past) s.who first owes.storable.0) owing.told after.told after.sound.told

-- what is told where the last event of a row was made
abbrev pub RowOver : ℕ → Row → What → Region → List Event → Type 0
RowOver who row first start past = (Apart start past → Reaches start past (Between (room_of row))) × IsStoring first

pub row_over : (row : Row) (first : What) (s t : ShareState) → IsOwing row (first ∷ []) s → After (stored first s) s t → IsOwing row [] t →
    OnTold t.told (λ k. RowOver t.who row first k.start k.past)
row_over row first s t owing after left =
    told_and t.told (Owes row [] t) (λ k. IsStoring first) (λ k. RowOver t.who row first k.start k.past) (λ k owes is. (owes.coming, is)) left.told (storing_told row first [] s t owing after)

-- a row that may begin is to come
comes_now : (start : Region) (past : List Event) (who : ℕ) (row : Row) (events : List What) (room : Option ℕ) → events ≢ [] → Reaches start past (Between room) →
    IsAccepted (region_after start past) →
    MayBegin (region_after start past) (map_after start past) room row → events ≡ events_of (region_after start past) (map_after start past) who row → Comes start past who row events
comes_now start past who row [] room some reached ok may are = absurd (some refl)
comes_now start past who row (what ∷ rest) room some reached ok may are = record { phase = Between room; reached = reached; next = (may, are, ok) }

-- An append behind an image that is shown whole, of which all is known.
module _ (r : Region) (m : Map) (who : ℕ) (s : Standing) (change : Change) (region : IsRegion r) (mine : change.maker ≡ who) (can : CanAppend s change) (shows : shown r ≡ Whole s.size)
    (known : standing_of r s.size ≡ s) where
  abbrev item : List ℕ
  item = item_of s.flag change.act

  flag_is : flag r ≡ s.flag
  flag_is = ap (λ (z : Standing). z.flag) known

  file_is : file_size r ≡ s.file_size
  file_is = ap (λ (z : Standing). z.file_size) known

  item_is : item_of (flag r) change.act ≡ item
  item_is = ap (λ b. item_of b change.act) flag_is

  may_follow : (room : Option ℕ) (need : ℕ) → room ≡ Some need → need ≡ length item → MayBegin r m room (rows.Append change.act)
  may_follow room need room_is need_is = (
    s.size,
    shows,
    (can.some, omega (arith, ap length item_is, can.room, file_is)),
    subst (λ b. rows.IsAppendable b change.act) (sym flag_is) can.appendable,
    λ n e. let both : Some n ≡ Some need = sym e ∙ room_is in let same : n ≡ need = ap (λ o. unwrap_or o 0) both in same ∙ need_is ∙ sym (ap length item_is),
  )

  stands : IsStandingOf r s.size s
  stands = record { known = ap (λ (f : ℕ). record s { file_size = f }) file_is ∙ sym known; within = omega (arith, file_is) }

  events_are : (appending s change).events ≡ events_of r m who (rows.Append change.act)
  events_are = ap (λ w. append_stores s item (Commit (record { maker = w; act = change.act }))) mine ∙ sym (append_by_known r s shows stands m who change.act)

  standing_is : standing r ≡ s
  standing_is = ap (λ z. standing_of r (unwrap_or (size_of z) 0)) shows ∙ known

  leaves_standing : HasStanding (after_all r (appending s change).events) (appending s change).standing
  leaves_standing =
      let l = append_leaves r m who s.size change.act region shows (can.some, omega (arith, ap length item_is, can.room, file_is)) (subst (λ b. rows.IsAppendable b change.act) (sym flag_is) can.appendable) in
      let sizes : s.size + length (item_of (flag r) change.act) ≡ (appending s change).standing.size = ap (λ l. s.size + length l) item_is in
      record {
        size = ap (λ events. (record_of (after_all r events)).size) events_are ∙ l.0 ∙ sizes;
        known = ap (λ events. standing_of (after_all r events) (appending s change).standing.size) events_are
            ∙ ap (standing_of (after_all r (events_of r m who (rows.Append change.act)))) (sym sizes) ∙ l.1
            ∙ (λ i. (appending (standing_is i) change).standing) ∙ refl;
      }

-- The append may start, and leads to the map.
pub record IsFollowed (who : ℕ) (change : Change) (a : Making) (map : Map) (start : Region) (past : List Event) : Type 0 where
  pub storable : AreStorable (region_after start past) who a.events
  pub coming : Apart start past → Comes start past who (rows.Append change.act) a.events
  pub leads : Leads a map start past

module _ (start : Region) (past : List Event) (who : ℕ) (first : What) (row : Row) (region : IsRegion start) (l : Lawful start (event_of who first ∷ past))
    (over : RowOver who row first start (event_of who first ∷ past)) (b : Making) (mid : Map) (done : b.events ≡ []) (leads : Leads b mid start (event_of who first ∷ past))
    (sound : IsSoundStanding b.standing) (sum : b.standing.checksum < 2 ^ 32) (change : Change) (mine : change.maker ≡ who) (can : CanAppend b.standing change)
    (now need : ℕ) (row_is : row ≡ rows.Pack now need) (need_is : need ≡ length (item_of b.standing.flag change.act))
    (map : Map) (then : replay mid (commits_of (appending b.standing change).events) ≡ map) where
  abbrev later : List Event
  later = event_of who first ∷ past

  abbrev q : Region
  q = region_after start later

  abbrev k : Making
  k = appending b.standing change

  region_now : IsRegion q
  region_now = lawful_region start later l region

  -- a store was made as one of a row
  accepted : Apart start later → IsAccepted start
  accepted apart = accepted_stored start (event_of who first) past (Between (room_of row)) l.0 over.1 (over.0 apart)

  shows_now : Apart start later → shown q ≡ Whole b.standing.size
  shows_now apart = row_shown start past who first region l over.1 (room_of row) over.0 b mid done leads (accepted apart) apart

  known_now : Apart start later → standing_of q b.standing.size ≡ b.standing
  known_now apart = (left_standing b mid start later done leads (accepted apart) apart).known

  stored_now : AreStorable q who k.events
  stored_now =
      let item = item_of b.standing.flag change.act in
      append_storable q b.standing item (Commit change) who region_now (All-from_Small item (item_bytes b.standing.flag change.act can.appendable))
      (omega (arith, can.room, left_file b mid start later done leads)) (omega (arith, can.some)) (continued_below b.standing.checksum item sum)
      (λ accepted none. sound.firm can.some (left_firm b mid start later done leads none)) mine

  pub followed_now : IsFollowed who change k map start later
  followed_now =
      record {
        storable = stored_now;
        coming = λ apart.
            comes_now start later who (rows.Append change.act) k.events (room_of row) (append_some b.standing change) (over.0 apart) (lawful_accepted start later (accepted apart) l)
            (may_follow q (map_after start later) who b.standing change region_now mine can (shows_now apart) (known_now apart) (room_of row) need (ap room_of row_is) need_is)
            (events_are q (map_after start later) who b.standing change region_now mine can (shows_now apart) (known_now apart));
        leads = record {
          file = omega (arith, left_file b mid start later done leads, all_grows q who k.events stored_now);
          firm = λ none. left_firm b mid start later done leads (all_firm q who k.events stored_now none);
          stands = λ accepted apart. leaves_standing q (map_after start later) who b.standing change region_now mine can (shows_now apart) (known_now apart);
          map = λ accepted apart.
              fold-append (λ m c. applied m c.act) (base start) (changes_of later) (commits_of k.events) ∙ ap (λ m. replay m (commits_of k.events)) (left_map b mid start later done leads accepted apart) ∙ then;
        };
      }

module _ (o : OpenerState) (running next : Running) (r b a : Making) (map : Map) (s t : ShareState) (tied : Tied (running_as o running (stage.Store (Rewrite r (Some a) map))) s)
    (lock : SameLock running next) (made : MakesFirst r.events b.events s t) (stands : b.standing ≡ r.standing) (done : b.events ≡ [])
    (owing : (row : Row) → IsOwing row r.events s → IsOwing row b.events t) where
  abbrev first : What
  first = made.0

  abbrev after : After (stored first s) s t
  after = made.2.after

  abbrev row : Row
  row = tied.owes.row

  abbrev change : Change
  change = tied.owes.row_is.3.0

  abbrev follows : Follows o.who running r.standing a change
  follows = tied.owes.row_is.3.1

  a_is : a ≡ appending b.standing change
  a_is = follows.is ∙ ap (λ z. appending z change) (sym stands)

  only : r.events ≡ first ∷ []
  only = made.1 ∙ ap (λ l. first ∷ l) done

  over : OnTold t.told (λ k. RowOver t.who row first k.start k.past)
  over = row_over row first s t (subst (λ l. IsOwing row l s) only tied.owes.owing) after (subst (λ l. IsOwing row l t) done (owing row tied.owes.owing))

  followed : OnTold t.told (λ k. IsFollowed o.who change a map k.start k.past)
  followed =
      told_call (running_as o running (stage.Store (Rewrite r (Some a) map))) s t (stored first s) (RowOver t.who row first) (IsFollowed o.who change a map) tied after over
      (λ start past region lawful mine facts e. at_end start past region lawful facts e)
    where
      at_end : (start : Region) (past : List Event) → IsRegion start → Lawful start (event_of s.who first ∷ past) → Facts (running_as o running (stage.Store (Rewrite r (Some a) map))) start past →
          RowOver t.who row first start (event_of s.who first ∷ past) → IsFollowed o.who change a map start (event_of s.who first ∷ past)
      at_end start past region lawful facts e =
          let plan = facts.work.1.0 in
          let sound = tied.at.2.1 in
          subst (λ k. IsFollowed o.who change k map start (event_of s.who first ∷ past)) (sym a_is)
          (subst (λ w. IsFollowed w change (appending b.standing change) map start (event_of s.who first ∷ past)) tied.who
          (followed_now start past s.who first row region lawful e b plan.0 done (lead_next r b plan.0 start past s.who first made.1 stands plan.1)
          (subst IsSoundStanding (sym stands) sound.1) (subst (λ (z : Standing). z.checksum < 2 ^ 32) (sym stands) sound.2) change (follows.own.maker ∙ sym tied.who)
          (subst (λ z. CanAppend z change) (sym stands) follows.can) tied.owes.row_is.0 tied.owes.row_is.1 tied.owes.row_is.2
          (tied.owes.row_is.3.2 ∙ ap (λ (z : Standing). length (item_of z.flag change.act)) (sym stands)) map (ap (λ k. replay plan.0 (commits_of k.events)) (sym a_is) ∙ plan.2)))

  followed_owes : OwesPlan o.who next (Append a map) t
  followed_owes =
      let who_is = after.same.who ∙ tied.who in
      let places : t.reserved t.who ≡ s.reserved s.who - 1 = ap t.reserved after.same.who ∙ after.places in
      let as_many : t.reserved t.who ≡ events_in (Append a map) = omega (arith, places, tied.owes.places, ap length only) in
      record {
        row = rows.Append change.act;
        row_is = (change.act, refl);
        owing = record {
          alive = after.ended ∙ tied.ended;
          holds = after.holds ∙ tied.holds ∙ tied.at.2.0;
          maker = after.sound.maker;
          places = omega (arith, as_many);
          room = subst (λ (k : Making). AreWithin (t.room t.who) k.events) (sym a_is) (append_within (t.room t.who) b.standing (item_of b.standing.flag change.act) (Commit change));
          told = told_and t.told (Agrees t) (λ k. IsFollowed o.who change a map k.start k.past) (Owes (rows.Append change.act) a.events t)
              (λ k agrees is. record {
                agrees = agrees;
                storable = subst (λ w. AreStorable (region_after k.start k.past) w a.events) (sym who_is) is.storable;
                coming = λ apart. subst (λ w. Comes k.start k.past w (rows.Append change.act) a.events) (sym who_is) (is.coming apart);
              }) after.sound.told followed;
        };
        places = as_many;
      }

  pub followed_tied : Tied (running_as o next (stage.Store (Append a map))) t
  followed_tied =
      let same = lock.same in
      let held : lock_by o.holds next.taken ≡ lock_by o.holds running.taken = ap (lock_by o.holds) lock.taken in
      tied_after (running_as o running (stage.Store (Rewrite r (Some a) map))) (running_as o next (stage.Store (Append a map))) s t (stored first s) (IsFollowed o.who change a map) tied after refl tied.ended
      (tied.holds ∙ sym held) tied.deep tied.sound
      ((λ some. lock.taken ∙ tied.at.0 some), subst CanWrite (sym same.call) tied.at.1, (held ∙ tied.at.2.0, (subst (λ (k : Making). k.events ≢ []) (sym a_is) (append_some b.standing change), tied.at.2.1.4)))
      followed_owes followed
      (λ start past region lawful mine facts e. record {
        image = image_later o.image start (event_of s.who first ∷ []) past lawful facts.image;
        rests = λ held calm. absurd (storing_not_calm calm);
        work = (
          omega (arith, same.begun, facts.work.0, more_changes (event_of s.who first ∷ []) past),
          (
            e.leads,
            made_on o.who running next same b first (Rewrite r (Some a) map) (Append a map) past s.who
                (ap (λ l. commits_of l ++ commits_of a.events) only ∙ ap (λ l. l ++ commits_of a.events) (append-nil (change_of first))) facts.work.1.1,
            under_way_on o.who running start next same (Rewrite r (Some a) map) (Append a map) past s.who first tied.who (ap (λ l. l ++ a.events) only) facts.work.1.2,
          ),
        );
      })
    where
      storing_not_calm : true ≡ false → ⊥
      storing_not_calm e = cc
