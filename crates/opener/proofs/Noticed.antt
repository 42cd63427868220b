-- What an opener knows after its two peeks.
use Rattle.std.proofs.Common.{◌≡◌, ℕ, arith, Bool, true, false, cond, List, ◌++◌, length, take, refl, sym, ◌∙◌, subst, ap, take_all}
use Rattle.std.specs.Prelude.{Option, Some, None, ⊤, ◌==◌}
use Rattle.std.proofs.lemmas.List.{take-append-le}
use Rattle.std.proofs.lemmas.Bool.Decides.{nat_tests}
use Rattle.crc_words.specs.Crc.{crc}
use Rattle.change_log.specs.Acts.{replay}
use Rattle.lock_rules.specs.declared.table.LockKind.TheVariants.{Exclusive}
use Rattle.region_words.specs.Region.{Region, IsRegion, IsAccepted, record_of, payload_of, base}
use Rattle.region_words.specs.Past.{region_after, changes_of}
use Rattle.region_words.specs.Apart.{Apart}
use Rattle.region_words.specs.Lawful.{Lawful, map_after}
use Rattle.region_words.specs.Images.{sequence_at, checksum_at}
use Rattle.region_words.specs.Outcome.{AtRest}
use Rattle.region_words.specs.Told.{OnTold}
use Rattle.region_words.specs.Share.{ShareState, Goes, loaded}
use Rattle.region_words.specs.declared.standing.Standing.{Standing}
use Rattle.region_words.specs.declared.event.Event.{Event}
use Rattle.region_words.specs.declared.stops.Peek.{Peek}
use Rattle.region_words.proofs.Notices.{lock_free_read, kept_at_rest, still_whole, standing_stays}
use Rattle.region_words.proofs.ReadLaws.{apart_front, changes_more}
use Rattle.region_words.proofs.RowsStand.{agrees_crc}
use Rattle.region_words.proofs.Shows.{whole_shown}
use Rattle.region_words.proofs.Telling.{told_map}
use Rattle.loader.specs.PartialLoads.{IsSoundImage}
use Rattle.loader.specs.declared.loaded.Image.{Image}
use Rattle.opener.specs.State.{OpenerState}
use Rattle.opener.specs.Steps.{FindsLoad}
use Rattle.opener.specs.Calls.{IsPlain, is_write}
use Rattle.opener.specs.Ends.{OnImage, lock_by}
use Rattle.opener.specs.Extents.{CanLoad, load_after}
use Rattle.opener.specs.Opener.{Facts, Tied, ImageIs, IsShown, LooksUnder, WasShown, WasPeeked, running_as}
use Rattle.opener.specs.declared.work.Running.{Running}
use Rattle.opener.specs.declared.work.Extent.{Extent}
use Rattle.opener.specs.declared.work.Extent.TheVariants.{Partial, Full}
use Rattle.opener.specs.declared.work.Stage.TheVariants.{PeekSequence, LockShared}
use Rattle.opener.proofs.Carry.{none_reserved, tied_after, told_call, more_changes}
use Rattle.opener.proofs.Leaves.{Leaving}
use Rattle.opener.proofs.Ready.{ReadyWith}
use Rattle.opener.proofs.Same.{SameLock}
use Rattle.opener.proofs.Stages.{looks_on}
use Rattle.opener.proofs.Stopped.{nothing_told}

-- both peeks gave the words of this image
pub record IsCurrent (image : Option Image) (peek : Peek) (sequence : ℕ) : Type 0 where
  pub i : Image
  pub kept : image ≡ Some i
  pub checksum : i.standing.checksum ≡ peek.checksum
  pub sequence_is : i.standing.sequence ≡ sequence

-- the checksum that is kept of a whole image is the record's
checksum_kept : (i : Image) (start : Region) (past : List Event) → IsShown i start past → i.standing.checksum ≡ checksum_at start past
checksum_kept i start past is =
    let r = region_after start past in
    let whole = whole_shown r i.standing.size is.kept.shows in
    ap (λ (s : Standing). s.checksum) is.known.known ∙ ap (λ n. crc (payload_of r n)) whole.0 ∙ agrees_crc r (record_of r).size (record_of r).checksum whole.1

sequence_kept : (i : Image) (start : Region) (past : List Event) → IsShown i start past → i.standing.sequence ≡ sequence_at start past
sequence_kept i start past is = ap (λ (s : Standing). s.sequence) is.known.known

-- so at the first peek the history's map was the kept one
kept_history : (i : Image) (image : Option Image) (peek : Peek) (begun sequence : ℕ) (start : Region) (past : List Event) → IsRegion start → Lawful start past →
    (w : WasPeeked image peek begun start past) → image ≡ Some i → i.standing.checksum ≡ peek.checksum → i.standing.sequence ≡ sequence → sequence ≡ sequence_at start past →
    IsAccepted start → Apart start past → i.map ≡ map_after start w.earlier
kept_history i image peek begun sequence start past region l w kept sum is e ok apart =
    let before : ImageIs (Some i) start w.earlier = subst (λ z. ImageIs z start w.earlier) kept w.kept in
    let k = before.shown ok (apart_front start w.later w.earlier (subst (Apart start) (sym w.is) apart)) in
    let p : w.later ++ (k.later ++ k.earlier) ≡ past = ap (λ z. w.later ++ z) k.is ∙ w.is in
    lock_free_read start w.later k.later k.earlier i.standing.size i.map region (subst (Lawful start) (sym p) l) (subst (Apart start) (sym p) apart) k.shown.kept k.shown.history
    (ap (sequence_at start) p ∙ sym e ∙ sym is ∙ sequence_kept i start k.earlier k.shown)
    (ap (checksum_at start) k.is ∙ sym w.checksum ∙ sym sum ∙ checksum_kept i start k.earlier k.shown)
    ∙ ap (map_after start) k.is

front_changes : (later earlier past : List Event) (place : ℕ) → later ++ earlier ≡ past → place ≡ length (changes_of earlier) → take place (changes_of past) ≡ changes_of earlier
front_changes later earlier past place is e =
    ap (λ l. take place (changes_of l)) (sym is) ∙ ap (take place) (changes_more later earlier)
    ∙ take-append-le place (changes_of earlier) (changes_of later) (omega (arith, e)) ∙ take_all place (changes_of earlier) (omega (arith, e))

-- with both words still its own, an image that was shown is shown
shown_later : (i : Image) (start : Region) (later earlier : List Event) → IsRegion start → Lawful start (later ++ earlier) → Apart start (later ++ earlier) → AtRest start (later ++ earlier) →
    IsShown i start earlier → i.standing.checksum ≡ checksum_at start (later ++ earlier) → i.standing.sequence ≡ sequence_at start (later ++ earlier) → IsShown i start (later ++ earlier)
shown_later i start later earlier region l apart rests is sum sequence =
    let same : sequence_at start (later ++ earlier) ≡ sequence_at start earlier = sym sequence ∙ sequence_kept i start earlier is in
    let whole = still_whole start earlier i.standing.size i.map is.kept later region l apart same (sym sum ∙ checksum_kept i start earlier is) in
    record {
      kept = kept_at_rest start (later ++ earlier) i.standing.size i.map rests whole.1 whole.2;
      known = standing_stays start earlier i.standing.size i.map is.kept later region l apart same i.standing is.known;
      history = is.history ∙ sym (ap (replay (base start)) whole.0);
    }

shown_now : (i : Image) (start : Region) (past : List Event) → IsRegion start → Lawful start past → Apart start past → AtRest start past →
    WasShown i start past → i.standing.checksum ≡ checksum_at start past → i.standing.sequence ≡ sequence_at start past → IsShown i start past
shown_now i start past region l apart rests w sum sequence =
    subst (IsShown i start) w.is
    (shown_later i start w.later w.earlier region (subst (Lawful start) (sym w.is) l) (subst (Apart start) (sym w.is) apart) (subst (AtRest start) (sym w.is) rests) w.shown
    (sum ∙ sym (ap (checksum_at start) w.is)) (sequence ∙ sym (ap (sequence_at start) w.is)))

module _ (o : OpenerState) (running next : Running) (peek : Peek) (s t : ShareState) (tied : Tied (running_as o running (PeekSequence peek)) s)
    (same : SameLock running next) (goes : Goes (loaded s) s t) where
  lock : lock_by o.holds running.taken ≡ lock_by o.holds next.taken
  lock = ap (lock_by o.holds) (sym same.taken)

  pub looks_next : LooksUnder next (lock_by o.holds next.taken)
  looks_next = looks_on running next (lock_by o.holds next.taken) (lock_by o.holds running.taken) same.same.call lock tied.at.2.1

  -- the opener is left with what it keeps
  pub peeked_leaving : Leaving o o running next s t
  peeked_leaving =
      record {
        left = loaded s;
        after = goes.after;
        alive = refl;
        lock = refl;
        places = tied.owes;
        who = refl;
        holds = refl;
        sound = tied.sound;
        taken = same.taken;
        plain = subst IsPlain (sym same.same.call) tied.at.1;
      }

  -- the kept image is the region's
  pub current_ready : (sequence : ℕ) (c : IsCurrent o.image peek sequence) → OnTold t.told (λ h. sequence ≡ sequence_at h.start h.past) →
      OnTold t.told (λ k. ReadyWith (Some peek) o c.i next peek.changes k.start k.past)
  current_ready sequence c told =
      told_call (running_as o running (PeekSequence peek)) s t (loaded s) (λ start past. sequence ≡ sequence_at start past) (ReadyWith (Some peek) o c.i next peek.changes) tied goes.after told
      (λ start past region lawful mine facts e. go start past region lawful facts e)
    where
      go : (start : Region) (past : List Event) → IsRegion start → Lawful start past → Facts (running_as o running (PeekSequence peek)) start past → sequence ≡ sequence_at start past →
          ReadyWith (Some peek) o c.i next peek.changes start past
      go start past region lawful facts e =
          let w = facts.work.1.0 in
          let image : ImageIs (Some c.i) start past = subst (λ z. ImageIs z start past) c.kept facts.image in
          record {
            begun = omega (arith, w.since, same.same.begun);
            placed = omega (arith, w.place, more_changes w.later w.earlier, ap (λ l. length (changes_of l)) w.is);
            image = image;
            found = λ ok apart.
                kept_history c.i o.image peek running.begun sequence start past region lawful w c.kept c.checksum c.sequence_is e ok apart
                ∙ ap (replay (base start)) (sym (front_changes w.later w.earlier past peek.changes w.is w.place));
            now = λ write ok apart.
                let held = lock ∙ looks_next write in
                shown_now c.i start past region lawful apart (None, facts.rests held refl apart) (image.shown ok apart) (c.checksum ∙ facts.work.1.1 held) (c.sequence_is ∙ e);
            ends = λ reply read. (refl, same.taken ∙ tied.at.2.2 (ap is_write (sym same.same.call) ∙ read));
            rests = λ mine apart. facts.rests (lock ∙ mine) refl apart;
          }

  free : lock_by o.holds running.taken ≡ None → (o.holds ≡ 0) × (running.taken ≡ None)
  free none = go (o.holds == 0) refl none
    where
      go : (b : Bool) → (o.holds == 0) ≡ b → cond b running.taken (Some Exclusive) ≡ None → (o.holds ≡ 0) × (running.taken ≡ None)
      go true zero none = (grind (arith, nat_tests, zero), none)
      go false zero none = absurd cc

  unwritten : lock_by o.holds running.taken ≡ None → is_write next.call ≡ false
  unwritten none = read (is_write next.call) refl
    where
      read : (b : Bool) → is_write next.call ≡ b → b ≡ false
      read false e = refl
      read true e = let both = sym none ∙ (lock ∙ looks_next e) in absurd cc

  -- where no lock is held, a shared one is asked for before a load
  pub asks_shared : (extent : Extent) → CanLoad extent o.image → lock_by o.holds running.taken ≡ None → Tied (running_as o next (LockShared extent)) t
  asks_shared extent can none =
      let f = free none in
      tied_after (running_as o running (PeekSequence peek)) (running_as o next (LockShared extent)) s t (loaded s) (λ start past. ⊤) tied goes.after refl tied.ended (tied.holds ∙ lock)
      tied.deep tied.sound
      ((λ some. same.taken ∙ tied.at.0 some), (subst IsPlain (sym same.same.call) tied.at.1, unwritten none), (f.0, same.taken ∙ f.1, can)) (none_reserved s t (loaded s) goes.after tied.owes) (nothing_told t.told)
      (λ start past region lawful mine facts k. record { image = facts.image; rests = λ held calm. facts.rests (lock ∙ held) refl; work = (omega (arith, same.same.begun, facts.work.0), tt) })

-- a load of so much may begin where the words that were peeked ask for it
pub can_begin : (image : Option Image) (peek : Peek) (sequence : ℕ) (extent : Extent) → load_after image peek sequence ≡ Some extent → OnImage image IsSoundImage → CanLoad extent image
can_begin image peek sequence Full asked sound = tt
can_begin None peek sequence Partial asked sound = absurd cc
can_begin (Some i) peek sequence Partial asked sound = sound

-- none is asked for where both are those of the image that is kept
pub none_asked : (image : Option Image) (peek : Peek) (sequence : ℕ) → load_after image peek sequence ≡ None → IsCurrent image peek sequence
none_asked None peek sequence e = absurd cc
none_asked (Some k) peek sequence e = go (k.standing.sequence == sequence) refl (k.standing.checksum == peek.checksum) refl e
  where
    same : (a b : ℕ) → (a == b) ≡ true → a ≡ b
    same a b t = grind (arith, nat_tests)

    go : (a : Bool) → (k.standing.sequence == sequence) ≡ a → (b : Bool) → (k.standing.checksum == peek.checksum) ≡ b → cond a (cond b None (Some Partial)) (Some Full) ≡ None →
        IsCurrent (Some k) peek sequence
    go true ea true eb e = record { i = k; kept = refl; checksum = same _ _ eb; sequence_is = same _ _ ea }
    go true ea false eb e = absurd cc
    go false ea b eb e = absurd cc

-- the load that the words that were peeked ask for is the one that the region's do
pub finds_load : (image : Option Image) (peek : Peek) (sequence : ℕ) (extent : Option Extent) (t : ShareState) → load_after image peek sequence ≡ extent →
    OnTold t.told (λ h. sequence ≡ sequence_at h.start h.past) → FindsLoad extent peek image t
finds_load image peek sequence extent t is told =
    told_map t.told (λ h. sequence ≡ sequence_at h.start h.past) (λ h. load_after image peek (sequence_at h.start h.past) ≡ extent) (λ h same. sym (ap (load_after image peek) same) ∙ is) told
