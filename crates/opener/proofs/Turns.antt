-- A switch of the expiry, on or off: what its row has, and what is true of its plan.
use Rattle.std.proofs.Common.{◌≡◌, ◌≢◌, ℕ, ◌+◌, ◌*◌, ◌^◌, ◌<◌, ◌≤◌, Bool, true, false, cond, List, [], ◌∷◌, ◌++◌, length, refl, sym, ap, ◌∙◌, arith, length-append}
use Rattle.std.specs.Prelude.{Some, None, IsSome, is_some, not, nat_lt, unwrap_or}
use Rattle.std.specs.FinMap as fin
use Rattle.std.proofs.lemmas.Bool.Decides.{nat_tests}
use Rattle.expiring_map.specs.Map.{Map}
use Rattle.kv_pairs.specs.Mapped.{packed, packed_size, IsPackable}
use Rattle.kv_pairs.specs.Growth.{IsFileSize, rewrite_size}
use Rattle.kv_pairs.proofs.PackedSizes.{size_by_entries}
use Rattle.change_log.specs.Acts.{applied}
use Rattle.change_log.specs.declared.change.Act.{Act}
use Rattle.change_log.specs.declared.change.Act.TheVariants as act
use Rattle.change_log.specs.declared.change.Change.{Change}
use Rattle.meta_record.specs.declared.shown.Shown.TheVariants.{Whole}
use Rattle.region_words.specs.Region.{Region, IsRegion, IsAccepted, record_of, shown}
use Rattle.region_words.specs.Past.{after_all}
use Rattle.region_words.specs.Rows.{Row, AreBytes, MayBegin, events_of, standing, stores_from, store_meta, close_sizes, payload_stores, confirmed_by_header}
use Rattle.region_words.specs.Rows as rows
use Rattle.region_words.specs.Lawful.{room_of}
use Rattle.region_words.specs.Making.{size_by}
use Rattle.region_words.specs.Owing.{AreWithin}
use Rattle.region_words.specs.Standings.{standing_of, words_of}
use Rattle.region_words.specs.declared.standing.Standing.{Standing}
use Rattle.region_words.specs.declared.event.Mark.TheVariants.{Commit}
use Rattle.region_words.specs.declared.event.What.TheVariants.{Grow}
use Rattle.region_words.proofs.ByStanding.{row_is}
use Rattle.region_words.proofs.GrownFiles.{grown_roomy}
use Rattle.region_words.proofs.PackedBytes.{enable_packs, disable_packs}
use Rattle.region_words.proofs.Rewritten.{switch_leaves}
use Rattle.region_words.proofs.RowParts.{length-stores, length-words}
use Rattle.loader.specs.declared.loaded.Image.{Image}
use Rattle.expiry_switch.specs.Switches.{CanSwitch, flags_of, switching, switching_by, enable_refusal, disable_refusal, pack_refusal}
use Rattle.expiry_switch.specs.declared.switching.SwitchStop.TheVariants as switch
use Rattle.loader.specs.PartialLoads.{IsSoundImage}
use Rattle.opener.specs.Writes.{HasStanding, StandsAlone, commits_of, image_after}
use Rattle.opener.proofs.RowEvents.{not_nil, within_words, words_commit}

-- a file has room for the map under this flag, and the sequence can be raised
abbrev pub CanPack : Standing → Bool → Map → Type 0
CanPack s to m = IsSome (size_by s to m 0) × (s.sequence < 0xffffffff)

-- the row switches the flag to this one, by this act
pub record IsTurn (row : Row) (to : Bool) (deed : Act) : Type 0 where
  pub calm : room_of row ≡ None
  pub alone : StandsAlone row
  pub bit : flags_of to ≤ 1
  pub are : (r : Region) (m : Map) (who : ℕ) → (switching_by (standing r) to m who deed).events ≡ events_of r m who row
  pub may : (r : Region) (m : Map) → shown r ≡ Whole (standing r).size → (standing r).flag ≡ not to → CanPack (standing r) to (applied m deed) → MayBegin r m None row
  pub packs : (old : Bool) (m : Map) → IsPackable old m → IsPackable to (applied m deed)
  pub left : (r : Region) (m : Map) (who : ℕ) → IsRegion r → IsAccepted r → MayBegin r m None row → AreBytes (packed to (applied m deed)) →
      HasStanding (after_all r (switching_by (standing r) to m who deed).events) (switching_by (standing r) to m who deed).standing

pub turn_on : (now seconds : ℕ) → now + seconds < 2 ^ 32 → IsTurn (rows.Enable now seconds) true (act.Enable now seconds)
turn_on now seconds within =
    let row = rows.Enable now seconds in
    let are = λ (r : Region) (m : Map) (who : ℕ). sym (row_is r m who row tt) in
    record {
      calm = refl;
      alone = tt;
      bit = omega arith;
      are = are;
      may = λ r m whole off can. (((standing r).size, whole), off, within, (can.1, can.0));
      packs = λ old m p. enable_packs old m now seconds within p;
      left = λ r m who region ok may bytes.
          let l = switch_leaves r m None who row region ok tt may bytes in
          let e = are r m who in
          record {
            size = ap (λ events. (record_of (after_all r events)).size) e ∙ l.0;
            known = ap (λ events. standing_of (after_all r events) (switching_by (standing r) true m who (act.Enable now seconds)).standing.size) e ∙ l.1;
          };
    }

pub turn_off : (now : ℕ) → IsTurn (rows.Disable now) false (act.Disable now)
turn_off now =
    let row = rows.Disable now in
    let are = λ (r : Region) (m : Map) (who : ℕ). sym (row_is r m who row tt) in
    record {
      calm = refl;
      alone = tt;
      bit = omega arith;
      are = are;
      may = λ r m whole on can. (((standing r).size, whole), on, (can.1, can.0));
      packs = λ old m p. disable_packs old m now p;
      left = λ r m who region ok may bytes.
          let l = switch_leaves r m None who row region ok tt may bytes in
          let e = are r m who in
          record {
            size = ap (λ events. (record_of (after_all r events)).size) e ∙ l.0;
            known = ap (λ events. standing_of (after_all r events) (switching_by (standing r) false m who (act.Disable now)).standing.size) e ∙ l.1;
          };
    }

-- where there is no reason against it, all that it takes is there
can_pack : (s : Standing) (to : Bool) (m : Map) → pack_refusal s to m ≡ None → CanPack s to m
can_pack s to m none = go (is_some (size_by s to m 0)) refl (nat_lt s.sequence 0xffffffff) refl none
  where
    go : (b : Bool) → is_some (size_by s to m 0) ≡ b → (c : Bool) → nat_lt s.sequence 0xffffffff ≡ c →
        cond (not b) (Some (switch.Full (rewrite_size (packed_size to m) 0))) (cond (not c) (Some switch.SequenceEnd) None) ≡ None → CanPack s to m
    go false e c f n = absurd cc
    go true e false f n = absurd cc
    go true e true f n = (e, grind (arith, nat_tests))

pub may_enable : (s : Standing) (m : Map) (now seconds : ℕ) → enable_refusal s m now seconds ≡ None →
    (s.flag ≡ false) × (now + seconds < 2 ^ 32) × CanPack s true (applied m (act.Enable now seconds))
may_enable s m now seconds none = go s.flag refl (nat_lt (now + seconds) (2 ^ 32)) refl none
  where
    go : (b : Bool) → s.flag ≡ b → (c : Bool) → nat_lt (now + seconds) (2 ^ 32) ≡ c →
        cond b (Some switch.AlreadyOn) (cond (not c) (Some switch.ExpiryRange) (pack_refusal s true (applied m (act.Enable now seconds)))) ≡ None →
        (s.flag ≡ false) × (now + seconds < 2 ^ 32) × CanPack s true (applied m (act.Enable now seconds))
    go true e c f n = absurd cc
    go false e false f n = absurd cc
    go false e true f n = (e, grind (arith, nat_tests), can_pack s true (applied m (act.Enable now seconds)) n)

pub may_disable : (s : Standing) (m : Map) (now : ℕ) → disable_refusal s m now ≡ None → (s.flag ≡ true) × CanPack s false (applied m (act.Disable now))
may_disable s m now none = go s.flag refl none
  where
    go : (b : Bool) → s.flag ≡ b → cond (not b) (Some switch.AlreadyOff) (pack_refusal s false (applied m (act.Disable now))) ≡ None → (s.flag ≡ true) × CanPack s false (applied m (act.Disable now))
    go false e n = absurd cc
    go true e n = (e, can_pack s false (applied m (act.Disable now)) n)

-- a sound image can be switched
pub can_switch : (i : Image) → IsSoundImage i → CanSwitch i.standing i.map
can_switch i sound =
    let s = sound.standing in
    record { file = s.file; map = record { pairs = sound.map.pairs; size = omega (arith, sound.map.size, s.within, s.file.most) } }

-- a switch has events, and it commits its change alone
pub switch_some : (s : Standing) (to : Bool) (m : Map) (change : Change) → (switching s to m change).events ≢ []
switch_some s to m change e = not_nil _ _ _ e

pub switch_commits : (s : Standing) (to : Bool) (m : Map) (change : Change) → commits_of (switching s to m change).events ≡ change ∷ []
switch_commits s to m change = go (nat_lt s.file_size (unwrap_or (size_by s to m 0) 0))
  where
    new : List ℕ
    new = packed to m

    last : commits_of (payload_stores new ++ store_meta 26 (flags_of to) ∷ confirmed_by_header new (Commit change)) ≡ change ∷ []
    last = words_commit 1 (words_of new) (store_meta 26 (flags_of to) ∷ confirmed_by_header new (Commit change))

    go : (b : Bool) →
        commits_of (cond b (Grow (unwrap_or (size_by s to m 0) 0) ∷ []) [] ++ store_meta 2 (s.sequence + 1) ∷ store_meta 1 4 ∷ close_sizes ++ payload_stores new ++ store_meta 26 (flags_of to) ∷ confirmed_by_header new (Commit change))
        ≡ change ∷ []
    go true = last
    go false = last

-- it grows the file to its room at most
pub switching_within : (s : Standing) (to : Bool) (m : Map) (change : Change) → AreWithin (switching s to m change).room (switching s to m change).events
switching_within s to m change = go (nat_lt s.file_size wanted)
  where
    wanted : ℕ
    wanted = unwrap_or (size_by s to m 0) 0

    new : List ℕ
    new = packed to m

    last : (room : ℕ) → AreWithin room (payload_stores new ++ store_meta 26 (flags_of to) ∷ confirmed_by_header new (Commit change))
    last room = within_words room 1 (words_of new) (store_meta 26 (flags_of to) ∷ confirmed_by_header new (Commit change)) (tt, (tt, (tt, (tt, (tt, (tt, tt))))))

    go : (b : Bool) →
        AreWithin (cond b wanted 0) (cond b (Grow wanted ∷ []) [] ++ store_meta 2 (s.sequence + 1) ∷ store_meta 1 4 ∷ close_sizes ++ payload_stores new ++ store_meta 26 (flags_of to) ∷ confirmed_by_header new (Commit change))
    go true = (omega arith, (tt, (tt, (tt, (tt, (tt, last wanted))))))
    go false = (tt, (tt, (tt, (tt, (tt, last 0)))))

-- it leaves a payload that isn't empty, in a file that has room for it
pub record HasSwitched (s : Standing) (to : Bool) (m : Map) (change : Change) : Type 0 where
  pub some : 4 ≤ length (packed to m)
  pub room : 4 + length (packed to m) ≤ (switching s to m change).standing.file_size
  pub file : IsFileSize (switching s to m change).standing.file_size

pub switched_room : (s : Standing) (to : Bool) (m : Map) (change : Change) → IsFileSize s.file_size → CanPack s to m → HasSwitched s to m change
switched_room s to m change file can =
    let found = grown_roomy (length (packed to m)) 0 (fin.len m) s.file_size file.most file.pages can.0 in
    let wanted = ap (λ o. unwrap_or o 0) found.is in
    record {
      some = omega (arith, size_by_entries to m);
      room = omega (arith, wanted, found.roomy.room);
      file =
          record {
            some = omega (arith, file.some);
            pages = omega (arith, wanted, found.roomy.pages, file.pages);
            most = omega (arith, wanted, found.roomy.most, file.most);
          };
    }

-- so the image after it is sound
pub switched_sound : (s : Standing) (to : Bool) (m : Map) (change : Change) → IsFileSize s.file_size → CanPack s to m → IsPackable to m → IsSoundImage (image_after (switching s to m change) m)
switched_sound s to m change file can packs =
    let after = switched_room s to m change file can in
    record {
      standing = record { file = after.file; within = omega (arith, after.room); firm = λ _ e. absurd cc };
      map = record { pairs = packs; size = omega arith };
    }

-- it has few events beside the words of its payload
pub switch_few : (s : Standing) (to : Bool) (m : Map) (change : Change) → 4 * length (switching s to m change).events ≤ length (packed to m) + 55
switch_few s to m change = go (nat_lt s.file_size (unwrap_or (size_by s to m 0) 0))
  where
    new : List ℕ
    new = packed to m

    last : length (payload_stores new ++ store_meta 26 (flags_of to) ∷ confirmed_by_header new (Commit change)) ≡ length (words_of new) + 6
    last = omega (arith, length-append (stores_from 1 (words_of new)) (store_meta 26 (flags_of to) ∷ confirmed_by_header new (Commit change)), length-stores 1 (words_of new))

    go : (b : Bool) →
        4 * length (cond b (Grow (unwrap_or (size_by s to m 0) 0) ∷ []) [] ++ store_meta 2 (s.sequence + 1) ∷ store_meta 1 4 ∷ close_sizes ++ payload_stores new ++ store_meta 26 (flags_of to) ∷ confirmed_by_header new (Commit change))
        ≤ length new + 55
    go true = omega (arith, last, length-words new)
    go false = omega (arith, last, length-words new)
