-- A plan that is made for the image that a region shows: its first row may start there, and where its events lead.
use Rattle.std.proofs.Common.{◌≡◌, ◌≢◌, ℕ, ◌+◌, ◌^◌, ◌<◌, ◌≤◌, Bool, true, false, cond, List, [], ◌∷◌, ◌++◌, length, refl, sym, ◌∙◌, arith, subst, ap, inl, inr}
use Rattle.std.specs.Prelude.{None, max, unwrap_or, not, nat_lt, nat_le, ◌==◌, ◌&&◌}
use Rattle.std.specs.FinMap as fin
use Rattle.std.proofs.lemmas.Bool.Decides.{nat_tests}
use Rattle.expiring_map.specs.Map.{Map}
use Rattle.expiring_map.specs.Live.{live_part}
use Rattle.kv_pairs.specs.Mapped.{packed, IsPackable}
use Rattle.kv_pairs.proofs.PackedSizes.{size_by_entries}
use Rattle.change_log.specs.Acts.{act_of, applied, replay}
use Rattle.change_log.specs.declared.call.Call.{Call}
use Rattle.change_log.specs.declared.change.Act.{Act}
use Rattle.change_log.specs.declared.change.Act.TheVariants as act
use Rattle.change_log.specs.declared.change.Change.{Change}
use Rattle.meta_record.specs.declared.shown.Shown.TheVariants.{Whole}
use Rattle.region_words.specs.Region.{Region, IsRegion, IsAccepted, record_of, base, file_size, flag, shown}
use Rattle.region_words.specs.Past.{region_after, after_all, changes_of}
use Rattle.region_words.specs.Apart.{Apart}
use Rattle.region_words.specs.Lawful.{Between, map_after}
use Rattle.region_words.specs.Rows.{Row, MayBegin, HasRoom, IsAppendable, events_of, item_of, standing, store_meta, append_stores, payload_stores, close_sizes, confirmed_by_checksum, confirmed_by_header}
use Rattle.region_words.specs.Rows as rows
use Rattle.region_words.specs.Standings.{standing_of}
use Rattle.region_words.specs.Making.{size_by}
use Rattle.region_words.specs.Owing.{AreStorable, Comes}
use Rattle.region_words.specs.declared.standing.Standing.{Standing}
use Rattle.region_words.specs.declared.event.Mark.TheVariants.{Commit}
use Rattle.region_words.specs.declared.event.What.{What}
use Rattle.region_words.specs.declared.event.What.TheVariants.{Grow}
use Rattle.region_words.specs.declared.event.Event.{Event}
use Rattle.region_words.proofs.ByStanding.{row_is}
use Rattle.region_words.proofs.FitsAfter.{packed_fits, cleared_fits}
use Rattle.region_words.proofs.GrownFiles.{IsFound, grown_roomy}
use Rattle.region_words.proofs.LeftStanding.{append_leaves}
use Rattle.region_words.proofs.PackedBytes.{packed_bytes}
use Rattle.region_words.proofs.Regions.{All-from_Small}
use Rattle.region_words.proofs.Rewritten.{write_back_leaves}
use Rattle.region_words.proofs.RowsStand.{item_bytes}
use Rattle.region_words.proofs.StorableRows.{append_storable, write_back_storable, switch_storable}
use Rattle.loader.specs.declared.loaded.Image.{Image}
use Rattle.appender.specs.Appends.{CanAppend, appending}
use Rattle.write_back.specs.Rewrites.{CanBegin, file_for, rewriting}
use Rattle.expiry_switch.specs.Switches.{flags_of, switching_by}
use Rattle.opener.specs.Opener.{IsCalm, image_at}
use Rattle.loader.specs.PartialLoads.{IsSoundImage}
use Rattle.opener.specs.Plans.{CanWrite, IsItemPlan, IsPlanOf, fits_behind}
use Rattle.opener.specs.Writes.{IsOwn, MayStart, HasStanding, Leads, PlanLeads, PlanStarts, commits_of}
use Rattle.opener.specs.declared.plan.Plan.{Plan}
use Rattle.opener.specs.declared.work.Running.{Running}
use Rattle.opener.proofs.Leading.{continued_below, all_firm, all_grows, grown_first, versioned_first}
use Rattle.opener.proofs.Turns.{CanPack, IsTurn, switch_some}
use Rattle.opener.proofs.Planned.{IsEither, IsItemsPlan, LeavesMap, either_plan, planned_map, append_some, rewrite_some}

pub record IsNow (j : Image) (start : Region) (past : List Event) : Type 0 where
  pub whole : shown (region_after start past) ≡ Whole j.standing.size
  pub is : image_at start past ≡ j

-- no row is under way, none has just made room, and the record is accepted: a row may begin
abbrev pub IsOpen : Region → List Event → Type 0
IsOpen start past = IsCalm start past × IsAccepted (region_after start past)

-- This is known of the image, whatever the checksums are; and where they tell payloads apart, it is the image that is shown, and a row
-- may begin.
pub record IsBeside (j : Image) (start : Region) (past : List Event) : Type 0 where
  pub region : IsRegion (region_after start past)
  pub sound : IsSoundImage j
  pub sum : j.standing.checksum < 2 ^ 32
  pub file : j.standing.file_size ≡ file_size (region_after start past)
  pub firm : (record_of (region_after start past)).version ≡ 0 → j.standing.version ≡ 0
  pub calm : Apart start past → IsOpen start past
  pub now : Apart start past → IsNow j start past
  pub accepted : IsAccepted start → IsAccepted (region_after start past)

-- changes after changes
replay_on : (m : Map) (xs ys : List Change) → replay m (xs ++ ys) ≡ replay (replay m xs) ys
replay_on m [] ys = refl
replay_on m (x ∷ xs) ys = replay_on (applied m x.act) xs ys

-- the file has no room for these bytes
short_file : (r : Region) (need : ℕ) → fits_behind (standing r) need ≡ false → HasRoom r (standing r).size need → ⊥
short_file r need short room = go (nat_lt 0 (standing r).size) (nat_le (4 + (standing r).size + need) (file_size r)) refl refl short
  where
    go : (b c : Bool) → nat_lt 0 (standing r).size ≡ b → nat_le (4 + (standing r).size + need) (file_size r) ≡ c → (b && c) ≡ false → ⊥
    go false c e f g = let none : (standing r).size ≤ 0 = grind (arith, nat_tests) in absurd (omega (arith, none, room.0))
    go true false e f g = let more : file_size r < 4 + (standing r).size + need = grind (arith, nat_tests) in absurd (omega (arith, more, room.1))
    go true true e f g = absurd cc

module _ (who : ℕ) (start : Region) (past : List Event) where
  abbrev r : Region
  r = region_after start past

  abbrev m : Map
  m = map_after start past

  -- the first row begins
  comes : (row : Row) (events : List What) → events ≢ [] → IsOpen start past → MayBegin r m None row → events ≡ events_of r m who row → Comes start past who row events
  comes row [] some calm may are = absurd (some refl)
  comes row (what ∷ rest) some calm may are = record { phase = Between None; reached = calm.0; next = (may, are, calm.1) }

  -- an append
  may_append : (change : Change) → shown r ≡ Whole (standing r).size → CanAppend (standing r) change → MayBegin r m None (rows.Append change.act)
  may_append change whole can = ((standing r).size, whole, (can.some, can.room), can.appendable, (λ need e. absurd cc))

  append_are : (change : Change) → change.maker ≡ who → (appending (standing r) change).events ≡ events_of r m who (rows.Append change.act)
  append_are change mine =
      ap (λ w. append_stores (standing r) (item_of (standing r).flag change.act) (Commit (record { maker = w; act = change.act }))) mine
      ∙ sym (row_is r m who (rows.Append change.act) tt)

  append_left : (change : Change) → IsRegion r → change.maker ≡ who → shown r ≡ Whole (standing r).size → CanAppend (standing r) change →
      HasStanding (after_all r (appending (standing r) change).events) (appending (standing r) change).standing
  append_left change region mine whole can =
      let l = append_leaves r m who (standing r).size change.act region whole (can.some, can.room) can.appendable in
      let e = append_are change mine in
      record {
        size = ap (λ events. (record_of (after_all r events)).size) e ∙ l.0;
        known = ap (λ events. standing_of (after_all r events) (appending (standing r) change).standing.size) e ∙ l.1;
      }

  -- a write-back
  pack_are : (change : Change) (now need : ℕ) → change.maker ≡ who → change.act ≡ act.Pack now →
      (rewriting (standing r) (live_part m now) change need).events ≡ events_of r m who (rows.Pack now need)
  pack_are change now need mine packs =
      (λ k. (rewriting (standing r) (live_part m now) (record { maker = mine k; act = packs k }) need).events) ∙ sym (row_is r m who (rows.Pack now need) tt)

  clear_are : (change : Change) → change.maker ≡ who → change.act ≡ act.Clear → (rewriting (standing r) fin.empty change 0).events ≡ events_of r m who rows.Clear
  clear_are change mine clears =
      (λ k. (rewriting (standing r) fin.empty (record { maker = mine k; act = clears k }) 0).events) ∙ sym (row_is r m who rows.Clear tt)

  may_pack : (now need : ℕ) → shown r ≡ Whole (standing r).size → ((a : Act) × IsAppendable (flag r) a × (need ≡ length (item_of (flag r) a))) → fits_behind (standing r) need ≡ false →
      CanBegin (standing r) (live_part m now) need → MayBegin r m None (rows.Pack now need)
  may_pack now need whole item short begun = (((standing r).size, whole, short_file r need short), item, (begun.1, begun.0))

  pack_left : (change : Change) (now need : ℕ) → IsRegion r → change.maker ≡ who → change.act ≡ act.Pack now → shown r ≡ Whole (standing r).size → IsPackable (flag r) (live_part m now) →
      ((a : Act) × IsAppendable (flag r) a × (need ≡ length (item_of (flag r) a))) → fits_behind (standing r) need ≡ false → CanBegin (standing r) (live_part m now) need →
      HasStanding (after_all r (rewriting (standing r) (live_part m now) change need).events) (rewriting (standing r) (live_part m now) change need).standing
  pack_left change now need region mine packs whole fits item short begun =
      let l = write_back_leaves r m None who (rows.Pack now need) region tt (may_pack now need whole item short begun) (packed_bytes (flag r) (live_part m now) fits) in
      let e = pack_are change now need mine packs in
      record {
        size = ap (λ events. (record_of (after_all r events)).size) e ∙ l.0;
        known = ap (λ events. standing_of (after_all r events) (rewriting (standing r) (live_part m now) change need).standing.size) e ∙ l.1;
      }

  may_clear : shown r ≡ Whole (standing r).size → CanBegin (standing r) fin.empty 0 → MayBegin r m None rows.Clear
  may_clear whole begun = (((standing r).size, whole), (begun.1, begun.0))

  clear_left : (change : Change) → IsRegion r → change.maker ≡ who → change.act ≡ act.Clear → shown r ≡ Whole (standing r).size → CanBegin (standing r) fin.empty 0 →
      HasStanding (after_all r (rewriting (standing r) fin.empty change 0).events) (rewriting (standing r) fin.empty change 0).standing
  clear_left change region mine clears whole begun =
      let l = write_back_leaves r m None who rows.Clear region tt (may_clear whole begun) (packed_bytes (flag r) fin.empty (cleared_fits (flag r) m).pairs) in
      let e = clear_are change mine clears in
      record {
        size = ap (λ events. (record_of (after_all r events)).size) e ∙ l.0;
        known = ap (λ events. standing_of (after_all r events) (rewriting (standing r) fin.empty change 0).standing.size) e ∙ l.1;
      }

  module _ (j : Image) (beside : IsBeside j start past) where
    abbrev s : Standing
    s = j.standing

    append_stored : (change : Change) → change.maker ≡ who → CanAppend s change → AreStorable r who (appending s change).events
    append_stored change mine can =
        let item = item_of s.flag change.act in
        append_storable r s item (Commit change) who beside.region (All-from_Small item (item_bytes s.flag change.act can.appendable)) (omega (arith, can.room, beside.file)) (omega (arith, can.some))
        (continued_below s.checksum item beside.sum) (λ ok none. beside.sound.standing.firm can.some (beside.firm none)) mine

    rewrite_stored : (left : Map) (change : Change) (need : ℕ) → change.maker ≡ who → IsPackable s.flag left → CanBegin s left need → AreStorable r who (rewriting s left change need).events
    rewrite_stored left change need mine packs begun =
        let new = packed s.flag left in
        let found = grown_roomy (length new) need (fin.len left) s.file_size beside.sound.standing.file.most beside.sound.standing.file.pages begun.0 in
        let enough : IsFound (4 + length new) (file_for s left need) =
        record { wanted = found.wanted; is = found.is; roomy = record { room = omega (arith, found.roomy.room); most = found.roomy.most; pages = found.roomy.pages } } in
        write_back_storable r s (file_for s left need) new (Commit change) who beside.region beside.file enough begun.1 (packed_bytes s.flag left packs)
        (omega (arith, size_by_entries s.flag left)) (λ ok none. beside.firm none) mine

    -- where an append leads
    pub append_leads : (change : Change) (map : Map) → change.maker ≡ who → CanAppend s change → replay j.map (commits_of (appending s change).events) ≡ map → Leads (appending s change) map start past
    append_leads change map mine can leaves =
        let stored = append_stored change mine can in
        record {
          file = omega (arith, beside.file, all_grows r who (appending s change).events stored);
          firm = λ none. beside.firm (all_firm r who (appending s change).events stored none);
          stands = λ ok apart.
              let n = beside.now apart in
              subst (λ (i : Image). shown r ≡ Whole i.standing.size → CanAppend i.standing change → HasStanding (after_all r (appending i.standing change).events) (appending i.standing change).standing) n.is
              (append_left change beside.region mine) n.whole can;
          map = λ ok apart.
              let commits = commits_of (appending s change).events in
              replay_on (base start) (changes_of past) commits ∙ ap (λ (i : Image). replay i.map commits) (beside.now apart).is ∙ leaves;
        }

    -- the file and the version after a rewrite
    rewrite_file : (left : Map) (change : Change) (need : ℕ) → AreStorable r who (rewriting s left change need).events →
        (rewriting s left change need).standing.file_size ≤ file_size (after_all r (rewriting s left change need).events)
    rewrite_file left change need stored = go (nat_lt s.file_size (unwrap_or (file_for s left need) 0)) (s.version == 0) (ap (λ n. nat_lt n (unwrap_or (file_for s left need) 0)) (sym beside.file)) stored
      where
        wanted : ℕ
        wanted = unwrap_or (file_for s left need) 0

        new : List ℕ
        new = packed s.flag left

        go : (b c : Bool) → nat_lt (file_size r) wanted ≡ b →
            AreStorable r who (cond b (Grow wanted ∷ []) [] ++ store_meta 2 (s.sequence + 1) ∷ cond c (store_meta 1 3 ∷ []) [] ++ payload_stores new ++ confirmed_by_checksum new (Commit change)) →
            max s.file_size wanted
            ≤ file_size (after_all r (cond b (Grow wanted ∷ []) [] ++ store_meta 2 (s.sequence + 1) ∷ cond c (store_meta 1 3 ∷ []) [] ++ payload_stores new ++ confirmed_by_checksum new (Commit change)))
        go true true e stored =
            omega (arith, beside.file, grown_first r who wanted true (store_meta 2 (s.sequence + 1) ∷ store_meta 1 3 ∷ payload_stores new ++ confirmed_by_checksum new (Commit change)) e stored)
        go true false e stored =
            omega (arith, beside.file, grown_first r who wanted true (store_meta 2 (s.sequence + 1) ∷ payload_stores new ++ confirmed_by_checksum new (Commit change)) e stored)
        go false true e stored =
            omega (arith, beside.file, grown_first r who wanted false (store_meta 2 (s.sequence + 1) ∷ store_meta 1 3 ∷ payload_stores new ++ confirmed_by_checksum new (Commit change)) e stored)
        go false false e stored =
            omega (arith, beside.file, grown_first r who wanted false (store_meta 2 (s.sequence + 1) ∷ payload_stores new ++ confirmed_by_checksum new (Commit change)) e stored)

    versioned : (grows fresh : Bool) (x wanted : ℕ) (payload rest : List What) → AreStorable r who (cond grows (Grow wanted ∷ []) [] ++ store_meta 2 x ∷ cond fresh (store_meta 1 3 ∷ []) [] ++ payload ++ rest) →
        (record_of (after_all r (cond grows (Grow wanted ∷ []) [] ++ store_meta 2 x ∷ cond fresh (store_meta 1 3 ∷ []) [] ++ payload ++ rest))).version ≡ 0 → cond fresh 3 s.version ≡ 0
    versioned true true x wanted payload rest stored none = absurd (versioned_first r who 3 (Grow wanted ∷ store_meta 2 x ∷ []) (payload ++ rest) (omega arith) stored none)
    versioned false true x wanted payload rest stored none = absurd (versioned_first r who 3 (store_meta 2 x ∷ []) (payload ++ rest) (omega arith) stored none)
    versioned true false x wanted payload rest stored none = beside.firm (all_firm r who (Grow wanted ∷ store_meta 2 x ∷ payload ++ rest) stored none)
    versioned false false x wanted payload rest stored none = beside.firm (all_firm r who (store_meta 2 x ∷ payload ++ rest) stored none)

    -- where a write-back leads
    rewrite_leads : (left : Map) (change : Change) (need : ℕ) (map : Map) → change.maker ≡ who → IsPackable s.flag left → CanBegin s left need →
        (Apart start past → HasStanding (after_all r (rewriting s left change need).events) (rewriting s left change need).standing) →
        replay j.map (commits_of (rewriting s left change need).events) ≡ map → Leads (rewriting s left change need) map start past
    rewrite_leads left change need map mine packs begun stands leaves =
        let stored = rewrite_stored left change need mine packs begun in
        let wanted = unwrap_or (file_for s left need) 0 in
        let new = packed s.flag left in
        record {
          file = rewrite_file left change need stored;
          firm = λ none. versioned (nat_lt s.file_size wanted) (s.version == 0) (s.sequence + 1) wanted (payload_stores new) (confirmed_by_checksum new (Commit change)) stored none;
          stands = λ ok apart. stands apart;
          map = λ ok apart.
              let commits = commits_of (rewriting s left change need).events in
              replay_on (base start) (changes_of past) commits ∙ ap (λ (i : Image). replay i.map commits) (beside.now apart).is ∙ leaves;
        }

    -- the stands of the two write-backs
    pack_stands : (change : Change) (now need : ℕ) → change.maker ≡ who → change.act ≡ act.Pack now → ((a : Act) × IsAppendable s.flag a × (need ≡ length (item_of s.flag a))) →
        fits_behind s need ≡ false → CanBegin s (live_part j.map now) need → Apart start past →
        HasStanding (after_all r (rewriting s (live_part j.map now) change need).events) (rewriting s (live_part j.map now) change need).standing
    pack_stands change now need mine packs item short begun apart =
        let n = beside.now apart in
        subst (λ (i : Image). shown r ≡ Whole i.standing.size → IsPackable i.standing.flag (live_part i.map now) → ((a : Act) × IsAppendable i.standing.flag a × (need ≡ length (item_of i.standing.flag a))) →
        fits_behind i.standing need ≡ false → CanBegin i.standing (live_part i.map now) need →
        HasStanding (after_all r (rewriting i.standing (live_part i.map now) change need).events) (rewriting i.standing (live_part i.map now) change need).standing) n.is
        (pack_left change now need beside.region mine packs) n.whole (packed_fits s.flag j.map now (s.size + 4) beside.sound.map).pairs item short begun

    clear_stands : (change : Change) → change.maker ≡ who → change.act ≡ act.Clear → CanBegin s fin.empty 0 → Apart start past →
        HasStanding (after_all r (rewriting s fin.empty change 0).events) (rewriting s fin.empty change 0).standing
    clear_stands change mine clears begun apart =
        let n = beside.now apart in
        subst (λ (i : Image). shown r ≡ Whole i.standing.size → CanBegin i.standing fin.empty 0 → HasStanding (after_all r (rewriting i.standing fin.empty change 0).events) (rewriting i.standing fin.empty change 0).standing) n.is
        (clear_left change beside.region mine clears) n.whole begun

    -- an append may start, and so may the two write-backs
    append_starts : (change : Change) → change.maker ≡ who → CanAppend s change → MayStart (rows.Append change.act) (appending s change).events who start past
    append_starts change mine can =
        record {
          storable = append_stored change mine can;
          coming = λ apart.
              let n = beside.now apart in
              subst (λ (i : Image). shown r ≡ Whole i.standing.size → CanAppend i.standing change → Comes start past who (rows.Append change.act) (appending i.standing change).events) n.is
              (λ whole can. comes (rows.Append change.act) (appending (standing r) change).events (append_some (standing r) change) (beside.calm apart) (may_append change whole can) (append_are change mine))
              n.whole can;
        }

    pack_starts : (change : Change) (now need : ℕ) → change.maker ≡ who → change.act ≡ act.Pack now → ((a : Act) × IsAppendable s.flag a × (need ≡ length (item_of s.flag a))) →
        fits_behind s need ≡ false → CanBegin s (live_part j.map now) need → MayStart (rows.Pack now need) (rewriting s (live_part j.map now) change need).events who start past
    pack_starts change now need mine packs item short begun =
        record {
          storable = rewrite_stored (live_part j.map now) change need mine (packed_fits s.flag j.map now (s.size + 4) beside.sound.map).pairs begun;
          coming = λ apart.
              let n = beside.now apart in
              subst (λ (i : Image). shown r ≡ Whole i.standing.size → ((a : Act) × IsAppendable i.standing.flag a × (need ≡ length (item_of i.standing.flag a))) → fits_behind i.standing need ≡ false →
              CanBegin i.standing (live_part i.map now) need → Comes start past who (rows.Pack now need) (rewriting i.standing (live_part i.map now) change need).events) n.is
              (λ whole item short begun.
              comes (rows.Pack now need) (rewriting (standing r) (live_part m now) change need).events (rewrite_some (standing r) (live_part m now) change need) (beside.calm apart)
              (may_pack now need whole item short begun) (pack_are change now need mine packs)) n.whole item short begun;
        }

    clear_starts : (change : Change) → change.maker ≡ who → change.act ≡ act.Clear → CanBegin s fin.empty 0 → MayStart rows.Clear (rewriting s fin.empty change 0).events who start past
    clear_starts change mine clears begun =
        record {
          storable = rewrite_stored fin.empty change 0 mine (cleared_fits s.flag j.map).pairs begun;
          coming = λ apart.
              let n = beside.now apart in
              subst (λ (i : Image). shown r ≡ Whole i.standing.size → CanBegin i.standing fin.empty 0 → Comes start past who rows.Clear (rewriting i.standing fin.empty change 0).events) n.is
              (λ whole begun.
              comes rows.Clear (rewriting (standing r) fin.empty change 0).events (rewrite_some (standing r) fin.empty change 0) (beside.calm apart) (may_clear whole begun) (clear_are change mine clears))
              n.whole begun;
        }

    -- a switch may be stored, and may start
    turn_stored : (row : Row) (to : Bool) (deed : Act) → IsTurn row to deed → CanPack s to (applied j.map deed) → AreStorable r who (switching_by s to j.map who deed).events
    turn_stored row to deed turn can =
        let left = applied j.map deed in
        let new = packed to left in
        let found = grown_roomy (length new) 0 (fin.len left) s.file_size beside.sound.standing.file.most beside.sound.standing.file.pages can.0 in
        let enough : IsFound (4 + length new) (size_by s to left 0) =
        record { wanted = found.wanted; is = found.is; roomy = record { room = omega (arith, found.roomy.room); most = found.roomy.most; pages = found.roomy.pages } } in
        switch_storable r s (size_by s to left 0) (flags_of to) new (Commit (record { maker = who; act = deed })) who beside.region beside.file enough can.1 turn.bit
        (packed_bytes to left (turn.packs s.flag j.map beside.sound.map.pairs)) refl

    turn_starts : (row : Row) (to : Bool) (deed : Act) → IsTurn row to deed → s.flag ≡ not to → CanPack s to (applied j.map deed) → MayStart row (switching_by s to j.map who deed).events who start past
    turn_starts row to deed turn turns can =
        record {
          storable = turn_stored row to deed turn can;
          coming = λ apart.
              let n = beside.now apart in
              subst (λ (i : Image). shown r ≡ Whole i.standing.size → i.standing.flag ≡ not to → CanPack i.standing to (applied i.map deed) → Comes start past who row (switching_by i.standing to i.map who deed).events) n.is
              (λ whole turns can.
              comes row (switching_by (standing r) to m who deed).events (switch_some (standing r) to (applied m deed) (record { maker = who; act = deed })) (beside.calm apart)
              (turn.may r m whole turns can) (turn.are r m who)) n.whole turns can;
        }

    -- and this is where it leads
    turn_stands : (row : Row) (to : Bool) (deed : Act) → IsTurn row to deed → s.flag ≡ not to → CanPack s to (applied j.map deed) → IsAccepted start → Apart start past →
        HasStanding (after_all r (switching_by s to j.map who deed).events) (switching_by s to j.map who deed).standing
    turn_stands row to deed turn turns can ok apart =
        let n = beside.now apart in
        subst (λ (i : Image). shown r ≡ Whole i.standing.size → i.standing.flag ≡ not to → CanPack i.standing to (applied i.map deed) → IsPackable to (applied i.map deed) →
        HasStanding (after_all r (switching_by i.standing to i.map who deed).events) (switching_by i.standing to i.map who deed).standing) n.is
        (λ whole turns can packs. turn.left r m who beside.region (beside.accepted ok) (turn.may r m whole turns can) (packed_bytes to (applied m deed) packs))
        n.whole turns can (turn.packs s.flag j.map beside.sound.map.pairs)

    turn_file : (to : Bool) (deed : Act) → AreStorable r who (switching_by s to j.map who deed).events →
        (switching_by s to j.map who deed).standing.file_size ≤ file_size (after_all r (switching_by s to j.map who deed).events)
    turn_file to deed stored = go (nat_lt s.file_size wanted) (ap (λ n. nat_lt n wanted) (sym beside.file)) stored
      where
        wanted : ℕ
        wanted = unwrap_or (size_by s to (applied j.map deed) 0) 0

        new : List ℕ
        new = packed to (applied j.map deed)

        change : Change
        change = record { maker = who; act = deed }

        rest : List What
        rest = store_meta 2 (s.sequence + 1) ∷ store_meta 1 4 ∷ close_sizes ++ payload_stores new ++ store_meta 26 (flags_of to) ∷ confirmed_by_header new (Commit change)

        go : (b : Bool) → nat_lt (file_size r) wanted ≡ b → AreStorable r who (cond b (Grow wanted ∷ []) [] ++ store_meta 2 (s.sequence + 1) ∷ store_meta 1 4 ∷ close_sizes ++ payload_stores new ++ store_meta 26 (flags_of to) ∷ confirmed_by_header new (Commit change)) →
            max s.file_size wanted ≤ file_size (after_all r (cond b (Grow wanted ∷ []) [] ++ store_meta 2 (s.sequence + 1) ∷ store_meta 1 4 ∷ close_sizes ++ payload_stores new ++ store_meta 26 (flags_of to) ∷ confirmed_by_header new (Commit change)))
        go true e stored = omega (arith, beside.file, grown_first r who wanted true rest e stored)
        go false e stored = omega (arith, beside.file, grown_first r who wanted false rest e stored)

    turn_firm : (to : Bool) (deed : Act) → AreStorable r who (switching_by s to j.map who deed).events → (record_of (after_all r (switching_by s to j.map who deed).events)).version ≢ 0
    turn_firm to deed stored = go (nat_lt s.file_size wanted) stored
      where
        wanted : ℕ
        wanted = unwrap_or (size_by s to (applied j.map deed) 0) 0

        new : List ℕ
        new = packed to (applied j.map deed)

        change : Change
        change = record { maker = who; act = deed }

        rest : List What
        rest = close_sizes ++ payload_stores new ++ store_meta 26 (flags_of to) ∷ confirmed_by_header new (Commit change)

        go : (b : Bool) → AreStorable r who (cond b (Grow wanted ∷ []) [] ++ store_meta 2 (s.sequence + 1) ∷ store_meta 1 4 ∷ close_sizes ++ payload_stores new ++ store_meta 26 (flags_of to) ∷ confirmed_by_header new (Commit change)) →
            (record_of (after_all r (cond b (Grow wanted ∷ []) [] ++ store_meta 2 (s.sequence + 1) ∷ store_meta 1 4 ∷ close_sizes ++ payload_stores new ++ store_meta 26 (flags_of to) ∷ confirmed_by_header new (Commit change)))).version ≢ 0
        go true stored = versioned_first r who 4 (Grow wanted ∷ store_meta 2 (s.sequence + 1) ∷ []) rest (omega arith) stored
        go false stored = versioned_first r who 4 (store_meta 2 (s.sequence + 1) ∷ []) rest (omega arith) stored

    turn_leads : (row : Row) (to : Bool) (deed : Act) → IsTurn row to deed → s.flag ≡ not to → CanPack s to (applied j.map deed) →
        replay j.map (commits_of (switching_by s to j.map who deed).events) ≡ applied j.map deed → Leads (switching_by s to j.map who deed) (applied j.map deed) start past
    turn_leads row to deed turn turns can leaves =
        let stored = turn_stored row to deed turn can in
        record {
          file = turn_file to deed stored;
          firm = λ none. absurd (turn_firm to deed stored none);
          stands = λ ok apart. turn_stands row to deed turn turns can ok apart;
          map = λ ok apart.
              let commits = commits_of (switching_by s to j.map who deed).events in
              replay_on (base start) (changes_of past) commits ∙ ap (λ (i : Image). replay i.map commits) (beside.now apart).is ∙ leaves;
        }

    module _ (asked : Call) (now : ℕ) (plan : Plan) (can : CanWrite asked) (is_plan : IsPlanOf who asked now j plan) where
      abbrev either : IsEither who asked now j plan
      either = either_plan who asked now j plan can is_plan

      abbrev leaves : LeavesMap now j plan
      leaves = planned_map who asked now j plan can beside.sound is_plan

      abbrev need : Change → ℕ
      need change = length (item_of s.flag change.act)

      abbrev pack : Change → Change
      pack change = record { maker = change.maker; act = act.Pack now }

      abbrev clear : Change
      clear = record { maker = who; act = act.Clear }

      -- the first row of the plan may start
      pub planned_starts : (running : Running) → running.call ≡ asked → running.now ≡ now → PlanStarts who running plan start past
      planned_starts running asked_is now_is = go either
        where
          own : (p : IsItemsPlan who asked now j plan) → IsOwn who running p.change
          own p = record { act = (λ k. act_of (asked_is k) (now_is k)) ∙ p.act; maker = p.maker }

          by : (p : IsItemsPlan who asked now j plan) → IsItemPlan p.change now j plan → PlanStarts who running plan start past
          by p (inl a) =
              subst (λ (x : Plan). PlanStarts who running x start past) (sym a.is) (rows.Append p.change.act, (p.change.act, refl), append_starts p.change p.maker a.can)
          by p (inr q) =
              subst (λ (x : Plan). PlanStarts who running x start past) (sym q.is) (
                rows.Pack now (need p.change),
                (now, need p.change, refl, (p.change, record { own = own p; can = q.can; is = refl }, refl)),
                pack_starts (pack p.change) now (need p.change) p.maker refl (p.change.act, q.can.appendable, refl) q.short q.begun,
              )

          go : IsEither who asked now j plan → PlanStarts who running plan start past
          go (inl p) = by p p.is
          go (inr (inr p)) =
              subst (λ (x : Plan). PlanStarts who running x start past) (sym p.is) (p.row, p.turn.alone, turn_starts p.row p.to p.deed p.turn p.turns p.can)
          go (inr (inl (_, p))) = subst (λ (x : Plan). PlanStarts who running x start past) (sym p.is) (rows.Clear, tt, clear_starts clear refl refl p.begun)

      -- and this is where it leads
      pub planned_leads : PlanLeads plan start past
      planned_leads = go either
        where
          by : (p : IsItemsPlan who asked now j plan) → IsItemPlan p.change now j plan → PlanLeads plan start past
          by p (inl a) =
              subst (λ (x : Plan). PlanLeads x start past) (sym a.is)
              (append_leads p.change (applied j.map p.change.act) p.maker a.can (subst (LeavesMap now j) a.is leaves))
          by p (inr q) =
              let left = subst (LeavesMap now j) q.is leaves in
              subst (λ (x : Plan). PlanLeads x start past) (sym q.is) (
                live_part j.map now,
                rewrite_leads (live_part j.map now) (pack p.change) (need p.change) (live_part j.map now) p.maker (packed_fits s.flag j.map now (s.size + 4) beside.sound.map).pairs q.begun
                    (pack_stands (pack p.change) now (need p.change) p.maker refl (p.change.act, q.can.appendable, refl) q.short q.begun) left.0,
                left.1,
              )

          go : IsEither who asked now j plan → PlanLeads plan start past
          go (inl p) = by p p.is
          go (inr (inr p)) =
              subst (λ (x : Plan). PlanLeads x start past) (sym p.is) (turn_leads p.row p.to p.deed p.turn p.turns p.can (subst (LeavesMap now j) p.is leaves))
          go (inr (inl (_, p))) =
              let left = subst (LeavesMap now j) p.is leaves in
              subst (λ (x : Plan). PlanLeads x start past) (sym p.is)
              (rewrite_leads fin.empty clear 0 fin.empty refl (cleared_fits s.flag j.map).pairs p.begun (clear_stands clear refl refl p.begun) left)
