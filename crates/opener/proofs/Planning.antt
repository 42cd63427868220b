-- What a plan is made of: a map that can be written anew, and room for an item behind it.
use Rattle.std.proofs.Common.{◌≡◌, ℕ, ◌+◌, ◌^◌, ◌<◌, ◌≤◌, Bool, true, false, cond, List, length, refl, sym, ap, ◌∙◌, arith, subst}
use Rattle.std.specs.Prelude.{Some, unwrap_or, ◌==◌}
use Rattle.std.specs.FinMap as fin
use Rattle.std.proofs.lemmas.Bool.Decides.{nat_tests}
use Rattle.expiring_map.specs.Map.{Map, value_until}
use Rattle.expiring_map.specs.Live.{live_part}
use Rattle.kv_pairs.specs.Mapped.{packed, put_item, remove_item, written_item}
use Rattle.kv_pairs.specs.Fits.{FitsIn}
use Rattle.kv_pairs.specs.Growth.{IsFileSize}
use Rattle.kv_pairs.proofs.PackedSizes.{size_by_entries, pairs_fit, fitting_small}
use Rattle.change_log.specs.Acts.{applied}
use Rattle.change_log.specs.declared.change.Act.{Act}
use Rattle.change_log.specs.declared.change.Act.TheVariants as act
use Rattle.change_log.specs.declared.change.Change.{Change}
use Rattle.region_words.specs.Rows.{item_of, IsAppendable}
use Rattle.region_words.specs.Making.{Making}
use Rattle.region_words.specs.declared.standing.Standing.{Standing}
use Rattle.region_words.proofs.GrownFiles.{grown_roomy}
use Rattle.region_words.proofs.FitsAfter.{packed_fits, cleared_fits}
use Rattle.loader.specs.declared.loaded.Image.{Image}
use Rattle.appender.specs.Appends.{CanAppend, appending}
use Rattle.write_back.specs.Rewrites.{IsWriteBack, CanWriteBack, CanBegin, rewriting}
use Rattle.loader.specs.PartialLoads.{IsSoundStanding, IsSoundImage}
use Rattle.opener.specs.Plans.{IsRoomPlan, fits_behind, packing}
use Rattle.opener.specs.declared.plan.Plan.TheVariants.{Rewrite}

-- a put is no removal
written : (flag : Bool) (key value : List ℕ) (expiry : ℕ) → 0 < length value →
    written_item flag key (value_until value expiry) ≡ put_item flag key (value_until value expiry)
written flag key value expiry some = go (length value == 0) refl
  where
    go : (b : Bool) → (length value == 0) ≡ b →
        cond b (remove_item key) (put_item flag key (value_until value expiry)) ≡ put_item flag key (value_until value expiry)
    go true t = absurd (grind (arith, nat_tests))
    go false t = refl

pub put_written : (flag : Bool) (a : Act) (key value : List ℕ) (expiry : ℕ) → a ≡ act.Put key value expiry → IsAppendable flag a →
    length (written_item flag key (value_until value expiry)) ≡ length (item_of flag a)
put_written flag a key value expiry e h =
    subst (λ a. IsAppendable flag a → length (written_item flag key (value_until value expiry)) ≡ length (item_of flag a)) (sym e)
    (λ h. ap length (written flag key value expiry h.1)) h

-- a map that fits can be written anew
pub can_rewrite : (s : Standing) (m : Map) (change : Change) (need room : ℕ) → IsFileSize s.file_size → FitsIn s.flag m room → room ≤ 2 ^ 30 →
    IsWriteBack change.act → need ≤ 2 ^ 30 → CanWriteBack s m change need
can_rewrite s m change need room file f short is most =
    record {
      act = is;
      file = file;
      small = fitting_small s.flag m room f short;
      size = omega (arith, f.size, short);
      pairs = omega (arith, pairs_fit s.flag m, f.size, short);
      bytes = most;
    }

-- so the live pairs of a sound image, and no pairs
pub can_pack : (i : Image) (m : Map) (who now need : ℕ) → m ≡ live_part i.map now → IsSoundImage i → need ≤ 2 ^ 30 →
    CanWriteBack i.standing m (record { maker = who; act = act.Pack now }) need
can_pack i m who now need is sound most =
    let s = sound.standing in
    let fits = subst (λ m. FitsIn i.standing.flag m (i.standing.size + 4)) (sym is) (packed_fits i.standing.flag i.map now (i.standing.size + 4) sound.map) in
    can_rewrite i.standing m (record { maker = who; act = act.Pack now }) need (i.standing.size + 4) s.file fits (omega (arith, s.within, s.file.most)) tt most

pub can_clear : (s : Standing) (m : Map) (who : ℕ) → m ≡ fin.empty → IsSoundStanding s → CanWriteBack s m (record { maker = who; act = act.Clear }) 0
can_clear s m who is sound =
    let fits = subst (λ m. FitsIn s.flag m 4) (sym is) (cleared_fits s.flag fin.empty) in
    can_rewrite s m (record { maker = who; act = act.Clear }) 0 4 sound.file fits (omega arith) tt (omega arith)

-- a rewrite leaves a payload that isn't empty, in a file that has room for it and for what is needed behind it
pub record HasRoomAfter (s : Standing) (m : Map) (pack : Change) (need : ℕ) : Type 0 where
  pub some : 4 ≤ length (packed s.flag m)
  pub room : 4 + length (packed s.flag m) + need ≤ (rewriting s m pack need).standing.file_size
  pub file : IsFileSize (rewriting s m pack need).standing.file_size

pub room_after : (s : Standing) (m : Map) (pack : Change) (need : ℕ) → IsFileSize s.file_size → CanBegin s m need → HasRoomAfter s m pack need
room_after s m pack need file begun =
    let found = grown_roomy (length (packed s.flag m)) need (fin.len m) s.file_size file.most file.pages begun.0 in
    let wanted = ap (λ o. unwrap_or o 0) found.is in
    record {
      some = omega (arith, size_by_entries s.flag m);
      room = omega (arith, wanted, found.roomy.room);
      file =
          record {
            some = omega (arith, file.some);
            pages = omega (arith, wanted, found.roomy.pages, file.pages);
            most = omega (arith, wanted, found.roomy.most, file.most);
          };
    }

-- so the item for which room was made can be appended
pub can_append_next : (s : Standing) (m : Map) (pack change : Change) → IsFileSize s.file_size → IsAppendable s.flag change.act →
    CanBegin s m (length (item_of s.flag change.act)) → CanAppend (rewriting s m pack (length (item_of s.flag change.act))).standing change
can_append_next s m pack change file appendable begun =
    let after = room_after s m pack (length (item_of s.flag change.act)) file begun in
    record { appendable = appendable; some = omega (arith, after.some); room = after.room; file = after.file.most }

-- a rewrite and an append that are begun for a change are its plan
pub room_plan : (change : Change) (now : ℕ) (i : Image) (r a : Making) (left : Map) → fits_behind i.standing (length (item_of i.standing.flag change.act)) ≡ false →
    IsFileSize i.standing.file_size → IsAppendable i.standing.flag change.act → CanBegin i.standing (live_part i.map now) (length (item_of i.standing.flag change.act)) →
    r ≡ packing change now i → a ≡ appending r.standing change → left ≡ applied (live_part i.map now) change.act →
    IsRoomPlan change now i (Rewrite r (Some a) left)
room_plan change now i r a left short file appendable begun r_is a_is left_is =
    record {
      short = short;
      begun = begun;
      can = can_append_next i.standing (live_part i.map now) (record { maker = change.maker; act = act.Pack now }) change file appendable begun;
      is = λ j. Rewrite (r_is j) (Some ((a_is ∙ ap (λ k. appending k.standing change) r_is) j)) (left_is j);
    }
