-- What is true of a plan for a sound image.
use Rattle.std.proofs.Common.{◌≡◌, ◌≢◌, ◌⊎◌, ℕ, ◌+◌, ◌/◌, ◌%◌, ◌≤◌, Bool, true, false, cond, List, [], ◌∷◌, ◌++◌, length, refl, sym, ap, ◌∙◌, inl, inr, arith, subst, length-append, length-take}
use Rattle.std.specs.Prelude.{Some, None, IsTrue, unwrap_or, not, nat_lt, ◌==◌}
use Rattle.std.specs.Int.{to_le_bytes, w32}
use Rattle.std.specs.FinMap as fin
use Rattle.expiring_map.specs.Map.{Map}
use Rattle.expiring_map.specs.Live.{live_part}
use Rattle.kv_pairs.specs.Growth.{largest}
use Rattle.kv_pairs.specs.Mapped.{packed}
use Rattle.kv_pairs.specs.Fits.{FitsIn}
use Rattle.crc_words.specs.Crc.{crc_from}
use Rattle.crc_words.proofs.Bounds.{crc_below}
use Rattle.change_log.specs.Acts.{act_of, applied, is_append, replay}
use Rattle.change_log.specs.Settled.{AreOfAct, AreOfCall}
use Rattle.change_log.specs.declared.change.Act.{Act}
use Rattle.change_log.specs.declared.change.Act.TheVariants as act
use Rattle.change_log.specs.declared.change.Change.{Change}
use Rattle.change_log.specs.declared.call.Call.{Call}
use Rattle.change_log.specs.declared.call.Call.TheVariants as call
use Rattle.region_words.specs.Rows as rows
use Rattle.region_words.specs.Rows.{Row, item_of, IsAppendable, stores_from, store_data, store_meta, payload_stores, confirmed_by_checksum}
use Rattle.region_words.specs.Standings.{words_of, tail_bytes}
use Rattle.region_words.specs.Owing.{AreWithin}
use Rattle.region_words.specs.declared.standing.Standing.{Standing}
use Rattle.region_words.specs.declared.event.Side.TheVariants.{Meta}
use Rattle.region_words.specs.declared.event.Mark.TheVariants.{Commit}
use Rattle.region_words.specs.declared.event.What.TheVariants.{Store, Grow}
use Rattle.region_words.proofs.FitsAfter.{appended_fits, packed_fits, cleared_fits}
use Rattle.region_words.proofs.OwedRows.{append_within, length-append_stores, length-write_back_stores}
use Rattle.region_words.proofs.RowParts.{length-words}
use Rattle.loader.specs.declared.loaded.Image.{Image}
use Rattle.appender.specs.Appends.{CanAppend, appending}
use Rattle.write_back.specs.Rewrites.{CanBegin, file_for, version_after, rewriting}
use Rattle.expiry_switch.specs.Switches.{switching_by}
use Rattle.loader.specs.PartialLoads.{IsSoundStanding, IsSoundImage}
use Rattle.opener.specs.Plans.{CanWrite, IsItemPlan, IsClearPlan, IsPlanOf, packing}
use Rattle.opener.specs.Writes.{commits_of, commits_in, image_after, CanReserve, IsOwn, IsSoundPlan}
use Rattle.opener.specs.declared.plan.Plan.{Plan}
use Rattle.opener.specs.declared.plan.Plan.TheVariants.{Append, Rewrite}
use Rattle.opener.specs.declared.work.Running.{Running}
use Rattle.opener.proofs.Planning.{room_after}
use Rattle.opener.proofs.RowEvents.{not_nil, within_words, words_commit}
use Rattle.opener.proofs.Turns.{CanPack, IsTurn, turn_on, turn_off, may_enable, may_disable, switch_some, switch_commits, switch_few, switching_within, switched_room, switched_sound}

-- a plan appends the item of the call's change, at once or behind a rewrite, or it writes an empty map for a clear
pub record IsItemsPlan (who : ℕ) (asked : Call) (now : ℕ) (i : Image) (plan : Plan) : Type 0 where
  pub change : Change
  pub act : act_of asked now ≡ Some change.act
  pub maker : change.maker ≡ who
  pub is : IsItemPlan change now i plan

-- or it switches the expiry
pub record IsTurnPlan (who : ℕ) (asked : Call) (now : ℕ) (i : Image) (plan : Plan) : Type 0 where
  pub row : Row
  pub to : Bool
  pub deed : Act
  pub turn : IsTurn row to deed
  pub act : act_of asked now ≡ Some deed
  pub turns : i.standing.flag ≡ not to
  pub can : CanPack i.standing to (applied i.map deed)
  pub is : plan ≡ Rewrite (switching_by i.standing to i.map who deed) None (applied i.map deed)

abbrev pub IsEither : ℕ → Call → ℕ → Image → Plan → Type 0
IsEither who asked now i plan =
    IsItemsPlan who asked now i plan ⊎ (((asked ≡ call.Clear) × IsClearPlan who i.standing plan) ⊎ IsTurnPlan who asked now i plan)

pub either_plan : (who : ℕ) (asked : Call) (now : ℕ) (i : Image) (plan : Plan) → CanWrite asked → IsPlanOf who asked now i plan → IsEither who asked now i plan
either_plan who (call.Put key value seconds) now i plan can (change, act, maker, is) = inl (record { change = change; act = act; maker = maker; is = is })
either_plan who (call.Remove key) now i plan can (change, act, maker, is) = inl (record { change = change; act = act; maker = maker; is = is })
either_plan who call.Clear now i plan can is = inr (inl (refl, is))
either_plan who (call.Get key) now i plan can is = absurd can
either_plan who call.Keys now i plan can is = absurd can
either_plan who call.Count now i plan can is = absurd can
either_plan who (call.Enable seconds) now i plan can is =
    let may = may_enable i.standing i.map now seconds is.begun in
    inr (inr (record {
      row = rows.Enable now seconds;
      to = true;
      deed = act.Enable now seconds;
      turn = turn_on now seconds may.1;
      act = refl;
      turns = may.0;
      can = may.2;
      is = is.is;
    }))
either_plan who call.Disable now i plan can is =
    let may = may_disable i.standing i.map now is.begun in
    inr (inr (record { row = rows.Disable now; to = false; deed = act.Disable now; turn = turn_off now; act = refl; turns = may.0; can = may.1; is = is.is }))
either_plan who call.Hold now i plan can is = absurd can
either_plan who call.Release now i plan can is = absurd can
either_plan who call.Sync now i plan can is = absurd can

-- an append and a rewrite have events
pub append_some : (s : Standing) (change : Change) → (appending s change).events ≢ []
append_some s change e = not_nil _ _ _ e

pub rewrite_some : (s : Standing) (m : Map) (change : Change) (need : ℕ) → (rewriting s m change need).events ≢ []
rewrite_some s m change need e = not_nil _ _ _ e

-- the image after an append is sound
appended_sound : (s : Standing) (m : Map) (change : Change) → IsSoundStanding s → FitsIn s.flag m (s.size + 4) → CanAppend s change →
    IsSoundImage (image_after (appending s change) (applied m change.act))
appended_sound s m change sound f can =
    let item = item_of s.flag change.act in
    let fits = appended_fits s.flag m change.act (s.size + 4) f can.appendable (omega (arith, can.room, can.file)) in
    record {
      standing = record { file = sound.file; within = omega (arith, can.room); firm = λ _. sound.firm can.some };
      map = record { pairs = fits.pairs; size = omega (arith, fits.size) };
    }

-- so is the standing after a rewrite
version_some : (s : Standing) → version_after s ≢ 0
version_some s = go (s.version == 0) refl
  where
    go : (b : Bool) → (s.version == 0) ≡ b → cond b 3 s.version ≢ 0
    go true t e = absurd cc
    go false t e = absurd (grind (arith))

rewritten_sound : (s : Standing) (m : Map) (change : Change) (need : ℕ) → IsSoundStanding s → CanBegin s m need →
    IsSoundStanding (rewriting s m change need).standing
rewritten_sound s m change need sound begun =
    let after = room_after s m change need sound.file begun in
    record { file = after.file; within = omega (arith, after.room); firm = λ _. version_some s }

-- and its payload holds the map
rewritten_fits : (s : Standing) (m : Map) (change : Change) (need room : ℕ) → FitsIn s.flag m room → FitsIn s.flag m ((rewriting s m change need).standing.size + 4)
rewritten_fits s m change need room f = record { pairs = f.pairs; size = omega arith }

live_fits : (i : Image) (now : ℕ) → IsSoundImage i → FitsIn i.standing.flag (live_part i.map now) (i.standing.size + 4)
live_fits i now sound = packed_fits i.standing.flag i.map now (i.standing.size + 4) sound.map

-- an append commits its change alone
pub append_commits : (s : Standing) (change : Change) → commits_of (appending s change).events ≡ change ∷ []
append_commits s change =
    let item = item_of s.flag change.act in
    let size = s.size + length item in
    words_commit (1 + s.size / 4) (words_of (tail_bytes s ++ item)) (store_data 0 size ∷ Store Meta 0 (crc_from s.checksum item) (Commit change) ∷ store_meta 7 size ∷ [])

-- and so does a rewrite
pub rewrite_commits : (s : Standing) (m : Map) (change : Change) (need : ℕ) → commits_of (rewriting s m change need).events ≡ change ∷ []
rewrite_commits s m change need = go (nat_lt s.file_size (unwrap_or (file_for s m need) 0)) (s.version == 0)
  where
    new : List ℕ
    new = packed s.flag m

    last : commits_of (payload_stores new ++ confirmed_by_checksum new (Commit change)) ≡ change ∷ []
    last = words_commit 1 (words_of new) (confirmed_by_checksum new (Commit change))

    go : (b c : Bool) →
        commits_of (cond b (Grow (unwrap_or (file_for s m need) 0) ∷ []) [] ++ store_meta 2 (s.sequence + 1) ∷ cond c (store_meta 1 3 ∷ []) [] ++ payload_stores new ++ confirmed_by_checksum new (Commit change))
        ≡ change ∷ []
    go true true = last
    go true false = last
    go false true = last
    go false false = last

-- a rewrite grows the file to its room at most
rewrite_within : (s : Standing) (m : Map) (change : Change) (need : ℕ) → AreWithin (rewriting s m change need).room (rewriting s m change need).events
rewrite_within s m change need = go (nat_lt s.file_size wanted) (s.version == 0)
  where
    wanted : ℕ
    wanted = unwrap_or (file_for s m need) 0

    new : List ℕ
    new = packed s.flag m

    last : (room : ℕ) → AreWithin room (payload_stores new ++ confirmed_by_checksum new (Commit change))
    last room = within_words room 1 (words_of new) (confirmed_by_checksum new (Commit change)) (tt, (tt, (tt, (tt, (tt, tt)))))

    go : (b c : Bool) →
        AreWithin (cond b wanted 0) (cond b (Grow wanted ∷ []) [] ++ store_meta 2 (s.sequence + 1) ∷ cond c (store_meta 1 3 ∷ []) [] ++ payload_stores new ++ confirmed_by_checksum new (Commit change))
    go true true = (omega arith, (tt, (tt, last wanted)))
    go true false = (omega arith, (tt, last wanted))
    go false true = (tt, (tt, last 0))
    go false false = (tt, last 0)

-- an append and a rewrite have few events
few_appended : (s : Standing) (change : Change) → CanAppend s change → length (appending s change).events ≤ largest
few_appended s change can =
    let item = item_of s.flag change.act in
    omega (arith, length-append_stores s item (Commit change), length-words (tail_bytes s ++ item), length-append (tail_bytes s) item, length-take (s.size % 4) (to_le_bytes w32 s.tail), can.room, can.file)

few_rewritten : (s : Standing) (m : Map) (change : Change) (need : ℕ) → IsSoundStanding s → CanBegin s m need → length (rewriting s m change need).events ≤ largest
few_rewritten s m change need sound begun =
    let after = room_after s m change need sound.file begun in
    omega (arith, length-write_back_stores s (file_for s m need) (packed s.flag m) (Commit change), length-words (packed s.flag m), after.room, after.file.most)

-- what is appended is a put or remove
appends : (flag : Bool) (a : Act) → IsAppendable flag a → IsTrue (is_append a)
appends flag (act.Put key value expiry) h = refl
appends flag (act.Remove key) h = refl
appends flag act.Clear h = absurd h
appends flag (act.Pack now) h = absurd h
appends flag (act.Enable now seconds) h = absurd h
appends flag (act.Disable now) h = absurd h
appends flag (act.Restored pairs) h = absurd h
appends flag act.Discarded h = absurd h
appends flag (act.Recovered pairs) h = absurd h

-- what a plan leaves of the image's map, change by change
abbrev pub LeavesMap : ℕ → Image → Plan → Type 0
LeavesMap now i (Append a map) = replay i.map (commits_of a.events) ≡ map
LeavesMap now i (Rewrite r None map) = replay i.map (commits_of r.events) ≡ map
LeavesMap now i (Rewrite r (Some a) map) =
    (replay i.map (commits_of r.events) ≡ live_part i.map now) × (replay (live_part i.map now) (commits_of a.events) ≡ map)

-- the changes of a plan whose change is the call's own
of_act : (who now : ℕ) (asked : Call) (change : Change) (changes : List Change) → act_of asked now ≡ Some change.act → AreOfAct who now (Some change.act) changes → AreOfCall who asked now changes
of_act who now asked change changes e h = subst (λ o. AreOfAct who now o changes) (sym e) h

module _ (who : ℕ) (asked : Call) (now : ℕ) (i : Image) (plan : Plan) (can : CanWrite asked) (sound : IsSoundImage i) (is_plan : IsPlanOf who asked now i plan) where
  abbrev either : IsEither who asked now i plan
  either = either_plan who asked now i plan can is_plan

  abbrev need : Change → ℕ
  need change = length (item_of i.standing.flag change.act)

  abbrev pack : Change → Change
  pack change = record { maker = change.maker; act = act.Pack now }

  abbrev clear : Change
  clear = record { maker = who; act = act.Clear }

  abbrev by_deed : Act → Change
  by_deed deed = record { maker = who; act = deed }

  abbrev live : Map
  live = live_part i.map now

  -- a plan is sound
  pub planned_sound : (running : Running) → running.call ≡ asked → running.now ≡ now → IsSoundPlan who running plan
  planned_sound running asked_is now_is = go either
    where
      own : (p : IsItemsPlan who asked now i plan) → IsOwn who running p.change
      own p = record { act = (λ j. act_of (asked_is j) (now_is j)) ∙ p.act; maker = p.maker }

      by : (p : IsItemsPlan who asked now i plan) → IsItemPlan p.change now i plan → IsSoundPlan who running plan
      by p (inl a) =
          subst (IsSoundPlan who running) (sym a.is)
          (append_some i.standing p.change, appended_sound i.standing i.map p.change sound.standing sound.map a.can)
      by p (inr r) =
          let left = rewritten_sound i.standing live (pack p.change) (need p.change) sound.standing r.begun in
          let fits = rewritten_fits i.standing live (pack p.change) (need p.change) (i.standing.size + 4) (live_fits i now sound) in
          subst (IsSoundPlan who running) (sym r.is) (
            rewrite_some i.standing live (pack p.change) (need p.change),
            left,
            crc_below (packed i.standing.flag live),
            (p.change, record { own = own p; can = r.can; is = refl }),
            appended_sound (packing p.change now i).standing live p.change left fits r.can,
          )

      go : IsEither who asked now i plan → IsSoundPlan who running plan
      go (inl p) = by p p.is
      go (inr (inr p)) =
          subst (IsSoundPlan who running) (sym p.is) (
            switch_some i.standing p.to (applied i.map p.deed) (by_deed p.deed),
            switched_sound i.standing p.to (applied i.map p.deed) (by_deed p.deed) sound.standing.file p.can (p.turn.packs i.standing.flag i.map sound.map.pairs),
          )
      go (inr (inl (_, p))) =
          subst (IsSoundPlan who running) (sym p.is) (
            rewrite_some i.standing fin.empty clear 0,
            record {
              standing = rewritten_sound i.standing fin.empty clear 0 sound.standing p.begun;
              map = rewritten_fits i.standing fin.empty clear 0 4 (cleared_fits i.standing.flag fin.empty);
            },
          )

  -- its places and its room can be reserved
  pub planned_reserves : CanReserve plan
  planned_reserves = go either
    where
      by : (change : Change) → IsItemPlan change now i plan → CanReserve plan
      by change (inl a) =
          subst CanReserve (sym a.is)
          (record {
            few = omega (arith, few_appended i.standing change a.can);
            within = append_within 0 i.standing (item_of i.standing.flag change.act) (Commit change);
          })
      by change (inr r) =
          subst CanReserve (sym r.is)
          (record {
            few = omega (arith, few_rewritten i.standing live (pack change) (need change) sound.standing r.begun, few_appended (packing change now i).standing change r.can);
            within = rewrite_within i.standing live (pack change) (need change);
          })

      go : IsEither who asked now i plan → CanReserve plan
      go (inl p) = by p.change p.is
      go (inr (inr p)) =
          let left = applied i.map p.deed in
          let after = switched_room i.standing p.to left (by_deed p.deed) sound.standing.file p.can in
          subst CanReserve (sym p.is)
          (record {
            few = omega (arith, switch_few i.standing p.to left (by_deed p.deed), after.room, after.file.most);
            within = switching_within i.standing p.to left (by_deed p.deed);
          })
      go (inr (inl (_, p))) =
          subst CanReserve (sym p.is)
          (record {
            few = omega (arith, few_rewritten i.standing fin.empty clear 0 sound.standing p.begun);
            within = rewrite_within i.standing fin.empty clear 0;
          })

  -- it commits the changes of its call
  pub planned_commits : AreOfCall who asked now (commits_in plan)
  planned_commits = go either
    where
      by : (p : IsItemsPlan who asked now i plan) → IsItemPlan p.change now i plan → AreOfCall who asked now (commits_in plan)
      by p (inl a) =
          of_act who now asked p.change (commits_in plan) p.act
          (inl (ap commits_in a.is ∙ append_commits i.standing p.change ∙ ap (λ w. record { maker = w; act = p.change.act } ∷ []) p.maker))
      by p (inr r) =
          of_act who now asked p.change (commits_in plan) p.act
          (inr (
            appends i.standing.flag p.change.act r.can.appendable,
            ap commits_in r.is
                ∙ (λ j. rewrite_commits i.standing live (pack p.change) (need p.change) j ++ append_commits (packing p.change now i).standing p.change j)
                ∙ ap (λ w. record { maker = w; act = act.Pack now } ∷ record { maker = w; act = p.change.act } ∷ []) p.maker,
          ))

      go : IsEither who asked now i plan → AreOfCall who asked now (commits_in plan)
      go (inl p) = by p p.is
      go (inr (inr p)) =
          of_act who now asked (by_deed p.deed) (commits_in plan) p.act (inl (ap commits_in p.is ∙ switch_commits i.standing p.to (applied i.map p.deed) (by_deed p.deed)))
      go (inr (inl (e, p))) =
          of_act who now asked clear (commits_in plan) (ap (λ c. act_of c now) e) (inl (ap commits_in p.is ∙ rewrite_commits i.standing fin.empty clear 0))

  -- and these lead from the image's map to the plan's
  pub planned_map : LeavesMap now i plan
  planned_map = go either
    where
      by : (change : Change) → IsItemPlan change now i plan → LeavesMap now i plan
      by change (inl a) = subst (LeavesMap now i) (sym a.is) (ap (replay i.map) (append_commits i.standing change))
      by change (inr r) =
          subst (LeavesMap now i) (sym r.is) (
            ap (replay i.map) (rewrite_commits i.standing live (pack change) (need change)),
            ap (replay live) (append_commits (packing change now i).standing change),
          )

      go : IsEither who asked now i plan → LeavesMap now i plan
      go (inl p) = by p.change p.is
      go (inr (inr p)) = subst (LeavesMap now i) (sym p.is) (ap (replay i.map) (switch_commits i.standing p.to (applied i.map p.deed) (by_deed p.deed)))
      go (inr (inl (_, p))) = subst (LeavesMap now i) (sym p.is) (ap (replay i.map) (rewrite_commits i.standing fin.empty clear 0))
