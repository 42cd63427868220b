-- A plan has few events beside the words of the data file that it leaves.
use Rattle.std.proofs.Common.{◌≡◌, ◌≢◌, ℕ, ◌+◌, ◌*◌, ◌%◌, ◌<◌, ◌≤◌, ◌⊎◌, Bool, true, false, cond, List, [], ◌∷◌, ◌++◌, length, refl, sym, subst, inl, inr, arith, length-append, length-take}
use Rattle.std.specs.Prelude.{max, nat_lt, unwrap_or, ◌==◌}
use Rattle.std.specs.Int.{to_le_bytes, w32}
use Rattle.std.specs.FinMap as fin
use Rattle.std.proofs.lemmas.Bool.Decides.{nat_tests}
use Rattle.expiring_map.specs.Map.{Map}
use Rattle.expiring_map.specs.Live.{live_part}
use Rattle.kv_pairs.specs.Mapped.{packed}
use Rattle.change_log.specs.declared.call.Call.{Call}
use Rattle.change_log.specs.declared.change.Act.TheVariants as act
use Rattle.change_log.specs.declared.change.Change.{Change}
use Rattle.region_words.specs.Rows.{item_of, stores_from, store_data, store_meta, close_sizes, payload_stores, confirmed_by_checksum, confirmed_by_header}
use Rattle.region_words.specs.Standings.{tail_bytes}
use Rattle.region_words.specs.declared.standing.Standing.{Standing}
use Rattle.region_words.specs.declared.event.Mark.TheVariants.{Commit}
use Rattle.region_words.specs.declared.event.What.{What}
use Rattle.region_words.specs.declared.event.What.TheVariants.{Grow}
use Rattle.region_words.proofs.OwedRows.{length-append_stores, length-write_back_stores}
use Rattle.region_words.proofs.RowParts.{length-words}
use Rattle.loader.specs.declared.loaded.Image.{Image}
use Rattle.appender.specs.Appends.{appending}
use Rattle.write_back.specs.Rewrites.{file_for, rewriting}
use Rattle.region_words.specs.Making.{size_by}
use Rattle.change_log.specs.Acts.{applied}
use Rattle.expiry_switch.specs.Switches.{flags_of, switching}
use Rattle.opener.specs.Bound.{grown_by, next_growth, size_left, size_planned, stores_left}
use Rattle.loader.specs.PartialLoads.{IsSoundImage}
use Rattle.opener.specs.Plans.{CanWrite, IsItemPlan, IsPlanOf, events_in, packing}
use Rattle.opener.specs.declared.plan.Plan.{Plan}
use Rattle.opener.proofs.Planned.{IsEither, either_plan}
use Rattle.opener.proofs.Planning.{room_after}
use Rattle.opener.proofs.Turns.{switch_few, switched_room}

-- an append has few events beside the words of its item
append_few : (s : Standing) (change : Change) → 4 * length (appending s change).events ≤ length (item_of s.flag change.act) + 18
append_few s change =
    let item = item_of s.flag change.act in
    omega (arith, length-append_stores s item (Commit change), length-words (tail_bytes s ++ item), length-append (tail_bytes s) item, length-take (s.size % 4) (to_le_bytes w32 s.tail))

-- and a rewrite beside those of its payload
rewrite_few : (s : Standing) (m : Map) (change : Change) (need : ℕ) → 4 * length (rewriting s m change need).events ≤ length (packed s.flag m) + 35
rewrite_few s m change need = omega (arith, length-write_back_stores s (file_for s m need) (packed s.flag m) (Commit change), length-words (packed s.flag m))

-- stores of words, and the store of a word behind them, are no growth
words_grow_none : (place : ℕ) (words : List ℕ) (word value : ℕ) (rest : List What) → grown_by (stores_from place words ++ store_data word value ∷ rest) ≡ 0
words_grow_none place [] word value rest = refl
words_grow_none place (v ∷ vs) word value rest = refl

-- a rewrite begins with its growth, where it has one
rewrite_grows : (s : Standing) (m : Map) (change : Change) (need : ℕ) →
    grown_by (rewriting s m change need).events ≡ cond (nat_lt s.file_size (unwrap_or (file_for s m need) 0)) (unwrap_or (file_for s m need) 0) 0
rewrite_grows s m change need = go (nat_lt s.file_size wanted)
  where
    wanted : ℕ
    wanted = unwrap_or (file_for s m need) 0

    go : (b : Bool) → grown_by (cond b (Grow wanted ∷ []) [] ++ store_meta 2 (s.sequence + 1) ∷ cond (s.version == 0) (store_meta 1 3 ∷ []) [] ++ payload_stores (packed s.flag m) ++ confirmed_by_checksum (packed s.flag m) (Commit change))
        ≡ cond b wanted 0
    go true = refl
    go false = refl

switch_grows : (s : Standing) (to : Bool) (m : Map) (change : Change) →
    grown_by (switching s to m change).events ≡ cond (nat_lt s.file_size (unwrap_or (size_by s to m 0) 0)) (unwrap_or (size_by s to m 0) 0) 0
switch_grows s to m change = go (nat_lt s.file_size wanted)
  where
    wanted : ℕ
    wanted = unwrap_or (size_by s to m 0) 0

    go : (b : Bool) →
        grown_by (cond b (Grow wanted ∷ []) [] ++ store_meta 2 (s.sequence + 1) ∷ store_meta 1 4 ∷ close_sizes ++ payload_stores (packed to m) ++ store_meta 26 (flags_of to) ∷ confirmed_by_header (packed to m) (Commit change))
        ≡ cond b wanted 0
    go true = refl
    go false = refl

-- a plan leaves the file as it was found, or grows it first to the size that it leaves
abbrev GrowsFirst : ℕ → Plan → Type 0
GrowsFirst file plan = ((next_growth plan ≡ 0) × (size_left plan ≡ file)) ⊎ (next_growth plan ≡ size_left plan)

grows_first : (growth left file wanted : ℕ) → growth ≡ cond (nat_lt file wanted) wanted 0 → left ≡ max file wanted → ((growth ≡ 0) × (left ≡ file)) ⊎ (growth ≡ left)
grows_first growth left file wanted growth_is left_is = go (nat_lt file wanted) refl growth_is
  where
    go : (b : Bool) → nat_lt file wanted ≡ b → growth ≡ cond b wanted 0 → ((growth ≡ 0) × (left ≡ file)) ⊎ (growth ≡ left)
    go true t e = let less : file < wanted = grind (arith, nat_tests) in inr (omega (arith, e, left_is, less))
    go false t e = let more : wanted ≤ file = grind (arith, nat_tests) in inl (e, omega (arith, left_is, more))

-- what is known of a plan's events
record FewEvents (file : ℕ) (plan : Plan) : Type 0 where
  pub few : 4 * events_in plan ≤ size_left plan + 51
  pub grows : GrowsFirst file plan

module _ (who : ℕ) (asked : Call) (now : ℕ) (i : Image) (plan : Plan) (can : CanWrite asked) (sound : IsSoundImage i) (is_plan : IsPlanOf who asked now i plan) where
  abbrev s : Standing
  s = i.standing

  abbrev live : Map
  live = live_part i.map now

  abbrev need : Change → ℕ
  need change = length (item_of s.flag change.act)

  abbrev pack : Change → Change
  pack change = record { maker = change.maker; act = act.Pack now }

  abbrev clear : Change
  clear = record { maker = who; act = act.Clear }

  few_events : FewEvents s.file_size plan
  few_events = go (either_plan who asked now i plan can is_plan)
    where
      by : (change : Change) → IsItemPlan change now i plan → FewEvents s.file_size plan
      by change (inl a) =
          subst (FewEvents s.file_size) (sym a.is)
          (record {
            few = omega (arith, append_few s change, a.can.room);
            grows = inl (words_grow_none _ _ _ _ _, refl);
          })
      by change (inr r) =
          let after = room_after s live (pack change) (need change) sound.standing.file r.begun in
          subst (FewEvents s.file_size) (sym r.is)
          (record {
            few = omega (arith, rewrite_few s live (pack change) (need change), append_few (packing change now i).standing change, after.room);
            grows = grows_first _ _ s.file_size (unwrap_or (file_for s live (need change)) 0) (rewrite_grows s live (pack change) (need change)) refl;
          })

      go : IsEither who asked now i plan → FewEvents s.file_size plan
      go (inl p) = by p.change p.is
      go (inr (inr p)) =
          let left = applied i.map p.deed in
          let change : Change = record { maker = who; act = p.deed } in
          let after = switched_room s p.to left change sound.standing.file p.can in
          subst (FewEvents s.file_size) (sym p.is)
          (record {
            few = omega (arith, switch_few s p.to left change, after.room);
            grows = grows_first _ _ s.file_size (unwrap_or (size_by s p.to left 0) 0) (switch_grows s p.to left change) refl;
          })
      go (inr (inl (_, p))) =
          let after = room_after s fin.empty clear 0 sound.standing.file p.begun in
          subst (FewEvents s.file_size) (sym p.is)
          (record {
            few = omega (arith, rewrite_few s fin.empty clear 0, after.room);
            grows = grows_first _ _ s.file_size (unwrap_or (file_for s fin.empty 0) 0) (rewrite_grows s fin.empty clear 0) refl;
          })

  -- a plan is made for the file that was found, or for one that is grown first
  pub planned_file : size_planned plan ≤ s.file_size
  planned_file = go (next_growth plan == 0) refl few_events.grows
    where
      go : (b : Bool) → (next_growth plan == 0) ≡ b → GrowsFirst s.file_size plan → cond b (size_left plan) 0 ≤ s.file_size
      go false t grows = omega arith
      go true t (inl (none, same)) = omega (arith, same)
      go true t (inr grows) = let none : next_growth plan ≡ 0 = grind (arith, nat_tests) in omega (arith, none, grows)

  -- within so many words it has few steps
  pub planned_steps : (words : ℕ) → size_planned plan ≤ 4 * words → stores_left words plan ≤ 2 * words + 30
  planned_steps words within = go (nat_lt (4 * words) (next_growth plan)) refl (next_growth plan == 0) refl within few_events.grows
    where
      go : (b : Bool) → nat_lt (4 * words) (next_growth plan) ≡ b → (c : Bool) → (next_growth plan == 0) ≡ c → cond c (size_left plan) 0 ≤ 4 * words → GrowsFirst s.file_size plan →
          cond b 1 (events_in plan + 1) ≤ 2 * words + 30
      go true t c u within grows = omega arith
      go false t true u within grows = omega (arith, few_events.few, within)
      go false t false u within (inl (none, same)) = let some : next_growth plan ≢ 0 = grind (arith, nat_tests) in absurd (some none)
      go false t false u within (inr grows) = let most : next_growth plan ≤ 4 * words = grind (arith, nat_tests) in omega (arith, few_events.few, most, grows)
