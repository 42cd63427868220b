-- What deaths leave: the words of the promise on every run.
use Rattle.std.specs.Prelude.{◌≡◌, ℕ, ◌⊎◌, Bool, true, false, List, [], ◌∷◌, Option, Some, None, IsTrue, not, ◌==◌, ◌&&◌, if◌then◌else◌}
use Rattle.std.specs.List.{list_any, find}
use Rattle.crc_words.specs.Crc.{crc}
use Rattle.lock_rules.specs.Locks.{holds_exclusive}
use Rattle.meta_record.specs.Records.{agrees}
use Rattle.meta_record.specs.declared.shown.Damage.{Damage}
use Rattle.meta_record.specs.declared.shown.Shown.TheVariants.{Last, Damaged}
use Rattle.region_words.specs.Region.{Region, record_of, payload_of, shown, ShowsMap}
use Rattle.region_words.specs.Past.{region_after, changes_of, change_of, locks_after, is_death}
use Rattle.region_words.specs.Apart.{strings}
use Rattle.region_words.specs.Rows.{Row, Append, Pack, Clear, Enable, Disable, Restore, Discard, Recover, SizeRepair}
use Rattle.region_words.specs.Lawful.{Phase, Between, Within, Reaches, map_after}
use Rattle.change_log.specs.declared.change.Change.{Change}
use Rattle.region_words.specs.declared.event.Side.TheVariants.{Meta}
use Rattle.region_words.specs.declared.event.What.{What}
use Rattle.region_words.specs.declared.event.What.TheVariants.{Store}
use Rattle.region_words.specs.declared.event.Event.{Event}

-- no row is under way
abbrev pub AtRest : Region → List Event → Type 0
AtRest start past = (room : Option ℕ) × Reaches start past (Between room)

-- the row puts a new image in the old one's place
abbrev pub is_rewrite : Row → Bool
is_rewrite (Append a) = false
is_rewrite (Pack now need) = true
is_rewrite Clear = true
is_rewrite (Enable now seconds) = true
is_rewrite (Disable now) = true
is_rewrite Restore = true
is_rewrite Discard = true
is_rewrite Recover = true
is_rewrite SizeRepair = false

-- a row that begins in a broken region
abbrev pub is_repair : Row → Bool
is_repair (Append a) = false
is_repair (Pack now need) = false
is_repair Clear = false
is_repair (Enable now seconds) = false
is_repair (Disable now) = false
is_repair Restore = true
is_repair Discard = true
is_repair Recover = true
is_repair SizeRepair = false

abbrev pub is_some_change : List Change → Bool
is_some_change [] = false
is_some_change (c ∷ cs) = true

-- the event commits a change
abbrev pub commits : What → Bool
commits what = is_some_change (change_of what)

-- the event stores the sequence
abbrev pub stores_sequence : What → Bool
stores_sequence (Store Meta word value mark) = word == 2
stores_sequence _ = false

-- a rewrite has raised the sequence, and its change is still to come
abbrev pub IsRewriting : Phase → Type 0
IsRewriting (Between room) = ⊥
IsRewriting (Within row rest) =
    IsTrue (is_rewrite row) × IsTrue (not (list_any stores_sequence rest)) × IsTrue (list_any commits rest)

-- a repair is under way, and its change is still to come
abbrev pub IsRepairing : Phase → Type 0
IsRepairing (Between room) = ⊥
IsRepairing (Within row rest) = IsTrue (is_repair row) × IsTrue (list_any commits rest)

-- a death cut a rewrite so, and nothing was committed since
abbrev pub WasCut : Region → List Event → Type 0
WasCut start [] = ⊥
WasCut start (e ∷ past) =
    (IsTrue (is_death e.what && holds_exclusive (locks_after past) e.who) × ((phase : Phase) × Reaches start past phase × IsRewriting phase))
    ⊎ (IsTrue (not (commits e.what)) × WasCut start past)

-- the region shows its last confirmed image, or damage
abbrev pub IsBroken : Region → Type 0
IsBroken r = ((n : ℕ) × (shown r ≡ Last n)) ⊎ ((d : Damage) × (shown r ≡ Damaged d))

-- At rest the region shows the map of the history so far, unless a death cut a rewrite, or the start was broken and nothing was committed.
abbrev pub ShowsHistory : Region → List Event → Type 0
ShowsHistory start past =
    ShowsMap (region_after start past) (map_after start past)
    ⊎ (IsBroken (region_after start past) × (WasCut start past ⊎ (IsBroken start × (changes_of past ≡ []))))

-- The image that the last confirmed words stand for: what agrees with them at the start, then at each store of the
-- last confirmed checksum the payload of the run so far that has it.
abbrev pub confirmed : Region → List Event → Option (List ℕ)
confirmed start [] =
    let rec = record_of start in
    if agrees start.data_bytes rec.last_size rec.last_checksum then Some (payload_of start rec.last_size) else None
confirmed start (e ∷ past) = confirmed_by e.what (strings start (e ∷ past)) (confirmed start past)
  where
    confirmed_by : What → List (List ℕ) → Option (List ℕ) → Option (List ℕ)
    confirmed_by (Store Meta word value mark) seen earlier = if word == 9 then find (λ s. crc s == value) seen else earlier
    confirmed_by _ seen earlier = earlier

-- the event stores the last confirmed checksum
abbrev pub confirms : What → Bool
confirms (Store Meta word value mark) = word == 9
confirms _ = false

-- The last confirmed words agree with the payload at the start, or the checksum was stored in the run.
abbrev pub HasConfirmed : Region → List Event → Type 0
HasConfirmed start [] = agrees start.data_bytes (record_of start).last_size (record_of start).last_checksum ≡ true
HasConfirmed start (e ∷ past) = (confirms e.what ≡ true) ⊎ HasConfirmed start past
