-- The laws of a region that several openers change.
use Rattle.std.specs.Prelude.{◌≡◌, ℕ, ◌+◌, ◌^◌, ◌<◌, ◌≤◌, ◌⊎◌, Bool, List, [], ◌∷◌, ◌++◌, Option, Some, None, true, false, length, IsTrue, ◌==◌, if◌then◌else◌}
use Rattle.std.specs.List.{AllByRecursion}
use Rattle.crc_words.specs.Crc.{crc_from}
use Rattle.expiring_map.specs.Map.{Map, pairs_of}
use Rattle.kv_pairs.specs.Growth.{largest}
use Rattle.kv_pairs.specs.Mapped.{packed, IsPackable}
use Rattle.change_log.specs.Acts.{applied, replay, is_append}
use Rattle.change_log.specs.declared.change.Act.{Act}
use Rattle.change_log.specs.declared.change.Act.TheVariants as act
use Rattle.change_log.specs.declared.change.Change.{Change}
use Rattle.lock_rules.specs.Locks.{holds, holds_exclusive}
use Rattle.meta_record.specs.declared.shown.Shown.TheVariants.{Whole, Last}
use Rattle.region_words.specs.Region.{Region, IsRegion, IsAccepted, record_of, flag, payload_of, file_size, shown, map_shown, base, ShowsMap}
use Rattle.region_words.specs.Past.{region_after, after_all, changes_of, locks_after, NoneOf}
use Rattle.region_words.specs.Rows.{Append, Pack, Clear, Enable, Disable, Restore, Discard, Recover, SizeRepair, Row, MayBegin, HasRoom, IsAppendable, IsWhole, AreBytes, append_stores, restore_stores, discard_stores, size_repair_stores, store_data, store_meta, events_of, flag_after, item_of, payload_after, size_after, standing}
use Rattle.region_words.specs.Standings.{standing_of, IsStandingOf}
use Rattle.region_words.specs.Apart.{Apart}
use Rattle.region_words.specs.Lawful.{Lawful, Phase, Between, Within, Reaches, MayTear, map_after}
use Rattle.region_words.specs.Outcome.{AtRest, ShowsHistory, IsBroken, IsRewriting, IsRepairing, confirmed, HasConfirmed}
use Rattle.region_words.specs.Answered.{is_store}
use Rattle.region_words.specs.Images.{image_of, IsKept, SameImage, LoadsOn, bytes_behind, sequence_at, checksum_at}
use Rattle.region_words.specs.Making.{write_back_by, switch_by, appended_standing, rewritten_standing, IsWriteBack, IsSwitch}
use Rattle.region_words.specs.declared.standing.Standing.{Standing}
use Rattle.region_words.specs.declared.event.Mark.TheVariants.{Commit}
use Rattle.region_words.specs.declared.event.Side.TheVariants.{Meta}
use Rattle.region_words.specs.declared.event.TornWord.{TornWord}
use Rattle.region_words.specs.declared.event.What.{What}
use Rattle.region_words.specs.declared.event.What.TheVariants.{Store, Died}
use Rattle.region_words.specs.declared.event.Event.{Event}

-- the events were lawful from a region on
pub record IsRun (start : Region) (past : List Event) : Type 0 where
  pub region : IsRegion start
  pub lawful : Lawful start past

-- the same, from an accepted region, and checksums tell the payloads of the run apart
pub record IsTrueRun (start : Region) (past : List Event) : Type 0 where
  pub region : IsRegion start
  pub accepted : IsAccepted start
  pub lawful : Lawful start past
  pub apart : Apart start past

-- what is lawful is so up to each of its events
abbrev pub FrontsAreLawful : Type 0
FrontsAreLawful = (start : Region) (later past : List Event) → Lawful start (later ++ past) → Lawful start past

-- payloads that are told apart are so up to each event
abbrev pub FrontsAreApart : Type 0
FrontsAreApart = (start : Region) (later past : List Event) → Apart start (later ++ past) → Apart start past

-- a region stays one
abbrev pub StaysARegion : Type 0
StaysARegion = (start : Region) (past : List Event) → IsRun start past → IsRegion (region_after start past)

-- an accepted region stays accepted
abbrev pub StaysAccepted : Type 0
StaysAccepted = (start : Region) (past : List Event) → IsAccepted start → Lawful start past → IsAccepted (region_after start past)

-- where nobody holds exclusive, no row is under way
abbrev pub RestsWhereFree : Type 0
RestsWhereFree =
    (start : Region) (past : List Event) (phase : Phase) → Lawful start past → Reaches start past phase →
    (locks_after past).exclusive ≡ None → phase ≡ Between None

-- while an opener holds a lock of either kind, the others change nothing, and it holds it still
abbrev pub HoldersSeeOneRegion : Type 0
HoldersSeeOneRegion =
    (start : Region) (later past : List Event) (who : ℕ) → Lawful start (later ++ past) → holds (locks_after past) who ≡ true → NoneOf who later →
    (region_after start (later ++ past) ≡ region_after start past) × (changes_of (later ++ past) ≡ changes_of past)
    × (holds (locks_after (later ++ past)) who ≡ true)

-- At rest the region shows the map of the history, unless a death cut a rewrite, or the start was broken and nothing was committed.
abbrev pub ShowsHistoryAtRest : Type 0
ShowsHistoryAtRest = (start : Region) (past : List Event) → IsTrueRun start past → AtRest start past → ShowsHistory start past

-- and so it does wherever nobody holds exclusive
abbrev pub ShowsHistoryWhereFree : Type 0
ShowsHistoryWhereFree =
    (start : Region) (past : List Event) → IsTrueRun start past → (locks_after past).exclusive ≡ None → ShowsHistory start past

-- a death cuts an append here, after some of its events or as it tears the first
abbrev pub CutsAppend : Region → ℕ → Option TornWord → List Event → Act → Phase → Type 0
CutsAppend start who torn past a (Within row rest) =
    (row ≡ Append a) × Reaches start past (Within row rest) × MayTear (region_after start past) (map_after start past) who (Within row rest) torn
CutsAppend start who None past a (Between room) = ⊥
CutsAppend start who (Some t) past a (Between room) =
    Reaches start past (Between room) × MayTear (region_after start past) (map_after start past) who (Between room) (Some t)

-- a death within an append, and one that tears its first word, leave a region that shows the map of the history
abbrev pub ShowsHistoryAfterACutAppend : Type 0
ShowsHistoryAfterACutAppend =
    (start : Region) (who : ℕ) (torn : Option TornWord) (past : List Event) (a : Act) (phase : Phase) →
    let e : Event = record { who = who; what = Died torn } in
    IsTrueRun start (e ∷ past) → CutsAppend start who torn past a phase → ShowsMap (region_after start (e ∷ past)) (map_after start past)

-- a death comes within a row, after some of its events or as it tears the next
pub record CutsRow (start : Region) (who : ℕ) (torn : Option TornWord) (past : List Event) (row : Row) (rest : List What) : Type 0 where
  pub reached : Reaches start past (Within row rest)
  pub tears : MayTear (region_after start past) (map_after start past) who (Within row rest) torn

-- A death within a row leaves a region that shows the map of the history, but for a rewrite between the store of its sequence
-- and its mark, and for a repair of a broken region before its mark.
abbrev pub ShowsHistoryAfterACut : Type 0
ShowsHistoryAfterACut =
    (start : Region) (who : ℕ) (torn : Option TornWord) (past : List Event) (row : Row) (rest : List What) →
    let e : Event = record { who = who; what = Died torn } in
    IsTrueRun start (e ∷ past) → CutsRow start who torn past row rest → (IsRewriting (Within row rest) → ⊥) → (IsRepairing (Within row rest) → ⊥) →
    ShowsMap (region_after start (e ∷ past)) (map_after start past)

-- Wherever the death of the exclusive holder cuts a row, the region shows that map, its last confirmed image, or damage.
abbrev pub ShowsHistoryOrBreaks : Type 0
ShowsHistoryOrBreaks =
    (start : Region) (who : ℕ) (torn : Option TornWord) (past : List Event) (row : Row) (rest : List What) →
    let e : Event = record { who = who; what = Died torn } in
    IsTrueRun start (e ∷ past) → CutsRow start who torn past row rest → holds_exclusive (locks_after past) who ≡ true →
    ShowsMap (region_after start (e ∷ past)) (map_after start past) ⊎ IsBroken (region_after start (e ∷ past))

-- After the last store of a row the region shows a whole image.
abbrev pub RowsEndWhole : Type 0
RowsEndWhole =
    (start : Region) (e : Event) (past : List Event) (room : Option ℕ) →
    IsTrueRun start (e ∷ past) → IsTrue (is_store e.what) → Reaches start (e ∷ past) (Between room) → IsWhole (region_after start (e ∷ past))

-- these events are left of a restore of the last confirmed image, whose change names the pairs of this map
pub record IsRestoring (r : Region) (m : Map) (events : List What) : Type 0 where
  pub change : Change
  pub names : change.act ≡ act.Restored (pairs_of m)
  pub made : List What
  pub sequence : ℕ
  pub left :
      made ++ events
      ≡ store_meta 2 sequence ∷ store_data 0 (record_of r).last_size ∷ store_meta 7 (record_of r).last_size
      ∷ Store Meta 0 (record_of r).last_checksum (Commit change) ∷ []

-- Within a restore the region shows the map of the history, or still the last confirmed image, the one that is restored. So it
-- does after a death there, which leaves the region as it is.
abbrev pub RestoresShowTheLastImage : Type 0
RestoresShowTheLastImage =
    (start : Region) (past : List Event) (what : What) (rest : List What) → IsTrueRun start past → Reaches start past (Within Restore (what ∷ rest)) →
    let r = region_after start past in
    ShowsMap r (map_after start past)
    ⊎ ((shown r ≡ Last (record_of r).last_size) × ((m : Map) × (map_shown r ≡ Some m) × IsRestoring r m (what ∷ rest)))

-- Where the last confirmed image is shown, it is the one that the last confirmed words stand for: they were stored in this run,
-- or agreed with the payload at its start.
abbrev pub LastIsConfirmed : Type 0
LastIsConfirmed =
    (start : Region) (past : List Event) (n : ℕ) → IsTrueRun start past → HasConfirmed start past → shown (region_after start past) ≡ Last n →
    confirmed start past ≡ Some (payload_of (region_after start past) n)

-- Where it is shown at rest and its checksum is the record's too, it has the map of the history.
abbrev pub LastHasTheHistory : Type 0
LastHasTheHistory =
    (start : Region) (past : List Event) (n : ℕ) → IsTrueRun start past → AtRest start past → shown (region_after start past) ≡ Last n →
    (record_of (region_after start past)).checksum ≡ (record_of (region_after start past)).last_checksum →
    map_shown (region_after start past) ≡ Some (map_after start past)

-- where it is shown, the row that begins restores it
abbrev pub LastIsRestored : Type 0
LastIsRestored = (r : Region) (m : Map) (room : Option ℕ) (row : Row) (n : ℕ) → shown r ≡ Last n → MayBegin r m room row → row ≡ Restore

-- these changes are puts and removes
abbrev pub AreAppends : List Change → Type 0
AreAppends changes = AllByRecursion (λ c. is_append c.act ≡ true) changes

-- An image was kept, and the sequence is what it was then: the image stands, nothing but appends came, and the region shows their map.
abbrev pub SequenceTellsTheImage : Type 0
SequenceTellsTheImage =
    (start : Region) (later past : List Event) (n : ℕ) (m : Map) → IsRun start (later ++ past) → Apart start (later ++ past) →
    IsKept start past n m → sequence_at start (later ++ past) ≡ sequence_at start past →
    SameImage (image_of start past n m) (region_after start (later ++ past)) × AreAppends (changes_of later)
    × ShowsMap (region_after start (later ++ past)) (replay m (changes_of later))

-- The checksum is peeked first and the sequence then, and both are the kept ones: up to the first peek nothing was changed.
abbrev pub PeeksTellTheImage : Type 0
PeeksTellTheImage =
    (start : Region) (after mid past : List Event) (n : ℕ) (m : Map) → IsRun start (after ++ (mid ++ past)) → Apart start (after ++ (mid ++ past)) →
    IsKept start past n m → sequence_at start (after ++ (mid ++ past)) ≡ sequence_at start past → checksum_at start (mid ++ past) ≡ checksum_at start past →
    (changes_of (mid ++ past) ≡ changes_of past) × (map_after start (mid ++ past) ≡ map_after start past)

-- The bytes behind the kept ones fit and take the kept checksum on to the record's.
pub record GoesOn (start : Region) (past : List Event) (n : ℕ) (r : Region) : Type 0 where
  pub size : n ≤ (record_of r).size
  pub room : 4 + (record_of r).size ≤ file_size r
  pub checksum : crc_from (checksum_at start past) (bytes_behind r n) ≡ (record_of r).checksum

-- The sequence is the kept one: a partial load that goes on from the kept image gives what is shown,
abbrev pub PartialLoadsHold : Type 0
PartialLoadsHold =
    (start : Region) (later past : List Event) (n : ℕ) (m : Map) → IsRun start (later ++ past) → Apart start (later ++ past) →
    IsKept start past n m → sequence_at start (later ++ past) ≡ sequence_at start past →
    GoesOn start past n (region_after start (later ++ past)) → LoadsOn start past later n m

-- and where a whole image is shown, the partial load does go on to it.
abbrev pub WholeImagesGoOn : Type 0
WholeImagesGoOn =
    (start : Region) (later past : List Event) (n size : ℕ) (m : Map) → IsRun start (later ++ past) → Apart start (later ++ past) →
    IsKept start past n m → sequence_at start (later ++ past) ≡ sequence_at start past →
    shown (region_after start (later ++ past)) ≡ Whole size →
    ((record_of (region_after start (later ++ past))).size ≡ size) × GoesOn start past n (region_after start (later ++ past))

-- The events of an append are worked out from what is known of the image, even if the file has grown meanwhile.
abbrev pub AppendIsMadeFromItsStanding : Type 0
AppendIsMadeFromItsStanding =
    (r : Region) (s : Standing) (m : Map) (who : ℕ) (a : Act) → shown r ≡ Whole s.size → IsStandingOf r s.size s →
    events_of r m who (Append a) ≡ append_stores s (item_of s.flag a) (Commit (record { maker = who; act = a }))

-- The events of a Pack are worked out from all that is known of the image and from the map that it leaves,
abbrev pub PackIsMadeFromItsStanding : Type 0
PackIsMadeFromItsStanding =
    (r : Region) (s : Standing) (m : Map) (who now need : ℕ) → s ≡ standing r →
    events_of r m who (Pack now need) ≡ write_back_by s (applied m (act.Pack now)) need (Commit (record { maker = who; act = act.Pack now }))

-- those of a Clear likewise,
abbrev pub ClearIsMadeFromItsStanding : Type 0
ClearIsMadeFromItsStanding =
    (r : Region) (s : Standing) (m : Map) (who : ℕ) → s ≡ standing r →
    events_of r m who Clear ≡ write_back_by s (applied m act.Clear) 0 (Commit (record { maker = who; act = act.Clear }))

-- those of an Enable, which stores the flags 1,
abbrev pub EnableIsMadeFromItsStanding : Type 0
EnableIsMadeFromItsStanding =
    (r : Region) (s : Standing) (m : Map) (who now seconds : ℕ) → s ≡ standing r →
    events_of r m who (Enable now seconds) ≡ switch_by s true 1 (applied m (act.Enable now seconds)) (Commit (record { maker = who; act = act.Enable now seconds }))

-- those of a Disable, which stores the flags 0,
abbrev pub DisableIsMadeFromItsStanding : Type 0
DisableIsMadeFromItsStanding =
    (r : Region) (s : Standing) (m : Map) (who now : ℕ) → s ≡ standing r →
    events_of r m who (Disable now) ≡ switch_by s false 0 (applied m (act.Disable now)) (Commit (record { maker = who; act = act.Disable now }))

-- those of a Restore, which names the pairs of the image restored,
abbrev pub RestoreIsMadeFromItsStanding : Type 0
RestoreIsMadeFromItsStanding =
    (r : Region) (s : Standing) (m : Map) (who : ℕ) → s ≡ standing r →
    events_of r m who Restore ≡ restore_stores s (record_of r) (Commit (record { maker = who; act = act.Restored (pairs_of (base r)) }))

-- those of a Discard,
abbrev pub DiscardIsMadeFromItsStanding : Type 0
DiscardIsMadeFromItsStanding =
    (r : Region) (s : Standing) (m : Map) (who : ℕ) → s ≡ standing r →
    events_of r m who Discard ≡ discard_stores s (Commit (record { maker = who; act = act.Discarded }))

-- and that of a repair of the size, which commits nothing.
abbrev pub SizeRepairIsMadeFromItsStanding : Type 0
SizeRepairIsMadeFromItsStanding = (r : Region) (s : Standing) (m : Map) (who : ℕ) → s ≡ standing r → events_of r m who SizeRepair ≡ size_repair_stores s

-- After an append to a whole image the longer image is known by the old standing and the item.
abbrev pub AppendLeavesItsStanding : Type 0
AppendLeavesItsStanding =
    (r : Region) (m : Map) (who n : ℕ) (a : Act) → IsRegion r → shown r ≡ Whole n → HasRoom r n (length (item_of (flag r) a)) → IsAppendable (flag r) a →
    let t = after_all r (events_of r m who (Append a)) in
    let size = n + length (item_of (flag r) a) in
    ((record_of t).size ≡ size) × (standing_of t size ≡ appended_standing (standing r) (item_of (flag r) a))

-- After a write-back of bytes the new image is known by the old standing, the size of the file, and the new payload.
abbrev pub WriteBackLeavesItsStanding : Type 0
WriteBackLeavesItsStanding =
    (r : Region) (m : Map) (room : Option ℕ) (who : ℕ) (row : Row) → IsRegion r → IsWriteBack row → MayBegin r m room row → AreBytes (payload_after r m row) →
    let new = payload_after r m row in
    let t = after_all r (events_of r m who row) in
    ((record_of t).size ≡ length new)
    × (standing_of t (length new) ≡ rewritten_standing (standing r) (if (record_of r).version == 0 then 3 else (record_of r).version) (flag r) (size_after r m row) new)

-- After a switch of the flag in an accepted region it is known so too: the version is 4, and the flag the new one.
abbrev pub SwitchLeavesItsStanding : Type 0
SwitchLeavesItsStanding =
    (r : Region) (m : Map) (room : Option ℕ) (who : ℕ) (row : Row) → IsRegion r → IsAccepted r → IsSwitch row → MayBegin r m room row → AreBytes (payload_after r m row) →
    let new = payload_after r m row in
    let t = after_all r (events_of r m who row) in
    ((record_of t).size ≡ length new) × (standing_of t (length new) ≡ rewritten_standing (standing r) 4 (flag_after r row) (size_after r m row) new)

-- After a recovery it is known so too: version and flag are the old ones.
abbrev pub RecoverLeavesItsStanding : Type 0
RecoverLeavesItsStanding =
    (r : Region) (m : Map) (room : Option ℕ) (who : ℕ) → IsRegion r → MayBegin r m room Recover →
    let new = payload_after r m Recover in
    let t = after_all r (events_of r m who Recover) in
    ((record_of t).size ≡ length new) × (standing_of t (length new) ≡ rewritten_standing (standing r) (record_of r).version (flag r) (size_after r m Recover) new)

-- A last confirmed image that is shown has the size and the checksum that the record names for it.
abbrev pub LastStandsInTheRecord : Type 0
LastStandsInTheRecord =
    (r : Region) (n : ℕ) → shown r ≡ Last n → ((standing r).size ≡ (record_of r).last_size) × ((standing r).checksum ≡ (record_of r).last_checksum)

-- After its restore that image is known as before, but for the sequence.
abbrev pub RestoreLeavesItsStanding : Type 0
RestoreLeavesItsStanding =
    (r : Region) (m : Map) (room : Option ℕ) (who : ℕ) → IsRegion r → MayBegin r m room Restore →
    let s = standing r in
    let t = after_all r (events_of r m who Restore) in
    ((record_of t).size ≡ s.size) × (standing_of t s.size ≡ record s { sequence = s.sequence + 1 })

-- After a discard the empty image is known,
abbrev pub DiscardLeavesItsStanding : Type 0
DiscardLeavesItsStanding =
    (r : Region) (m : Map) (room : Option ℕ) (who : ℕ) → IsRegion r → MayBegin r m room Discard →
    let s = standing r in
    let t = after_all r (events_of r m who Discard) in
    ((record_of t).size ≡ 0) × (standing_of t 0 ≡ record s { sequence = s.sequence + 1; size = 0; checksum = 0; tail = 0 })

-- and after a repair of the size the image is known as before.
abbrev pub SizeRepairLeavesItsStanding : Type 0
SizeRepairLeavesItsStanding =
    (r : Region) (m : Map) (room : Option ℕ) (who : ℕ) → IsRegion r → MayBegin r m room SizeRepair →
    let s = standing r in
    let t = after_all r (events_of r m who SizeRepair) in
    ((record_of t).size ≡ s.size) × (standing_of t s.size ≡ s)

-- A map is packed to bytes where its pairs can be packed and read again.
abbrev pub PackedIsBytes : Type 0
PackedIsBytes = (flag : Bool) (m : Map) → IsPackable flag m → AreBytes (packed flag m)

-- They can in the map that a region shows,
abbrev pub ShownMapsCanBePacked : Type 0
ShownMapsCanBePacked = (r : Region) (m : Map) → IsRegion r → map_shown r ≡ Some m → IsPackable (flag r) m

-- in what a put or remove leaves of such a map, if a file has room for its item,
abbrev pub AppendsCanBePacked : Type 0
AppendsCanBePacked =
    (flag : Bool) (m : Map) (a : Act) → IsAppendable flag a → length (item_of flag a) ≤ largest → IsPackable flag m → IsPackable flag (applied m a)

-- and in what a rewrite leaves of it, with the flag that it leaves.
abbrev pub RewritesCanBePacked : Type 0
RewritesCanBePacked =
    (flag : Bool) (m : Map) → IsPackable flag m →
    ((now : ℕ) → IsPackable flag (applied m (act.Pack now))) × IsPackable flag (applied m act.Clear)
    × ((now seconds : ℕ) → now + seconds < 2 ^ 32 → IsPackable true (applied m (act.Enable now seconds)))
    × ((now : ℕ) → IsPackable false (applied m (act.Disable now)))
