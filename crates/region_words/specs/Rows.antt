-- A row is the events of one change, or of a repair, in their order.
use Rattle.std.specs.Prelude.{◌≡◌, ℕ, ◌+◌, ◌/◌, ◌<◌, ◌≤◌, ◌^◌, Bool, true, false, List, [], ◌∷◌, ◌++◌, Option, Some, None, length, All, IsSome, unwrap_or, nat_lt, ◌==◌, if◌then◌else◌}
use Rattle.std.specs.Option.{option_map_or}
use Rattle.std.specs.FinMap as fin
use Rattle.crc_words.specs.Crc.{crc, crc_from}
use Rattle.expiring_map.specs.Map.{Map, value_until, pairs_of}
use Rattle.kv_pairs.specs.Mapped.{packed, put_item, remove_item, greedy_map}
use Rattle.kv_pairs.specs.Growth.{grown_size}
use Rattle.kv_pairs.specs.declared.packed.TheConstants.{LONGEST_FIELD}
use Rattle.change_log.specs.Acts.{applied}
use Rattle.change_log.specs.declared.change.Act.{Act}
use Rattle.change_log.specs.declared.change.Act.TheVariants as act
use Rattle.meta_record.specs.declared.record.Record.{Record}
use Rattle.meta_record.specs.declared.shown.Damage.{Damage}
use Rattle.meta_record.specs.declared.shown.Shown.TheVariants.{Whole, Header, Last, Damaged}
use Rattle.region_words.specs.Region.{Region, record_of, file_size, flag, shown, size_shown, base, recovery_payload}
use Rattle.region_words.specs.Standings.{words_of, tail_bytes, standing_of}
use Rattle.region_words.specs.declared.standing.Standing.{Standing}
use Rattle.region_words.specs.declared.event.Side.TheVariants.{Data, Meta}
use Rattle.region_words.specs.declared.event.Mark.{Mark}
use Rattle.region_words.specs.declared.event.Mark.TheVariants.{Plain, Commit}
use Rattle.region_words.specs.declared.event.What.{What}
use Rattle.region_words.specs.declared.event.What.TheVariants.{Store, Grow}

-- what a row is of
pub data Row : Type 0 where
  Append : Act → Row
  Pack : (now need : ℕ) → Row
  Clear : Row
  Enable : (now seconds : ℕ) → Row
  Disable : (now : ℕ) → Row
  Restore : Row
  Discard : Row
  Recover : Row
  SizeRepair : Row

-- the item of a put or remove
abbrev pub item_of : Bool → Act → List ℕ
item_of flag (act.Put key value expiry) = put_item flag key (value_until value expiry)
item_of flag (act.Remove key) = remove_item key
item_of flag _ = []

abbrev pub AreBytes : List ℕ → Type 0
AreBytes bytes = All (λ b. b < 256) bytes

abbrev pub IsKey : List ℕ → Type 0
IsKey key = (0 < length key) × (length key ≤ LONGEST_FIELD) × AreBytes key

-- a put or remove that may be appended: nothing in it is empty, and it expires only where the flag is on
abbrev pub IsAppendable : Bool → Act → Type 0
IsAppendable flag (act.Put key value expiry) =
    IsKey key × (0 < length value) × (length value ≤ LONGEST_FIELD) × AreBytes value × (expiry < 2 ^ 32) × (flag ≡ false → expiry ≡ 0)
IsAppendable flag (act.Remove key) = IsKey key
IsAppendable flag _ = ⊥

abbrev pub store_data : ℕ → ℕ → What
store_data word value = Store Data word value Plain

abbrev pub store_meta : ℕ → ℕ → What
store_meta word value = Store Meta word value Plain

-- the stores of these words from this place on
abbrev pub stores_from : ℕ → List ℕ → List What
stores_from place [] = []
stores_from place (value ∷ values) = store_data place value ∷ stores_from (place + 1) values

-- the stores of a payload behind the header
abbrev pub payload_stores : List ℕ → List What
payload_stores bytes = stores_from 1 (words_of bytes)

-- a size that never fits
abbrev pub closed_size : ℕ
closed_size = 0xffffffff

abbrev pub close_sizes : List What
close_sizes = store_meta 7 closed_size ∷ store_data 0 closed_size ∷ store_meta 8 closed_size ∷ []

abbrev pub next_sequence : Standing → What
next_sequence s = store_meta 2 (s.sequence + 1)

-- the growth of the file to this size, where it is smaller
abbrev pub growth : Standing → Option ℕ → List What
growth s size = let wanted = unwrap_or size 0 in if nat_lt s.file_size wanted then Grow wanted ∷ [] else []

-- the sizes and checksums of a new image that takes the place of the old one, with the mark on the checksum
abbrev pub confirmed_by_checksum : List ℕ → Mark → List What
confirmed_by_checksum new mark =
    store_data 0 (length new) ∷ Store Meta 0 (crc new) mark ∷ store_meta 7 (length new)
    ∷ store_meta 8 (length new) ∷ store_meta 9 (crc new) ∷ []

-- the same with the mark on the header, which opens the closed sizes
abbrev pub confirmed_by_header : List ℕ → Mark → List What
confirmed_by_header new mark =
    store_meta 0 (crc new) ∷ store_meta 9 (crc new) ∷ Store Data 0 (length new) mark
    ∷ store_meta 7 (length new) ∷ store_meta 8 (length new) ∷ []

-- the item at the end of the payload
abbrev pub append_stores : Standing → List ℕ → Mark → List What
append_stores s item mark =
    let size = s.size + length item in
    stores_from (1 + s.size / 4) (words_of (tail_bytes s ++ item))
    ++ store_data 0 size ∷ Store Meta 0 (crc_from s.checksum item) mark ∷ store_meta 7 size ∷ []

abbrev pub write_back_stores : Standing → Option ℕ → List ℕ → Mark → List What
write_back_stores s size new mark =
    growth s size ++ next_sequence s ∷ (if s.version == 0 then store_meta 1 3 ∷ [] else [])
    ++ payload_stores new ++ confirmed_by_checksum new mark

abbrev pub switch_stores : Standing → Option ℕ → ℕ → List ℕ → Mark → List What
switch_stores s size flags new mark =
    growth s size ++ next_sequence s ∷ store_meta 1 4 ∷ close_sizes ++ payload_stores new ++ store_meta 26 flags ∷ confirmed_by_header new mark

abbrev pub recover_stores : Standing → Option ℕ → List ℕ → Mark → List What
recover_stores s size new mark = next_sequence s ∷ close_sizes ++ growth s size ++ payload_stores new ++ confirmed_by_header new mark

abbrev pub restore_stores : Standing → Record → Mark → List What
restore_stores s rec mark =
    next_sequence s ∷ store_data 0 rec.last_size ∷ store_meta 7 rec.last_size ∷ Store Meta 0 rec.last_checksum mark ∷ []

abbrev pub discard_stores : Standing → Mark → List What
discard_stores s mark =
    next_sequence s ∷ store_data 0 0 ∷ store_meta 7 0 ∷ Store Meta 0 0 mark ∷ store_meta 8 0 ∷ store_meta 9 0 ∷ []

abbrev pub size_repair_stores : Standing → List What
size_repair_stores s = store_meta 7 s.size ∷ []

-- the act that a row's mark commits; a repair of the size commits none
abbrev pub act_of_row : Region → Row → Option Act
act_of_row r (Append a) = Some a
act_of_row r (Pack now need) = Some (act.Pack now)
act_of_row r Clear = Some act.Clear
act_of_row r (Enable now seconds) = Some (act.Enable now seconds)
act_of_row r (Disable now) = Some (act.Disable now)
act_of_row r Restore = Some (act.Restored (pairs_of (base r)))
act_of_row r Discard = Some act.Discarded
act_of_row r Recover = Some (act.Recovered (pairs_of (greedy_map (flag r) (recovery_payload r))))
act_of_row r SizeRepair = None

-- the flag, the map and the room that a rewrite of the map m leaves
abbrev pub flag_after : Region → Row → Bool
flag_after r (Append a) = flag r
flag_after r (Pack now need) = flag r
flag_after r Clear = flag r
flag_after r (Enable now seconds) = true
flag_after r (Disable now) = false
flag_after r Restore = flag r
flag_after r Discard = flag r
flag_after r Recover = flag r
flag_after r SizeRepair = flag r

abbrev pub need_of : Row → ℕ
need_of (Append a) = 0
need_of (Pack now need) = need
need_of Clear = 0
need_of (Enable now seconds) = 0
need_of (Disable now) = 0
need_of Restore = 0
need_of Discard = 0
need_of Recover = 0
need_of SizeRepair = 0

-- the map that a whole row leaves
abbrev pub row_map : Region → Map → Row → Map
row_map r m row = option_map_or (applied m) (act_of_row r row) m

abbrev pub payload_after : Region → Map → Row → List ℕ
payload_after r m row = packed (flag_after r row) (row_map r m row)

abbrev pub size_after : Region → Map → Row → Option ℕ
size_after r m row = grown_size (length (payload_after r m row)) (need_of row) (fin.len (row_map r m row)) (file_size r)

-- the mark on the store that commits a row's change, where it commits one
abbrev pub mark_of : Region → ℕ → Row → Mark
mark_of r who row = option_map_or (λ a. Commit (record { maker = who; act = a })) (act_of_row r row) Plain

-- what is to be known of the image that a region shows, of size 0 where it is damaged
abbrev pub standing : Region → Standing
standing r = standing_of r (size_shown r)

-- the events of a row that begins in this region, where the map is m
unfoldable pub events_of : Region → Map → ℕ → Row → List What
events_of r m who (Append a) = append_stores (standing r) (item_of (flag r) a) (mark_of r who (Append a))
events_of r m who (Pack now need) = write_back_stores (standing r) (size_after r m (Pack now need)) (payload_after r m (Pack now need)) (mark_of r who (Pack now need))
events_of r m who Clear = write_back_stores (standing r) (size_after r m Clear) (payload_after r m Clear) (mark_of r who Clear)
events_of r m who (Enable now seconds) =
    switch_stores (standing r) (size_after r m (Enable now seconds)) 1 (payload_after r m (Enable now seconds)) (mark_of r who (Enable now seconds))
events_of r m who (Disable now) = switch_stores (standing r) (size_after r m (Disable now)) 0 (payload_after r m (Disable now)) (mark_of r who (Disable now))
events_of r m who Restore = restore_stores (standing r) (record_of r) (mark_of r who Restore)
events_of r m who Discard = discard_stores (standing r) (mark_of r who Discard)
events_of r m who Recover = recover_stores (standing r) (size_after r m Recover) (payload_after r m Recover) (mark_of r who Recover)
events_of r m who SizeRepair = size_repair_stores (standing r)

-- the sequence can be raised, and a file has room
abbrev pub CanRewrite : Region → Map → Row → Type 0
CanRewrite r m row = ((record_of r).sequence < 0xffffffff) × IsSome (size_after r m row)

abbrev pub IsWhole : Region → Type 0
IsWhole r = (n : ℕ) × (shown r ≡ Whole n)

abbrev pub IsDamaged : Region → Type 0
IsDamaged r = (d : Damage) × (shown r ≡ Damaged d)

-- bytes of this number can be appended to the image of size n
abbrev pub HasRoom : Region → ℕ → ℕ → Type 0
HasRoom r n need = (0 < n) × (4 + n + need ≤ file_size r)

-- where a row may begin; room is what a write-back just made room for
abbrev pub MayBegin : Region → Map → Option ℕ → Row → Type 0
MayBegin r m room (Append a) =
    (n : ℕ) × (shown r ≡ Whole n) × HasRoom r n (length (item_of (flag r) a)) × IsAppendable (flag r) a
    × ((need : ℕ) → room ≡ Some need → need ≡ length (item_of (flag r) a))
MayBegin r m room (Pack now need) =
    ((n : ℕ) × (shown r ≡ Whole n) × (HasRoom r n need → ⊥)) × ((a : Act) × IsAppendable (flag r) a × (need ≡ length (item_of (flag r) a)))
    × CanRewrite r m (Pack now need)
MayBegin r m room Clear = IsWhole r × CanRewrite r m Clear
MayBegin r m room (Enable now seconds) = IsWhole r × (flag r ≡ false) × (now + seconds < 2 ^ 32) × CanRewrite r m (Enable now seconds)
MayBegin r m room (Disable now) = IsWhole r × (flag r ≡ true) × CanRewrite r m (Disable now)
MayBegin r m room Restore = ((n : ℕ) × (shown r ≡ Last n)) × ((record_of r).sequence < 0xffffffff)
MayBegin r m room Discard = IsDamaged r × ((record_of r).sequence < 0xffffffff)
MayBegin r m room Recover = IsDamaged r × CanRewrite r m Recover
MayBegin r m room SizeRepair = (n : ℕ) × (shown r ≡ Header n)
