use Rattle.std.proofs.Common.{◌≡◌, ℕ, List, [], ◌∷◌, ◌++◌, refl, true, false}
use Rattle.std.specs.Prelude.{flat_map, replicate}
use Rattle.std.specs.Int.{to_le_bytes, w32}
use Rattle.std.specs.Ordering.{nat_cmp}
use Rattle.std.specs.Cmp.Lexicographic.{slice_cmp}
use Rattle.std.specs.FinMap as fin
use Rattle.crc_words.specs.Crc.{crc}
use Rattle.expiring_map.specs.ValueUntil.{ValueUntil}
use Rattle.expiring_map.specs.Map.{value_until}
use Rattle.kv_pairs.specs.Lengths.{shortest}
use Rattle.kv_pairs.specs.Reading.{length_at, read_payload}
use Rattle.kv_pairs.specs.Growth.{grown_size}
use Rattle.change_log.specs.declared.change.Act.TheVariants as act
use Rattle.meta_record.specs.declared.shown.Damage.TheVariants.{Length, Content}
use Rattle.meta_record.specs.declared.shown.Shown.TheVariants.{Whole, Header, Last, Damaged}
use Rattle.region_words.specs.Region.{Region, shown}
use Rattle.region_words.specs.Rows.{Append, Pack, Enable, events_of, store_data, store_meta, closed_size}
use Rattle.region_words.specs.Standings.{standing_of}
use Rattle.region_words.specs.declared.event.Side.TheVariants.{Data, Meta}
use Rattle.region_words.specs.declared.event.Mark.TheVariants.{Commit}
use Rattle.region_words.specs.declared.event.What.TheVariants.{Store, Grow}
use Rattle.region_words.proofs.MapLemmas.{live_part-empty, packed-empty, with_expiry-one, packed-one, len-one}

abbrev pub bytes_of : List ℕ → List ℕ
bytes_of words = flat_map (to_le_bytes w32) words

-- the meta words 0 to 9 and 26
abbrev pub meta : ℕ → ℕ → ℕ → ℕ → ℕ → ℕ → ℕ → List ℕ
meta checksum version sequence size last_size last_checksum flags =
    bytes_of (checksum ∷ version ∷ sequence ∷ 0 ∷ 0 ∷ 0 ∷ 0 ∷ size ∷ last_size ∷ last_checksum ∷ [])
    ++ replicate 64 0 ++ bytes_of (flags ∷ 0 ∷ [])

abbrev fresh : Region
fresh = record { data_bytes = replicate 4096 0; meta_bytes = replicate 112 0 }

abbrev pub one_pair : List ℕ
one_pair = 0xff ∷ 0xff ∷ 0xff ∷ 0x07 ∷ 0x01 ∷ 0x6b ∷ 0x04 ∷ 0x03 ∷ 0x61 ∷ 0x62 ∷ 0x63 ∷ []

-- a store of one pair, in a file of 40 bytes
abbrev pub small : ℕ → ℕ → Region
small size header =
    record {
      data_bytes = bytes_of (header ∷ []) ++ one_pair ++ replicate 25 0;
      meta_bytes = meta 0x3a6595d3 3 1 size 4 0x4c9985d1 0;
    }

fresh_shows : shown fresh ≡ Whole 0
unfolding shown crc read_payload length_at
fresh_shows = refl

pub small_shows : shown (small 11 11) ≡ Whole 11
unfolding shown crc read_payload length_at
small_shows = refl

header_shows : shown (small 4 11) ≡ Header 11
unfolding shown crc read_payload length_at
header_shows = refl

last_shows : shown (small 7 9) ≡ Last 4
unfolding shown crc read_payload length_at
last_shows = refl

closed_shows : shown (record { data_bytes = bytes_of (5 ∷ 0 ∷ 0 ∷ []); meta_bytes = meta 5 3 1 0xffffffff 0xffffffff 0 0 }) ≡ Damaged Length
unfolding shown crc read_payload length_at
closed_shows = refl

content_shows : shown (record { data_bytes = bytes_of (11 ∷ []) ++ one_pair ++ replicate 25 0; meta_bytes = meta 0x3a6595d3 4 1 11 4 0x4c9985d1 1 }) ≡ Damaged Content
unfolding shown crc read_payload length_at
content_shows = refl

pub append_row : (m : fin.FinMap (slice_cmp nat_cmp) ValueUntil) →
    let put = act.Put (0x6b ∷ []) (0x01 ∷ 0x64 ∷ []) 0 in
    events_of (small 11 11) m 2 (Append put)
    ≡ store_data 3 0x01636261 ∷ store_data 4 0x6401026b ∷ store_data 0 16
    ∷ Store Meta 0 (crc (one_pair ++ 0x01 ∷ 0x6b ∷ 0x02 ∷ 0x01 ∷ 0x64 ∷ [])) (Commit (record { maker = 2; act = put })) ∷ store_meta 7 16 ∷ []
unfolding events_of shortest shown crc read_payload length_at
append_row m = refl

pack_row : events_of fresh fin.empty 1 (Pack 100 7)
    ≡ store_meta 2 1 ∷ store_meta 1 3 ∷ store_data 1 0x07ffffff ∷ store_data 0 4
    ∷ Store Meta 0 0x4c9985d1 (Commit (record { maker = 1; act = act.Pack 100 })) ∷ store_meta 7 4 ∷ store_meta 8 4 ∷ store_meta 9 0x4c9985d1 ∷ []
unfolding events_of grown_size crc
pack_row = rw (live_part-empty 100) (rw (packed-empty false, fin.len-empty (slice_cmp nat_cmp) ValueUntil) refl)

-- switching expiry on in the store of one pair: closed sizes, and the mark on the header
enable_row : (checksum : ℕ) → checksum ≡ crc (0xff ∷ 0xff ∷ 0xff ∷ 0x07 ∷ 0x01 ∷ 0x6b ∷ 0x08 ∷ 0x03 ∷ 0x61 ∷ 0x62 ∷ 0x63 ∷ 0 ∷ 0 ∷ 0 ∷ 0 ∷ []) →
    events_of (small 11 11) (fin.insert fin.empty (0x6b ∷ []) (value_until (0x03 ∷ 0x61 ∷ 0x62 ∷ 0x63 ∷ []) 0)) 2 (Enable 100 0)
    ≡ Grow 320 ∷ store_meta 2 2 ∷ store_meta 1 4 ∷ store_meta 7 closed_size ∷ store_data 0 closed_size ∷ store_meta 8 closed_size
    ∷ store_data 1 0x07ffffff ∷ store_data 2 0x03086b01 ∷ store_data 3 0x00636261 ∷ store_data 4 0
    ∷ store_meta 26 1 ∷ store_meta 0 checksum ∷ store_meta 9 checksum
    ∷ Store Data 0 15 (Commit (record { maker = 2; act = act.Enable 100 0 })) ∷ store_meta 7 15 ∷ store_meta 8 15 ∷ []
unfolding events_of grown_size shortest
enable_row checksum e = rw e (rw (with_expiry-one 0) (rw (packed-one true, len-one) refl))

small_standing : (standing_of (small 11 11) 11).tail ≡ 0x00636261
small_standing = refl
