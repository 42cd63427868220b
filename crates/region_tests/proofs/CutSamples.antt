-- What a region shows after each event of a row, as a death there would leave it.
use Rattle.std.proofs.Common.{◌≡◌, ℕ, List, [], ◌∷◌, ◌++◌, refl}
use Rattle.std.specs.Prelude.{Some, None, replicate}
use Rattle.crc_words.specs.Crc.{crc}
use Rattle.kv_pairs.specs.Reading.{length_at, read_payload}
use Rattle.change_log.specs.declared.change.Act.TheVariants as act
use Rattle.meta_record.specs.declared.shown.Damage.TheVariants.{Length, Checksum}
use Rattle.meta_record.specs.declared.shown.Shown.{Shown}
use Rattle.meta_record.specs.declared.shown.Shown.TheVariants.{Whole, Header, Last, Damaged}
use Rattle.region_words.specs.Region.{Region, shown}
use Rattle.region_words.specs.Past.{region_step}
use Rattle.region_words.proofs.OfRegion.{append_to, switch_stores, write_back_stores, recover_stores, restore_stores, discard_stores}
use Rattle.region_words.specs.declared.event.Mark.{Mark}
use Rattle.region_words.specs.declared.event.Mark.TheVariants.{Commit}
use Rattle.region_words.specs.declared.event.What.{What}
use Rattle.region_tests.proofs.Samples.{small, one_pair, meta, bytes_of}

abbrev shown_after : Region → List What → List Shown
shown_after r [] = []
shown_after r (what ∷ rest) = shown (region_step r what) ∷ shown_after (region_step r what) rest

abbrev mark : Mark
mark = Commit (record { maker = 1; act = act.Clear })

append_cuts : shown_after (small 11 11) (append_to one_pair (0x01 ∷ 0x6b ∷ 0x02 ∷ 0x01 ∷ 0x64 ∷ []) mark)
    ≡ Whole 11 ∷ Whole 11 ∷ Whole 11 ∷ Header 16 ∷ Whole 16 ∷ []
unfolding shown crc read_payload length_at
append_cuts = refl

-- a header that a cut append left counts for nothing
append_again : shown_after (small 11 16) (append_to one_pair (0x01 ∷ 0x6b ∷ 0x00 ∷ []) mark)
    ≡ Whole 11 ∷ Whole 11 ∷ Whole 11 ∷ Header 14 ∷ Whole 14 ∷ []
unfolding shown crc read_payload length_at
append_again = refl

abbrev with_expiries : List ℕ
with_expiries = 0xff ∷ 0xff ∷ 0xff ∷ 0x07 ∷ 0x01 ∷ 0x6b ∷ 0x08 ∷ 0x03 ∷ 0x61 ∷ 0x62 ∷ 0x63 ∷ 0 ∷ 0 ∷ 0 ∷ 0 ∷ []

switch_cuts : shown_after (small 11 11) (switch_stores (small 11 11) (Some 320) 1 with_expiries mark)
    ≡ Whole 11 ∷ Whole 11 ∷ Whole 11 ∷ Header 11 ∷ Last 4 ∷ Damaged Length
    ∷ Damaged Length ∷ Damaged Length ∷ Damaged Length ∷ Damaged Length ∷ Damaged Length ∷ Damaged Length ∷ Damaged Length
    ∷ Header 15 ∷ Whole 15 ∷ Whole 15 ∷ []
unfolding shown crc read_payload length_at
switch_cuts = refl

-- the same from a header that a cut append left: the closed record's size shows the last confirmed image
switch_again : shown_after (small 11 16) (switch_stores (small 11 16) (Some 40) 1 with_expiries mark)
    ≡ Whole 11 ∷ Whole 11 ∷ Last 4 ∷ Last 4 ∷ Damaged Length
    ∷ Damaged Length ∷ Damaged Length ∷ Damaged Length ∷ Damaged Length ∷ Damaged Length ∷ Damaged Length ∷ Damaged Length
    ∷ Header 15 ∷ Whole 15 ∷ Whole 15 ∷ []
unfolding shown crc read_payload length_at
switch_again = refl

-- a write-back of a shorter payload
write_back_cuts : shown_after (small 11 11) (write_back_stores (small 11 11) None (0xff ∷ 0xff ∷ 0xff ∷ 0x07 ∷ 0x01 ∷ 0x6b ∷ 0x01 ∷ 0x00 ∷ []) mark)
    ≡ Whole 11 ∷ Whole 11 ∷ Last 4 ∷ Last 4 ∷ Header 8 ∷ Whole 8 ∷ Whole 8 ∷ Whole 8 ∷ []
unfolding shown crc read_payload length_at
write_back_cuts = refl

restore_cuts : shown_after (small 7 9) (restore_stores (small 7 9) mark) ≡ Last 4 ∷ Last 4 ∷ Last 4 ∷ Whole 4 ∷ []
unfolding shown crc read_payload length_at
restore_cuts = refl

-- a damaged store
abbrev damaged : Region
damaged =
    record {
      data_bytes = bytes_of (11 ∷ []) ++ one_pair ++ replicate 25 0;
      meta_bytes = meta 5 3 1 12 4 6 0;
    }

discard_cuts : shown_after damaged (discard_stores damaged mark)
    ≡ Damaged Checksum ∷ Damaged Checksum ∷ Damaged Checksum ∷ Whole 0 ∷ Whole 0 ∷ Whole 0 ∷ []
unfolding shown crc read_payload length_at
discard_cuts = refl

recover_cuts : shown_after damaged (recover_stores damaged (Some 80) one_pair mark)
    ≡ Damaged Checksum ∷ Damaged Length ∷ Damaged Length ∷ Damaged Length ∷ Damaged Length ∷ Damaged Length ∷ Damaged Length ∷ Damaged Length
    ∷ Damaged Length ∷ Damaged Length ∷ Header 11 ∷ Whole 11 ∷ Whole 11 ∷ []
unfolding shown crc read_payload length_at
recover_cuts = refl
