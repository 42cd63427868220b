-- What the repairs that store no payload leave is known from what was known before them.
use Rattle.std.proofs.Common.{◌≡◌, ℕ, ◌+◌, ◌*◌, ◌<◌, ◌≤◌, ◌^◌, List, [], ◌∷◌, length, drop, take, refl, sym, ap, ◌∙◌, arith, subst}
use Rattle.std.specs.Prelude.{Option, unwrap_or, ◌==◌}
use Rattle.crc_words.specs.Crc.{crc}
use Rattle.expiring_map.specs.Map.{Map}
use Rattle.meta_record.specs.Words.{with_word}
use Rattle.meta_record.specs.declared.shown.Shown.TheVariants.{Last}
use Rattle.meta_record.proofs.WordLemmas.{length-with_word}
use Rattle.region_words.specs.Region.{Region, IsRegion, record_of, header, flag, file_size, payload_of, shown, size_of}
use Rattle.region_words.specs.Past.{after_all}
use Rattle.region_words.specs.Rows.{Restore, Discard, SizeRepair, MayBegin, events_of, standing}
use Rattle.region_words.specs.Standings.{standing_of, tail_of}
use Rattle.region_words.proofs.RowsStand.{header_shown}
use Rattle.region_words.proofs.ShortRows.{confirms, crc_nothing}
use Rattle.region_words.proofs.StorableRows.{read_below}
use Rattle.region_words.proofs.View.{view, seen_is, crc_of}
use Rattle.region_words.proofs.WordsSet.{Setting, set_to, set_all, AreWords, word-set_all}
use Rattle.region_words.proofs.Rewritten.{IsRead}

-- The image of this size is known as before, but for the sequence.
abbrev pub IsKnownAgain : Region → ℕ → ℕ → Region → Type 0
IsKnownAgain r sequence size t = ((record_of t).size ≡ size) × (standing_of t size ≡ record (standing_of r size) { sequence = sequence })

-- the payloads stand as they were, and a record is read so
known_again : (r : Region) (file : List ℕ) (stores : List Setting) (sequence size : ℕ) → drop 4 file ≡ drop 4 r.data_bytes → length file ≡ file_size r →
    AreWords (length r.meta_bytes) stores → IsRead r.meta_bytes stores sequence (record_of r).version size (flag r) →
    IsKnownAgain r sequence size (record { data_bytes = file; meta_bytes = set_all r.meta_bytes stores })
known_again r file stores sequence size same long are read =
    let words = λ (w : ℕ). word-set_all (length r.meta_bytes) r.meta_bytes stores refl are w in
    let sequence_now = words 2 ∙ read.sequence_is in
    let version_now = words 1 ∙ read.version_is in
    let flags : flag (record { data_bytes = file; meta_bytes = set_all r.meta_bytes stores }) ≡ flag r = (λ i. (words 26 i + 4294967296 * words 27 i) == 1) ∙ read.flag_is in (
      words 7 ∙ read.size_is,
      λ i. record {
        sequence = sequence_now i;
        version = version_now i;
        flag = flags i;
        size = size;
        checksum = crc (take size (same i));
        tail = tail_of (take size (same i)) size;
        file_size = long i;
      },
    )

-- a last confirmed image that is shown is the record's
pub last_stands : (r : Region) (n : ℕ) → shown r ≡ Last n → ((standing r).size ≡ (record_of r).last_size) × ((standing r).checksum ≡ (record_of r).last_checksum)
last_stands r n e =
    let c = (confirms (view r) n (sym (seen_is r) ∙ e)).1 in
    let size : (standing r).size ≡ (record_of r).last_size = ap (λ s. unwrap_or (size_of s) 0) (seen_is r ∙ c.seen_last) in
    (size, ap (λ z. crc (payload_of r z)) size ∙ crc_of (view r) (view r).last (view r).last_sum c.agrees)

-- after a restore
pub restore_leaves : (r : Region) (m : Map) (room : Option ℕ) (who : ℕ) → IsRegion r → MayBegin r m room Restore →
    let s = standing r in
    let t = after_all r (events_of r m who Restore) in
    ((record_of t).size ≡ s.size) × (standing_of t s.size ≡ record s { sequence = s.sequence + 1 })
unfolding events_of
restore_leaves r m room who is ((n, e), low) =
    let rec = record_of r in
    let inside : 112 ≤ length r.meta_bytes = omega (arith, is.meta_file.pages, is.meta_file.not_empty) in
    let four : 4 ≤ file_size r = omega (arith, is.data_file.pages, is.data_file.not_empty) in
    let size = read_below r.meta_bytes 8 is.meta_file.small in
    let sum = read_below r.meta_bytes 9 is.meta_file.small in
    let file = with_word r.data_bytes 0 rec.last_size in
    let stores = set_to 2 (rec.sequence + 1) ∷ set_to 7 rec.last_size ∷ set_to 0 rec.last_checksum ∷ [] in
    let left : IsKnownAgain r (rec.sequence + 1) rec.last_size (record { data_bytes = file; meta_bytes = set_all r.meta_bytes stores }) =
    known_again r file stores (rec.sequence + 1) rec.last_size refl (length-with_word r.data_bytes 0 rec.last_size (omega (arith, four)))
    (omega (arith, inside), omega (arith, low), (omega (arith, inside), size, (omega (arith, inside), sum, tt)))
    (record { sequence_is = refl; version_is = refl; size_is = refl; flag_is = refl }) in
    subst (λ z. IsKnownAgain r (rec.sequence + 1) z (record { data_bytes = file; meta_bytes = set_all r.meta_bytes stores })) (sym (last_stands r n e).0) left

-- after a discard
pub discard_leaves : (r : Region) (m : Map) (room : Option ℕ) (who : ℕ) → IsRegion r → MayBegin r m room Discard →
    let s = standing r in
    let t = after_all r (events_of r m who Discard) in
    ((record_of t).size ≡ 0) × (standing_of t 0 ≡ record s { sequence = s.sequence + 1; size = 0; checksum = 0; tail = 0 })
unfolding events_of
discard_leaves r m room who is ((d, e), low) =
    let rec = record_of r in
    let inside : 112 ≤ length r.meta_bytes = omega (arith, is.meta_file.pages, is.meta_file.not_empty) in
    let four : 4 ≤ file_size r = omega (arith, is.data_file.pages, is.data_file.not_empty) in
    let file = with_word r.data_bytes 0 0 in
    let stores = set_to 2 (rec.sequence + 1) ∷ set_to 7 0 ∷ set_to 0 0 ∷ set_to 8 0 ∷ set_to 9 0 ∷ [] in
    let left : IsKnownAgain r (rec.sequence + 1) 0 (record { data_bytes = file; meta_bytes = set_all r.meta_bytes stores }) =
    known_again r file stores (rec.sequence + 1) 0 refl (length-with_word r.data_bytes 0 0 (omega (arith, four)))
    (omega (arith, inside), omega (arith, low), (omega (arith, inside), omega arith, (omega (arith, inside), omega arith, (omega (arith, inside), omega arith, (omega (arith, inside), omega arith, tt)))))
    (record { sequence_is = refl; version_is = refl; size_is = refl; flag_is = refl }) in
    (left.0, left.1 ∙ (λ i. record (standing r) { sequence = rec.sequence + 1; size = 0; checksum = crc_nothing i; tail = 0 }))

-- after a repair of the size
pub size_repair_leaves : (r : Region) (m : Map) (room : Option ℕ) (who : ℕ) → IsRegion r → MayBegin r m room SizeRepair →
    let s = standing r in
    let t = after_all r (events_of r m who SizeRepair) in
    ((record_of t).size ≡ s.size) × (standing_of t s.size ≡ s)
unfolding events_of
size_repair_leaves r m room who is (n, e) =
    let inside : 112 ≤ length r.meta_bytes = omega (arith, is.meta_file.pages, is.meta_file.not_empty) in
    let size : (standing r).size ≡ header r = ap (λ s. unwrap_or (size_of s) 0) e ∙ (header_shown r n e).0 in
    let small : (standing r).size < 2 ^ 32 = omega (arith, size, read_below r.data_bytes 0 is.data_file.small) in
    known_again r r.data_bytes (set_to 7 (standing r).size ∷ []) (record_of r).sequence (standing r).size refl refl (omega (arith, inside), small, tt)
    (record { sequence_is = refl; version_is = refl; size_is = refl; flag_is = refl })
