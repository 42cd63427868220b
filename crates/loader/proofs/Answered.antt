-- What the answers of the first loads tell of their region.
use Rattle.std.proofs.Common.{◌≡◌, ℕ, zero, suc, ◌+◌, ◌*◌, ◌<◌, List, [], ◌∷◌, length, refl, sym, subst, ap, ◌∙◌, arith, get_or-take}
use Rattle.std.specs.Prelude.{IsOk, slice_index, slice_set, slice_index_or, ◌==◌}
use Rattle.std.proofs.Math.Seq.{take-suc-set, take-suc}
use Rattle.crc_words.specs.Crc.{crc}
use Rattle.meta_record.specs.Records.{checked}
use Rattle.region_words.specs.Region.{Region, IsAccepted, header, record_of, file_size, payload_of}
use Rattle.region_words.specs.Standings.{standing_of, tail_of}
use Rattle.loader.specs.FirstWords.{AreFirst, HasAccepted, first_answers, record_in, header_in, size_in, standing_in}
use Rattle.region_words.specs.declared.event.Side.{Side}
use Rattle.region_words.specs.declared.event.Side.TheVariants.{Data}
use Rattle.loader.specs.declared.first_words.FirstWords.{FirstWords}
use Rattle.loader.specs.declared.first_words.TheConstants.{PLACES}

-- each answer so far is the region's
pub answer-is : (f : FirstWords) (r : Region) → AreFirst f r → (i : ℕ) → i < f.made → slice_index f.answers i ≡ slice_index (first_answers r) i
answer-is f r a i lt = sym (get_or-take f.made f.answers i 0 lt) ∙ ap (λ l. slice_index l i) a.same ∙ get_or-take f.made (first_answers r) i 0 lt

pub size-is : (f : FirstWords) (r : Region) → AreFirst f r → 0 < f.made → size_in f ≡ file_size r
size-is f r a some = answer-is f r a 0 some

module _ (f : FirstWords) (r : Region) (made : f.made ≡ 10) (a : AreFirst f r) where
  at : (i : ℕ) → i < 10 → slice_index f.answers i ≡ slice_index (first_answers r) i
  at i lt = answer-is f r a i (omega (arith, made, lt))

  pub record-is : record_in f ≡ record_of r
  record-is =
      let version = at 1 (omega arith) in
      let low = at 2 (omega arith) in
      let high = at 3 (omega arith) in
      let checksum = at 4 (omega arith) in
      let sequence = at 5 (omega arith) in
      let size = at 6 (omega arith) in
      let last_size = at 7 (omega arith) in
      let last_checksum = at 8 (omega arith) in
      λ k. record {
        version = version k;
        flags = low k + 4294967296 * high k;
        checksum = checksum k;
        sequence = sequence k;
        size = size k;
        last_size = last_size k;
        last_checksum = last_checksum k;
      }

  pub header-is : header_in f ≡ header r
  header-is = at 9 (omega arith)

  pub accepted-is : HasAccepted f → IsAccepted r
  accepted-is ok = subst (λ z. IsOk (checked z (header r))) record-is (subst (λ h. IsOk (checked (record_in f) h)) header-is (subst IsOk (sym ok) refl))

  pub standing-is : (payload : List ℕ) (checksum : ℕ) (n : ℕ) → payload ≡ payload_of r n → length payload ≡ n → checksum ≡ crc (payload_of r n) →
      standing_in f payload checksum ≡ standing_of r n
  standing-is payload checksum n bytes long sum =
      let file = size-is f r a (omega (arith, made)) in
      let tail : tail_of payload (length payload) ≡ tail_of (payload_of r n) n = λ k. tail_of (bytes k) (long k) in
      λ k. record {
        sequence = (record-is k).sequence;
        version = (record-is k).version;
        flag = (record-is k).flags == 1;
        size = long k;
        checksum = sum k;
        tail = tail k;
        file_size = file k;
      }

-- with the next answer they are the region's still
pub first_more : (f : FirstWords) (r : Region) (value : ℕ) → f.made < 10 → length f.answers ≡ 10 → AreFirst f r → value ≡ slice_index (first_answers r) f.made →
    AreFirst (record { answers = slice_set f.answers f.made value; made = f.made + 1 }) r
first_more f r value few long a is =
    let stored = take-suc-set f.answers f.made value (omega (arith, few, long)) in
    let region = take-suc (first_answers r) f.made 0 (omega (arith, few)) in
    record { same = grind (arith, stored, region, is, a.same) }

-- the words that are asked for first lie on the first page
pub place_small : (i : ℕ) → (slice_index_or {A = Side × ℕ} PLACES i (Data, 0)).1 < 1024
place_small zero = omega arith
place_small (suc zero) = omega arith
place_small (suc (suc zero)) = omega arith
place_small (suc (suc (suc zero))) = omega arith
place_small (suc (suc (suc (suc zero)))) = omega arith
place_small (suc (suc (suc (suc (suc zero))))) = omega arith
place_small (suc (suc (suc (suc (suc (suc zero)))))) = omega arith
place_small (suc (suc (suc (suc (suc (suc (suc zero))))))) = omega arith
place_small (suc (suc (suc (suc (suc (suc (suc (suc i)))))))) = go i
  where
    go : (i : ℕ) → (slice_index_or {A = Side × ℕ} ((Data, 0) ∷ []) i (Data, 0)).1 < 1024
    go zero = omega arith
    go (suc i) = omega arith
