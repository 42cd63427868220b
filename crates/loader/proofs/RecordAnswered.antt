-- What the first words of a partial load tell of their region.
use Rattle.std.proofs.Common.{◌≡◌, ℕ, zero, suc, ◌+◌, ◌<◌, ◌≤◌, length, sym, ap, ◌∙◌, arith, get_or-take}
use Rattle.std.specs.Prelude.{slice_index, slice_set, slice_index_or}
use Rattle.std.proofs.Math.Seq.{take-suc-set, take-suc}
use Rattle.region_words.specs.Region.{Region, record_of}
use Rattle.loader.specs.PartialLoads.{AreRecordWords, record_words}
use Rattle.loader.specs.declared.record_words.RecordWords.{RecordWords}
use Rattle.loader.specs.declared.record_words.TheConstants.{PLACES}

-- with the next answer they are the region's still
pub record_word_more : (w : RecordWords) (r : Region) (value : ℕ) → w.made < 3 → length w.answers ≡ 3 → AreRecordWords w r → value ≡ slice_index (record_words r) w.made →
    AreRecordWords (record { answers = slice_set w.answers w.made value; made = w.made + 1 }) r
record_word_more w r value few long a is =
    let stored = take-suc-set w.answers w.made value (omega (arith, few, long)) in
    let region = take-suc (record_words r) w.made 0 (omega (arith, few)) in
    record { same = grind (arith, stored, region, is, a.same) }

-- the words lie on the first page
pub record_place_small : (i : ℕ) → slice_index_or {A = ℕ} PLACES i 0 < 1024
record_place_small zero = omega arith
record_place_small (suc zero) = omega arith
record_place_small (suc (suc zero)) = omega arith
record_place_small (suc (suc (suc i))) = omega arith

module _ (w : RecordWords) (r : Region) (made : 3 ≤ w.made) (a : AreRecordWords w r) where
  answer-is : (i : ℕ) → i < 3 → slice_index w.answers i ≡ slice_index (record_words r) i
  answer-is i lt =
      let within : i < w.made = omega (arith, made, lt) in
      sym (get_or-take w.made w.answers i 0 within) ∙ ap (λ l. slice_index l i) a.same ∙ get_or-take w.made (record_words r) i 0 within

  pub checksum-is : slice_index w.answers 0 ≡ (record_of r).checksum
  checksum-is = answer-is 0 (omega arith)

  pub sequence-is : slice_index w.answers 1 ≡ (record_of r).sequence
  sequence-is = answer-is 1 (omega arith)

  pub record-size-is : slice_index w.answers 2 ≡ (record_of r).size
  record-size-is = answer-is 2 (omega arith)
