-- The payloads of some sizes, and which of them an event leaves as they were.
use Rattle.std.proofs.Common.{◌≡◌, ◌⊎◌, ℕ, zero, suc, ◌+◌, ◌-◌, ◌*◌, ◌<◌, ◌≤◌, Bool, true, false, List, [], ◌∷◌, ◌++◌, length, refl, sym, ap, ◌∙◌, inl, inr, arith}
use Rattle.std.specs.Prelude.{Some, None, nat_le, ◌==◌, slice_index}
use Rattle.std.proofs.lemmas.Bool.Decides.{nat_tests}
use Rattle.crc_words.specs.Crc.{crc}
use Rattle.meta_record.specs.Words.{fits, with_word}
use Rattle.meta_record.proofs.WordLemmas.{length-with_word, above_word, below_word}
use Rattle.region_words.specs.Region.{Region, header, record_of, payload_of}
use Rattle.region_words.specs.Apart.{payloads_of, recorded_payloads}
use Rattle.region_words.specs.declared.event.Side.TheVariants.{Data, Meta}
use Rattle.region_words.specs.declared.event.What.{What}
use Rattle.region_words.specs.declared.event.What.TheVariants.{Store, Grow, Lock, Unlock, Died}
use Rattle.region_words.proofs.WordsRead.{same_payload}
use Rattle.death_model.specs.FilesInside.{IsStepTo, payload_at}
use Rattle.death_model.specs.SeenInside.{lies_in, summed, touches}

pub at_fits : (r : Region) (z : ℕ) → fits r.data_bytes z ≡ true → payload_at r z ≡ payload_of r z ∷ []
at_fits r z e = rw e refl

pub at_none : (r : Region) (z : ℕ) → fits r.data_bytes z ≡ false → payload_at r z ≡ []
at_none r z e = rw e refl

pub payloads_more : (r : Region) (z : ℕ) (sizes : List ℕ) → payloads_of r (z ∷ sizes) ≡ payload_at r z ++ payloads_of r sizes
payloads_more r z sizes = go (fits r.data_bytes z) refl
  where
    go : (b : Bool) → fits r.data_bytes z ≡ b → payloads_of r (z ∷ sizes) ≡ payload_at r z ++ payloads_of r sizes
    go true e = rw e refl
    go false e = rw e refl

-- the payloads of the three sizes, one after another
pub recorded_are : (r : Region) → recorded_payloads r ≡ payload_at r (header r) ++ (payload_at r (record_of r).size ++ payload_at r (record_of r).last_size)
recorded_are r =
    payloads_more r (header r) ((record_of r).size ∷ (record_of r).last_size ∷ []) ∙ ap (λ l. payload_at r (header r) ++ l) (payloads_more r (record_of r).size ((record_of r).last_size ∷ []))

-- a word that isn't of the payload leaves it as it was
stored_outside : (file : List ℕ) (meta : List ℕ) (word value z : ℕ) → 4 * word + 4 ≤ length file → lies_in word z ≡ false →
    payload_at (record { data_bytes = with_word file word value; meta_bytes = meta }) z ≡ payload_at (record { data_bytes = file; meta_bytes = meta }) z
stored_outside file meta word value z inside out = go (nat_le (4 + z) (length file)) refl
  where
    same_size : length (with_word file word value) ≡ length file
    same_size = length-with_word file word value inside

    apart : (w : ℕ) → lies_in w z ≡ false → (i : ℕ) → i < z → (4 * w + 4 ≤ 4 + i) ⊎ (4 + i < 4 * w)
    apart zero e i lt = inl (omega arith)
    apart (suc w) e i lt = let low : z ≤ 4 * (suc w - 1) = grind (arith, nat_tests) in inr (omega (arith, low, lt))

    same : (i : ℕ) → i < z → slice_index (with_word file word value) (4 + i) ≡ slice_index file (4 + i)
    same i lt = elim (apart word out i lt) [ inl h ↦ above_word file word value inside (4 + i) h | inr h ↦ below_word file word value inside (4 + i) h ]

    go : (b : Bool) → nat_le (4 + z) (length file) ≡ b →
        payload_at (record { data_bytes = with_word file word value; meta_bytes = meta }) z ≡ payload_at (record { data_bytes = file; meta_bytes = meta }) z
    go true e =
        let long : 4 + z ≤ length file = grind (arith, nat_tests) in
        at_fits (record { data_bytes = with_word file word value; meta_bytes = meta }) z (ap (nat_le (4 + z)) same_size ∙ e)
        ∙ ap (λ p. p ∷ []) (same_payload file (with_word file word value) z long (omega (arith, same_size)) same) ∙ sym (at_fits (record { data_bytes = file; meta_bytes = meta }) z e)
    go false e =
        at_none (record { data_bytes = with_word file word value; meta_bytes = meta }) z (ap (nat_le (4 + z)) same_size ∙ e) ∙ sym (at_none (record { data_bytes = file; meta_bytes = meta }) z e)

-- what an event doesn't touch it leaves as it was
pub left_alone : (r t : Region) (what : What) (z : ℕ) → IsStepTo r what t → touches what z ≡ false → payload_at t z ≡ payload_at r z
left_alone r t (Store Data word value mark) z s e = ap (λ x. payload_at x z) s.after_is ∙ stored_outside r.data_bytes r.meta_bytes word value z s.in_range e
left_alone r t (Store Meta word value mark) z s e = ap (λ x. payload_at x z) s.after_is
left_alone r t (Grow size) z s e = absurd cc
left_alone r t (Lock kind) z s e = ap (λ x. payload_at x z) s.after_is
left_alone r t Unlock z s e = ap (λ x. payload_at x z) s.after_is
left_alone r t (Died None) z s e = ap (λ x. payload_at x z) s.after_is
left_alone r t (Died (Some torn)) z s e = ap (λ x. payload_at x z) s.after_is ∙ stored_outside r.data_bytes r.meta_bytes torn.word torn.value z s.in_range e

same_sum : (a b : ℕ) → a ≡ b → (a == b) ≡ true
same_sum a b e = grind (arith, nat_tests)

-- the payload of a size that fits and has this checksum
pub summed_one : (r : Region) (c z : ℕ) → fits r.data_bytes z ≡ true → crc (payload_of r z) ≡ c → summed r c (z ∷ []) ≡ payload_of r z ∷ []
summed_one r c z e s = rw e (rw (same_sum (crc (payload_of r z)) c s) refl)
