-- Checksums don't tell the payloads of the start apart.
use Rattle.std.proofs.Common.{◌≡◌, ℕ, ◌+◌, ◌≤◌, true, List, [], ◌∷◌, length, refl, arith, subst}
use Rattle.std.proofs.lemmas.Bool.Decides.{nat_tests}
use Rattle.crc_words.specs.Crc.{crc}
use Rattle.meta_record.specs.Words.{fits}
use Rattle.region_words.specs.Region.{Region}
use Rattle.region_words.specs.Apart.{Apart}
use Rattle.region_words.proofs.Strings.{strings_hold}
use Rattle.stores_bench.specs.Start.{started, lock, IsStart}

fits_in : (body : List ℕ) (n : ℕ) → 4 + n ≤ length body → fits body n ≡ true
fits_in body n h = grind (arith, nat_tests)

-- the payload of the record's size
abbrev four : List ℕ
four = 0x9d ∷ 0x0a ∷ 0xd9 ∷ 0x6d ∷ []

not_told : (behind : List ℕ) → Apart (started behind) lock → [] ≡ four
unfolding crc
not_told behind apart =
    let body = (started behind).data_bytes in
    let among = strings_hold (started behind) lock in
    apart [] four (among.of_head (fits_in body 0 (omega arith))) (among.of_size (fits_in body 4 (omega arith))) refl

nothing : (x : ℕ) (xs : List ℕ) → [] ≡ x ∷ xs → ⊥
nothing x xs e = absurd cc

pub not_apart : (start : Region) → IsStart start → Apart start lock → ⊥
not_apart start (behind, is) apart = nothing 0x9d (0x0a ∷ 0xd9 ∷ 0x6d ∷ []) (not_told behind (subst (λ r. Apart r lock) is apart))
