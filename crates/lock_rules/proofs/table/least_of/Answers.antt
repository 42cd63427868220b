use Rattle.std.proofs.Common.{◌≡◌, ℕ, ◌+◌, ◌-◌, ◌<◌, ◌≤◌, arith, add-one}
use Rattle.std.specs.Int.{w64, trailing_zeros, bit_at}
use Rattle.std.proofs.lemmas.Nat.Bits.{bit_at-trailing_zeros}
use Rattle.lock_rules.proofs.Holding.{holder_is, is_holder}
use Rattle.lock_rules.proofs.table.least_of.Goals as goal

least_place : (k h : ℕ) (bit : ℕ → ℕ) → ((i : ℕ) → i < k → bit i ≡ 0) → 1 ≤ h → bit (h - 1) ≡ 1 → k + 1 ≤ h
least_place k h bit none low one = grind (arith, none (h - 1), low, one)

pub returns-clause-held : goal.returns-clause-held
returns-clause-held c =
    let found = bit_at-trailing_zeros w64 c.args.bits c.requires c.ranges.bits.fits in
    rw add-one (is_holder c.args.bits (trailing_zeros w64 c.args.bits) found.0 found.1)

pub returns-clause-least : goal.returns-clause-least
returns-clause-least c = λ h held.
    let found = bit_at-trailing_zeros w64 c.args.bits c.requires c.ranges.bits.fits in
    let is = holder_is c.args.bits h held in
    least_place (trailing_zeros w64 c.args.bits) h (bit_at c.args.bits) found.2 is.0 is.2
