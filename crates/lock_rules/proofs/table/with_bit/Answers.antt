use Rattle.std.proofs.Common.{◌≡◌, ℕ, suc, ◌-◌, ◌<◌, ◌∙◌, ap, arith}
use Rattle.std.specs.Int.{w64}
use Rattle.std.specs.FinSet as set
use Rattle.std.proofs.lemmas.Nat.Bits.{bit_at_set_same, bit_at_set_other}
use Rattle.lock_rules.specs.Holders.{holders_of}
use Rattle.lock_rules.proofs.Holding.{holders_of-set}
use Rattle.lock_rules.proofs.table.with_bit.Goals as goal

pub returns : goal.returns
returns c =
    let within : c.args.who - 1 < 64 = omega arith in
    let e : suc (c.args.who - 1) ≡ c.args.who = omega arith in
    holders_of-set _ c.args.bits (c.args.who - 1) within (bit_at_set_same w64 c.args.bits (c.args.who - 1) within) (λ i _ n. bit_at_set_other w64 c.args.bits (c.args.who - 1) within i n)
    ∙ ap (λ (w : ℕ). set.insert (holders_of c.args.bits) w) e
