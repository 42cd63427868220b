use Rattle.std.proofs.Common.{◌≡◌, ℕ, suc, ◌-◌, ◌<◌, ◌≤◌, ◌∙◌, ap, arith}
use Rattle.std.specs.Int.{w64}
use Rattle.std.specs.FinSet as set
use Rattle.std.proofs.lemmas.Nat.Bits.{bit_at_clear_same, bit_at_clear_other}
use Rattle.lock_rules.specs.Holders.{holders_of}
use Rattle.lock_rules.proofs.Holding.{holders_of-clear, not_held-remove, out_of_range}
use Rattle.lock_rules.proofs.table.without_bit.Goals as goal
use Rattle.lock_rules.proofs.table.without_bit.Goals.{else-who-ge1-via-then-who-ge1+else-who-le-MOST_OPENERS, else-who-ge1-via-else-who-ge1}

pub returns-then-who-le-MOST_OPENERS-clause-after : goal.returns-then-who-le-MOST_OPENERS-clause-after
returns-then-who-le-MOST_OPENERS-clause-after c =
    let within : c.args.who - 1 < 64 = omega arith in
    let e : suc (c.args.who - 1) ≡ c.args.who = omega arith in
    holders_of-clear _ c.args.bits (c.args.who - 1) (bit_at_clear_same w64 c.args.bits (c.args.who - 1) within) (λ i b n. bit_at_clear_other w64 c.args.bits (c.args.who - 1) within i b n)
    ∙ ap (λ (w : ℕ). set.remove (holders_of c.args.bits) w) e

pub returns-else-who-ge1-clause-after : goal.returns-else-who-ge1-clause-after
returns-else-who-ge1-clause-after c =
    let beyond : 1 ≤ c.args.who → c.args.who ≤ 64 → ⊥ =
    λ low high. elim c.else-who-ge1.branch [ else-who-ge1-via-then-who-ge1+else-who-le-MOST_OPENERS w ↦ absurd (omega (arith, w.if-who-le-MOST_OPENERS.false)) | else-who-ge1-via-else-who-ge1 w ↦ absurd (omega (arith, w.if-who-ge1.false)) ] in
    not_held-remove (holders_of c.args.bits) c.args.who (out_of_range c.args.bits c.args.who beyond)
