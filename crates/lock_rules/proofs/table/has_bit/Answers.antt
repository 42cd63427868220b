use Rattle.std.proofs.Common.{◌≡◌, ℕ, suc, true, ◌-◌, ◌≤◌, ◌∙◌, ap, sym, arith}
use Rattle.std.specs.Prelude.{◌==◌, ◌&&◌, nat_lt}
use Rattle.std.specs.Int.{bit_at}
use Rattle.std.specs.FinSet as set
use Rattle.std.proofs.lemmas.Bool.Decides.{nat_tests}
use Rattle.std.proofs.lemmas.Nat.Bits.{shr_and_one}
use Rattle.lock_rules.specs.Holders.{holders_of}
use Rattle.lock_rules.proofs.Holding.{contains-holders_of, out_of_range}
use Rattle.lock_rules.proofs.table.has_bit.Goals as goal
use Rattle.lock_rules.proofs.table.has_bit.Goals.{else-who-ge1-via-then-who-ge1+else-who-le-MOST_OPENERS, else-who-ge1-via-else-who-ge1}

pub returns-then-who-le-MOST_OPENERS : goal.returns-then-who-le-MOST_OPENERS
returns-then-who-le-MOST_OPENERS c =
    let e : suc (c.args.who - 1) ≡ c.args.who = omega arith in
    let within : nat_lt (c.args.who - 1) 64 ≡ true = grind (arith, nat_tests) in
    ap (λ b. b == 1) (shr_and_one c.args.bits (c.args.who - 1))
    ∙ sym (contains-holders_of c.args.bits (c.args.who - 1) ∙ ap (λ t. t && (bit_at c.args.bits (c.args.who - 1) == 1)) within)
    ∙ ap (λ (w : ℕ). set.contains (holders_of c.args.bits) w) e

pub returns-else-who-ge1 : goal.returns-else-who-ge1
returns-else-who-ge1 c =
    let beyond : 1 ≤ c.args.who → c.args.who ≤ 64 → ⊥ =
    λ low high. elim c.else-who-ge1.branch [ else-who-ge1-via-then-who-ge1+else-who-le-MOST_OPENERS w ↦ absurd (omega (arith, w.if-who-le-MOST_OPENERS.false)) | else-who-ge1-via-else-who-ge1 w ↦ absurd (omega (arith, w.if-who-ge1.false)) ] in
    sym (out_of_range c.args.bits c.args.who beyond)
