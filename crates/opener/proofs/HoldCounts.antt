-- What is to be done for one hold more or less says how many there are, where all that is counted is exclusive.
use Rattle.std.proofs.Common.{◌≡◌, ◌<◌, arith}
use Rattle.std.proofs.lemmas.Bool.Decides.{nat_tests}
use Rattle.lock_rules.specs.Counts.{Counts, ask_of, leave_of}
use Rattle.lock_rules.specs.declared.counts.Ask.TheVariants as ask
use Rattle.lock_rules.specs.declared.counts.Leave.TheVariants as leave
use Rattle.lock_rules.specs.declared.limits.TheConstants.{DEEPEST_COUNT}
use Rattle.lock_rules.specs.declared.table.LockKind.TheVariants.{Exclusive}

pub counted_some : (c : Counts) → ask_of c Exclusive ≡ ask.Counted → 0 < c.exclusive
counted_some c e = grind (arith, nat_tests, e)

pub taken_none : (c : Counts) → ask_of c Exclusive ≡ ask.Take → c.exclusive ≡ 0
taken_none c e = grind (arith, nat_tests, e)

pub never_upgrades : (c : Counts) → c.shared ≡ 0 → ask_of c Exclusive ≡ ask.GiveUpThenTake → ⊥
never_upgrades c none e = grind (arith, nat_tests, none, e)

pub never_too_deep : (c : Counts) → c.exclusive < DEEPEST_COUNT → ask_of c Exclusive ≡ ask.TooDeep → ⊥
never_too_deep c few e = grind (arith, nat_tests, few, e)

pub left_some : (c : Counts) → leave_of c Exclusive ≡ leave.Counted → 1 < c.exclusive
left_some c e = grind (arith, nat_tests, e)

pub left_none : (c : Counts) → leave_of c Exclusive ≡ leave.GiveUp → c.exclusive ≡ 1
left_none c e = grind (arith, nat_tests, e)

pub never_unheld : (c : Counts) → 0 < c.exclusive → leave_of c Exclusive ≡ leave.NotHeld → ⊥
never_unheld c some e = grind (arith, nat_tests, some, e)

pub never_goes_back : (c : Counts) → c.shared ≡ 0 → leave_of c Exclusive ≡ leave.BackToShared → ⊥
never_goes_back c none e = grind (arith, nat_tests, none, e)
