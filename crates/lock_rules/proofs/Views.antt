-- What the fields of a table say of the locks that they stand for.
use Rattle.std.proofs.Common.{◌≡◌, ◌≢◌, inl, inr, ℕ, suc, ◌^◌, ◌<◌, ◌≤◌, true, false, refl, ap, sym, ◌∙◌, arith, lit<}
use Rattle.std.specs.Prelude.{Option, Some, None, IfSome, IfNone}
use Rattle.std.specs.Ordering.{nat_cmp}
use Rattle.std.specs.FinSet as set
use Rattle.std.specs.Int.{bit_at}
use Rattle.std.proofs.lemmas.Nat.Bits.{bit_at-zero, bit_at-lt, same_from_bits_below}
use Rattle.std.proofs.lemmas.Bool.Decides.{nat_tests}
use Rattle.lock_rules.specs.Locks.{Locks, IsSound, holds, MayTake, IsLeastAgainst}
use Rattle.lock_rules.specs.Holders.{AreHolders, holders_of, IsApart}
use Rattle.lock_rules.specs.declared.table.LockKind.{LockKind}
use Rattle.lock_rules.specs.declared.table.LockKind.TheVariants.{Shared, Exclusive}
use Rattle.lock_rules.proofs.Holding.{holder_is, is_holder, holders_of-none}

-- the locks that these fields stand for
abbrev pub seen : ℕ → Option ℕ → Locks
seen bits exclusive = record { shared = holders_of bits; exclusive = exclusive }

pub seen_sound : (bits : ℕ) (exclusive : Option ℕ) → IsApart bits exclusive → IsSound (seen bits exclusive)
unfolding IsSound
seen_sound bits None apart = inl refl
seen_sound bits (Some h) apart = inr (λ q. ap (λ s. set.contains s q) (ap holders_of apart.1.2 ∙ holders_of-none) ∙ set.contains-empty nat_cmp q)

pub seen_within : (bits : ℕ) (exclusive : Option ℕ) → IsApart bits exclusive → AreHolders (seen bits exclusive)
unfolding AreHolders
seen_within bits None apart = λ q held. let is = holder_is bits q held in (is.0, is.1)
seen_within bits (Some h) apart = λ q held.
    let free : set.contains (holders_of bits) q ≡ false = ap (λ s. set.contains s q) (ap holders_of apart.1.2 ∙ holders_of-none) ∙ set.contains-empty nat_cmp q in
    let same : h ≡ q = grind (arith, nat_tests, held, free) in
    (omega (arith, apart.1.0, same), omega (arith, apart.1.1, same))

-- the fields stay apart where shared bits go
pub apart_fewer : (old new : ℕ) (exclusive : Option ℕ) → IsApart old exclusive → new < 2 ^ 64 → (old ≡ 0 → new ≡ 0) → IsApart new exclusive
apart_fewer old new None apart fits fewer = (fits, tt)
apart_fewer old new (Some h) apart fits fewer = (fits, (apart.1.0, apart.1.1, fewer apart.1.2))

-- an exclusive holder stands against every try, alone
pub by_exclusive : (bits : ℕ) (exclusive : Option ℕ) (kind : LockKind) → IsApart bits exclusive → IfSome exclusive (λ h. (who : ℕ) → holds (seen bits exclusive) who ≡ false → IsLeastAgainst (seen bits exclusive) who kind h)
by_exclusive bits None kind apart = tt
by_exclusive bits (Some h) kind apart = λ who free.
    let other : h ≢ who = (λ e. absurd (grind (arith, nat_tests, free, e))) in
    let none : (q : ℕ) → set.contains (holders_of bits) q ≡ false = (λ q. ap (λ s. set.contains s q) (ap holders_of apart.1.2 ∙ holders_of-none) ∙ set.contains-empty nat_cmp q) in
    go kind who other none
  where
    go : (kind : LockKind) (who : ℕ) → h ≢ who → ((q : ℕ) → set.contains (holders_of bits) q ≡ false) → IsLeastAgainst (seen bits (Some h)) who kind h
    go Shared who other none = record {
      against = (other, grind (arith, nat_tests));
      least = λ q against. grind (arith, nat_tests, against.1);
    }
    go Exclusive who other none = record {
      against = (other, grind (arith, nat_tests));
      least = λ q against. grind (arith, nat_tests, against.1, none q);
    }

pub by_nobody : (bits : ℕ) (exclusive : Option ℕ) (kind : LockKind) → (kind ≡ Exclusive → bits ≡ 0) → IfNone exclusive ((who : ℕ) → holds (seen bits exclusive) who ≡ false → MayTake (seen bits exclusive) who kind)
by_nobody bits None Shared empty = λ who free. (free, refl)
by_nobody bits None Exclusive empty = λ who free. (ap holders_of (empty refl) ∙ holders_of-none, refl)
by_nobody bits (Some h) kind empty = tt

pub by_shared : (bits : ℕ) (exclusive : Option ℕ) (h : ℕ) → IsApart bits exclusive → 0 < bits → set.contains (holders_of bits) h ≡ true → ((other : ℕ) → set.contains (holders_of bits) other ≡ true → h ≤ other) → (who : ℕ) → holds (seen bits exclusive) who ≡ false → IsLeastAgainst (seen bits exclusive) who Exclusive h
by_shared bits (Some e) h apart some held least who free = absurd (omega (arith, apart.1.2, some))
by_shared bits None h apart some held least who free = record {
  against = ((λ e. absurd (grind (arith, nat_tests, free, held, ap (λ q. set.contains (holders_of bits) q) e))), grind (arith, nat_tests, held));
  least = λ q against. least q (grind (arith, nat_tests, against.1));
}

-- bits that stand for nobody are none
pub no_bits : (bits : ℕ) → bits < 2 ^ 64 → holders_of bits ≡ set.empty {K = ℕ} {R = nat_cmp} → bits ≡ 0
no_bits bits fits e = same_from_bits_below 64 bits 0 fits (lit< tt) (λ i h. clear i h ∙ sym (bit_at-zero i))
  where
    clear : (i : ℕ) → i < 64 → bit_at bits i ≡ 0
    clear i h =
        let free : set.contains (holders_of bits) (suc i) ≡ false = ap (λ s. set.contains s (suc i)) e ∙ set.contains-empty nat_cmp (suc i) in
        let not_one : bit_at bits i ≢ 1 = (λ one. absurd cc (is_holder bits i h one, free)) in
        omega (arith, bit_at-lt bits i, not_one)

-- what a try that may take says of the table
pub none_exclusive : (locks : Locks) (who : ℕ) (kind : LockKind) → MayTake locks who kind → locks.exclusive ≡ None
none_exclusive locks who Shared may = may.1
none_exclusive locks who Exclusive may = may.1

pub none_shared : (locks : Locks) (who : ℕ) (kind : LockKind) → kind ≡ Exclusive → MayTake locks who kind → locks.shared ≡ set.empty
none_shared locks who Shared e may = absurd cc
none_shared locks who Exclusive e may = may.0

pub apart_alone : (bits : ℕ) (exclusive : Option ℕ) → bits < 2 ^ 64 → exclusive ≡ None → IsApart bits exclusive
apart_alone bits None fits e = (fits, tt)
apart_alone bits (Some h) fits e = absurd cc
