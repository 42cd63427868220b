-- The size to which a rewrite grows the file has room, and is one that a file may have.
use Rattle.std.proofs.Common.{◌≡◌, ℕ, zero, suc, ◌+◌, ◌*◌, ◌%◌, ◌<◌, ◌≤◌, Bool, true, false, cond, refl, arith}
use Rattle.std.specs.Prelude.{Some, None, Option, IsSome, nat_lt}
use Rattle.std.proofs.lemmas.Bool.Decides.{nat_tests}
use Rattle.kv_pairs.specs.Growth.{largest, doubled, spare, grown_size}

-- a size that holds what is needed, and that a file may have
pub record IsRoomy (needs size : ℕ) : Type 0 where
  pub room : needs ≤ size
  pub most : size ≤ largest
  pub pages : size % 4096 ≡ 0

doubled_roomy : (k wanted needs size : ℕ) → needs ≤ wanted → needs ≤ largest → size ≤ largest → size % 4096 ≡ 0 → IsRoomy needs (doubled k wanted size)
doubled_roomy zero wanted needs size w n most pages = record { room = n; most = omega arith; pages = refl }
doubled_roomy (suc k) wanted needs size w n most pages = one (nat_lt wanted size) refl (λ le. doubled_roomy k wanted needs (2 * size) w n le (omega (arith, pages)))
  where
    two : (b : Bool) → nat_lt largest (2 * size) ≡ b → (2 * size ≤ largest → IsRoomy needs (doubled k wanted (2 * size))) → IsRoomy needs (cond b largest (doubled k wanted (2 * size)))
    two true e more = record { room = n; most = omega arith; pages = refl }
    two false e more = more (grind (arith, nat_tests))

    one : (b : Bool) → nat_lt wanted size ≡ b → (2 * size ≤ largest → IsRoomy needs (doubled k wanted (2 * size))) →
        IsRoomy needs (cond b size (cond (nat_lt largest (2 * size)) largest (doubled k wanted (2 * size))))
    one true e more = let high : wanted < size = grind (arith, nat_tests) in record { room = omega (arith, high, w); most = most; pages = pages }
    one false e more = two (nat_lt largest (2 * size)) refl more

-- a size was found, and it is such a one
pub record IsFound (needs : ℕ) (size : Option ℕ) : Type 0 where
  pub wanted : ℕ
  pub is : size ≡ Some wanted
  pub roomy : IsRoomy needs wanted

pub grown_roomy : (packed need pairs file : ℕ) → file ≤ largest → file % 4096 ≡ 0 → IsSome (grown_size packed need pairs file) →
    IsFound (4 + packed + need) (grown_size packed need pairs file)
unfolding grown_size
grown_roomy packed need pairs file most pages some = go (nat_lt largest (4 + packed + need)) refl some
  where
    go : (b : Bool) → nat_lt largest (4 + packed + need) ≡ b →
        IsSome (cond b None (Some (doubled 14 (4 + packed + need + spare (4 + packed + need) pairs) file))) →
        IsFound (4 + packed + need) (cond b None (Some (doubled 14 (4 + packed + need + spare (4 + packed + need) pairs) file)))
    go true e h = absurd cc
    go false e h =
        record {
          wanted = doubled 14 (4 + packed + need + spare (4 + packed + need) pairs) file;
          is = refl;
          roomy = doubled_roomy 14 (4 + packed + need + spare (4 + packed + need) pairs) (4 + packed + need) file (omega arith) (grind (arith, nat_tests)) most pages;
        }
