-- A region of two files in which nothing has happened.
use Rattle.std.proofs.Common.{◌≡◌, ℕ, zero, suc, ◌-◌, ◌%◌, ◌<◌, ◌≤◌, Bool, true, false, List, [], length, replicate, refl, sym, subst, ap, ◌∙◌, arith, length-append}
use Rattle.std.specs.Prelude.{None, Some, All, max, nat_lt, if◌then◌else◌}
use Rattle.std.proofs.lemmas.List.{length-replicate}
use Rattle.std.proofs.lemmas.Bool.Decides.{nat_tests}
use Rattle.lock_rules.specs.Locks.{unlocked}
use Rattle.region_words.specs.Region.{IsFile}
use Rattle.region_words.specs.Stores.{filled_up, whole_pages}
use Rattle.region_words.specs.Local.{IsAccount, Keeps, opening, account_of, no_account, kept_in}
use Rattle.region_words.specs.Opening.{size_over}
use Rattle.region_words.specs.declared.account.Account.{Account}
use Rattle.region_words.proofs.Totals.{total_none}
use Rattle.region_words.proofs.LockOf.{lock_at_first}

-- an account in a list of new ones
new_account : (n w : ℕ) → account_of (replicate n no_account) w ≡ no_account
new_account zero w = refl
new_account (suc n) zero = refl
new_account (suc n) (suc w) = new_account n w

above : (n m : ℕ) → n ≤ max m n
above n m = omega arith

pages_of : (n : ℕ) → (whole_pages n % 4096 ≡ 0) × (n ≤ whole_pages n) × (0 < whole_pages n)
pages_of n = (omega arith, omega arith, omega arith)

length-filled : (bytes : List ℕ) → length (filled_up bytes) ≡ whole_pages (length bytes)
length-filled bytes =
    let p = pages_of (length bytes) in
    omega (arith, length-append bytes (replicate (whole_pages (length bytes) - length bytes) 0), length-replicate {A = ℕ} (whole_pages (length bytes) - length bytes) 0, p.1)

pub data_file : (bytes : List ℕ) → length bytes ≤ 67108864 → All (λ b. b < 256) (filled_up bytes) → IsFile (filled_up bytes) 67108864
data_file bytes few small =
    let len = length-filled bytes in
    let p = pages_of (length bytes) in
    record { pages = ap (λ n. n % 4096) len ∙ p.0; not_empty = omega (arith, len, p.2); most = omega (arith, len, few); small = small }

pub meta_file : (bytes : List ℕ) → length bytes ≤ 65536 → All (λ b. b < 256) (filled_up bytes) → IsFile (filled_up bytes) 65536
meta_file bytes few small =
    let len = length-filled bytes in
    let p = pages_of (length bytes) in
    record { pages = ap (λ n. n % 4096) len ∙ p.0; not_empty = omega (arith, len, p.2); most = omega (arith, len, few); small = small }

-- sizes that aren't refused
pub sizes_fit : (body meta : List ℕ) → size_over body meta ≡ None → (length body ≤ 67108864) × (length meta ≤ 65536)
sizes_fit body meta e = go (nat_lt 67108864 (length body)) refl (nat_lt 65536 (length meta)) refl e
  where
    go : (a : Bool) → nat_lt 67108864 (length body) ≡ a → (b : Bool) → nat_lt 65536 (length meta) ≡ b →
        (if a then Some (length body) else (if b then Some (length meta) else None)) ≡ None → (length body ≤ 67108864) × (length meta ≤ 65536)
    go true p b q e = absurd cc
    go false p true q e = absurd cc
    go false p false q e = (grind (arith, nat_tests), grind (arith, nat_tests))

pub keeps_opening : (body meta : List ℕ) (places room : ℕ) → size_over body meta ≡ None → All (λ b. b < 256) (filled_up body) → All (λ b. b < 256) (filled_up meta) →
    Keeps (opening body meta) (filled_up body) (filled_up meta) unlocked 0 0 places room
keeps_opening body meta places room fits small_body small_meta =
    let sizes = sizes_fit body meta fits in
    let none : (w : ℕ) → (account_of (replicate 65 no_account) w).kept ≡ 0 = λ w. ap (λ (a : Account). a.kept) (new_account 65 w) in
    let sum : kept_in (replicate 65 no_account) ≡ 0 = total_none (λ w. (account_of (replicate 65 no_account) w).kept) 64 none in
    record {
      good = record {
        region = record { data_file = data_file body sizes.0 small_body; meta_file = meta_file meta sizes.1 small_meta };
        lawful = tt;
        accounts = refl;
        each = λ w. subst (IsAccount [] w) (sym (new_account 65 w)) (at_first w);
        few = omega (arith, sum);
      };
      data_is = refl;
      meta_is = refl;
      locks_are = refl;
      kept_is = sym sum;
      changes_are = refl;
      places_for_all = omega arith;
      room_for_each = λ w. let r = ap (λ (a : Account). a.room) (new_account 65 w) in omega (arith, r);
    }
  where
    at_first : (w : ℕ) → IsAccount [] w no_account
    at_first w =
        let free = lock_at_first w in
        record {
          lives = refl;
          fresh = λ n. refl;
          unlocks = λ p. absurd (omega (arith, p));
          idle = λ p. free;
          unreserved = λ n. (omega arith, refl);
        }
