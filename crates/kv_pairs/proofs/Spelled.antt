-- The bytes that a length takes spell it.
use Rattle.std.proofs.Common.{◌≡◌, ℕ, ◌<◌, ◌≤◌, true, List, length, take, drop, refl, sym, ap, ◌∙◌, arith, subst, length-append, length-drop}
use Rattle.std.specs.Prelude.{Some, nat_lt}
use Rattle.std.proofs.lemmas.Bool.Decides.{nat_tests}
use Rattle.std.proofs.lemmas.List.{take_at}
use Rattle.kv_pairs.specs.Lengths.{Spells}
use Rattle.kv_pairs.specs.Reading.{length_at, number_in}
use Rattle.kv_pairs.proofs.GrammarRead.{Small, length_ok}

pub front_spells : (bytes : List ℕ) (n size : ℕ) → Small bytes → size ≤ length bytes → length_at bytes ≡ Some (n, drop size bytes) → Spells (take size bytes) n
front_spells bytes n size s h e =
    let t = length_ok bytes n (drop size bytes) s e in
    let taken : length t.0 ≡ size = omega (arith, ap length t.2, length-append t.0 (drop size bytes), length-drop size bytes, h) in
    let text : take size bytes ≡ t.0 = ap (take size) t.2 ∙ take_at t.0 (drop size bytes) size taken in
    subst (λ z. Spells z n) (sym text) t.1

-- a number that is below 2 ^ 31 is a length
pub length_when : (bytes : List ℕ) (n : ℕ) (rest : List ℕ) → number_in 5 bytes ≡ Some (n, rest) → n < 2147483648 → length_at bytes ≡ Some (n, rest)
unfolding length_at
length_when bytes n rest e h =
    let small : nat_lt n 2147483648 ≡ true = grind (arith, nat_tests) in
    rw e (rw small refl)
