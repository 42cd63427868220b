-- What was read to the end, or stopped before it.
use Rattle.std.proofs.Common.{◌≡◌, ℕ, ◌-◌, ◌<◌, false, List, [], length, refl, sym, ap, ◌∙◌, arith, subst}
use Rattle.std.specs.Prelude.{None, Result, Ok, Err, MatchResult, IfOk, IfErr, ◌==◌}
use Rattle.std.proofs.lemmas.Bool.Decides.{nat_tests}
use Rattle.kv_pairs.specs.Grammar.{Units, IsPayloadOf, IsGreedy, IsLongestRun}
use Rattle.kv_pairs.specs.Reading.{units_at, run_size, read_payload, items_of, greedy_items, greedy_size}
use Rattle.kv_pairs.specs.Found.{IfNotItems}
use Rattle.kv_pairs.specs.declared.item.Item.{Item}
use Rattle.kv_pairs.specs.declared.decode.ItemsStop.{ItemsStop}
use Rattle.kv_pairs.specs.declared.decode.ItemsStop.TheVariants.{NotItems}
use Rattle.kv_pairs.proofs.GrammarRead.{Small, pair_of, units_ok, read_payload_ok}
use Rattle.kv_pairs.proofs.Longest.{greedy_is_longest, run_is_longest, no_items, no_units}

abbrev pub Ends : Result (List Item) ItemsStop → List Item → List ℕ → ℕ → Type 0
Ends r done rest end =
    MatchResult r (λ items. (rest ≡ []) × (items ≡ done)) (λ e. (0 < length rest) × (e ≡ NotItems (end - length rest)))

pub payload_to_end : (r : Result (List Item) ItemsStop) (bytes : List ℕ) (done : List Item) (rest : List ℕ) (end : ℕ) → Small bytes →
    read_payload bytes ≡ pair_of done rest → Ends r done rest end → IfOk r (λ items. IsPayloadOf bytes items)
payload_to_end (Ok items) bytes done rest end s e m =
    subst (IsPayloadOf bytes) (sym m.1) (read_payload_ok bytes done s (e ∙ ap (λ z. pair_of done z) m.0))
payload_to_end (Err x) bytes done rest end s e m = tt

none_of : (bytes : List ℕ) (done : List Item) (rest : List ℕ) → read_payload bytes ≡ pair_of done rest → 0 < length rest → items_of bytes ≡ None
none_of bytes done rest e h =
    let some : (length rest == 0) ≡ false = grind (arith, nat_tests) in rw e (rw some refl)

pub payload_ends : (r : Result (List Item) ItemsStop) (bytes : List ℕ) (done : List Item) (rest : List ℕ) (end : ℕ) →
    read_payload bytes ≡ pair_of done rest → Ends r done rest end →
    IfErr r (λ e. IfNotItems e (λ at. items_of bytes ≡ None))
payload_ends (Ok items) bytes done rest end e m = tt
payload_ends (Err x) bytes done rest end e m = subst (λ z. IfNotItems z (λ at. items_of bytes ≡ None)) (sym m.1) (none_of bytes done rest e m.0)

pub payload_outside : (r : Result (List Item) ItemsStop) (bytes : List ℕ) (done : List Item) (rest : List ℕ) (end : ℕ) →
    read_payload bytes ≡ pair_of done rest → Ends r done rest end →
    IfErr r (λ e. IfNotItems e (λ at. (items : List Item) → IsPayloadOf bytes items → ⊥))
payload_outside (Ok items) bytes done rest end e m = tt
payload_outside (Err x) bytes done rest end e m =
    subst (λ z. IfNotItems z (λ at. (items : List Item) → IsPayloadOf bytes items → ⊥)) (sym m.1) (λ items p. no_items bytes items (none_of bytes done rest e m.0) p)

pub payload_greedy : (r : Result (List Item) ItemsStop) (bytes : List ℕ) (done : List Item) (rest : List ℕ) → Small bytes →
    read_payload bytes ≡ pair_of done rest → Ends r done rest (length bytes) → IfErr r (λ e. IfNotItems e (λ at. IsGreedy bytes at (greedy_items bytes)))
payload_greedy (Ok items) bytes done rest s e m = tt
payload_greedy (Err x) bytes done rest s e m =
    let size : greedy_size bytes ≡ length bytes - length rest = ap (λ p. length bytes - length p.1) e in
    subst (λ z. IfNotItems z (λ at. IsGreedy bytes at (greedy_items bytes))) (sym m.1) (subst (λ n. IsGreedy bytes n (greedy_items bytes)) size (greedy_is_longest bytes s))

pub units_to_end : (r : Result (List Item) ItemsStop) (bytes : List ℕ) (done : List Item) (rest : List ℕ) (end : ℕ) → Small bytes →
    units_at bytes ≡ pair_of done rest → Ends r done rest end → IfOk r (λ items. Units bytes items)
units_to_end (Ok items) bytes done rest end s e m =
    subst (Units bytes) (sym m.1) (units_ok (length bytes) bytes done s (e ∙ ap (λ z. pair_of done z) m.0))
units_to_end (Err x) bytes done rest end s e m = tt

pub units_end : (r : Result (List Item) ItemsStop) (bytes : List ℕ) (done : List Item) (rest : List ℕ) (end : ℕ) →
    units_at bytes ≡ pair_of done rest → Ends r done rest end → IfErr r (λ e. IfNotItems e (λ at. (items : List Item) → Units bytes items → ⊥))
units_end (Ok items) bytes done rest end e m = tt
units_end (Err x) bytes done rest end e m =
    subst (λ z. IfNotItems z (λ at. (items : List Item) → Units bytes items → ⊥)) (sym m.1)
    (λ items u. no_units bytes items (omega (arith, m.0, ap (λ p. length p.1) e)) u)

pub units_longest : (r : Result (List Item) ItemsStop) (bytes : List ℕ) (done : List Item) (rest : List ℕ) (end : ℕ) → Small bytes →
    Ends r done rest end → IfErr r (λ e. IfNotItems e (λ at. IsLongestRun bytes (run_size bytes) (units_at bytes).0))
units_longest (Ok items) bytes done rest end s m = tt
units_longest (Err x) bytes done rest end s m =
    subst (λ z. IfNotItems z (λ at. IsLongestRun bytes (run_size bytes) (units_at bytes).0)) (sym m.1) (run_is_longest bytes s)
