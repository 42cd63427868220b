-- What is read is the longest front that the grammar has.
use Rattle.std.proofs.Common.{◌≡◌, ℕ, ◌-◌, ◌<◌, ◌≤◌, List, [], ◌++◌, length, take, drop, refl, sym, ap, ◌∙◌, arith, subst, append_assoc, length-append, length-drop}
use Rattle.std.specs.Prelude.{Option, Some, None}
use Rattle.std.specs.Option.{option_map_or}
use Rattle.std.proofs.lemmas.List.{take-append-drop, take_at}
use Rattle.kv_pairs.specs.Lengths.{Spells}
use Rattle.kv_pairs.specs.Grammar.{Units, IsPayloadOf, empty, begun, IsGreedy, IsLongestRun}
use Rattle.kv_pairs.specs.Reading.{length_at, units_in, units_at, run_size, read_payload, items_of, greedy_items, greedy_size}
use Rattle.kv_pairs.specs.declared.item.Item.{Item}
use Rattle.kv_pairs.proofs.ReadsGrammar.{length_read, units_read, payload_read}
use Rattle.kv_pairs.proofs.GrammarRead.{Small, length_ok, units_are, pair_of, Small-right}
use Rattle.kv_pairs.proofs.Fronts.{units_front}
use Rattle.kv_pairs.proofs.Stepping.{Less, length_less, left_within}

-- what stands before the rest
front_of : (bytes text rest : List ℕ) → bytes ≡ text ++ rest → take (length bytes - length rest) bytes ≡ text
front_of bytes text rest e =
    ap (take (length bytes - length rest)) e ∙ take_at text rest (length bytes - length rest) (omega (arith, ap length e, length-append text rest))

units_past : (text ys : List ℕ) (items : List Item) (all : List ℕ) → all ≡ text ++ ys → Units text items → length (units_at all).1 ≤ length ys
units_past text ys items all e u =
    let goes = units_front u ys (length all) (omega (arith, ap length e)) in
    let left : (units_at all).1 ≡ (units_in goes.0 ys).1 = ap (λ z. (units_in (length all) z).1) e ∙ ap (λ p. p.1) goes.2 in
    omega (arith, ap length left, left_within goes.0 ys)

pub run_is_longest : (bytes : List ℕ) → Small bytes → IsLongestRun bytes (run_size bytes) (units_at bytes).0
run_is_longest bytes s =
    let are = units_are (length bytes) bytes s in
    record {
      within = omega arith;
      front = subst (λ z. Units z (units_at bytes).0) (sym (front_of bytes are.0 (units_at bytes).1 are.1)) are.2;
      longest = λ longer others h u.
          omega (arith, length-drop longer bytes, units_past (take longer bytes) (drop longer bytes) others bytes (sym (take-append-drop longer bytes)) u, h);
    }

-- no items stand where the units don't reach the end
pub no_units : (bytes : List ℕ) (items : List Item) → 0 < length (units_at bytes).1 → Units bytes items → ⊥
no_units bytes items some u = absurd (omega (arith, some, ap (λ p. length p.1) (units_read u (length bytes) (omega arith))))

-- a front of a payload, and what is left
abbrev IsFront : List ℕ → List Item → List ℕ → Type 0
IsFront bytes items rest = (text : List ℕ) × (bytes ≡ text ++ rest) × IsPayloadOf text items

payload_is : (bytes : List ℕ) → Small bytes → IsFront bytes (read_payload bytes).0 (read_payload bytes).1
unfolding read_payload
payload_is bytes s = go (length_at bytes) (λ n rest q. length_ok bytes n rest s q)
  where
    after : Option (ℕ × List ℕ) → List Item × List ℕ
    after o = option_map_or (λ n. units_at n.1) o (pair_of [] bytes)

    go : (o : Option (ℕ × List ℕ)) → ((n : ℕ) (rest : List ℕ) → o ≡ Some (n, rest) → (text : List ℕ) × Spells text n × (bytes ≡ text ++ rest)) →
        IsFront bytes (after o).0 (after o).1
    go None f = ([], refl, empty)
    go (Some r) f =
        let t = f r.0 r.1 refl in
        let are = units_are (length r.1) r.1 (Small-right t.0 r.1 (subst Small t.2 s)) in (
          t.0 ++ are.0,
          t.2 ∙ ap (λ z. t.0 ++ z) are.1 ∙ sym (append_assoc t.0 are.0 (units_at r.1).1),
          begun r.0 refl t.1 are.2,
        )

-- what is left of a payload is no longer
rest_within : (bytes : List ℕ) → length (read_payload bytes).1 ≤ length bytes
unfolding read_payload
rest_within bytes = go (length_at bytes) (length_less bytes)
  where
    go : (o : Option (ℕ × List ℕ)) → Less (length bytes) o → length (option_map_or (λ n. units_at n.1) o (pair_of [] bytes)).1 ≤ length bytes
    go None l = omega arith
    go (Some r) l = omega (arith, l, left_within (length r.1) r.1)

payload_past : {p : List ℕ} {items : List Item} → IsPayloadOf p items → (ys : List ℕ) → length (read_payload (p ++ ys)).1 ≤ length ys
unfolding read_payload
payload_past empty ys = rest_within ys
payload_past (begun {bytes} {text} {rest} {items} n e s u) ys =
    let read : read_payload (bytes ++ ys) ≡ units_at (rest ++ ys) =
    ap (λ z. read_payload (z ++ ys)) e ∙ ap read_payload (append_assoc text rest ys) ∙ rw (length_read text (rest ++ ys) n s) refl in
    omega (arith, ap (λ p. length p.1) read, units_past rest ys items (rest ++ ys) refl u)

pub greedy_is_longest : (bytes : List ℕ) → Small bytes → IsGreedy bytes (greedy_size bytes) (greedy_items bytes)
greedy_is_longest bytes s =
    let is = payload_is bytes s in
    record {
      within = omega arith;
      front = subst (λ z. IsPayloadOf z (greedy_items bytes)) (sym (front_of bytes is.0 (read_payload bytes).1 is.1)) is.2;
      longest = λ longer others h u.
          omega (arith, length-drop longer bytes, ap (λ z. length (read_payload z).1) (take-append-drop longer bytes), payload_past u (drop longer bytes), h);
    }

-- where reading ends before the payload does, it has no items
pub no_items : (bytes : List ℕ) (items : List Item) → items_of bytes ≡ None → IsPayloadOf bytes items → ⊥
no_items bytes items e p = let is = payload_read p in absurd cc
