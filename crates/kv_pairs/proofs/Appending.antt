-- A payload with an item at its end has its items and that one.
use Rattle.std.proofs.Common.{◌≡◌, ℕ, zero, suc, ◌+◌, ◌*◌, ◌/◌, ◌%◌, ◌^◌, ◌<◌, ◌≤◌, Bool, true, false, cond, List, [], ◌∷◌, ◌++◌, length, refl, sym, ap, ◌∙◌, arith, append_assoc, append-nil}
use Rattle.std.specs.Prelude.{Some, nat_lt}
use Rattle.std.proofs.lemmas.Bool.Decides.{nat_tests}
use Rattle.kv_pairs.specs.Lengths.{IsVarint, varint_value, Spells, shortest, shortest_in}
use Rattle.kv_pairs.specs.Grammar.{Units, none, one, IsPayloadOf, empty, begun}
use Rattle.kv_pairs.specs.Reading.{items_of}
use Rattle.kv_pairs.specs.Mapped.{length_prefixed}
use Rattle.kv_pairs.specs.declared.item.Item.{Item}
use Rattle.kv_pairs.proofs.ReadsGrammar.{payload_read}
use Rattle.kv_pairs.proofs.GrammarRead.{Small, Units-append, items_of_ok}

payload_more : {p ys : List ℕ} {is js : List Item} → 0 < length p → IsPayloadOf p is → Units ys js → IsPayloadOf (p ++ ys) (is ++ js)
payload_more some empty v = absurd (omega (arith, some))
payload_more {ys = ys} some (begun {bytes} {text} {rest} n e s u) v =
    begun n (ap (λ z. z ++ ys) e ∙ append_assoc text rest ys) s (Units-append u v)

-- the shortest spelling of a number below 128 ^ k takes at most k bytes
record InBytes (k n : ℕ) (bytes : List ℕ) : Type 0 where
  chain : IsVarint bytes
  most : length bytes ≤ k
  value : n ≡ varint_value bytes

longer : (b : ℕ) (text : List ℕ) → 128 ≤ b → b < 256 → IsVarint text → IsVarint (b ∷ text)
longer b [] h l c = absurd c
longer b (d ∷ text) h l c = (h, l, c)

-- how many numbers k groups of seven bits tell apart
abbrev span : ℕ → ℕ
span zero = 1
span (suc k) = 128 * span k

some_left : (k n : ℕ) → n < 128 * span k → 128 ≤ n → 0 < k
some_left zero n h large = absurd (omega (arith, h, large))
some_left (suc k) n h large = omega arith

spelled : (k n : ℕ) → 0 < k → n < span k → InBytes k n (shortest_in k n)
spelled zero n some h = absurd (omega (arith, some))
spelled (suc k) n some h = by_test (nat_lt n 128) refl (λ x y. spelled k (n / 128) x y)
  where
    by_test : (b : Bool) → nat_lt n 128 ≡ b → (0 < k → n / 128 < span k → InBytes k (n / 128) (shortest_in k (n / 128))) →
        InBytes (suc k) n (cond b (n ∷ []) ((n % 128 + 128) ∷ shortest_in k (n / 128)))
    by_test true t go =
        let small : n < 128 = grind (arith, nat_tests) in
        record { chain = small; most = omega arith; value = omega (arith, small) }
    by_test false t go =
        let large : 128 ≤ n = grind (arith, nat_tests) in
        let rest : InBytes k (n / 128) (shortest_in k (n / 128)) = go (some_left k n h large) (omega (arith, h)) in
        record {
          chain = longer (n % 128 + 128) (shortest_in k (n / 128)) (omega arith) (omega arith) rest.chain;
          most = omega (arith, rest.most);
          value = omega (arith, rest.value);
        }

-- each length has its shortest spelling
pub shortest_spells : (n : ℕ) → n < 2 ^ 31 → Spells (shortest n) n
unfolding shortest
shortest_spells n h =
    let in_five = spelled 5 n (omega arith) (omega (arith, h)) in
    record { chain = in_five.chain; most = in_five.most; value = in_five.value; below = h }

-- a key and a value in their shortest spellings are a unit
text_units : (key value : List ℕ) → 0 < length key → length key < 2 ^ 31 → length value < 2 ^ 31 → Units (length_prefixed key ++ length_prefixed value) (record { key = key; value = value } ∷ [])
text_units key value some k v =
    one
    (sym (append_assoc (shortest (length key) ++ key) (shortest (length value)) value)
    ∙ sym (append-nil (shortest (length key) ++ key ++ shortest (length value) ++ value)))
    (shortest_spells (length key) k) some (shortest_spells (length value) v) none

-- a payload that isn't empty has its items, and then the one that is appended
pub appended_items : (p : List ℕ) (items : List Item) (key value : List ℕ) → 0 < length p → Small p → items_of p ≡ Some items →
    0 < length key → length key < 2 ^ 31 → length value < 2 ^ 31 →
    items_of (p ++ (length_prefixed key ++ length_prefixed value)) ≡ Some (items ++ record { key = key; value = value } ∷ [])
appended_items p items key value some s e k kl vl = payload_read (payload_more some (items_of_ok p items s e) (text_units key value k kl vl))
