-- A payload that begins with another: its items are that one's and those of the units behind it.
use Rattle.std.proofs.Common.{◌≡◌, ℕ, zero, suc, ◌<◌, ◌≤◌, Bool, true, false, cond, List, [], ◌∷◌, ◌++◌, length, refl, sym, ap, ◌∙◌, arith, append_assoc, length-append}
use Rattle.std.specs.Prelude.{Option, Some, None, option_and_then, ◌==◌}
use Rattle.std.specs.List.{list_all}
use Rattle.std.specs.FinMap as fin
use Rattle.std.proofs.lemmas.Bool.Decides.{nat_tests}
use Rattle.expiring_map.specs.Map.{Map}
use Rattle.kv_pairs.specs.Grammar.{Units, none, gap, one, IsPayloadOf, empty, begun}
use Rattle.kv_pairs.specs.Reading.{unit_at, units_in, units_at, read_payload, items_of}
use Rattle.kv_pairs.specs.Mapped.{with_items, has_room_for_expiry, map_of}
use Rattle.kv_pairs.specs.declared.item.Item.{Item}
use Rattle.kv_pairs.proofs.ReadsGrammar.{units_read, length_read, unit_gap, unit_one, some_byte}
use Rattle.kv_pairs.proofs.GrammarRead.{Small, items_of_ok, units_ok, pair_of}
use Rattle.kv_pairs.proofs.Mapping.{some_when, with_items-append}

-- the units of the front are read, and then what stands behind them
abbrev pub Goes : ℕ → List ℕ → List Item → List ℕ → Type 0
Goes k bytes items ys = (j : ℕ) × (length ys ≤ j) × (units_in k (bytes ++ ys) ≡ pair_of (items ++ (units_in j ys).0) (units_in j ys).1)

one_on : (k : ℕ) (bytes ys rest : List ℕ) (its items : List Item) → length rest < length bytes → unit_at (bytes ++ ys) ≡ Some (its, rest ++ ys) →
    length (bytes ++ ys) ≤ k → ((j : ℕ) → length (rest ++ ys) ≤ j → Goes j rest items ys) → Goes k bytes (its ++ items) ys
one_on zero bytes ys rest its items less e h go = absurd (omega (arith, h, less, length-append bytes ys))
one_on (suc k) bytes ys rest its items less e h go =
    let more = go k (omega (arith, h, less, length-append bytes ys, length-append rest ys)) in (
      more.0,
      more.1,
      rw e ((λ i. pair_of (its ++ (more.2 i).0) (more.2 i).1) ∙ ap (λ z. pair_of z (units_in more.0 ys).1) (sym (append_assoc its items (units_in more.0 ys).0))),
    )

pub units_front : {bytes : List ℕ} {items : List Item} → Units bytes items → (ys : List ℕ) (k : ℕ) → length (bytes ++ ys) ≤ k → Goes k bytes items ys
units_front none ys k h = (k, h, refl)
units_front (gap {bytes} {zero_text} {rest} {items} e s u) ys k h =
    one_on k bytes ys rest [] items (omega (arith, ap length e, length-append zero_text rest, some_byte zero_text s.chain))
    (ap (λ z. unit_at (z ++ ys)) e ∙ ap unit_at (append_assoc zero_text rest ys) ∙ unit_gap zero_text (rest ++ ys) s) h (λ j l. units_front u ys j l)
units_front (one {bytes} {key_text} {key} {value_text} {value} {rest} {items} e s p t u) ys k h =
    one_on k bytes ys rest (record { key = key; value = value } ∷ []) items
    (omega (
      arith,
      ap length e,
      some_byte key_text s.chain,
      length-append (key_text ++ key ++ value_text ++ value) rest,
      length-append (key_text ++ key ++ value_text) value,
      length-append (key_text ++ key) value_text,
      length-append key_text key,
    ))
    (ap (λ z. unit_at (z ++ ys)) e ∙ ap unit_at (append_assoc (key_text ++ key ++ value_text ++ value) rest ys) ∙ unit_one key_text key value_text value (rest ++ ys) s p t) h
    (λ j l. units_front u ys j l)

never : (b : Bool) → b ≡ false → (xs ys : List Item) → cond b (Some xs) None ≡ Some ys → ⊥
never true h xs ys e = cc
never false h xs ys e = cc

-- what was read to its end
read_to_end : (read : List Item × List ℕ) (rest : List ℕ) → read.1 ≡ rest → (items : List Item) → cond (length rest == 0) (Some read.0) None ≡ Some items → (read.0 ≡ items) × (rest ≡ [])
read_to_end read [] e items f = (cc, refl)
read_to_end read (x ∷ rest) e items f = absurd (never (length (x ∷ rest) == 0) (grind (arith, nat_tests)) read.0 items f)

-- the items behind
abbrev pub IsBehind : List Item → List ℕ → List Item → Type 0
IsBehind front more all = (items : List Item) × (units_at more ≡ (items, [])) × (all ≡ front ++ items)

by_grammar : {bytes : List ℕ} {front : List Item} → IsPayloadOf bytes front → (more : List ℕ) (all : List Item) → 0 < length bytes → Small more → items_of (bytes ++ more) ≡ Some all → IsBehind front more all
unfolding read_payload
by_grammar empty more all some small_more f = absurd (omega (arith, some))
by_grammar (begun {bytes} {text} {rest} {items} n e s u) more all some small_more f =
    let goes = units_front u more (length (rest ++ more)) (omega arith) in
    let read : read_payload (bytes ++ more) ≡ pair_of (items ++ (units_in goes.0 more).0) (units_in goes.0 more).1 =
    ap (λ z. read_payload (z ++ more)) e ∙ ap read_payload (append_assoc text rest more) ∙ rw (length_read text (rest ++ more) n s) goes.2 in
    let ended = read_to_end (read_payload (bytes ++ more)) (read_payload (bytes ++ more)).1 refl all f in
    let over : (units_in goes.0 more).1 ≡ [] = ap (λ x. x.1) (sym read) ∙ ended.1 in
    let units = units_ok goes.0 more (units_in goes.0 more).0 small_more (λ i. pair_of (units_in goes.0 more).0 (over i)) in
    ((units_in goes.0 more).0, units_read units (length more) (omega arith), sym ended.0 ∙ ap (λ x. x.0) read)

pub behind : (p more : List ℕ) (front all : List Item) → 0 < length p → Small p → Small more → items_of p ≡ Some front → items_of (p ++ more) ≡ Some all → IsBehind front more all
behind p more front all some small small_more e f = by_grammar (items_of_ok p front small e) more all some small_more f

pub parts : (flag : Bool) (o : Option (List Item)) (m : Map) → option_and_then (map_of flag) o ≡ Some m → (items : List Item) × (o ≡ Some items) × (map_of flag items ≡ Some m)
parts flag None m e = absurd cc
parts flag (Some items) m e = (items, refl, e)

-- A payload that isn't empty has a map, and with more bytes at its end another: then the bytes are units, and their items lead from one map to the other.
pub behind_map : (flag : Bool) (p more : List ℕ) (m n : Map) → 0 < length p → Small p → Small more →
    option_and_then (map_of flag) (items_of p) ≡ Some m → option_and_then (map_of flag) (items_of (p ++ more)) ≡ Some n →
    (items : List Item) × (units_at more ≡ (items, [])) × (n ≡ with_items flag m items)
behind_map flag p more m n some small small_more e f =
    let had = parts flag (items_of p) m e in
    let has = parts flag (items_of (p ++ more)) n f in
    let b = behind p more had.0 has.0 some small small_more had.1 has.1 in
    let old = (some_when (list_all (has_room_for_expiry flag) had.0) (with_items flag fin.empty had.0) m had.2).1 in
    let new = (some_when (list_all (has_room_for_expiry flag) has.0) (with_items flag fin.empty has.0) n has.2).1 in
    (b.0, b.1, sym new ∙ ap (with_items flag fin.empty) b.2 ∙ with_items-append flag fin.empty had.0 b.0 ∙ ap (λ z. with_items flag z b.0) old)
