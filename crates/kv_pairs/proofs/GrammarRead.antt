-- What is read is in the grammar.
use Rattle.std.proofs.Common.{◌≡◌, ℕ, zero, suc, ◌+◌, ◌*◌, ◌%◌, ◌<◌, ◌≤◌, Bool, true, false, cond, List, [], ◌∷◌, ◌++◌, length, take, drop, refl, sym, ap, ◌∙◌, arith, append_assoc, subst, append-nil, length-take}
use Rattle.std.specs.Prelude.{Option, Some, None, nat_lt, nat_le, option_and_then, ◌==◌}
use Rattle.std.specs.Option.{option_map_or, option_map}
use Rattle.std.proofs.lemmas.Bool.Decides.{nat_tests}
use Rattle.std.proofs.lemmas.List.{take-append-drop}
use Rattle.kv_pairs.specs.Lengths.{IsVarint, varint_value, Spells}
use Rattle.kv_pairs.specs.Grammar.{Units, none, gap, one, IsPayloadOf, empty, begun}
use Rattle.kv_pairs.specs.Reading.{number_in, length_at, bytes_at, text_at, unit_at, units_in, units_at, read_payload, items_of}
use Rattle.kv_pairs.specs.declared.item.Item.{Item}

abbrev pub Small : List ℕ → Type 0
Small [] = Unit {0}
Small (b ∷ bs) = (b < 256) × Small bs

pub Small-right : (xs ys : List ℕ) → Small (xs ++ ys) → Small ys
Small-right [] ys s = s
Small-right (x ∷ xs) ys s = Small-right xs ys s.1

abbrev found : ℕ → List ℕ → Option (ℕ × List ℕ)
found n rest = Some (n, rest)

abbrev more_of : ℕ → ℕ × List ℕ → ℕ × List ℕ
more_of b r = (b % 128 + 128 * r.0, r.1)

same_number : (m n : ℕ) (xs ys : List ℕ) → found m xs ≡ found n ys → m ≡ n
same_number m n xs ys e = ap (λ o. option_map_or (λ x. x.0) o m) e

same_rest : (m n : ℕ) (xs ys : List ℕ) → found m xs ≡ found n ys → xs ≡ ys
same_rest m n xs ys e = ap (λ o. option_map_or (λ x. x.1) o xs) e

-- a number was read from these bytes
record IsRead (k : ℕ) (bytes : List ℕ) (n : ℕ) (rest : List ℕ) : Type 0 where
  text : List ℕ
  chain : IsVarint text
  most : length text ≤ k
  parts : bytes ≡ text ++ rest
  value : n ≡ varint_value text

last_byte : (k b : ℕ) (bs : List ℕ) (n : ℕ) (rest : List ℕ) → b < 128 → found b bs ≡ found n rest → IsRead (suc k) (b ∷ bs) n rest
last_byte k b bs n rest h e =
    let same = same_number b n bs rest e in
    let more = same_rest b n bs rest e in
    record { text = b ∷ []; chain = h; most = omega arith; parts = ap (λ z. b ∷ z) more; value = omega (arith, same, h) }

longer : (b : ℕ) (text : List ℕ) → 128 ≤ b → b < 256 → IsVarint text → IsVarint (b ∷ text)
longer b [] h l c = absurd c
longer b (d ∷ text) h l c = (h, l, c)

first_byte : (k b : ℕ) (bs : List ℕ) (m n : ℕ) (tail rest : List ℕ) → 128 ≤ b → b < 256 → IsRead k bs m tail →
    found (b % 128 + 128 * m) tail ≡ found n rest → IsRead (suc k) (b ∷ bs) n rest
first_byte k b bs m n tail rest h l r e =
    let same = same_number (b % 128 + 128 * m) n tail rest e in
    let more = same_rest (b % 128 + 128 * m) n tail rest e in
    record {
      text = b ∷ r.text;
      chain = longer b r.text h l r.chain;
      most = omega (arith, r.most);
      parts = ap (λ z. b ∷ z) (r.parts ∙ ap (λ z. r.text ++ z) more);
      value = omega (arith, same, r.value);
    }

number_ok : (k : ℕ) (bytes : List ℕ) (n : ℕ) (rest : List ℕ) → Small bytes → number_in k bytes ≡ found n rest → IsRead k bytes n rest
number_ok zero bytes n rest s e = absurd cc
number_ok (suc k) [] n rest s e = absurd cc
number_ok (suc k) (b ∷ bs) n rest s e = by_test (nat_lt b 128) (number_in k bs) refl e (λ m tail q. number_ok k bs m tail s.1 q)
  where
    by_more : (o : Option (ℕ × List ℕ)) → 128 ≤ b → option_map (more_of b) o ≡ found n rest →
        ((m : ℕ) (tail : List ℕ) → o ≡ found m tail → IsRead k bs m tail) → IsRead (suc k) (b ∷ bs) n rest
    by_more None h e go = absurd cc
    by_more (Some r) h e go = first_byte k b bs r.0 n r.1 rest h s.0 (go r.0 r.1 refl) e

    by_test : (t : Bool) (o : Option (ℕ × List ℕ)) → nat_lt b 128 ≡ t → cond t (found b bs) (option_map (more_of b) o) ≡ found n rest →
        ((m : ℕ) (tail : List ℕ) → o ≡ found m tail → IsRead k bs m tail) → IsRead (suc k) (b ∷ bs) n rest
    by_test true o t e go = last_byte k b bs n rest (grind (arith, nat_tests)) e
    by_test false o t e go = by_more o (grind (arith, nat_tests)) e go

pub length_ok : (bytes : List ℕ) (n : ℕ) (rest : List ℕ) → Small bytes → length_at bytes ≡ found n rest →
    (text : List ℕ) × Spells text n × (bytes ≡ text ++ rest)
unfolding length_at
length_ok bytes n rest s e = by_number (number_in 5 bytes) e (λ m tail q. number_ok 5 bytes m tail s q)
  where
    fits : (r : ℕ × List ℕ) (t : Bool) → nat_lt r.0 2147483648 ≡ t → cond t (Some r) None ≡ found n rest → IsRead 5 bytes r.0 r.1 →
        (text : List ℕ) × Spells text n × (bytes ≡ text ++ rest)
    fits r false t e read = absurd cc
    fits r true t e read =
        let same = same_number r.0 n r.1 rest e in
        let more = same_rest r.0 n r.1 rest e in
        let below : r.0 < 2147483648 = grind (arith, nat_tests) in
        (read.text, record { chain = read.chain; most = read.most; value = sym same ∙ read.value; below = omega (arith, same, below) }, read.parts ∙ ap (λ z. read.text ++ z) more)

    by_number : (o : Option (ℕ × List ℕ)) → option_and_then (λ r. cond (nat_lt r.0 2147483648) (Some r) None) o ≡ found n rest →
        ((m : ℕ) (tail : List ℕ) → o ≡ found m tail → IsRead 5 bytes m tail) → (text : List ℕ) × Spells text n × (bytes ≡ text ++ rest)
    by_number None e go = absurd cc
    by_number (Some r) e go = fits r (nat_lt r.0 2147483648) refl e (go r.0 r.1 refl)

abbrev had : List ℕ → List ℕ → Option (List ℕ × List ℕ)
had xs rest = Some (xs, rest)

first_same : (xs ys us vs : List ℕ) → had xs us ≡ had ys vs → xs ≡ ys
first_same xs ys us vs e = ap (λ o. option_map_or (λ x. x.0) o xs) e

second_same : (xs ys us vs : List ℕ) → had xs us ≡ had ys vs → us ≡ vs
second_same xs ys us vs e = ap (λ o. option_map_or (λ x. x.1) o us) e

-- a length, and the bytes of that length
abbrev IsTextAt : List ℕ → List ℕ → List ℕ → Type 0
IsTextAt bytes xs rest = (front : List ℕ) × Spells front (length xs) × (bytes ≡ front ++ xs ++ rest)

text_ok : (bytes xs rest : List ℕ) → Small bytes → text_at bytes ≡ had xs rest → IsTextAt bytes xs rest
text_ok bytes xs rest s e = by_length (length_at bytes) e (λ n tail q. length_ok bytes n tail s q)
  where
    by_test : (n : ℕ) (tail : List ℕ) (t : Bool) → nat_le n (length tail) ≡ t → cond t (had (take n tail) (drop n tail)) None ≡ had xs rest →
        ((front : List ℕ) × Spells front n × (bytes ≡ front ++ tail)) → IsTextAt bytes xs rest
    by_test n tail false t e read = absurd cc
    by_test n tail true t e read =
        let same = first_same (take n tail) xs (drop n tail) rest e in
        let more = second_same (take n tail) xs (drop n tail) rest e in
        let within : n ≤ length tail = grind (arith, nat_tests) in
        let size : n ≡ length xs = omega (arith, length-take n tail, within, ap length same) in
        let joined : xs ++ rest ≡ tail = (λ i. sym same i ++ sym more i) ∙ take-append-drop n tail in
        (read.0, subst (Spells read.0) size read.1, read.2 ∙ ap (λ z. read.0 ++ z) (sym joined) ∙ sym (append_assoc read.0 xs rest))

    by_length : (o : Option (ℕ × List ℕ)) → option_and_then (λ n. bytes_at n.0 n.1) o ≡ had xs rest →
        ((n : ℕ) (tail : List ℕ) → o ≡ found n tail → (front : List ℕ) × Spells front n × (bytes ≡ front ++ tail)) → IsTextAt bytes xs rest
    by_length None e go = absurd cc
    by_length (Some r) e go = by_test r.0 r.1 (nat_le r.0 (length r.1)) refl e (go r.0 r.1 refl)

abbrev gave : List Item → List ℕ → Option (List Item × List ℕ)
gave items rest = Some (items, rest)

items_same : (xs ys : List Item) (us vs : List ℕ) → gave xs us ≡ gave ys vs → xs ≡ ys
items_same xs ys us vs e = ap (λ o. option_map_or (λ x. x.0) o xs) e

left_same : (xs ys : List Item) (us vs : List ℕ) → gave xs us ≡ gave ys vs → us ≡ vs
left_same xs ys us vs e = ap (λ o. option_map_or (λ x. x.1) o us) e

-- a unit with these items, and what stands behind it
abbrev Begins : List ℕ → List Item → List ℕ → Type 0
Begins bytes items rest = (text : List ℕ) × (bytes ≡ text ++ rest) × Units text items × Small rest

small_rest : (bytes xs rest : List ℕ) → Small bytes → IsTextAt bytes xs rest → Small rest
small_rest bytes xs rest s t = Small-right (t.0 ++ xs) rest (subst Small t.2 s)

abbrev item_with : List ℕ → List ℕ → Item
item_with key value = record { key = key; value = value }

unit_ok : (bytes : List ℕ) (items : List Item) (rest : List ℕ) → Small bytes → unit_at bytes ≡ gave items rest → Begins bytes items rest
unit_ok bytes items rest s e = by_key (text_at bytes) e (λ key tail q. text_ok bytes key tail s q)
  where
    by_value : (key tail : List ℕ) (o : Option (List ℕ × List ℕ)) → 0 < length key → IsTextAt bytes key tail →
        option_and_then (λ v. gave (item_with key v.0 ∷ []) v.1) o ≡ gave items rest →
        ((value left : List ℕ) → o ≡ had value left → IsTextAt tail value left) → Begins bytes items rest
    by_value key tail None p k e go = absurd cc
    by_value key tail (Some v) p k e go =
        let t = go v.0 v.1 refl in
        let same = items_same (item_with key v.0 ∷ []) items v.1 rest e in
        let more = left_same (item_with key v.0 ∷ []) items v.1 rest e in
        let parts : bytes ≡ k.0 ++ key ++ t.0 ++ v.0 ++ v.1 =
        k.2 ∙ ap (λ z. k.0 ++ key ++ z) t.2 ∙ sym (append_assoc (k.0 ++ key) (t.0 ++ v.0) v.1) ∙ ap (λ z. z ++ v.1) (sym (append_assoc (k.0 ++ key) t.0 v.0)) in (
          k.0 ++ key ++ t.0 ++ v.0,
          parts ∙ ap (λ z. k.0 ++ key ++ t.0 ++ v.0 ++ z) more,
          subst (Units (k.0 ++ key ++ t.0 ++ v.0)) same (one (sym (append-nil (k.0 ++ key ++ t.0 ++ v.0))) k.1 p t.1 none),
          subst Small more (small_rest tail v.0 v.1 (small_rest bytes key tail s k) t),
        )

    by_test : (key tail : List ℕ) (b : Bool) → (length key == 0) ≡ b → IsTextAt bytes key tail →
        cond b (gave [] tail) (option_and_then (λ v. gave (item_with key v.0 ∷ []) v.1) (text_at tail)) ≡ gave items rest → Begins bytes items rest
    by_test key tail false b k e =
        by_value key tail (text_at tail) (grind (arith, nat_tests)) k e (λ value left q. text_ok tail value left (small_rest bytes key tail s k) q)
    by_test key tail true b k e =
        let zero_size : length key ≡ 0 = grind (arith, nat_tests) in
        let same = items_same [] items tail rest e in
        let more = left_same [] items tail rest e in
        let parts : bytes ≡ k.0 ++ tail = k.2 ∙ ap (λ z. k.0 ++ z ++ tail) (no_bytes key zero_size) ∙ ap (λ z. z ++ tail) (append-nil k.0) in (
          k.0,
          parts ∙ ap (λ z. k.0 ++ z) more,
          subst (Units k.0) same (gap (sym (append-nil k.0)) (subst (Spells k.0) zero_size k.1) none),
          subst Small more (small_rest bytes key tail s k),
        )
      where
        no_bytes : (xs : List ℕ) → length xs ≡ 0 → xs ≡ []
        no_bytes [] e = refl
        no_bytes (x ∷ xs) e = absurd (omega (arith, e))

    by_key : (o : Option (List ℕ × List ℕ)) →
        option_and_then (λ key. cond (length key.0 == 0) (gave [] key.1) (option_and_then (λ v. gave (item_with key.0 v.0 ∷ []) v.1) (text_at key.1))) o ≡ gave items rest →
        ((key tail : List ℕ) → o ≡ had key tail → IsTextAt bytes key tail) → Begins bytes items rest
    by_key None e go = absurd cc
    by_key (Some key) e go = by_test key.0 key.1 (length key.0 == 0) refl (go key.0 key.1 refl) e

abbrev pub pair_of : List Item → List ℕ → List Item × List ℕ
pair_of items rest = (items, rest)

pub Units-append : {xs ys : List ℕ} {is js : List Item} → Units xs is → Units ys js → Units (xs ++ ys) (is ++ js)
Units-append none v = v
Units-append {ys = ys} (gap {bytes} {zero_text} {rest} e s u) v =
    gap (ap (λ z. z ++ ys) e ∙ append_assoc zero_text rest ys) s (Units-append u v)
Units-append {ys = ys} (one {bytes} {key_text} {key} {value_text} {value} {rest} e s p t u) v =
    one (ap (λ z. z ++ ys) e ∙ append_assoc (key_text ++ key ++ value_text ++ value) rest ys) s p t (Units-append u v)

-- the units that were read, and what is left
abbrev pub AreUnits : List ℕ → List Item → List ℕ → Type 0
AreUnits bytes items rest = (text : List ℕ) × (bytes ≡ text ++ rest) × Units text items

pub units_are : (k : ℕ) (bytes : List ℕ) → Small bytes → AreUnits bytes (units_in k bytes).0 (units_in k bytes).1
units_are zero bytes s = ([], refl, none)
units_are (suc k) bytes s = by_unit (unit_at bytes) (λ its rest q. unit_ok bytes its rest s q) (λ rest t. units_are k rest t)
  where
    after : Option (List Item × List ℕ) → List Item × List ℕ
    after o = option_map_or (λ u. pair_of (u.0 ++ (units_in k u.1).0) (units_in k u.1).1) o (pair_of [] bytes)

    by_unit : (o : Option (List Item × List ℕ)) → ((its : List Item) (rest : List ℕ) → o ≡ gave its rest → Begins bytes its rest) →
        ((rest : List ℕ) → Small rest → AreUnits rest (units_in k rest).0 (units_in k rest).1) → AreUnits bytes (after o).0 (after o).1
    by_unit None go next = ([], refl, none)
    by_unit (Some u) go next =
        let first = go u.0 u.1 refl in
        let more = next u.1 first.3 in (
          first.0 ++ more.0,
          first.1 ∙ ap (λ z. first.0 ++ z) more.1 ∙ sym (append_assoc first.0 more.0 (units_in k u.1).1),
          Units-append first.2 more.2,
        )

pub units_ok : (k : ℕ) (bytes : List ℕ) (items : List Item) → Small bytes → units_in k bytes ≡ pair_of items [] → Units bytes items
units_ok k bytes items s e =
    let are = units_are k bytes s in
    let whole : bytes ≡ are.0 = are.1 ∙ ap (λ p. are.0 ++ p.1) e ∙ append-nil are.0 in
    subst (Units bytes) (ap (λ p. p.0) e) (subst (λ z. Units z (units_in k bytes).0) (sym whole) are.2)

-- what is read is a payload of the grammar, of these items
pub read_payload_ok : (bytes : List ℕ) (items : List Item) → Small bytes → read_payload bytes ≡ pair_of items [] → IsPayloadOf bytes items
unfolding read_payload
read_payload_ok bytes items s e = by_length (length_at bytes) e (λ n rest q. length_ok bytes n rest s q)
  where
    by_length : (o : Option (ℕ × List ℕ)) → option_map_or (λ n. units_at n.1) o (pair_of [] bytes) ≡ pair_of items [] →
        ((n : ℕ) (rest : List ℕ) → o ≡ found n rest → (text : List ℕ) × Spells text n × (bytes ≡ text ++ rest)) → IsPayloadOf bytes items
    by_length None e go =
        let same : [] ≡ items = ap (λ p. p.0) e in
        let more : bytes ≡ [] = ap (λ p. p.1) e in
        subst (IsPayloadOf bytes) same (subst (λ z. IsPayloadOf z []) (sym more) empty)
    by_length (Some r) e go =
        let t = go r.0 r.1 refl in
        begun r.0 t.2 t.1 (units_ok (length r.1) r.1 items (Small-right t.0 r.1 (subst Small t.2 s)) e)

never : (b : Bool) → b ≡ false → (xs ys : List Item) → cond b (Some xs) None ≡ Some ys → ⊥
never true h xs ys e = cc
never false h xs ys e = cc

-- and so are its items, where it reads to its end
pub items_of_ok : (bytes : List ℕ) (items : List Item) → Small bytes → items_of bytes ≡ Some items → IsPayloadOf bytes items
items_of_ok bytes items s e = by_rest (read_payload bytes) (read_payload bytes).1 refl refl e
  where
    by_rest : (p : List Item × List ℕ) (rest : List ℕ) → read_payload bytes ≡ p → p.1 ≡ rest → cond (length rest == 0) (Some p.0) None ≡ Some items → IsPayloadOf bytes items
    by_rest p [] is r e =
        let same : p.0 ≡ items = cc in
        read_payload_ok bytes items s (is ∙ (λ i. (same i, r i)))
    by_rest p (x ∷ rest) is r e = absurd (never (length (x ∷ rest) == 0) (grind (arith, nat_tests)) p.0 items e)
