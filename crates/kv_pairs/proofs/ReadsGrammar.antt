-- What the grammar spells is read.
use Rattle.std.proofs.Common.{◌≡◌, ℕ, zero, suc, ◌+◌, ◌<◌, ◌≤◌, true, false, List, [], ◌∷◌, ◌++◌, length, drop, refl, sym, ap, ◌∙◌, arith, append_assoc, length-append, append-nil}
use Rattle.std.specs.Prelude.{Some, nat_lt, nat_le, ◌==◌}
use Rattle.std.proofs.lemmas.Bool.Decides.{nat_tests}
use Rattle.std.proofs.Math.Seq.{take-append_seam}
use Rattle.kv_pairs.specs.Lengths.{IsVarint, varint_value, Spells}
use Rattle.kv_pairs.specs.Grammar.{Units, none, gap, one, IsPayloadOf, empty, begun}
use Rattle.kv_pairs.specs.Reading.{number_in, length_at, bytes_at, text_at, unit_at, units_in, read_payload, items_of}
use Rattle.kv_pairs.specs.declared.item.Item.{Item}

below_true : (b n : ℕ) → b < n → nat_lt b n ≡ true
below_true b n h = grind (arith, nat_tests)

above_false : (b n : ℕ) → n ≤ b → nat_lt b n ≡ false
above_false b n h = grind (arith, nat_tests)

at_most_true : (b n : ℕ) → b ≤ n → nat_le b n ≡ true
at_most_true b n h = grind (arith, nat_tests)

chain_read : (k : ℕ) (text rest : List ℕ) → IsVarint text → length text ≤ k → number_in k (text ++ rest) ≡ Some (varint_value text, rest)
chain_read zero [] rest c h = absurd c
chain_read zero (b ∷ bs) rest c h = absurd (omega (arith, h))
chain_read (suc k) [] rest c h = absurd c
chain_read (suc k) (b ∷ []) rest c h = rw (below_true b 128 c) (ap (λ n. Some (n, rest)) (omega (arith, c)))
chain_read (suc k) (b ∷ d ∷ bs) rest c h = rw (above_false b 128 c.0) (rw (chain_read k (d ∷ bs) rest c.2 (omega (arith, h))) refl)

pub length_read : (text rest : List ℕ) (n : ℕ) → Spells text n → length_at (text ++ rest) ≡ Some (n, rest)
unfolding length_at
length_read text rest n s =
    rw (chain_read 5 text rest s.chain s.most) (rw (below_true (varint_value text) 2147483648 (omega (arith, s.value, s.below))) (ap (λ m. Some (m, rest)) (sym s.value)))

drop_seam : (xs ys : List ℕ) → drop (length xs) (xs ++ ys) ≡ ys
drop_seam [] ys = refl
drop_seam (x ∷ xs) ys = drop_seam xs ys

bytes_read : (xs rest : List ℕ) → bytes_at (length xs) (xs ++ rest) ≡ Some (xs, rest)
bytes_read xs rest =
    rw (at_most_true (length xs) (length (xs ++ rest)) (omega (arith, length-append xs rest)))
    (λ i. Some (take-append_seam xs rest i, drop_seam xs rest i))

text_read : (front xs rest : List ℕ) → Spells front (length xs) → text_at (front ++ xs ++ rest) ≡ Some (xs, rest)
text_read front xs rest s =
    ap text_at (append_assoc front xs rest) ∙ rw (length_read front (xs ++ rest) (length xs) s) (bytes_read xs rest)

not_zero : (n : ℕ) → 0 < n → (n == 0) ≡ false
not_zero n h = grind (arith, nat_tests)

pub unit_gap : (z rest : List ℕ) → Spells z 0 → unit_at (z ++ rest) ≡ Some ([], rest)
unit_gap z rest s =
    let read : text_at (z ++ rest) ≡ Some ([], rest) = ap (λ front. text_at (front ++ rest)) (sym (append-nil z)) ∙ text_read z [] rest s in
    rw read refl

pub unit_one : (kt key vt value rest : List ℕ) → Spells kt (length key) → 0 < length key → Spells vt (length value) →
    unit_at (kt ++ key ++ vt ++ value ++ rest) ≡ Some (record { key = key; value = value } ∷ [], rest)
unit_one kt key vt value rest s p t =
    let parts : kt ++ key ++ vt ++ value ++ rest ≡ kt ++ key ++ (vt ++ value ++ rest) =
    ap (λ z. z ++ rest) (append_assoc (kt ++ key) vt value) ∙ append_assoc (kt ++ key) (vt ++ value) rest in
    let first : text_at (kt ++ key ++ vt ++ value ++ rest) ≡ Some (key, vt ++ value ++ rest) =
    ap text_at parts ∙ text_read kt key (vt ++ value ++ rest) s in
    rw first (rw (not_zero (length key) p) (rw (text_read vt value rest t) refl))

-- a chain has a byte at least
pub some_byte : (text : List ℕ) → IsVarint text → 0 < length text
some_byte [] c = absurd c
some_byte (b ∷ bs) c = omega arith

pub units_read : {bytes : List ℕ} {items : List Item} → Units bytes items → (k : ℕ) → length bytes ≤ k → units_in k bytes ≡ (items, [])
unfolding length_at
units_read none zero h = refl
units_read none (suc k) h = refl
units_read (gap {bytes} {zero_text} {rest} e s u) zero h = absurd (omega (arith, h, ap length e, length-append zero_text rest, some_byte zero_text s.chain))
units_read (gap {bytes} {zero_text} {rest} e s u) (suc k) h =
    let shorter : length rest ≤ k = omega (arith, h, ap length e, length-append zero_text rest, some_byte zero_text s.chain) in
    rw e (rw (unit_gap zero_text rest s) (rw (units_read u k shorter) refl))
units_read (one {bytes} {key_text} {key} {value_text} {value} {rest} {items} e s p t u) k h =
    one_at k (omega (arith, h, size)) (λ k' shorter. units_read u k' shorter)
  where
    size : length key_text + length rest ≤ length bytes
    size =
        omega (
          arith,
          ap length e,
          length-append (key_text ++ key ++ value_text ++ value) rest,
          length-append (key_text ++ key ++ value_text) value,
          length-append (key_text ++ key) value_text,
          length-append key_text key,
        )

    one_at : (k : ℕ) → length key_text + length rest ≤ k → ((k' : ℕ) → length rest ≤ k' → units_in k' rest ≡ (items, [])) → units_in k bytes ≡ (record { key = key; value = value } ∷ items, [])
    one_at zero h read = absurd (omega (arith, h, some_byte key_text s.chain))
    one_at (suc k) h read =
        rw e (rw (unit_one key_text key value_text value rest s p t) (rw (read k (omega (arith, h, some_byte key_text s.chain))) refl))

read_whole : (text rest : List ℕ) (n : ℕ) (items : List Item) → Spells text n → Units rest items → read_payload (text ++ rest) ≡ (items, [])
unfolding read_payload
read_whole text rest n items s u = rw (length_read text rest n s) (units_read u (length rest) (omega arith))

read_all : (bytes : List ℕ) (items : List Item) → read_payload bytes ≡ (items, []) → items_of bytes ≡ Some items
read_all bytes items e = rw e refl

read_nothing : items_of [] ≡ Some []
unfolding read_payload length_at
read_nothing = refl

-- a payload of the grammar is read as its items
pub payload_read : {bytes : List ℕ} {items : List Item} → IsPayloadOf bytes items → items_of bytes ≡ Some items
payload_read empty = read_nothing
payload_read (begun {bytes} {text} {rest} {items} n e s u) = read_all bytes items (ap read_payload e ∙ read_whole text rest n items s u)
