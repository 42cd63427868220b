-- A number of 64 bits, its shortest spelling, and any other.
use Rattle.std.proofs.Common.{◌≡◌, ℕ, zero, suc, ◌+◌, ◌*◌, ◌/◌, ◌%◌, ◌^◌, ◌<◌, ◌≤◌, Bool, true, false, cond, List, [], ◌∷◌, ◌++◌, length, refl, sym, ap, ◌∙◌, arith, length-append, ℤ, negsuc, pos}
use Rattle.std.specs.Prelude.{Option, Some, nat_lt, unwrap_or, slice_index, ◌==◌, FitsSigned}
use Rattle.std.specs.Int.{cast_unsigned, cast_signed, w32, w64}
use Rattle.std.proofs.lemmas.Bool.Decides.{nat_tests}
use Rattle.std.proofs.lemmas.Int.{to_z-of_z}
use Rattle.kv_pairs.specs.Lengths.{IsVarint, varint_value, shortest, shortest_in}
use Rattle.kv_pairs.specs.Reading.{length_at}
use Rattle.kv_pairs.proofs.Appending.{shortest_spells}
use Rattle.kv_pairs.proofs.ReadsGrammar.{length_read}
use Rattle.wire_values.specs.Values.{IsNumber, IsText, SpellsValue, kind_of}
use Rattle.wire_values.specs.Spelling.{number_spelling, spelling_of}
use Rattle.wire_values.specs.Laws.{HasSpelling}
use Rattle.wire_values.specs.declared.value.Kind.{Kind}
use Rattle.wire_values.specs.declared.value.Kind.TheVariants as kind
use Rattle.wire_values.specs.declared.value.Value.{Value}
use Rattle.wire_values.specs.declared.value.Value.TheVariants as value

-- the shortest spelling of a number below 128 ^ k takes at most k bytes
record InBytes (k n : ℕ) (bytes : List ℕ) : Type 0 where
  chain : IsVarint bytes
  most : length bytes ≤ k
  number : n ≡ varint_value bytes

longer : (b : ℕ) (text : List ℕ) → 128 ≤ b → b < 256 → IsVarint text → IsVarint (b ∷ text)
longer b [] h l c = absurd c
longer b (d ∷ text) h l c = (h, l, c)

-- how many numbers k groups of seven bits tell apart
abbrev span : ℕ → ℕ
span zero = 1
span (suc k) = 128 * span k

some_left : (k n : ℕ) → n < 128 * span k → 128 ≤ n → 0 < k
some_left zero n h large = absurd (omega (arith, h, large))
some_left (suc k) n h large = omega arith

spelled : (k n : ℕ) → 0 < k → n < span k → InBytes k n (shortest_in k n)
spelled zero n some h = absurd (omega (arith, some))
spelled (suc k) n some h = by_test (nat_lt n 128) refl (λ x y. spelled k (n / 128) x y)
  where
    by_test : (b : Bool) → nat_lt n 128 ≡ b → (0 < k → n / 128 < span k → InBytes k (n / 128) (shortest_in k (n / 128))) →
        InBytes (suc k) n (cond b (n ∷ []) ((n % 128 + 128) ∷ shortest_in k (n / 128)))
    by_test true t go =
        let small : n < 128 = grind (arith, nat_tests) in
        record { chain = small; most = omega arith; number = omega (arith, small) }
    by_test false t go =
        let large : 128 ≤ n = grind (arith, nat_tests) in
        let rest : InBytes k (n / 128) (shortest_in k (n / 128)) = go (some_left k n h large) (omega (arith, h)) in
        record {
          chain = longer (n % 128 + 128) (shortest_in k (n / 128)) (omega arith) (omega arith) rest.chain;
          most = omega (arith, rest.most);
          number = omega (arith, rest.number);
        }

number_spelled : (n : ℕ) → n < 2 ^ 64 → IsNumber (number_spelling n) n
unfolding number_spelling
number_spelled n h =
    let in_ten = spelled 10 n (omega arith) (omega (arith, h)) in
    record { chain = in_ten.chain; most = in_ten.most; number = in_ten.number; below = h }

pub fits_wide : (z : ℤ) → FitsSigned w32 z → FitsSigned w64 z
fits_wide z h = record { sfits = omega (arith, h.sfits) }

unsigned_below : (z : ℤ) → FitsSigned w64 z → cast_unsigned w64 z < 2 ^ 64
unsigned_below (pos n) h = omega (arith, h.sfits)
unsigned_below (negsuc n) h = omega (arith, h.sfits)

pub spells_back : (v : Value) → HasSpelling v → SpellsValue (spelling_of v) v
spells_back (value.Bool true) h = refl
spells_back (value.Bool false) h = refl
spells_back (value.I32 z) h = (h, number_spelled (cast_unsigned w64 z) (unsigned_below z (fits_wide z h)))
spells_back (value.U32 n) h = (h, number_spelled n (omega (arith, h)))
spells_back (value.I64 z) h = (h, number_spelled (cast_unsigned w64 z) (unsigned_below z h))
spells_back (value.U64 n) h = number_spelled n h
spells_back (value.Text text) h = (shortest (length text), shortest_spells (length text) h, refl)
spells_back (value.Blob blob) h = (shortest (length blob), shortest_spells (length blob) h, refl)
spells_back (value.Raw raw) h = (refl, h)

-- the one value of a kind that the bytes may spell
abbrev reading : Kind → List ℕ → Value
reading kind.Bool bytes = value.Bool (slice_index bytes 0 == 1)
reading kind.I32 bytes = value.I32 (cast_signed w64 (varint_value bytes))
reading kind.U32 bytes = value.U32 (varint_value bytes)
reading kind.I64 bytes = value.I64 (cast_signed w64 (varint_value bytes))
reading kind.U64 bytes = value.U64 (varint_value bytes)
reading kind.Text bytes = value.Text (unwrap_or (length_at bytes) (0, [])).1
reading kind.Blob bytes = value.Blob (unwrap_or (length_at bytes) (0, [])).1
reading kind.Raw bytes = value.Raw bytes

signed_read : (bytes : List ℕ) (z : ℤ) → FitsSigned w64 z → IsNumber bytes (cast_unsigned w64 z) → z ≡ cast_signed w64 (varint_value bytes)
signed_read bytes z fits is = sym (to_z-of_z w64 z fits) ∙ ap (cast_signed w64) is.number

text_read : (bytes text : List ℕ) → IsText bytes text → text ≡ (unwrap_or (length_at bytes) (0, [])).1
text_read bytes text is =
    let read : length_at bytes ≡ Some (length text, text) = ap length_at is.2 ∙ length_read is.0 text (length text) is.1 in
    sym (ap (λ (o : Option (ℕ × List ℕ)). (unwrap_or o (0, [])).1) read)

is_reading : (bytes : List ℕ) (v : Value) → SpellsValue bytes v → v ≡ reading (kind_of v) bytes
is_reading bytes (value.Bool true) s = rw s refl
is_reading bytes (value.Bool false) s = rw s refl
is_reading bytes (value.I32 z) s = ap value.I32 (signed_read bytes z (fits_wide z s.0) s.1)
is_reading bytes (value.U32 n) s = ap value.U32 s.1.number
is_reading bytes (value.I64 z) s = ap value.I64 (signed_read bytes z s.0 s.1)
is_reading bytes (value.U64 n) s = ap value.U64 s.number
is_reading bytes (value.Text text) s = ap value.Text (text_read bytes text s)
is_reading bytes (value.Blob blob) s = ap value.Blob (text_read bytes blob s)
is_reading bytes (value.Raw raw) s = ap value.Raw (sym s.0)

pub spells_one : (bytes : List ℕ) (v w : Value) → kind_of v ≡ kind_of w → SpellsValue bytes v → SpellsValue bytes w → v ≡ w
spells_one bytes v w e s t = is_reading bytes v s ∙ ap (λ k. reading k bytes) e ∙ sym (is_reading bytes w t)

no_shorter : (k : ℕ) (bytes : List ℕ) (n : ℕ) → IsVarint bytes → n ≡ varint_value bytes → length (shortest_in k n) ≤ length bytes
no_shorter zero bytes n c e = omega arith
no_shorter (suc k) [] n c e = absurd c
no_shorter (suc k) (b ∷ []) n c e = by_test (nat_lt n 128) refl
  where
    by_test : (t : Bool) → nat_lt n 128 ≡ t → length (cond t (n ∷ []) ((n % 128 + 128) ∷ shortest_in k (n / 128))) ≤ 1
    by_test true t = omega arith
    by_test false t = absurd (grind (arith, nat_tests, t, e))
no_shorter (suc k) (b ∷ d ∷ bytes) n c e = by_test (nat_lt n 128) (no_shorter k (d ∷ bytes) (n / 128) c.2 (omega (arith, e)))
  where
    by_test : (t : Bool) → length (shortest_in k (n / 128)) ≤ length (d ∷ bytes) → length (cond t (n ∷ []) ((n % 128 + 128) ∷ shortest_in k (n / 128))) ≤ length (b ∷ d ∷ bytes)
    by_test true rest = omega arith
    by_test false rest = omega (arith, rest)

number_short : (bytes : List ℕ) (n : ℕ) → IsNumber bytes n → length (number_spelling n) ≤ length bytes
unfolding number_spelling
number_short bytes n is = no_shorter 10 bytes n is.chain is.number

text_short : (bytes text : List ℕ) → IsText bytes text → length (shortest (length text) ++ text) ≤ length bytes
unfolding shortest
text_short bytes text is =
    let front = no_shorter 5 is.0 (length text) is.1.chain is.1.value in
    omega (arith, front, ap length is.2, length-append is.0 text, length-append (shortest_in 5 (length text)) text)

pub shortest_is : (bytes : List ℕ) (v : Value) → SpellsValue bytes v → length (spelling_of v) ≤ length bytes
shortest_is bytes (value.Bool true) s = omega (arith, ap length s)
shortest_is bytes (value.Bool false) s = omega (arith, ap length s)
shortest_is bytes (value.I32 z) s = number_short bytes (cast_unsigned w64 z) s.1
shortest_is bytes (value.U32 n) s = number_short bytes n s.1
shortest_is bytes (value.I64 z) s = number_short bytes (cast_unsigned w64 z) s.1
shortest_is bytes (value.U64 n) s = number_short bytes n s
shortest_is bytes (value.Text text) s = text_short bytes text s
shortest_is bytes (value.Blob blob) s = text_short bytes blob s
shortest_is bytes (value.Raw raw) s = omega (arith, ap length s.0)
