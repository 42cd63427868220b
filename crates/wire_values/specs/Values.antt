use Rattle.std.specs.Prelude.{◌≡◌, ℕ, ◌^◌, ◌<◌, ◌≤◌, true, false, List, [], ◌∷◌, ◌++◌, length, FitsSigned}
use Rattle.std.specs.Int.{cast_unsigned, w32, w64}
use Rattle.kv_pairs.specs.Lengths.{IsVarint, varint_value, Spells}
use Rattle.wire_values.specs.declared.value.Kind.{Kind}
use Rattle.wire_values.specs.declared.value.Kind.TheVariants as kind
use Rattle.wire_values.specs.declared.value.Value.{Value}
use Rattle.wire_values.specs.declared.value.Value.TheVariants as value

-- the bytes spell this number of 64 bits, maybe in more bytes than needed
pub record IsNumber (bytes : List ℕ) (n : ℕ) : Type 0 where
  pub chain : IsVarint bytes
  pub most : length bytes ≤ 10
  pub number : n ≡ varint_value bytes
  pub below : n < 2 ^ 64

-- a length, and bytes of that length
abbrev pub IsText : List ℕ → List ℕ → Type 0
IsText bytes text = (front : List ℕ) × Spells front (length text) × (bytes ≡ front ++ text)

abbrev pub kind_of : Value → Kind
kind_of (value.Bool b) = kind.Bool
kind_of (value.I32 z) = kind.I32
kind_of (value.U32 n) = kind.U32
kind_of (value.I64 z) = kind.I64
kind_of (value.U64 n) = kind.U64
kind_of (value.Text text) = kind.Text
kind_of (value.Blob blob) = kind.Blob
kind_of (value.Raw raw) = kind.Raw

-- the bytes stand for the value; a negative number is spelled as its two's complement in 64 bits
abbrev pub SpellsValue : List ℕ → Value → Type 0
SpellsValue bytes (value.Bool true) = bytes ≡ 1 ∷ []
SpellsValue bytes (value.Bool false) = bytes ≡ 0 ∷ []
SpellsValue bytes (value.I32 z) = FitsSigned w32 z × IsNumber bytes (cast_unsigned w64 z)
SpellsValue bytes (value.U32 n) = (n < 2 ^ 32) × IsNumber bytes n
SpellsValue bytes (value.I64 z) = FitsSigned w64 z × IsNumber bytes (cast_unsigned w64 z)
SpellsValue bytes (value.U64 n) = IsNumber bytes n
SpellsValue bytes (value.Text text) = IsText bytes text
SpellsValue bytes (value.Blob blob) = IsText bytes blob
SpellsValue bytes (value.Raw raw) = (bytes ≡ raw) × (0 < length raw)

-- the bytes are a spelling of some value of this kind
abbrev pub SpellsSome : List ℕ → Kind → Type 0
SpellsSome bytes kind = (v : Value) × (kind_of v ≡ kind) × SpellsValue bytes v

-- the bytes are no spelling of a value of this kind
abbrev pub SpellsNone : List ℕ → Kind → Type 0
SpellsNone bytes kind = (v : Value) → kind_of v ≡ kind → SpellsValue bytes v → ⊥

-- a text or a blob is of fewer bytes than a length can tell
abbrev pub HasLength : Value → Type 0
HasLength (value.Text text) = length text < 2 ^ 31
HasLength (value.Blob blob) = length blob < 2 ^ 31
HasLength (value.Bool b) = Unit {0}
HasLength (value.I32 z) = Unit {0}
HasLength (value.U32 n) = Unit {0}
HasLength (value.I64 z) = Unit {0}
HasLength (value.U64 n) = Unit {0}
HasLength (value.Raw raw) = Unit {0}
