-- A value as a word of a command line.
use Rattle.std.specs.Prelude.{◌≡◌, ℕ, ◌^◌, ◌<◌, true, false, List, Ok, FitsSigned, codes, decimal}
use Rattle.std.specs.Fmt.{signed_decimal}
use Rattle.std.specs.Int.{w32, w64}
use Rattle.hex.specs.Hex.{decode_of, encode_lower}
use Rattle.wire_values.specs.Values.{kind_of}
use Rattle.wire_values.specs.declared.value.Kind.{Kind}
use Rattle.wire_values.specs.declared.value.Value.{Value}
use Rattle.wire_values.specs.declared.value.Value.TheVariants as value

-- the word stands for the value: numbers in decimal with no needless zero, a text as its bytes, a blob and a raw in hexadecimal of either case
abbrev pub SpellsWord : List ℕ → Value → Type 0
SpellsWord word (value.Bool true) = word ≡ codes "true"
SpellsWord word (value.Bool false) = word ≡ codes "false"
SpellsWord word (value.I32 z) = FitsSigned w32 z × (word ≡ signed_decimal z)
SpellsWord word (value.U32 n) = (n < 2 ^ 32) × (word ≡ decimal n)
SpellsWord word (value.I64 z) = FitsSigned w64 z × (word ≡ signed_decimal z)
SpellsWord word (value.U64 n) = (n < 2 ^ 64) × (word ≡ decimal n)
SpellsWord word (value.Text text) = word ≡ text
SpellsWord word (value.Blob blob) = decode_of word ≡ Ok blob
SpellsWord word (value.Raw raw) = decode_of word ≡ Ok raw

-- the word is one for some value of this kind
abbrev pub SpellsSomeWord : List ℕ → Kind → Type 0
SpellsSomeWord word kind = (v : Value) × (kind_of v ≡ kind) × SpellsWord word v

-- the word is none for a value of this kind
abbrev pub SpellsNoWord : List ℕ → Kind → Type 0
SpellsNoWord word kind = (v : Value) → kind_of v ≡ kind → SpellsWord word v → ⊥

-- the word that is written for a value, with hexadecimal in lower case
abbrev pub word_of : Value → List ℕ
word_of (value.Bool true) = codes "true"
word_of (value.Bool false) = codes "false"
word_of (value.I32 z) = signed_decimal z
word_of (value.U32 n) = decimal n
word_of (value.I64 z) = signed_decimal z
word_of (value.U64 n) = decimal n
word_of (value.Text text) = text
word_of (value.Blob blob) = encode_lower blob
word_of (value.Raw raw) = encode_lower raw
