-- Laws of the spellings, as their functions in laws.rt ensure them.
use Rattle.std.specs.Prelude.{◌≡◌, ℕ, ◌^◌, ◌<◌, ◌≤◌, List, length, FitsSigned}
use Rattle.std.specs.Int.{w32, w64}
use Rattle.wire_values.specs.Values.{SpellsValue, kind_of}
use Rattle.wire_values.specs.Spelling.{spelling_of}
use Rattle.wire_values.specs.Words.{SpellsWord, word_of}
use Rattle.hex.specs.Hex.{IsBytes}
use Rattle.wire_values.specs.declared.value.Value.{Value}
use Rattle.wire_values.specs.declared.value.Value.TheVariants as value

-- a value that some bytes spell: its number is in the range of its kind, a text or a blob is of fewer than 2 ^ 31 bytes, a raw of one byte or more
abbrev pub HasSpelling : Value → Type 0
HasSpelling (value.Bool b) = Unit {0}
HasSpelling (value.I32 z) = FitsSigned w32 z
HasSpelling (value.U32 n) = n < 2 ^ 32
HasSpelling (value.I64 z) = FitsSigned w64 z
HasSpelling (value.U64 n) = n < 2 ^ 64
HasSpelling (value.Text text) = length text < 2 ^ 31
HasSpelling (value.Blob blob) = length blob < 2 ^ 31
HasSpelling (value.Raw raw) = 0 < length raw

-- the bytes that a value is written as spell it
abbrev pub ReadsBack : Type 0
ReadsBack = (v : Value) → HasSpelling v → SpellsValue (spelling_of v) v

-- bytes spell one value of a kind
abbrev pub SpellsOne : Type 0
SpellsOne = (bytes : List ℕ) (v w : Value) → kind_of v ≡ kind_of w → SpellsValue bytes v → SpellsValue bytes w → v ≡ w

-- no spelling of a value is shorter than that which is written
abbrev pub IsShortest : Type 0
IsShortest = (bytes : List ℕ) (v : Value) → SpellsValue bytes v → length (spelling_of v) ≤ length bytes

-- a value that some word spells: its number is in the range of its kind, and a blob or a raw is of bytes
abbrev pub HasWord : Value → Type 0
HasWord (value.Bool b) = Unit {0}
HasWord (value.I32 z) = FitsSigned w32 z
HasWord (value.U32 n) = n < 2 ^ 32
HasWord (value.I64 z) = FitsSigned w64 z
HasWord (value.U64 n) = n < 2 ^ 64
HasWord (value.Text text) = Unit {0}
HasWord (value.Blob blob) = IsBytes blob
HasWord (value.Raw raw) = IsBytes raw

-- the word that is written for a value spells it
abbrev pub WordReadsBack : Type 0
WordReadsBack = (v : Value) → HasWord v → SpellsWord (word_of v) v

-- a word spells one value of a kind
abbrev pub WordSpellsOne : Type 0
WordSpellsOne = (word : List ℕ) (v w : Value) → kind_of v ≡ kind_of w → SpellsWord word v → SpellsWord word w → v ≡ w
