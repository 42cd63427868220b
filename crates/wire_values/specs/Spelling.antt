-- The shortest spelling of each value.
use Rattle.std.specs.Prelude.{ℕ, true, false, List, [], ◌∷◌, ◌++◌, length}
use Rattle.std.specs.Int.{cast_unsigned, w64}
use Rattle.kv_pairs.specs.Lengths.{shortest, shortest_in}
use Rattle.wire_values.specs.declared.value.Value.{Value}
use Rattle.wire_values.specs.declared.value.Value.TheVariants as value

-- the shortest spelling of a number below 2 ^ 64
unfoldable pub number_spelling : ℕ → List ℕ
number_spelling n = shortest_in 10 n

-- the shortest spelling of a value, and no bytes for a Raw of none
abbrev pub spelling_of : Value → List ℕ
spelling_of (value.Bool true) = 1 ∷ []
spelling_of (value.Bool false) = 0 ∷ []
spelling_of (value.I32 z) = number_spelling (cast_unsigned w64 z)
spelling_of (value.U32 n) = number_spelling n
spelling_of (value.I64 z) = number_spelling (cast_unsigned w64 z)
spelling_of (value.U64 n) = number_spelling n
spelling_of (value.Text text) = shortest (length text) ++ text
spelling_of (value.Blob blob) = shortest (length blob) ++ blob
spelling_of (value.Raw raw) = raw
