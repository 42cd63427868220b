-- Bytes as words of hexadecimal digits.
use Rattle.std.proofs.Common.{◌≡◌, ℕ, ◌≤◌, List, length, arith}
use Rattle.std.specs.Prelude.{Ok}
use Rattle.hex.specs.Hex.{decode_of}
use Rattle.hex.proofs.HexLemmas.{decode_of-ok}
use Rattle.wire_values.specs.declared.value.Kind.TheVariants as kind
use Rattle.wire_values.specs.declared.value.Value.{Value}
use Rattle.wire_values.specs.declared.value.Value.TheVariants as value
use Rattle.script_lang.specs.Lines.{IsHex}
use Rattle.script_lang.specs.Splitting.{IsValueOf}

pub bytes_within : (word bytes : List ℕ) → decode_of word ≡ Ok bytes → length bytes ≤ length word
bytes_within word bytes e = omega (arith, (decode_of-ok word bytes e).2)

pub no_text : (word : List ℕ) → ((bytes : List ℕ) → IsHex word bytes → ⊥) → (v : Value) → IsValueOf kind.Text word v → ⊥
no_text word h (value.Bool x) m = cc m.0
no_text word h (value.I32 x) m = cc m.0
no_text word h (value.U32 x) m = cc m.0
no_text word h (value.I64 x) m = cc m.0
no_text word h (value.U64 x) m = cc m.0
no_text word h (value.Text x) m = h x m.1
no_text word h (value.Blob x) m = cc m.0
no_text word h (value.Raw x) m = cc m.0

pub no_blob : (word : List ℕ) → ((bytes : List ℕ) → IsHex word bytes → ⊥) → (v : Value) → IsValueOf kind.Blob word v → ⊥
no_blob word h (value.Bool x) m = cc m.0
no_blob word h (value.I32 x) m = cc m.0
no_blob word h (value.U32 x) m = cc m.0
no_blob word h (value.I64 x) m = cc m.0
no_blob word h (value.U64 x) m = cc m.0
no_blob word h (value.Text x) m = cc m.0
no_blob word h (value.Blob x) m = h x m.1
no_blob word h (value.Raw x) m = cc m.0

pub no_raw : (word : List ℕ) → ((bytes : List ℕ) → IsHex word bytes → ⊥) → (v : Value) → IsValueOf kind.Raw word v → ⊥
no_raw word h (value.Bool x) m = cc m.0
no_raw word h (value.I32 x) m = cc m.0
no_raw word h (value.U32 x) m = cc m.0
no_raw word h (value.I64 x) m = cc m.0
no_raw word h (value.U64 x) m = cc m.0
no_raw word h (value.Text x) m = cc m.0
no_raw word h (value.Blob x) m = cc m.0
no_raw word h (value.Raw x) m = h x m.1
