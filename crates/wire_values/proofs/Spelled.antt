-- Which values some bytes spell, by kind.
use Rattle.std.proofs.Common.{◌≡◌, ◌≢◌, ℕ, List, [], ◌∷◌, length, refl, sym, ap, ◌∙◌, arith}
use Rattle.std.specs.Prelude.{Option, Some, unwrap_or, Result, Ok, Err, MatchResult, IsErrOf, IsOkAnd}
use Rattle.kv_pairs.specs.Reading.{length_at}
use Rattle.kv_pairs.proofs.ReadsGrammar.{length_read}
use Rattle.wire_values.specs.Values.{SpellsSome, SpellsNone, IsText}
use Rattle.wire_values.specs.declared.value.Kind.{Kind}
use Rattle.wire_values.specs.declared.value.Kind.TheVariants as kind
use Rattle.wire_values.specs.declared.value.Value.TheVariants as value

-- an error goes through a map
pub err_through : {A B E : Type 0} (r : Result A E) (s : Result B E) (P : A → B → Type 0) (e : E) → MatchResult r (λ x. IsOkAnd s (P x)) (λ e. s ≡ Err e) → IsErrOf s e → IsErrOf r e
err_through (Ok x) (Ok y) P e cases h = absurd cc
err_through (Ok x) (Err d) P e cases h = absurd cases
err_through (Err d) s P e cases h = let same : d ≡ e = (cc) in ap Err same

-- bytes behind a length that isn't theirs
pub another_size : (bytes rest : List ℕ) (size : ℕ) → length_at bytes ≡ Some (size, rest) → length rest ≢ size → (text : List ℕ) → IsText bytes text → ⊥
another_size bytes rest size found other text is =
    let read : length_at bytes ≡ Some (length text, text) = ap length_at is.2 ∙ length_read is.0 text (length text) is.1 in
    let both : Some (size, rest) ≡ Some (length text, text) = sym found ∙ read in
    let here : size ≡ length text = ap (λ (o : Option (ℕ × List ℕ)). (unwrap_or o (0, [])).0) both in
    let same : rest ≡ text = ap (λ (o : Option (ℕ × List ℕ)). (unwrap_or o (0, [])).1) both in
    other (ap length same ∙ sym here)

pub no_text : (bytes : List ℕ) (k : Kind) → k ≡ kind.Text → ((text : List ℕ) → IsText bytes text → ⊥) → SpellsNone bytes k
no_text bytes k e none (value.Text text) f spells = none text spells
no_text bytes k e none (value.Bool b) f spells = absurd cc
no_text bytes k e none (value.I32 z) f spells = absurd cc
no_text bytes k e none (value.U32 n) f spells = absurd cc
no_text bytes k e none (value.I64 z) f spells = absurd cc
no_text bytes k e none (value.U64 n) f spells = absurd cc
no_text bytes k e none (value.Blob blob) f spells = absurd cc
no_text bytes k e none (value.Raw raw) f spells = absurd cc

pub no_blob : (bytes : List ℕ) (k : Kind) → k ≡ kind.Blob → ((text : List ℕ) → IsText bytes text → ⊥) → SpellsNone bytes k
no_blob bytes k e none (value.Blob blob) f spells = none blob spells
no_blob bytes k e none (value.Bool b) f spells = absurd cc
no_blob bytes k e none (value.I32 z) f spells = absurd cc
no_blob bytes k e none (value.U32 n) f spells = absurd cc
no_blob bytes k e none (value.I64 z) f spells = absurd cc
no_blob bytes k e none (value.U64 n) f spells = absurd cc
no_blob bytes k e none (value.Text text) f spells = absurd cc
no_blob bytes k e none (value.Raw raw) f spells = absurd cc

pub some_raw : (bytes : List ℕ) (k : Kind) → k ≡ kind.Raw → bytes ≢ [] → SpellsSome bytes k
some_raw [] k e some = absurd (some refl)
some_raw (b ∷ bytes) k e some = (value.Raw (b ∷ bytes), sym e, (refl, omega arith))
