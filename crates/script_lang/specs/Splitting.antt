-- A text as words with one space between, and what a reader of words answers.
use Rattle.std.specs.Prelude.{◌≡◌, ◌≢◌, ℕ, slice_index, drop, ◌==◌, if◌then◌else◌, List, [], ◌∷◌, Option, Some, None, length}
use Rattle.change_log.specs.declared.call.Call.{Call}
use Rattle.script_lang.specs.Lines.{IsNumber, IsCall}
use Rattle.wire_values.specs.declared.value.Kind.{Kind}
use Rattle.wire_values.specs.declared.value.Value.{Value}
use Rattle.wire_values.specs.Spelling.{spelling_of}
use Rattle.wire_values.specs.Values.{kind_of}
use Rattle.script_lang.specs.Lines.{IsValueWord, kind_word}

-- the reader found what is meant, or nothing is meant
abbrev pub Reads : {A : Type 0} → (A → Type 0) → Option A → Type 0
Reads IsMeant (Some x) = IsMeant x
Reads IsMeant None = (x : _) → IsMeant x → ⊥

-- a byte before the first word
abbrev pub before_words : ℕ → List (List ℕ) → List (List ℕ)
before_words byte [] = (byte ∷ []) ∷ []
before_words byte (word ∷ words) = (byte ∷ word) ∷ words

-- the words of a text, cut at each space
unfoldable pub words_of : List ℕ → List (List ℕ)
words_of [] = [] ∷ []
words_of (byte ∷ bytes) = if byte == 32 then [] ∷ words_of bytes else before_words byte (words_of bytes)

-- no sign begins the word, and no zero but where it is the whole word
abbrev pub IsPlain : List ℕ → Type 0
IsPlain word = (slice_index word 0 ≢ 43) × (slice_index word 0 ≢ 45) × (slice_index word 0 ≡ 48 → length word ≡ 1)

-- digits without a sign or a needless zero, maybe behind a minus sign and then not a zero
abbrev pub IsPlainSigned : List ℕ → Type 0
IsPlainSigned word = (slice_index word 0 ≢ 45 → IsPlain word) × (slice_index word 0 ≡ 45 → IsPlain (drop 1 word) × (slice_index word 1 ≢ 48))

-- the word spells this value of this kind
abbrev pub IsValueOf : Kind → List ℕ → Value → Type 0
IsValueOf kind word v = (kind_of v ≡ kind) × IsValueWord word v

-- the words spell a value of these bytes, its kind first
abbrev pub IsEncoded : List ℕ → List ℕ → List ℕ → Type 0
IsEncoded named word bytes = (v : Value) × (named ≡ kind_word (kind_of v)) × IsValueWord word v × (bytes ≡ spelling_of v)

-- the words are two numbers
abbrev pub AreNumbers : List (List ℕ) → ℕ × ℕ → Type 0
AreNumbers words t = (a b : List ℕ) × (words ≡ a ∷ b ∷ []) × IsNumber a t.0 × IsNumber b t.1

-- the words are the number of an opener, a moment and a call
abbrev pub IsTimedCall : List (List ℕ) → ℕ × ℕ × Call → Type 0
IsTimedCall words t = (who now : List ℕ) × (call : List (List ℕ)) × (words ≡ who ∷ now ∷ call) × IsNumber who t.0 × IsNumber now t.1 × IsCall call t.2
