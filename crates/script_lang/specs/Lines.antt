-- The lines of a script: words with one space between.
use Rattle.std.specs.Prelude.{◌≡◌, ℕ, ◌^◌, ◌<◌, ◌≤◌, ◌⊎◌, true, false, List, [], ◌∷◌, Option, Some, None, Ok, length, codes, decimal, FitsSigned}
use Rattle.std.specs.Int.{to_be_bytes, w32, w64}
use Rattle.std.specs.Fmt.{signed_decimal}
use Rattle.hex.specs.Hex.{decode_of}
use Rattle.change_log.specs.declared.call.Call.{Call}
use Rattle.change_log.specs.declared.call.Call.TheVariants as call
use Rattle.wire_values.specs.declared.value.Kind.{Kind}
use Rattle.wire_values.specs.declared.value.Kind.TheVariants as kind
use Rattle.wire_values.specs.declared.value.Value.{Value}
use Rattle.wire_values.specs.declared.value.Value.TheVariants as value
use Rattle.wire_values.specs.Values.{kind_of}
use Rattle.wire_values.specs.Spelling.{spelling_of}
use Rattle.script_lang.specs.declared.line.Line.{Line}
use Rattle.script_lang.specs.declared.line.Line.TheVariants.{Open, Begin, Step, Die, Next}
use Rattle.handlers.specs.declared.handler.Strategy.{Strategy}
use Rattle.handlers.specs.declared.handler.Strategy.TheVariants.{Discard, Recover, Leave}
use Rattle.script_lang.specs.Texts.{spaced}

-- a number of 32 bits: decimal digits without a sign or a needless zero
abbrev pub IsNumber : List ℕ → ℕ → Type 0
IsNumber word n = (word ≡ decimal n) × (n < 2 ^ 32)

-- bytes: hexadecimal digits of either case, an even number of them and not none, or a dash for no bytes
abbrev pub IsHex : List ℕ → List ℕ → Type 0
IsHex word bytes = ((word ≡ codes "-") × (bytes ≡ [])) ⊎ ((0 < length word) × (decode_of word ≡ Ok bytes))

-- the bits of a torn word: eight hexadecimal digits of either case, the highest first
abbrev pub IsBits : List ℕ → ℕ → Type 0
IsBits word n = (length word ≡ 8) × (decode_of word ≡ Ok (to_be_bytes w32 n)) × (n < 2 ^ 32)

abbrev pub kind_word : Kind → List ℕ
kind_word kind.Bool = codes "bool"
kind_word kind.I32 = codes "i32"
kind_word kind.U32 = codes "u32"
kind_word kind.I64 = codes "i64"
kind_word kind.U64 = codes "u64"
kind_word kind.Text = codes "text"
kind_word kind.Blob = codes "blob"
kind_word kind.Raw = codes "raw"

abbrev pub strategy_word : Strategy → List ℕ
strategy_word Discard = codes "discard"
strategy_word Recover = codes "recover"
strategy_word Leave = codes "leave"

-- a value as a script spells it: as a command line does, but texts and other bytes in hexadecimal
abbrev pub IsValueWord : List ℕ → Value → Type 0
IsValueWord word (value.Bool true) = word ≡ codes "true"
IsValueWord word (value.Bool false) = word ≡ codes "false"
IsValueWord word (value.I32 z) = (word ≡ signed_decimal z) × FitsSigned w32 z
IsValueWord word (value.U32 n) = (word ≡ decimal n) × (n < 2 ^ 32)
IsValueWord word (value.I64 z) = (word ≡ signed_decimal z) × FitsSigned w64 z
IsValueWord word (value.U64 n) = (word ≡ decimal n) × (n < 2 ^ 64)
IsValueWord word (value.Text bytes) = IsHex word bytes
IsValueWord word (value.Blob bytes) = IsHex word bytes
IsValueWord word (value.Raw bytes) = IsHex word bytes

-- the words of a put: its key, the kind of its value, the value, and the seconds that it lives
pub record IsPut (words : List (List ℕ)) (key value : List ℕ) (seconds : ℕ) : Type 0 where
  pub key_word : List ℕ
  pub value_word : List ℕ
  pub seconds_word : List ℕ
  pub typed : Value
  pub words_are : words ≡ codes "put" ∷ key_word ∷ kind_word (kind_of typed) ∷ value_word ∷ seconds_word ∷ []
  pub key_is : IsHex key_word key
  pub value_is : IsValueWord value_word typed
  pub encoded : value ≡ spelling_of typed
  pub seconds_are : IsNumber seconds_word seconds

-- the words spell this call
abbrev pub IsCall : List (List ℕ) → Call → Type 0
IsCall words (call.Get key) = (word : List ℕ) × (words ≡ codes "get" ∷ word ∷ []) × IsHex word key
IsCall words (call.Put key value seconds) = IsPut words key value seconds
IsCall words (call.Remove key) = (word : List ℕ) × (words ≡ codes "remove" ∷ word ∷ []) × IsHex word key
IsCall words call.Clear = words ≡ codes "clear" ∷ []
IsCall words call.Keys = words ≡ codes "keys" ∷ []
IsCall words call.Count = words ≡ codes "count" ∷ []
IsCall words (call.Enable seconds) = (word : List ℕ) × (words ≡ codes "enable" ∷ word ∷ []) × IsNumber word seconds
IsCall words call.Disable = words ≡ codes "disable" ∷ []
IsCall words call.Hold = words ≡ codes "hold" ∷ []
IsCall words call.Release = words ≡ codes "release" ∷ []
IsCall words call.Sync = words ≡ codes "sync" ∷ []

-- the words name an opener, a moment and a call
pub record IsCallLine (name : List ℕ) (words : List (List ℕ)) (who now : ℕ) (c : Call) : Type 0 where
  pub who_word : List ℕ
  pub now_word : List ℕ
  pub call_words : List (List ℕ)
  pub words_are : words ≡ name ∷ who_word ∷ now_word ∷ call_words
  pub who_is : IsNumber who_word who
  pub now_is : IsNumber now_word now
  pub call_is : IsCall call_words c

-- the words spell this line
abbrev pub IsLineOf : List (List ℕ) → Line → Type 0
IsLineOf words (Open strategy) = words ≡ codes "open" ∷ strategy_word strategy ∷ []
IsLineOf words (Begin who now c) = IsCallLine (codes "begin") words who now c
IsLineOf words (Step who count) = (w n : List ℕ) × (words ≡ codes "step" ∷ w ∷ n ∷ []) × IsNumber w who × IsNumber n count × (1 ≤ count) × (count ≤ 1048576)
IsLineOf words (Die who None) = (w : List ℕ) × (words ≡ codes "die" ∷ w ∷ []) × IsNumber w who
IsLineOf words (Die who (Some bits)) = (w b : List ℕ) × (words ≡ codes "die" ∷ w ∷ b ∷ []) × IsNumber w who × IsBits b bits
IsLineOf words (Next who now c) = IsCallLine (codes "call") words who now c

-- the text of a line, without its end, names this; an empty one and one that begins with `#` name nothing
abbrev pub IsLine : List ℕ → Option Line → Type 0
IsLine text None = (text ≡ []) ⊎ ((rest : List ℕ) × (text ≡ 35 ∷ rest))
IsLine text (Some l) = (words : List (List ℕ)) × (text ≡ spaced words) × IsLineOf words l

-- a line names one thing
abbrev pub NamesOneThing : Type 0
NamesOneThing = (text : List ℕ) (l m : Option Line) → IsLine text l → IsLine text m → l ≡ m
