-- A script: the bytes of the input to its end, and its lines.
use Rattle.std.specs.Prelude.{◌≡◌, ◌≢◌, ℕ, ◌-◌, ◌<◌, ◌≤◌, ◌⊎◌, List, [], ◌∷◌, ◌++◌, All, Option, Some, None, length, map, nat_eq, slice_index, take, if◌then◌else◌, ⊤}
use Rattle.std.specs.List.{ends_with}
use Rattle.bstr.specs.Text.{lines_of as cut_lines}
use Rattle.script_lang.specs.declared.input.TheConstants.{LARGEST_SCRIPT}
use Rattle.script_lang.specs.declared.input.ScriptStop.{ScriptStop}
use Rattle.script_lang.specs.declared.input.ScriptStop.TheVariants.{TooLong}
use Rattle.script_lang.specs.declared.limits.TheConstants.{LARGEST_COUNT, LARGEST_LINE}
use Rattle.script_lang.specs.declared.line.Line.{Line}
use Rattle.script_lang.specs.Lines.{IsLine}

-- where the bytes left are told, all of them were read
abbrev pub IsWholeInput : Option (List ℕ) → Option (List ℕ) → List ℕ → Type 0
IsWholeInput None new script = new ≡ None
IsWholeInput (Some left) new script = (script ≡ left) × (new ≡ Some [])

-- where the bytes left are told, they are more than a script may have, and these are the first of them
abbrev pub IsCutInput : Option (List ℕ) → List ℕ → Type 0
IsCutInput None front = ⊤
IsCutInput (Some left) front = (front ≡ take LARGEST_SCRIPT left) × (LARGEST_SCRIPT < length left)

abbrev pub IfTooLong : (List ℕ → Type 0) → ScriptStop → Type 0
IfTooLong p (TooLong front) = p front
IfTooLong p _ = ⊤

-- where the bytes left are told, the first of them were read, and the others are left
abbrev pub IsFrontRead : Option (List ℕ) → Option (List ℕ) → List ℕ → Type 0
IsFrontRead None new front = new ≡ None
IsFrontRead (Some left) new front = (rest : List ℕ) × (left ≡ front ++ rest) × (new ≡ Some rest)

-- a line without its line feed
abbrev pub without_feed : List ℕ → List ℕ
without_feed line = if ends_with nat_eq line (10 ∷ []) then take (length line - 1) line else line

-- the texts of a script's lines: what stands before each line feed, and behind the last one if anything does
abbrev pub texts_of : List ℕ → List (List ℕ)
texts_of script = map without_feed (cut_lines script)

-- the script's lines that end are its first bytes, so many: behind them stands no line feed
pub record EndsLines (script : List ℕ) (size : ℕ) : Type 0 where
  pub within : size ≤ length script
  pub at_end : (size ≡ 0) ⊎ (slice_index script (size - 1) ≡ 10)
  pub behind : (k : ℕ) → size ≤ k → k < length script → slice_index script k ≢ 10

-- lines, and bytes of one, that a script may have
abbrev pub IsWithin : List (List ℕ) → Type 0
IsWithin texts = (length texts ≤ LARGEST_COUNT) × All (λ text. length text ≤ LARGEST_LINE) texts

-- the texts name these, one after another
abbrev pub AreLines : List (List ℕ) → List (Option Line) → Type 0
AreLines [] lines = lines ≡ []
AreLines (text ∷ texts) lines = (l : Option Line) × (rest : List (Option Line)) × (lines ≡ l ∷ rest) × IsLine text l × AreLines texts rest
