-- What was written of a text, where the sink tells it.
use Rattle.std.specs.Prelude.{◌≡◌, ℕ, ◌≤◌, List, ◌++◌, Option, Some, None, length, take}

-- the first n bytes of the text were written
abbrev pub Wrote : Option (List ℕ) → Option (List ℕ) → List ℕ → ℕ → Type 0
Wrote None new text n = new ≡ None
Wrote (Some written) new text n = new ≡ Some (written ++ take n text)

-- some front of the text was written
abbrev pub WroteFront : Option (List ℕ) → Option (List ℕ) → List ℕ → Type 0
WroteFront old new text = (n : ℕ) × (n ≤ length text) × Wrote old new text n

-- the list begins with this one
abbrev pub BeginsWith : List ℕ → List ℕ → Type 0
BeginsWith list front = take (length front) list ≡ front
