-- An input that is read piece by piece.
use Rattle.std.proofs.Common.{◌≡◌, ℕ, ◌<◌, List, length, take, ap, sym, ◌∙◌, arith}
use Rattle.std.specs.Prelude.{Option, Some, None}
use Rattle.std.proofs.lemmas.List.{take-append-le, length-append}
use Rattle.script_lang.specs.Script.{IsFrontRead, IsCutInput}

-- more was read than a script may have
pub cut_input : (old new : Option (List ℕ)) (front cut : List ℕ) → IsFrontRead old new front → 67108864 < length front → cut ≡ take 67108864 front → IsCutInput old cut
cut_input None new front cut r more e = tt
cut_input (Some left) new front cut r more e = (
  e ∙ sym (take-append-le 67108864 front r.0 (omega arith)) ∙ ap (take 67108864) (sym r.1),
  omega (arith, more, ap length r.1, length-append front r.0),
)
