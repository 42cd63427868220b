-- A write-back has few events beside its payload.
use Rattle.std.proofs.Common.{ℕ, ◌≤◌, Bool, true, false, List, [], ◌∷◌, length, arith, length-append}
use Rattle.std.specs.Prelude.{Some, nat_lt, ◌==◌, if◌then◌else◌}
use Rattle.region_words.specs.Rows.{growth, next_sequence, store_meta}
use Rattle.region_words.specs.declared.standing.Standing.{Standing}
use Rattle.region_words.specs.declared.event.What.{What}
use Rattle.write_back.specs.Rewrites.{opening}

at_most_one : (b : Bool) (what : What) → length (if b then what ∷ [] else []) ≤ 1
at_most_one true what = omega arith
at_most_one false what = omega arith

pub few_before : (s : Standing) (size : ℕ) → length (opening s size) ≤ 3
few_before s size =
    let version : List What = if s.version == 0 then store_meta 1 3 ∷ [] else [] in
    omega (arith, length-append (growth s (Some size)) (next_sequence s ∷ version), at_most_one (nat_lt s.file_size size) (What.Grow size), at_most_one (s.version == 0) (store_meta 1 3))
