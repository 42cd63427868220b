use Rattle.std.proofs.Common.{◌≡◌, ◌++◌}
use Rattle.std.specs.Prelude.{flat_map}
use Rattle.expiring_map.specs.Map.{pairs_of}
use Rattle.script_lang.specs.Texts as text
use Rattle.script_lang.specs.Written.{BeginsWith}
use Rattle.script_lang.proofs.region.push_pairs.Given as goal

abbrev pub invariant-loop-pair : goal.invariant-loop-pair
invariant-loop-pair l =
    (l.out.items ++ flat_map text.pair_line l.pair-iterator ≡ l.fn.out.items ++ text.pairs_text (pairs_of l.map))
    × BeginsWith l.out.items l.fn.out.items
