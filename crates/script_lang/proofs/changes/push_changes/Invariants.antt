use Rattle.std.proofs.Common.{◌≡◌, ◌++◌, drop}
use Rattle.std.specs.Prelude.{flat_map}
use Rattle.std.specs.List.{enumerate_from}
use Rattle.script_lang.specs.Texts as text
use Rattle.script_lang.specs.Written.{BeginsWith}
use Rattle.script_lang.proofs.changes.push_changes.Given as goal

abbrev pub invariant-loop-number : goal.invariant-loop-number
invariant-loop-number l =
    (l.out.items ++ flat_map text.change_line (enumerate_from l.number (drop l.number l.changes)) ≡ l.fn.out.items ++ text.changes_text l.changes)
    × BeginsWith l.out.items l.fn.out.items
