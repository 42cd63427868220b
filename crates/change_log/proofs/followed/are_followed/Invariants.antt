use Rattle.std.proofs.Common.{◌≡◌, ◌<◌, ℕ}
use Rattle.std.specs.Prelude.{slice_get, Some}
use Rattle.change_log.specs.History.{IsFollowed}
use Rattle.change_log.specs.declared.change.Change.{Change}
use Rattle.change_log.proofs.followed.are_followed.Given as goal

abbrev pub invariant-loop-place : goal.invariant-loop-place
invariant-loop-place l = (i : ℕ) (c : Change) → i < l.place → slice_get l.changes i ≡ Some c → IsFollowed l.changes l.answers i c
