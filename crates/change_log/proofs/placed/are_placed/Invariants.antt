use Rattle.std.proofs.Common.{◌≡◌, ◌<◌, All, take}
use Rattle.change_log.specs.Acts.{replay}
use Rattle.change_log.specs.History.{reply_in}
use Rattle.change_log.proofs.placed.are_placed.Given as goal

abbrev pub invariant-loop-place : goal.invariant-loop-place
invariant-loop-place l = record {
  found : l.map ≡ replay l.base (take l.place l.changes);
  so_far : All (λ a. a.place < l.place → a.reply ≡ reply_in (replay l.base (take a.place l.changes)) a.now a.call) l.answers;
}
