use Rattle.std.proofs.Common.{◌≡◌, true, false}
use Rattle.change_log.proofs.Each.{none_after}
use Rattle.change_log.proofs.followed.makes_nothing.Goals as goal

pub returns : goal.returns
returns c =
    none_after (λ _. true) c.args.changes.now c.args.maker c.args.from c.all_are_others.result
    (λ t k d lt e. absurd (c.all_are_others.ensures.0 t k d lt e), λ all. c.all_are_others.ensures.1 (λ k d lt e. let no : true ≡ false = all k d lt e in absurd cc))
