use Rattle.std.proofs.Common.{refl}
use Rattle.region_words.specs.Local.{account_of, after_refusal}
use Rattle.region_words.specs.Inside.{local_of}
use Rattle.region_words.proofs.Keeping.{keeps_count}
use Rattle.region_words.proofs.region.LocalRegion.count_busy.Goals as goal

pub invariant_of-self : goal.invariant_of-self
invariant_of-self c =
    rw c.saturating_add.ensures (keeps_count (local_of c.self.inside) _ _ _ _ _ _ _ c.self.invariant c.args.who c.requires.least c.requires.most (after_refusal (account_of c.self.inside.accounts c.args.who)) refl refl refl)
