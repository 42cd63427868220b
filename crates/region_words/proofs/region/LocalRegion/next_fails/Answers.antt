use Rattle.std.proofs.Common.{subst}
use Rattle.std.specs.Prelude.{IsTrue, Contains}
use Rattle.region_words.specs.Local.{Local}
use Rattle.region_words.proofs.region.LocalRegion.next_fails.Goals as goal

pub returns-clause-fails : goal.returns-clause-fails
returns-clause-fails c =
    subst (λ (l : Local). (IsTrue c.next_fails.result → Contains l.failing.listed l.failing.made) × (Contains l.failing.listed l.failing.made → IsTrue c.next_fails.result)) c.self.view_is c.next_fails.ensures.fails
