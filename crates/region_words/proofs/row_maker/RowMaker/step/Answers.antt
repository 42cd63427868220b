use Rattle.region_words.proofs.RowParts.{owing_on}
use Rattle.region_words.proofs.row_maker.RowMaker.step.Goals as goal

pub returns-clause-owing : goal.returns-clause-owing
returns-clause-owing g c =
    λ row is. owing_on row c.args.self.now.events c.make_first.new.self.events (g.S.Share.state c.args.share.now) (g.S.Share.state c.make_first.new.share) c.in_ok-make_first.ensures.ok is
