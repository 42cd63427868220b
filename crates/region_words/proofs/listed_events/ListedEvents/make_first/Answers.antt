use Rattle.std.proofs.Common.{◌≡◌, ◌+◌, ◌∷◌, drop, sym, ◌∙◌}
use Rattle.region_words.proofs.RowParts.{first_listed, may_make_this}
use Rattle.region_words.proofs.listed_events.ListedEvents.make_first.Goals as goal

pub make-requires-clause-lawful : goal.make-requires-clause-lawful
make-requires-clause-lawful g c =
    let l = c.self.inside in
    let first = c.index_mut.result.now in
    let is : c.args.self.now ≡ first ∷ drop (l.made + 1) l.events.items =
    sym c.self.view_is ∙ first_listed l.events.items l.made first (λ e. c.requires.some (sym c.self.view_is ∙ e)) c.index_mut.ensures.value in
    (may_make_this c.args.self.now first (drop (l.made + 1) l.events.items) (g.S.Share.state c.args.share.now) is c.requires.owing).lawful
