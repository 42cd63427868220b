use Rattle.std.proofs.Common.{◌≡◌, option_copied, refl, sym, ◌∙◌, subst, ap}
use Rattle.expiring_map.specs.Live.{value_at}
use Rattle.opener.specs.State.{OpenerState}
use Rattle.opener.specs.Ends.{OnImage}
use Rattle.opener.proofs.QuickReads.{answered}
use Rattle.opener.proofs.opener_core.OpenerCore.quick_get.Goals as goal

pub returns : goal.returns
returns g c =
    let o = c.args.self.now in
    let key = c.args.key.now in
    let now = c.args.now in
    let value = option_copied c.kept_value.result in
    let same : c.look.new.self ≡ o = c.in_ok-look.ensures.opener in
    let current = c.in_ok-look.ensures.ok in
    let image = ap (λ (z : OpenerState). z.image) same ∙ current.kept in
    let is : value ≡ value_at current.i.map key now = subst (λ z. OnImage z (λ i. value ≡ value_at i.map key now)) image c.kept_value.ensures.value in (
      (refl, λ _. tt, same),
      record {
        opener = tt;
        tied = c.in_ok-look.ensures.tied;
        ok = answered o.image value key now (g.S.Share.state c.args.share.now) (g.S.Share.state c.look.new.share) current is;
        none = λ none. let both = sym current.kept ∙ none in cc;
        cold = tt;
        stale = tt;
        fault = tt;
      },
    )
