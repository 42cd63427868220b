use Rattle.std.proofs.Common.{◌≡◌, ◌+◌, ◌-◌, ◌/◌, length, arith, sym, ◌∙◌, ap}
use Rattle.region_words.proofs.RowParts.{words_left}
use Rattle.region_words.proofs.payload_words.PayloadWords.left.Goals as goal

pub returns : goal.returns
returns c =
    let p = c.self.inside in
    let n : c.div_ceil.result ≡ (length p.bytes.items + 3) / 4 = omega (arith, c.div_ceil.ensures, c.len.ensures) in
    ap (λ k. k - p.stored) n ∙ sym (words_left p.first p.stored p.bytes.items c.self.invariant.0) ∙ ap length c.self.view_is
