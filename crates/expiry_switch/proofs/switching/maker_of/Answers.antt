use Rattle.std.proofs.Common.{◌≡◌, ◌++◌, length, ap, ◌∙◌, ◌^◌, arith}
use Rattle.std.specs.Prelude.{not}
use Rattle.kv_pairs.specs.Mapped.{packed}
use Rattle.kv_pairs.proofs.PackedSizes.{fitting_small}
use Rattle.region_words.specs.Standings.{words_of}
use Rattle.region_words.proofs.RowParts.{length-stores, length-words}
use Rattle.expiry_switch.proofs.AfterSwitch.{few_before}
use Rattle.expiry_switch.proofs.switching.maker_of.Goals as goal

pub new-requires-2 : goal.new-requires-2
new-requires-2 c =
    let bytes = c.pack.new.out.items in
    let payload : length c.new.result ≡ length (words_of bytes) = ap length c.new.ensures ∙ length-stores 1 (words_of bytes) in
    let before = ap length (c.new-before.ensures ∙ c.in_ok-opening.ensures) in
    let behind = ap length (c.new-behind.ensures ∙ c.in_ok-closing.ensures) in
    let size : length bytes ≡ length (packed (not c.args.standing.now.flag) c.args.map.now) =
    ap length (c.in_ok-pack.ensures.ok ∙ ap (λ l. l ++ packed (not c.args.standing.now.flag) c.args.map.now) c.new-payload.ensures.items) in
    omega (arith, payload, before, behind, size, length-words bytes, few_before c.args.standing.now c.args.size, c.requires.map.size)

pub pack-requires : goal.pack-requires
pack-requires c = fitting_small (not c.args.standing.now.flag) c.args.map.now (2 ^ 30) c.requires.map (omega arith)
