-- What a store shows in which nothing was ever written.
use Rattle.std.proofs.Common.{◌≡◌, ℕ, ◌≤◌, List, length, true, refl, arith, ap, ◌∙◌}
use Rattle.std.specs.Prelude.{[]}
use Rattle.std.proofs.lemmas.Bool.Decides.{nat_tests}
use Rattle.crc_words.specs.Crc.{crc}
use Rattle.meta_record.specs.Words.{payload}
use Rattle.meta_record.specs.Records.{is_fresh, agrees, shown_size}
use Rattle.meta_record.specs.declared.record.Record.{Record}
use Rattle.meta_record.specs.declared.shown.Shown.TheVariants.{Whole}

nothing : crc [] ≡ 0
unfolding crc
nothing = refl

nothing_agrees : (body : List ℕ) (size checksum : ℕ) → 4 ≤ length body → size ≡ 0 → checksum ≡ 0 → agrees body size checksum ≡ true
nothing_agrees body size checksum h e f =
    let n : crc (payload body size) ≡ 0 = ap (λ k. crc (payload body k)) e ∙ nothing in
    grind (arith, nat_tests, n)

pub fresh_is_whole : (rec : Record) (header : ℕ) (body : List ℕ) → is_fresh rec header ≡ true → 4 ≤ length body → shown_size rec header body ≡ Whole 0
fresh_is_whole rec header body fresh long =
    let size : rec.size ≡ 0 = grind (arith, nat_tests, fresh) in
    let checksum : rec.checksum ≡ 0 = grind (arith, nat_tests, fresh) in
    rw (nothing_agrees body rec.size rec.checksum long size checksum) (ap Whole size)
