use Rattle.std.proofs.Common.{◌≡◌, ℕ, ◌<◌, ◌≤◌, ◌∙◌, sym, ap, arith, length, take, length-take, subst}
use Rattle.std.specs.Prelude.{Option, Some, None, IfSome, ◌==◌}
use Rattle.kv_pairs.specs.Mapped.{map_in}
use Rattle.kv_pairs.proofs.GoodItems.{Small-of}
use Rattle.meta_record.specs.declared.shown.Damage.TheVariants.{Content}
use Rattle.meta_record.specs.declared.shown.Shown.TheVariants.{Damaged}
use Rattle.region_words.specs.Region.{size_of}
use Rattle.loader.specs.FirstWords.{IsWritten, HasWords, record_in, standing_in}
use Rattle.loader.specs.declared.found.Found.{Found}
use Rattle.loader.specs.Outlooks.{checksum_of}
use Rattle.loader.proofs.Showing.{damage_found, content_found, image_found}
use Rattle.loader.proofs.Fronts.{front-payload}
use Rattle.loader.proofs.Finished.{nothing_found, image_loaded}
use Rattle.loader.proofs.found.find.Goals as goal

pub returns-in_default-clause-told : goal.returns-in_default-clause-told
returns-in_default-clause-told c r first front shows =
    rw c.without_image.ensures.found (damage_found r c.args.first.now c.requires.complete first c.args.shown shows (sym c.size_of.ensures ∙ c.in_default.is))

pub returns-in_default-2-clause-told : goal.returns-in_default-2-clause-told
returns-in_default-2-clause-told c r first front shows =
    let n = c.in-Some.size in
    let size : size_of c.args.shown ≡ Some n = cc in
    let within : n ≤ length c.args.payload.now = subst (λ (o : Option ℕ). IfSome o (λ m. m ≤ length c.args.payload.now)) size c.requires.within in
    let none : map_in ((record_in c.args.first.now).flags == 1) (take n c.args.payload.now) ≡ None =
    ap (λ rec. map_in (rec.flags == 1) (take n c.args.payload.now)) (sym c.record-rec.ensures) ∙ sym c.in_ok-map.ensures ∙ c.in_default-2.is in
    rw c.without_image-in_default-2.ensures.found
    (content_found r c.args.first.now c.requires.complete first c.args.shown n (take n c.args.payload.now) shows size
    (front-payload c.args.payload.now r n front within) none)

pub returns-clause-told : goal.returns-clause-told
returns-clause-told c r first front shows =
    let n = c.in-Some.size in
    let bytes = take n c.args.payload.now in
    let size : size_of c.args.shown ≡ Some n = cc in
    let within : n ≤ length c.args.payload.now = subst (λ (o : Option ℕ). IfSome o (λ m. m ≤ length c.args.payload.now)) size c.requires.within in
    let some : map_in ((record_in c.args.first.now).flags == 1) bytes ≡ Some c.in-Some-2.map =
    ap (λ rec. map_in (rec.flags == 1) bytes) (sym c.record-rec.ensures) ∙ sym c.in_ok-map.ensures ∙ c.in-Some-2.is in
    let standing : c.standing-standing.result ≡ standing_in c.args.first.now bytes (checksum_of (record_in c.args.first.now) c.args.shown) =
    c.standing-standing.ensures.value ∙ ap (standing_in c.args.first.now bytes) (c.checksum_of.ensures ∙ ap (λ rec. checksum_of rec c.args.shown) c.record-rec.ensures) in
    rw standing
    (image_found r c.args.first.now c.requires.complete first c.args.shown n bytes c.in-Some-2.map shows size
    (front-payload c.args.payload.now r n front within) (omega (arith, length-take n c.args.payload.now, within)) some)

pub returns-in_default-clause-loaded : goal.returns-in_default-clause-loaded
returns-in_default-clause-loaded c = rw c.without_image.ensures.found (nothing_found c.args.first.now c.args.payload.now c.args.shown (subst (λ (f : Found). HasWords f.image.standing) c.without_image.ensures.found c.without_image.ensures.words))

pub returns-in_default-2-clause-loaded : goal.returns-in_default-2-clause-loaded
returns-in_default-2-clause-loaded c = rw c.without_image-in_default-2.ensures.found (nothing_found c.args.first.now c.args.payload.now (Damaged Content)
    (subst (λ (f : Found). HasWords f.image.standing) c.without_image-in_default-2.ensures.found c.without_image-in_default-2.ensures.words))

pub returns-clause-loaded : goal.returns-clause-loaded
returns-clause-loaded c =
    let n = c.in-Some.size in
    let bytes = c.args.payload.now in
    let size : size_of c.args.shown ≡ Some n = cc in
    let within : n ≤ length bytes = subst (λ (o : Option ℕ). IfSome o (λ m. m ≤ length bytes)) size c.requires.within in
    let written : 0 < n → IsWritten c.args.first.now = subst (λ (o : Option ℕ). IfSome o (λ m. 0 < m → IsWritten c.args.first.now)) size c.requires.written in
    let some : map_in ((record_in c.args.first.now).flags == 1) (take n bytes) ≡ Some c.in-Some-2.map =
    ap (λ rec. map_in (rec.flags == 1) (take n bytes)) (sym c.record-rec.ensures) ∙ sym c.in_ok-map.ensures ∙ c.in-Some-2.is in
    rw c.standing-standing.ensures.value
    (image_loaded c.args.first.now bytes c.args.shown n c.checksum_of.result c.in-Some-2.map (Small-of bytes (λ i. omega (arith, c.type_inv.payload i))) c.requires.small within some written
    (subst HasWords c.standing-standing.ensures.value c.standing-standing.ensures.words))
