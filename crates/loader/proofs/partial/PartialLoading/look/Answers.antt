use Rattle.std.proofs.Common.{◌≡◌, ◌∙◌, ap, subst, Ok, refl, []}
use Rattle.std.specs.Prelude.{IfOk, IfSome, Result, Err}
use Rattle.crc_words.specs.Crc.{crc_from}
use Rattle.expiring_map.specs.declared.Memory.{Memory}
use Rattle.kv_pairs.specs.Found.{HaveKeys}
use Rattle.kv_pairs.specs.Reading.{units_at}
use Rattle.region_words.specs.Region.{Region, IsRegion}
use Rattle.loader.specs.PartialLoads.{HasLoadedPart, GoesOnIn, bytes_added, checksum_in}
use Rattle.loader.specs.declared.partial.Ran.{Ran}
use Rattle.loader.specs.declared.partial.Ran.TheVariants.{Fails}
use Rattle.loader.proofs.GoingOn.{nothing_lacks, none_found, none_mapped}
use Rattle.loader.proofs.partial.PartialLoading.look.Goals as goal

pub returns-in_default-clause-fails : goal.returns-in_default-clause-fails
returns-in_default-clause-fails c fails r region has on =
    let p = c.args.self.now in
    let all = nothing_lacks p c.requires.complete in
    none_found p r all.0 has all.1 on (c.items.ensures.none (c.in_ok-items.was ∙ ap Ok c.in_default.is))

pub returns-clause-fails : goal.returns-clause-fails
returns-clause-fails c = go c.put_in.result refl
  where
    go : (result : Result Ran Memory) → c.put_in.result ≡ result →
        IfOk result (λ ran. ran ≡ Fails → (r : Region) → IsRegion r → HasLoadedPart c.args.self.now r → GoesOnIn c.args.self.now.kept r → ⊥)
    go (Err e) is = tt
    go (Ok ran) is =
        λ fails r region has on.
        let p = c.args.self.now in
        let all = nothing_lacks p c.requires.complete in
        let found = subst (λ o. IfSome o (λ items. (crc_from p.kept.checksum (bytes_added p) ≡ checksum_in p) × (units_at (bytes_added p) ≡ (items, [])) × HaveKeys items)) c.in-Some.is c.in_ok-items.ensures.some in
        none_mapped p r all.0 has all.1 on c.in-Some.items found.1 (c.put_in.ensures.fails (is ∙ ap Ok fails))
