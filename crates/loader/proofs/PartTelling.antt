-- What a partial load has loaded so far, as a share tells it.
use Rattle.std.proofs.Common.{◌≡◌, ◌≢◌, ℕ, refl, sym, subst}
use Rattle.std.specs.Prelude.{None}
use Rattle.region_words.specs.Region.{Region, IsRegion}
use Rattle.region_words.specs.Past.{region_after}
use Rattle.region_words.specs.Share.{ShareState, Agrees, IsSound, Goes, loaded}
use Rattle.region_words.proofs.Regions.{lawful_region}
use Rattle.region_words.proofs.Telling.{told_map, told_and}
use Rattle.expiring_map.specs.Map.{Map}
use Rattle.loader.specs.PartialLoads.{PartialLoad, Extends, GoesOnIn, HasLoadedPart, IsSamePart, next_part}
use Rattle.loader.proofs.GoingOn.{nothing_lacks, goes_on}
use Rattle.loader.proofs.Telling.{IsTold, told_still}

-- another map is nothing that was loaded
pub same_part : (old new : PartialLoad) (r : Region) → IsSamePart old new → HasLoadedPart old r → HasLoadedPart new r
same_part old new r same has =
    let there : HasLoadedPart (record old { map = new.map }) r = record { words = has.words; file = has.file; asked = has.asked; added = has.added } in
    subst (λ (p : PartialLoad). HasLoadedPart p r) (sym same) there

-- what was found to go on does so in the region
pub extends_goes_on : (p : PartialLoad) (m : Map) (r : Region) → HasLoadedPart p r → Extends m p → GoesOnIn p.kept r
extends_goes_on p m r has e = let all = nothing_lacks p e.complete in goes_on p r all.0 has all.1 m e

module _ (p mid : PartialLoad) (value : ℕ) (s t : ShareState) (sound : IsSound s) (goes : Goes (loaded s) s t) (holds : s.holds ≢ None) (so_far : IsTold s (HasLoadedPart p))
    (answer : IsTold t (λ r. value ≡ next_part p r)) (taken : (r : Region) → IsRegion r → HasLoadedPart p r → value ≡ next_part p r → HasLoadedPart mid r) where
  -- the answer that was taken in is the region's
  taken_told : IsTold t (λ r. IsRegion r × HasLoadedPart mid r)
  taken_told =
      let still = told_still (HasLoadedPart p) (loaded s) s t sound goes.after refl holds so_far in
      let region : IsTold t IsRegion = told_map t.told (Agrees t) (λ h. IsRegion (region_after h.start h.past)) (λ h a. lawful_region h.start h.past a.lawful a.region) goes.after.sound.told in
      let both : IsTold t (λ r. IsRegion r × HasLoadedPart p r) = told_and t.told _ _ _ (λ h a b. (a, b)) region still in
      told_and t.told _ _ _ (λ h a b. (a.0, taken (region_after h.start h.past) a.0 a.1 b)) both answer

  pub told_part : (new : PartialLoad) → IsSamePart mid new → IsTold t (HasLoadedPart new)
  told_part new same = told_map t.told _ _ (λ h a. same_part mid new (region_after h.start h.past) same a.1) taken_told

  pub told_holds : (new : PartialLoad) (m : Map) → IsSamePart mid new → new.kept ≡ p.kept → Extends m new → IsTold t (GoesOnIn p.kept)
  told_holds new m same kept e =
      told_map t.told _ _ (λ h has. subst (λ k. GoesOnIn k (region_after h.start h.past)) kept (extends_goes_on new m (region_after h.start h.past) has e)) (told_part new same)

  pub told_fails : mid.kept ≡ p.kept → ((r : Region) → IsRegion r → HasLoadedPart mid r → GoesOnIn mid.kept r → ⊥) → IsTold t (λ r. GoesOnIn p.kept r → ⊥)
  told_fails kept fails =
      told_map t.told _ _ (λ h a. subst (λ k. GoesOnIn k (region_after h.start h.past) → ⊥) kept (fails (region_after h.start h.past) a.0 a.1)) taken_told
