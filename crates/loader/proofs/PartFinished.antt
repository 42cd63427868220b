-- The image to which a kept one goes on.
use Rattle.std.proofs.Common.{◌≡◌, ℕ, zero, suc, ◌+◌, ◌-◌, ◌%◌, ◌<◌, List, ◌++◌, length, refl, sym, ◌∙◌, ap, subst, arith, length-take, length-drop}
use Rattle.std.specs.Prelude.{All, Some}
use Rattle.std.proofs.lemmas.List.Elements.{All-drop}
use Rattle.crc_words.specs.Crc.{crc, crc_from}
use Rattle.expiring_map.specs.Map.{Map}
use Rattle.kv_pairs.specs.Fits.{FitsIn}
use Rattle.kv_pairs.specs.Mapped.{with_items}
use Rattle.kv_pairs.specs.Reading.{units_at}
use Rattle.kv_pairs.proofs.ReadSizes.{more_fit}
use Rattle.meta_record.specs.declared.shown.Shown.TheVariants.{Whole}
use Rattle.region_words.specs.Images.{IsKept, LoadsOn, SameImage, bytes_behind, checksum_at, image_of, sequence_at}
use Rattle.region_words.specs.Laws.{IsTrueRun}
use Rattle.region_words.specs.Past.{region_after}
use Rattle.region_words.specs.Region.{Region, file_size, flag, map_shown, payload_of, record_of, shown}
use Rattle.region_words.specs.Standings.{IsStandingOf}
use Rattle.region_words.specs.declared.event.Event.{Event}
use Rattle.region_words.specs.declared.standing.Standing.{Standing}
use Rattle.region_words.proofs.PartialLoad.{loads_on, still_same}
use Rattle.region_words.proofs.ReadLaws.{kept_checksum}
use Rattle.region_words.proofs.RowsStand.{agrees_crc}
use Rattle.region_words.proofs.Shows.{whole_shown}
use Rattle.loader.specs.PartialLoads.{PartialLoad, Extends, GoesOnIn, HasLoadedPart, IsSoundImage, ShowsImage, WasKept, added_size, bytes_added, bytes_from, checksum_in, image_in, kept_image, size_in}
use Rattle.loader.specs.PartialInside.{IsPartialLoad}
use Rattle.loader.proofs.RecordAnswered.{checksum-is}
use Rattle.loader.proofs.GoingOn.{nothing_lacks, goes_on, behind_is, record_size, tail_is}

some_kept : (n z : ℕ) → (n ≡ 0 → z ≡ 0) → 0 < z → 0 < n
some_kept zero z none some = absurd (omega (arith, some, none refl))
some_kept (suc n) z none some = omega arith

-- an image that is sound goes on to one
pub part_sound : (p : PartialLoad) (m : Map) → IsPartialLoad p → All (λ b. b < 256) (bytes_from p) → IsSoundImage (kept_image m p) → Extends m p →
    IsSoundImage (image_in p)
part_sound p m good small kept e =
    let all = nothing_lacks p e.complete in
    let may = all.0 in
    let from : length (bytes_from p) ≡ added_size p = omega (arith, length-take (added_size p) p.added, all.1) in
    let added : length (bytes_added p) ≡ size_in p - p.kept.size = omega (arith, length-drop (p.kept.size % 4) (bytes_from p), from, may.size) in
    let some = All-drop (λ b. b < 256) (p.kept.size % 4) (bytes_from p) small in
    let fits = more_fit p.kept.flag m (p.kept.size + 4) (bytes_added p) e.items kept.map some (omega (arith, added, may.room, good.file.most)) e.reads e.mapped in
    record {
      standing = record { file = good.file; within = may.room; firm = λ more. kept.standing.firm (some_kept p.kept.size (size_in p) may.empty more) };
      map = subst (λ map. FitsIn p.kept.flag map (size_in p + 4)) (sym e.map) (record { pairs = fits.pairs; size = omega (arith, fits.size, added, may.size) });
    }

-- and one that was shown goes on to the one that is
module _ (p : PartialLoad) (m : Map) (start : Region) (later earlier : List Event) (kept : IsKept start earlier p.kept.size m)
    (known : IsStandingOf (region_after start earlier) p.kept.size p.kept) (run : IsTrueRun start (later ++ earlier)) (e : Extends m p)
    (has : HasLoadedPart p (region_after start (later ++ earlier))) where
  abbrev n : ℕ
  n = p.kept.size

  abbrev r0 : Region
  r0 = region_after start earlier

  abbrev r : Region
  r = region_after start (later ++ earlier)

  abbrev z : ℕ
  z = size_in p

  on : GoesOnIn p.kept r
  on = let all = nothing_lacks p e.complete in goes_on p r all.0 has all.1 m e

  same : sequence_at start (later ++ earlier) ≡ sequence_at start earlier
  same = on.sequence ∙ ap (λ (s : Standing). s.sequence) known.known

  sum : p.kept.checksum ≡ checksum_at start earlier
  sum = ap (λ (s : Standing). s.checksum) known.known ∙ kept_checksum start earlier n m kept

  loads : LoadsOn start earlier later n m
  loads =
      loads_on start earlier n m kept later run.region run.lawful run.apart same
      (record { size = on.size; room = on.room; checksum = ap (λ c. crc_from c (bytes_behind r n)) (sym sum) ∙ on.checksum })

  still : SameImage (image_of start earlier n m) r
  still = still_same start earlier n m kept later run.region run.lawful run.apart same

  size_is : (record_of r).size ≡ z
  size_is = let all = nothing_lacks p e.complete in sym (record_size p r all.0 has all.1)

  shows : shown r ≡ Whole z
  shows = loads.shows ∙ ap Whole size_is

  flag_is : flag r ≡ p.kept.flag
  flag_is = still.flag_is ∙ sym (ap (λ (s : Standing). s.flag) known.known)

  version_is : p.kept.version ≡ (record_of r).version
  version_is = ap (λ (s : Standing). s.version) known.known ∙ sym still.version_is

  items_are : loads.items ≡ e.items
  items_are =
      let all = nothing_lacks p e.complete in
      ap (λ u. u.0) (sym loads.reads ∙ ap units_at (sym (behind_is p r all.0 has all.1)) ∙ e.reads)

  maps : map_shown r ≡ Some p.map
  maps =
      loads.maps
      ∙ ap Some ((λ k. with_items ((sym still.flag_is ∙ flag_is) k) m (items_are k)) ∙ sym e.map)

  whole_sum : checksum_in p ≡ crc (payload_of r z)
  whole_sum =
      let all = nothing_lacks p e.complete in
      checksum-is p.words r all.0.made has.words
      ∙ sym (agrees_crc r (record_of r).size (record_of r).checksum (whole_shown r z shows).1)
      ∙ ap (λ k. crc (payload_of r k)) size_is

  known_now : IsStandingOf r z (image_in p).standing
  known_now =
      let all = nothing_lacks p e.complete in
      let tail = tail_is p r all.0 has all.1 in
      record {
        known = λ k. record {
          sequence = sym on.sequence k;
          version = version_is k;
          flag = sym flag_is k;
          size = z;
          checksum = whole_sum k;
          tail = tail k;
          file_size = file_size r;
        };
        within = has.file;
      }

  pub goes_on_shown : ShowsImage (image_in p) r
  goes_on_shown = record { shows = shows; maps = maps; known = known_now }

pub part_shows : (p : PartialLoad) (m : Map) (start : Region) (past : List Event) → IsTrueRun start past → WasKept (kept_image m p) start past → Extends m p →
    HasLoadedPart p (region_after start past) → ShowsImage (image_in p) (region_after start past)
part_shows p m start past run was e has =
    let at : (past : List Event) → Type 0 = λ past. IsTrueRun start past → HasLoadedPart p (region_after start past) → ShowsImage (image_in p) (region_after start past) in
    subst at was.is (λ run has. goes_on_shown p m start was.later was.earlier was.kept was.known run e has) run has
