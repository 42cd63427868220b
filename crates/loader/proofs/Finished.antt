-- What is found is loaded, and its map fits in its bytes.
use Rattle.std.proofs.Common.{◌≡◌, ℕ, ◌<◌, ◌≤◌, List, [], length, take, refl, sym, ◌∙◌, arith, subst, length-take, inl, inr, ◌⊎◌}
use Rattle.std.specs.Prelude.{Some, Ok, ◌==◌}
use Rattle.std.specs.FinMap as fin
use Rattle.std.proofs.lemmas.Bool.{cases_lt}
use Rattle.expiring_map.specs.Map.{Map}
use Rattle.kv_pairs.specs.Growth.{IsFileSize, largest}
use Rattle.kv_pairs.specs.Mapped.{map_in}
use Rattle.kv_pairs.proofs.GrammarRead.{Small}
use Rattle.kv_pairs.proofs.GoodItems.{Small-take}
use Rattle.kv_pairs.proofs.Packing.{packable_empty}
use Rattle.kv_pairs.proofs.Packables.{to_packable}
use Rattle.kv_pairs.proofs.PackedSizes.{empty_size}
use Rattle.kv_pairs.proofs.ReadSizes.{read_fits}
use Rattle.meta_record.specs.Records.{checked}
use Rattle.meta_record.specs.declared.record.Record.{Record}
use Rattle.meta_record.specs.declared.shown.Shown.{Shown}
use Rattle.loader.specs.FirstWords.{HasWords, IsWritten, record_in, header_in, size_in, standing_in}
use Rattle.loader.specs.Outlooks.{IsLoaded, IsDue}
use Rattle.loader.specs.Loads.{Load, IsLoad, IsLoadedWhole}
use Rattle.loader.specs.declared.first_words.FirstWords.{FirstWords}
use Rattle.loader.specs.PartialLoads.{IsSoundImage}
use Rattle.loader.specs.declared.found.Found.{Found}
use Rattle.loader.specs.declared.loaded.Loaded.{Loaded}
use Rattle.loader.specs.declared.outlook.Outlook.TheVariants as outlook

-- no image
pub nothing_found : (f : FirstWords) (bytes : List ℕ) (s : Shown) → HasWords (standing_in f [] 0) → IsLoaded f bytes (record { shown = s; image = record { standing = standing_in f [] 0; map = fin.empty } })
nothing_found f bytes s words =
    let flag = (record_in f).flags == 1 in
    record {
      size = omega arith;
      file = refl;
      map = record { pairs = to_packable flag fin.empty (packable_empty flag); size = omega (arith, empty_size flag) };
      version = refl;
      written = λ some. absurd (omega (arith, some));
      words = words;
    }

-- the image of the first n bytes that are loaded
pub image_loaded : (f : FirstWords) (bytes : List ℕ) (s : Shown) (n checksum : ℕ) (m : Map) → Small bytes → length bytes ≤ largest → n ≤ length bytes →
    map_in ((record_in f).flags == 1) (take n bytes) ≡ Some m → (0 < n → IsWritten f) → HasWords (standing_in f (take n bytes) checksum) →
    IsLoaded f bytes (record { shown = s; image = record { standing = standing_in f (take n bytes) checksum; map = m } })
image_loaded f bytes s n checksum m small short within is written words =
    let long = length-take n bytes in
    record {
      size = omega (arith, long);
      file = refl;
      map = read_fits ((record_in f).flags == 1) (take n bytes) m (Small-take n bytes small) (omega (arith, long, short)) is;
      version = refl;
      written = λ some. written (omega (arith, long, some));
      words = words;
    }

-- a load that is done gives what it found
pub finished : (l : Load) (found : Found) (s : Shown) (rec : Record) (header : ℕ) → IsLoad l → l.outlook ≡ outlook.Found found → rec ≡ record_in l.first → header ≡ header_in l.first →
    IsLoadedWhole (record { shown = s; rec = rec; header = header; image = found.image; payload = l.payload })
finished l found s rec header good is rec_is header_is =
    record {
      accepted = (λ i. checked (rec_is i) (header_is i)) ∙ accepted;
      size = due.size;
      within = omega (arith, good.within some, due.file);
      file = subst IsFileSize (sym due.file) file;
      map = due.map;
      firm = λ p e. due.written p accepted file (sym due.version ∙ e);
      words = due.words;
    }
  where
    made : l.first.made ≡ 10
    made = go (cases_lt l.first.made 10)
      where
        go : (l.first.made < 10) ⊎ (10 ≤ l.first.made) → l.first.made ≡ 10
        go (inl early) = absurd (let e = (good.early early).1 in cc)
        go (inr late) = omega (arith, late, good.most)

    some : 0 < l.first.made
    some = omega (arith, made)

    due : IsLoaded l.first l.payload found
    due = subst (λ o. IsDue l.first l.payload o) is (good.due made)

    accepted : checked (record_in l.first) (header_in l.first) ≡ Ok tt
    accepted = good.accepted made

    file : IsFileSize (size_in l.first)
    file = good.file some

-- the image of a load that is done is sound
pub sound_image : (l : Loaded) → IsLoadedWhole l → IsSoundImage l.image
sound_image l w = record { standing = record { file = w.file; within = omega (arith, w.size, w.within); firm = w.firm }; map = w.map }
