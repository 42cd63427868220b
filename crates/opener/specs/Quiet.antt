-- A region that one opener alone uses.
use Rattle.std.specs.Prelude.{◌≡◌, ◌≢◌, ℕ, false, List, [], Some}
use Rattle.meta_record.specs.declared.shown.Damage.{Damage}
use Rattle.meta_record.specs.declared.shown.Shown.TheVariants.{Whole, Damaged}
use Rattle.region_words.specs.Region.{Region, IsAccepted, map_shown, shown}
use Rattle.region_words.specs.Past.{AreSteps, changes_of, region_after}
use Rattle.region_words.specs.Apart.{Apart}
use Rattle.region_words.specs.Lawful.{map_after}
use Rattle.region_words.specs.Told.{OnTold}
use Rattle.region_words.specs.Share.{ShareState}
use Rattle.region_words.specs.declared.event.Event.{Event}
use Rattle.opener.specs.Opener.{is_storing}
use Rattle.opener.specs.declared.work.Work.{Work}

-- The region shows the map of the history, where the start wasn't damaged or something was changed; and a whole image where the start
-- shows one.
pub record RestsQuietly (start : Region) (past : List Event) : Type 0 where
  pub map : ((d : Damage) → shown start ≡ Damaged d → changes_of past ≢ []) → map_shown (region_after start past) ≡ Some (map_after start past)
  pub whole : (n : ℕ) → shown start ≡ Whole n → (k : ℕ) × (shown (region_after start past) ≡ Whole k)

-- so it does where the opener has made all events, no stores are under way, and checksums tell payloads apart
abbrev pub ShowsQuietly : ℕ → Work → ShareState → Type 0
ShowsQuietly who work s =
    OnTold s.told (λ h. AreSteps who h.past → is_storing work ≡ false → IsAccepted h.start → Apart h.start h.past → RestsQuietly h.start h.past)
