-- A region that one opener alone uses shows its history between its rows.
use Rattle.std.proofs.Common.{◌≡◌, ◌≢◌, ℕ, false, List, sym, ap, ◌∙◌, inl, inr, refl, subst}
use Rattle.std.specs.Prelude.{Option, Some, None, is_some, unwrap_or, if◌then◌else◌}
use Rattle.std.specs.Option.{option_and_then}
use Rattle.std.specs.FinMap as fin
use Rattle.change_log.specs.Acts.{replay}
use Rattle.expiring_map.specs.Map.{Map}
use Rattle.lock_rules.specs.declared.table.LockKind.{LockKind}
use Rattle.lock_rules.specs.declared.table.LockKind.TheVariants.{Shared, Exclusive}
use Rattle.meta_record.specs.Records.{shown_size}
use Rattle.meta_record.specs.declared.shown.Damage.{Damage}
use Rattle.meta_record.specs.declared.shown.Damage.TheVariants.{Content}
use Rattle.meta_record.specs.declared.shown.Shown.{Shown}
use Rattle.meta_record.specs.declared.shown.Shown.TheVariants.{Whole, Header, Last, Damaged}
use Rattle.region_words.specs.Region.{Region, IsAccepted, IsRegion, base, flag, header, if_it_has_a_map, map_in, map_shown, payload_of, record_of, shown, size_of}
use Rattle.region_words.specs.Past.{AreSteps, NoneDies, locks_after, region_after}
use Rattle.region_words.specs.Apart.{Apart}
use Rattle.region_words.specs.Lawful.{Lawful}
use Rattle.region_words.specs.Outcome.{AtRest}
use Rattle.region_words.specs.Share.{ShareState, lock_of}
use Rattle.region_words.specs.Told.{History}
use Rattle.region_words.specs.declared.event.Event.{Event}
use Rattle.region_words.proofs.MainLaw.{main_law}
use Rattle.region_words.proofs.Notices.{whole_history}
use Rattle.region_words.proofs.Telling.{told_map}
use Rattle.opener.specs.State.{OpenerState}
use Rattle.opener.specs.Opener.{Knows, Tied, is_storing, lock_in}
use Rattle.opener.specs.Quiet.{RestsQuietly, ShowsQuietly}
use Rattle.opener.specs.declared.work.Work.{Work}
use Rattle.region_words.proofs.WholeAtRest.{rests_free, rests_without_death, steps_live, whole_at_rest}

-- the map of the image of this size
abbrev map_at : Region → ℕ → Option Map
map_at r n = map_in (flag r) (payload_of r n)

-- a region that isn't damaged shows a map
with_map : (r : Region) (k : Option Map) (z : Shown) (n : ℕ) → map_at r n ≡ k → size_of z ≡ Some n → ((d : Damage) → (if is_some k then z else Damaged Content) ≡ Damaged d → ⊥) →
    (m : Map) × (option_and_then (map_at r) (size_of (if is_some k then z else Damaged Content)) ≡ Some m)
with_map r None z n is size sound = absurd (sound Content refl)
with_map r (Some m) z n is size sound = (m, ap (option_and_then (map_at r)) size ∙ is)

by_size : (r : Region) (z : Shown) → ((d : Damage) → if_it_has_a_map r z ≡ Damaged d → ⊥) → (m : Map) × (option_and_then (map_at r) (size_of (if_it_has_a_map r z)) ≡ Some m)
by_size r (Whole n) sound = with_map r (map_at r n) (Whole n) n refl refl sound
by_size r (Header n) sound = with_map r (map_at r n) (Header n) n refl refl sound
by_size r (Last n) sound = with_map r (map_at r n) (Last n) n refl refl sound
by_size r (Damaged d) sound = absurd (sound d refl)

mapped : (r : Region) → ((d : Damage) → shown r ≡ Damaged d → ⊥) → (m : Map) × (map_shown r ≡ Some m)
unfolding shown
mapped r sound = by_size r (shown_size (record_of r) (header r) r.data_bytes) sound

base_shown : (r : Region) → ((d : Damage) → shown r ≡ Damaged d → ⊥) → map_shown r ≡ Some (base r)
base_shown r sound = let m = mapped r sound in m.1 ∙ sym (ap (λ o. Some (unwrap_or o fin.empty)) m.1)

-- between the rows of openers that live
pub rests_quietly : (start : Region) (past : List Event) → IsRegion start → IsAccepted start → Lawful start past → Apart start past → NoneDies past → AtRest start past → RestsQuietly start past
rests_quietly start past region ok lawful apart live rest =
    record {
      map = λ sure. elim (rests_without_death start region ok past rest.0 lawful apart live rest.1) [
        | inl (same, none) ↦
            ap map_shown same ∙ base_shown start (λ d e. sure d e none) ∙ sym (ap (λ l. Some (replay (base start) l)) none)
        | inr (k, whole) ↦
            let m = mapped (region_after start past) (λ d e. let both : Whole k ≡ Damaged d = sym whole ∙ e in absurd cc) in
            m.1 ∙ ap Some (whole_history start past k m.0 (main_law start past region ok lawful apart rest) whole m.1)
      ];
      whole = λ n shows. whole_at_rest start region ok past rest.0 n lawful apart live rest.1 shows;
    }

-- an opener alone leaves it so
pub shows_quietly : (o : OpenerState) (s : ShareState) → Tied o s → ShowsQuietly o.who o.work s
shows_quietly o s tied =
    told_map s.told (Knows o s) (λ h. AreSteps o.who h.past → is_storing o.work ≡ false → IsAccepted h.start → Apart h.start h.past → RestsQuietly h.start h.past)
    (λ h k own calm ok apart. rests_quietly h.start h.past k.agrees.region ok k.agrees.lawful apart (steps_live o.who h.past own) (rest h k own calm apart)) tied.told
  where
    rest : (h : History) → Knows o s h → AreSteps o.who h.past → is_storing o.work ≡ false → Apart h.start h.past → AtRest h.start h.past
    rest h k own calm apart = go (lock_in o.holds o.work) refl
      where
        mine : lock_of (locks_after h.past) o.who ≡ lock_in o.holds o.work
        mine = ap (lock_of (locks_after h.past)) (sym tied.who) ∙ k.agrees.holds ∙ tied.holds

        free : (lock : Option LockKind) → lock_in o.holds o.work ≡ lock → lock ≢ Some Exclusive → AtRest h.start h.past
        free lock is other = rests_free o.who h.start h.past own k.agrees.lawful apart (λ held. other (sym is ∙ sym mine ∙ held))

        go : (lock : Option LockKind) → lock_in o.holds o.work ≡ lock → AtRest h.start h.past
        go None is = free None is (λ e. cc)
        go (Some Shared) is = free (Some Shared) is (λ e. cc)
        go (Some Exclusive) is = (None, k.facts.rests is calm apart)

-- and so does one that runs no call, and makes none
pub idle_quietly : (was o : OpenerState) (work : Work) (s : ShareState) → was ≡ o → is_storing was.work ≡ false → Tied o s → ShowsQuietly was.who work s
idle_quietly was o work s same calm tied =
    told_map s.told (λ h. AreSteps o.who h.past → is_storing o.work ≡ false → IsAccepted h.start → Apart h.start h.past → RestsQuietly h.start h.past)
    (λ h. AreSteps was.who h.past → is_storing work ≡ false → IsAccepted h.start → Apart h.start h.past → RestsQuietly h.start h.past)
    (λ h shows own still ok apart.
    shows (subst (λ (x : OpenerState). AreSteps x.who h.past) same own) (ap (λ (x : OpenerState). is_storing x.work) (sym same) ∙ calm) ok apart)
    (shows_quietly o s tied)
