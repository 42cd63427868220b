-- The central law of the store: at rest a region shows the map of the history so far, but after a death within a rewrite.
use Rattle.std.proofs.Common.{◌≡◌, ◌⊎◌, ℕ, Bool, true, List, [], ◌∷◌, refl, sym, ap, ◌∙◌, inl, inr, subst, append-nil}
use Rattle.std.specs.Prelude.{Option, Some, None, IsTrue, Contains}
use Rattle.crc_words.specs.Crc.{crc}
use Rattle.std.specs.List.{list_any}
use Rattle.expiring_map.specs.Map.{Map, pairs_of}
use Rattle.change_log.specs.declared.change.Act.{Act}
use Rattle.lock_rules.specs.Locks.{holds_exclusive}
use Rattle.meta_record.specs.declared.shown.Damage.{Damage}
use Rattle.meta_record.specs.declared.shown.Shown.TheVariants.{Whole, Last, Damaged}
use Rattle.region_words.specs.Region.{Region, IsRegion, IsAccepted, base, shown, record_of, map_shown, ShowsMap}
use Rattle.region_words.specs.Past.{region_after, changes_of, locks_after}
use Rattle.region_words.specs.Rows.{Row, Append, Pack, Clear, Enable, Disable, Restore, Discard, Recover, SizeRepair, events_of, store_data, store_meta}
use Rattle.region_words.specs.Apart.{Apart, strings, last_word}
use Rattle.region_words.specs.Lawful.{Lawful, Reaches, Phase, Between, Within, MayTear, Dies, Advances, map_after}
use Rattle.region_words.specs.Outcome.{AtRest, ShowsHistory, IsBroken, IsRewriting, is_repair, commits}
use Rattle.region_words.specs.Answered.{is_store}
use Rattle.region_words.specs.declared.event.TornWord.{TornWord}
use Rattle.region_words.specs.declared.event.What.{What}
use Rattle.region_words.specs.declared.event.What.TheVariants.{Died, Store}
use Rattle.region_words.specs.declared.event.Side.TheVariants.{Meta}
use Rattle.region_words.specs.declared.event.Mark.{Mark}
use Rattle.region_words.specs.declared.event.Event.{Event}
use Rattle.region_words.proofs.PhaseLaw.{phase_law}
use Rattle.change_log.specs.Acts.{replay}
use Rattle.change_log.specs.declared.change.Change.{Change}
use Rattle.change_log.specs.declared.change.Act.TheVariants as act
use Rattle.region_words.proofs.RestoreCut.{RestoreAt, Restoring, Coming, restoring_begins, restoring_goes, still_last_region}
use Rattle.region_words.proofs.Rest.{at_rest}
use Rattle.region_words.proofs.Held.{Apart-front}
use Rattle.region_words.proofs.View.{View, view, Shows, seen, seen_is, shows_is}
use Rattle.region_words.proofs.Kept.{last_shown, kept_shows}
use Rattle.region_words.proofs.Strings.{strings_hold}
use Rattle.region_words.proofs.Safe.{Safe}
use Rattle.region_words.proofs.TextLaws.{TextLaws}
use Rattle.region_words.proofs.TextProofs.{text_laws}
use Rattle.region_words.proofs.Frame.{RowSafe, Inv, shows_history, keeps, cut_shows, tear_shows, row_ends, named_store, left}
use Rattle.region_words.proofs.ShortRows.{safe_any, resize_safe, restore_safe, discard_safe}
use Rattle.region_words.proofs.AppendRow.{append_safe}
use Rattle.region_words.proofs.WriteBack.{pack_safe, clear_safe}
use Rattle.region_words.proofs.Switch.{enable_safe, disable_safe, recover_safe}
use Rattle.region_words.specs.Laws.{IsTrueRun, CutsAppend, IsRestoring, ShowsHistoryAfterACut, ShowsHistoryOrBreaks, RowsEndWhole, RestoresShowTheLastImage}

-- leave to be broken is there where a broken region is what a row begins in
needs : (v : View) (m : Map) (b : Bool) → (Shows v m → ⊥) → Shows v m ⊎ (b ≡ true) → b ≡ true
needs v m b n (inl s) = absurd (n s)
needs v m b n (inr e) = e

broken_last : (r : Region) (m : Map) (n : ℕ) → shown r ≡ Last n → Shows (view r) m → ⊥
broken_last r m n e ((k, inl s), f) = let t = sym (seen_is r) ∙ e in cc
broken_last r m n e ((k, inr s), f) = let t = sym (seen_is r) ∙ e in cc

broken_damage : (r : Region) (m : Map) (d : Damage) → shown r ≡ Damaged d → Shows (view r) m → ⊥
broken_damage r m d e ((k, inl s), f) = let t = sym (seen_is r) ∙ e in cc
broken_damage r m d e ((k, inr s), f) = let t = sym (seen_is r) ∙ e in cc

pub rows : TextLaws → RowSafe
rows laws r m who room (Append a) b S w apart holds fit kept o begin = safe_any _ _ b S w (view r) m (append_safe r m who room S w apart holds fit kept laws a begin)
rows laws r m who room (Pack now need) b S w apart holds fit kept o begin = safe_any _ _ b S w (view r) m (pack_safe r m who room S w apart holds fit kept laws now need begin)
rows laws r m who room Clear b S w apart holds fit kept o begin = safe_any _ _ b S w (view r) m (clear_safe r m who room S w apart holds fit kept laws begin)
rows laws r m who room (Enable now seconds) b S w apart holds fit kept o begin = safe_any _ _ b S w (view r) m (enable_safe r m who room S w apart holds fit kept laws now seconds begin)
rows laws r m who room (Disable now) b S w apart holds fit kept o begin = safe_any _ _ b S w (view r) m (disable_safe r m who room S w apart holds fit kept laws now begin)
rows laws r m who room Restore b S w apart holds fit kept o begin =
    subst (λ c. Safe Restore (events_of r m who Restore) c S w (view r) m) (sym (needs (view r) m b (broken_last r m begin.0.0 begin.0.1) o)) (restore_safe r m who room S w apart holds kept laws begin)
rows laws r m who room Discard b S w apart holds fit kept o begin =
    subst (λ c. Safe Discard (events_of r m who Discard) c S w (view r) m) (sym (needs (view r) m b (broken_damage r m begin.0.0 begin.0.1) o)) (discard_safe r m who room S w apart holds kept begin)
rows laws r m who room Recover b S w apart holds fit kept o begin =
    subst (λ c. Safe Recover (events_of r m who Recover) c S w (view r) m) (sym (needs (view r) m b (broken_damage r m begin.0.0 begin.0.1) o)) (recover_safe r m who room S w apart holds fit kept laws begin)
rows laws r m who room SizeRepair b S w apart holds fit kept o begin = safe_any _ _ b S w (view r) m (resize_safe r m who room S w apart holds kept begin)

-- The law. At each moment at which no row is under way the region shows, by rule 1 or 2, the map of the history so far; or it
-- shows its last confirmed image or damage, and a death cut a rewrite since the last change, or the start was broken and nothing was changed.
pub main_law : (start : Region) (past : List Event) → IsRegion start → IsAccepted start → Lawful start past → Apart start past → AtRest start past → ShowsHistory start past
main_law start past region ok lawful apart rest = shows_history (rows text_laws) start region ok past lawful apart rest

-- Where the last confirmed image is shown and its checksum is the record's too, it has the map of the history.
pub last_confirmed_law : (start : Region) (past : List Event) → IsRegion start → IsAccepted start → Lawful start past → Apart start past → AtRest start past →
    (n : ℕ) → shown (region_after start past) ≡ Last n → (record_of (region_after start past)).checksum ≡ (record_of (region_after start past)).last_checksum →
    map_shown (region_after start past) ≡ Some (map_after start past)
unfolding Inv shown seen
last_confirmed_law start past region ok lawful apart (room, leads) n s e =
    let r = region_after start past in
    let h = keeps (rows text_laws) start region ok past (Between room) lawful apart leads in
    last_shown (strings start past) (view r) (map_after start past) n apart (strings_hold start past) h.0 s e

-- each lawful past has a run of phases
run_of : (start : Region) (past : List Event) → Lawful start past → Apart start past → (phase : Phase) × Reaches start past phase
run_of start [] lawful apart = (Between None, refl)
run_of start (e ∷ past) lawful apart = lawful.2 (Apart-front start e past apart)

-- Whenever nobody holds exclusive, no row is under way, and the law holds.
pub free_law : (start : Region) (past : List Event) → IsRegion start → IsAccepted start → Lawful start past → Apart start past →
    (locks_after past).exclusive ≡ None → ShowsHistory start past
free_law start past region ok lawful apart free =
    let run = run_of start past lawful apart in
    main_law start past region ok lawful apart (None, subst (Reaches start past) (at_rest start past run.0 lawful run.1 free) run.1)

-- A death within a row leaves a region that shows the map, unless the row is a rewrite between its sequence and its change, or a repair before its change.
pub cut_law : (start : Region) (who : ℕ) (torn : Option TornWord) (past : List Event) (row : Row) (rest : List What) → let e : Event = record { who = who; what = Died torn } in
    IsRegion start → IsAccepted start → Lawful start (e ∷ past) → Apart start (e ∷ past) → Reaches start past (Within row rest) →
    MayTear (region_after start past) (map_after start past) who (Within row rest) torn →
    (IsRewriting (Within row rest) → ⊥) → (IsTrue (is_repair row) → IsTrue (list_any commits rest) → ⊥) →
    ShowsMap (region_after start (e ∷ past)) (map_after start past)
cut_law start who torn past row rest region ok lawful apart leads tear calm done = cut_shows (rows text_laws) start region ok who torn past row rest lawful apart leads tear calm done

-- A death in an append leaves a region that shows the map of the history, with the change from its mark on.
pub append_death_law : (start : Region) (who : ℕ) (torn : Option TornWord) (past : List Event) (a : Act) (rest : List What) → let e : Event = record { who = who; what = Died torn } in
    IsRegion start → IsAccepted start → Lawful start (e ∷ past) → Apart start (e ∷ past) → Reaches start past (Within (Append a) rest) →
    MayTear (region_after start past) (map_after start past) who (Within (Append a) rest) torn →
    ShowsMap (region_after start (e ∷ past)) (map_after start past)
append_death_law start who torn past a rest region ok lawful apart leads tear =
    cut_law start who torn past (Append a) rest region ok lawful apart leads tear (λ h. absurd cc) (λ h k. absurd cc)

-- So does a death that tears the first word of an append.
pub first_word_death_law : (start : Region) (who : ℕ) (torn : TornWord) (past : List Event) (room : Option ℕ) → let e : Event = record { who = who; what = Died (Some torn) } in
    IsRegion start → IsAccepted start → Lawful start (e ∷ past) → Apart start (e ∷ past) → Reaches start past (Between room) →
    MayTear (region_after start past) (map_after start past) who (Between room) (Some torn) →
    ShowsMap (region_after start (e ∷ past)) (map_after start past)
first_word_death_law start who torn past room region ok lawful apart leads tear = tear_shows (rows text_laws) start region ok who torn past room lawful apart leads tear

-- After the last event of a row the region shows its image whole.
pub whole_law : (start : Region) (e : Event) (past : List Event) (room : Option ℕ) → IsRegion start → IsAccepted start → Lawful start (e ∷ past) → Apart start (e ∷ past) →
    IsTrue (is_store e.what) → Reaches start (e ∷ past) (Between room) → (n : ℕ) × (shown (region_after start (e ∷ past)) ≡ Whole n)
whole_law start e past room region ok lawful apart is leads = row_ends (rows text_laws) start region ok e past room lawful apart is leads

-- Before its change a Restored leaves a region that shows the map of the history, or its last confirmed image, whose pairs the change names.
pub restore_law : (start : Region) (past : List Event) (what : What) (rest : List What) → IsRegion start → IsAccepted start → Lawful start past → Apart start past →
    Reaches start past (Within Restore (what ∷ rest)) → let r = region_after start past in
    ShowsMap r (map_after start past)
    ⊎ ((shown r ≡ Last (record_of r).last_size) × ((m : Map) × (map_shown r ≡ Some m) × ((c : Change) × (c.act ≡ act.Restored (pairs_of m)) × Coming (what ∷ rest) (view r) c)))
unfolding Inv
restore_law start past what rest region ok lawful apart leads =
    let r = region_after start past in
    let k : RestoreAt (what ∷ rest) (view r) = phase_law Restoring restoring_begins restoring_goes start region ok past Restore (what ∷ rest) lawful leads in
    let h = keeps (rows text_laws) start region ok past (Within Restore (what ∷ rest)) lawful apart leads in
    let here = left Restore (what ∷ rest) h.0 (strings start past) (last_word past) (view r) (map_after start past) h.2 in
    elim (kept_shows (strings start past) (view r) (map_after start past) apart (strings_hold start past) here.0) [
      | inl s ↦ inl (shows_is r (map_after start past) s)
      | inr b ↦ let l = still_last_region (what ∷ rest) r k b in inr (l.0, (k.image_map, l.1, (k.change, k.names, k.coming)))
    ]

-- A last confirmed checksum that is stored is that of a payload of the run.
pub confirmed_store : (start : Region) → IsRegion start → IsAccepted start → (who x : ℕ) (mark : Mark) (past : List Event) (old new : Phase) → Lawful start past → Apart start past → Reaches start past old →
    Advances (region_after start past) (map_after start past) who old (Store Meta 9 x mark) new → (s : List ℕ) × Contains (strings start past) s × (crc s ≡ x)
confirmed_store start region ok who x mark past old new l apart leads step = named_store (rows text_laws) start region ok who x mark past old new l apart leads step

-- the two ways in which a death cuts an append
pub cut_append : (start : Region) (who : ℕ) (torn : Option TornWord) (past : List Event) (a : Act) (phase : Phase) → let e : Event = record { who = who; what = Died torn } in
    IsTrueRun start (e ∷ past) → CutsAppend start who torn past a phase → ShowsMap (region_after start (e ∷ past)) (map_after start past)
cut_append start who torn past a (Within row rest) run cut =
    append_death_law start who torn past a rest run.region run.accepted run.lawful run.apart
    (subst (λ x. Reaches start past (Within x rest)) cut.0 cut.1)
    (subst (λ x. MayTear (region_after start past) (map_after start past) who (Within x rest) torn) cut.0 cut.2)
cut_append start who None past a (Between room) run cut = absurd cut
cut_append start who (Some t) past a (Between room) run cut =
    first_word_death_law start who t past room run.region run.accepted run.lawful run.apart cut.0 cut.1

-- and these laws as they are promised
pub cut_row : ShowsHistoryAfterACut
cut_row start who torn past row rest run cut calm whole =
    cut_law start who torn past row rest run.region run.accepted run.lawful run.apart cut.reached cut.tears calm (λ repair left. whole (repair, left))

pub cut_holder : ShowsHistoryOrBreaks
cut_holder start who torn past row rest run cut holds =
    go (main_law start (e ∷ past) run.region run.accepted run.lawful run.apart (None, (Within row rest, cut.reached, ended)))
  where
    e : Event
    e = record { who = who; what = Died torn }

    ended : Dies (holds_exclusive (locks_after past) who) (region_after start past) (map_after start past) who (Within row rest) torn (Between None)
    ended = subst (λ b. Dies b (region_after start past) (map_after start past) who (Within row rest) torn (Between None)) (sym holds) (cut.tears, refl)

    go : ShowsHistory start (e ∷ past) → ShowsMap (region_after start (e ∷ past)) (map_after start past) ⊎ IsBroken (region_after start (e ∷ past))
    go (inl shows) = inl (subst (λ (cs : List Change). ShowsMap (region_after start (e ∷ past)) (replay (base start) cs)) (append-nil (changes_of past)) shows)
    go (inr broken) = inr broken.0

pub row_whole : RowsEndWhole
row_whole start e past room run is ends = whole_law start e past room run.region run.accepted run.lawful run.apart is ends

pub cut_restore : RestoresShowTheLastImage
cut_restore start past what rest run within = go (restore_law start past what rest run.region run.accepted run.lawful run.apart within)
  where
    r : Region
    r = region_after start past

    restoring : (m : Map) (change : Change) → change.act ≡ act.Restored (pairs_of m) → Coming (what ∷ rest) (view r) change → IsRestoring r m (what ∷ rest)
    restoring m change names (inl (x, is)) = record { change = change; names = names; made = []; sequence = x; left = is }
    restoring m change names (inr (inl is)) =
        record { change = change; names = names; made = store_meta 2 0 ∷ []; sequence = 0; left = ap (λ rest. store_meta 2 0 ∷ rest) is }
    restoring m change names (inr (inr (inl is))) =
        record { change = change; names = names; made = store_meta 2 0 ∷ store_data 0 (record_of r).last_size ∷ []; sequence = 0; left = ap (λ rest. store_meta 2 0 ∷ store_data 0 (record_of r).last_size ∷ rest) is }
    restoring m change names (inr (inr (inr is))) =
        record {
          change = change;
          names = names;
          made = store_meta 2 0 ∷ store_data 0 (record_of r).last_size ∷ store_meta 7 (record_of r).last_size ∷ [];
          sequence = 0;
          left = ap (λ rest. store_meta 2 0 ∷ store_data 0 (record_of r).last_size ∷ store_meta 7 (record_of r).last_size ∷ rest) is;
        }

    go : ShowsMap r (map_after start past)
        ⊎ ((shown r ≡ Last (record_of r).last_size) × ((m : Map) × (map_shown r ≡ Some m) × ((c : Change) × (c.act ≡ act.Restored (pairs_of m)) × Coming (what ∷ rest) (view r) c))) →
        ShowsMap r (map_after start past) ⊎ ((shown r ≡ Last (record_of r).last_size) × ((m : Map) × (map_shown r ≡ Some m) × IsRestoring r m (what ∷ rest)))
    go (inl shows) = inl shows
    go (inr (last, (m, maps, (change, names, coming)))) = inr (last, (m, maps, restoring m change names coming))
