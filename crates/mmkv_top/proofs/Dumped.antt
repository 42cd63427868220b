-- What a dump ends with follows from what the shelf brought.
use Rattle.std.proofs.Common.{◌≡◌, ◌≢◌, ℕ, Bool, true, false, cond, List, [], ◌∷◌, length, refl, sym, ap, ◌∙◌, inl, inr, subst}
use Rattle.std.specs.Prelude.{Result, Ok, Err, IsErrOf, MatchBool, nat_lt, ◌||◌, ◌==◌}
use Rattle.std.specs.List.{list_any}
use Rattle.meta_record.specs.declared.record.RecordFault.{RecordFault}
use Rattle.meta_record.specs.declared.record.RecordFault.TheVariants.{Version, Flags}
use Rattle.meta_record.specs.declared.shown.Shown.{Shown}
use Rattle.meta_record.specs.declared.shown.Shown.TheVariants.{Whole, Header, Last, Damaged}
use Rattle.region_words.specs.Region.{Region, shown_if_accepted}
use Rattle.region_words.specs.Stores.{Told, Untold, Nothing, Files, IsDueOrRefused}
use Rattle.region_words.specs.declared.shelf.TheConstants.{LARGEST_DATA, LARGEST_META}
use Rattle.region_words.specs.declared.shelf.Brought.{Brought}
use Rattle.region_words.specs.declared.shelf.ShelfStop.{ShelfStop}
use Rattle.region_words.specs.declared.shelf.ShelfStop.TheVariants.{Failed, Absent, SizeRefused, Memory}
use Rattle.mmkv_top.specs.declared.ending.Ending.{Ending}
use Rattle.mmkv_top.specs.Ending.{ending, IsDueOr}
use Rattle.mmkv_top.specs.Due.{IsAmong, IsDumpOf, IsEndingOf, OfStore, dump_statuses, dump_if_accepted, dump_shown, over_limit, region_in}

abbrev HasDumpStatus : Ending → Type 0
HasDumpStatus e = IsAmong dump_statuses e.status

shown_status : (r : Region) (s : Shown) → HasDumpStatus (dump_shown r s)
shown_status r (Whole n) = refl
shown_status r (Header n) = refl
shown_status r (Last n) = refl
shown_status r (Damaged d) = refl

dump_status : (r : Region) (s : Result Shown RecordFault) → HasDumpStatus (dump_if_accepted r s)
dump_status r (Ok s) = shown_status r s
dump_status r (Err (Version n)) = refl
dump_status r (Err (Flags n)) = refl

-- the dump of a region has one of these statuses
pub dump_of_status : (r : Region) (e : Ending) → IsDumpOf r e → IsAmong dump_statuses e.status
dump_of_status r e d = subst (λ (x : Ending). IsAmong dump_statuses x.status) (sym d) (dump_status r (shown_if_accepted r))

abbrev refused_size : ℕ → Result Brought ShelfStop
refused_size n = Err (SizeRefused n)

abbrev both_files : List ℕ → List ℕ → Brought
both_files body meta = record { body = body; meta = meta }

abbrev given : Brought → Result Brought ShelfStop
given b = Ok b

module _ (of_region : Region → Ending → Type 0) where
  whole_files : (body meta : List ℕ) (b : Brought) (e : Ending) (t u : Bool) →
      given b ≡ cond t (refused_size (length body)) (cond u (refused_size (length meta)) (given (both_files body meta))) →
      of_region (region_in b.body b.meta) e → MatchBool t (e ≡ over_limit (length body)) (MatchBool u (e ≡ over_limit (length meta)) (of_region (region_in body meta) e))
  whole_files body meta b e true u h d = absurd cc
  whole_files body meta b e false true h d = absurd cc
  whole_files body meta b e false false h d =
      let same : b ≡ both_files body meta = cc in
      subst (λ (x : Brought). of_region (region_in x.body x.meta) e) same d

  large_file : (body meta : List ℕ) (n : ℕ) (e : Ending) (t u : Bool) →
      refused_size n ≡ cond t (refused_size (length body)) (cond u (refused_size (length meta)) (given (both_files body meta))) →
      e ≡ over_limit n → MatchBool t (e ≡ over_limit (length body)) (MatchBool u (e ≡ over_limit (length meta)) (of_region (region_in body meta) e))
  large_file body meta n e true u h d = let same : n ≡ length body = cc in d ∙ ap over_limit same
  large_file body meta n e false true h d = let same : n ≡ length meta = cc in d ∙ ap over_limit same
  large_file body meta n e false false h d = absurd cc

  never_absent : (body meta : List ℕ) (t u : Bool) → Err Absent ≡ cond t (refused_size (length body)) (cond u (refused_size (length meta)) (given (both_files body meta))) → ⊥
  never_absent body meta true u h = cc
  never_absent body meta false true h = cc
  never_absent body meta false false h = cc

-- where the shelf tells what lies there, the ending of what it brought is the ending of that
pub due : (statuses : List ℕ) (of_region : Region → Ending → Type 0) (told : Told) (r : Result Brought ShelfStop) (e : Ending) (rose : Type 0) →
    ((x : Region) → of_region x e → IsAmong statuses e.status) → IsAmong statuses 13 → IsAmong statuses 14 →
    IsDueOrRefused told r → (IsErrOf r Failed → rose) → IsEndingOf of_region r e → IsDueOr rose (OfStore statuses of_region told) e
due statuses of_region Untold (Ok b) e rose fine absent large h f d = inl (fine (region_in b.body b.meta) d)
due statuses of_region Nothing (Ok b) e rose fine absent large h f d = absurd cc
due statuses of_region (Files body meta) (Ok b) e rose fine absent large h f d =
    inl (whole_files of_region body meta b e (nat_lt LARGEST_DATA (length body)) (nat_lt LARGEST_META (length meta)) h d)
due statuses of_region told (Err Failed) e rose fine absent large h f d = inr (inl (d, f refl))
due statuses of_region Untold (Err Absent) e rose fine absent large h f d = inl (subst (λ (x : Ending). IsAmong statuses x.status) (sym d) absent)
due statuses of_region Nothing (Err Absent) e rose fine absent large h f d = inl d
due statuses of_region (Files body meta) (Err Absent) e rose fine absent large h f d =
    absurd (never_absent of_region body meta (nat_lt LARGEST_DATA (length body)) (nat_lt LARGEST_META (length meta)) h)
due statuses of_region Untold (Err (SizeRefused n)) e rose fine absent large h f d = inl (subst (λ (x : Ending). IsAmong statuses x.status) (sym d) large)
due statuses of_region Nothing (Err (SizeRefused n)) e rose fine absent large h f d = absurd cc
due statuses of_region (Files body meta) (Err (SizeRefused n)) e rose fine absent large h f d =
    inl (large_file of_region body meta n e (nat_lt LARGEST_DATA (length body)) (nat_lt LARGEST_META (length meta)) h d)
due statuses of_region told (Err Memory) e rose fine absent large h f d = absurd d

of_files_status : (statuses : List ℕ) (of_region : Region → Ending → Type 0) (body meta : List ℕ) (e : Ending) (t u : Bool) →
    ((x : Region) → of_region x e → IsAmong statuses e.status) → IsAmong statuses 14 →
    MatchBool t (e ≡ over_limit (length body)) (MatchBool u (e ≡ over_limit (length meta)) (of_region (region_in body meta) e)) → IsAmong statuses e.status
of_files_status statuses of_region body meta e true u fine large h = subst (λ (x : Ending). IsAmong statuses x.status) (sym h) large
of_files_status statuses of_region body meta e false true fine large h = subst (λ (x : Ending). IsAmong statuses x.status) (sym h) large
of_files_status statuses of_region body meta e false false fine large h = fine (region_in body meta) h

of_store_status : (statuses : List ℕ) (of_region : Region → Ending → Type 0) (told : Told) (e : Ending) →
    ((x : Region) → of_region x e → IsAmong statuses e.status) → IsAmong statuses 13 → IsAmong statuses 14 → OfStore statuses of_region told e → IsAmong statuses e.status
of_store_status statuses of_region Untold e fine absent large h = h
of_store_status statuses of_region Nothing e fine absent large h = subst (λ (x : Ending). IsAmong statuses x.status) (sym h) absent
of_store_status statuses of_region (Files body meta) e fine absent large h =
    of_files_status statuses of_region body meta e (nat_lt LARGEST_DATA (length body)) (nat_lt LARGEST_META (length meta)) fine large h

either : (a b c : Bool) → c ≡ true → (a || (b || c)) ≡ true
either true b c h = refl
either false true c h = refl
either false false c h = h

-- whatever lies there, the status is one of these, or that of a fault or of want of memory
pub due_status : (statuses : List ℕ) (of_region : Region → Ending → Type 0) (told : Told) (e : Ending) (rose : Type 0) →
    ((x : Region) → of_region x e → IsAmong statuses e.status) → IsAmong statuses 13 → IsAmong statuses 14 →
    IsDueOr rose (OfStore statuses of_region told) e → IsAmong (5 ∷ 8 ∷ statuses) e.status
due_status statuses of_region told e rose fine absent large (inl h) =
    either (5 == e.status) (8 == e.status) (list_any (λ s. s == e.status) statuses) (of_store_status statuses of_region told e fine absent large h)
due_status statuses of_region told e rose fine absent large (inr (inl h)) = subst (λ (x : Ending). IsAmong (5 ∷ 8 ∷ statuses) x.status) (sym h.0) refl
due_status statuses of_region told e rose fine absent large (inr (inr h)) = subst (λ (x : Ending). IsAmong (5 ∷ 8 ∷ statuses) x.status) (sym h) refl

fault_not : (e : Ending) (status : ℕ) (text : List ℕ) → e ≡ ending status text → (status == 5) ≡ false → e.status ≡ 5 → ⊥
fault_not e status text is other h = let same : status ≡ 5 = sym (ap (λ (x : Ending). x.status) is) ∙ h in absurd (never same)
  where
    never : status ≡ 5 → ⊥
    never s = let t : (status == 5) ≡ true = ap (λ n. n == 5) s in cc

among_not : (statuses : List ℕ) (status n : ℕ) → IsAmong statuses status → list_any (λ s. s == n) statuses ≡ false → status ≡ n → ⊥
among_not statuses status n h none same = let here : list_any (λ s. s == n) statuses ≡ true = subst (λ x. IsAmong statuses x) same h in cc

-- status 5 comes only where the shelf's count of faults rose
pub fault_rose : (statuses : List ℕ) (of_region : Region → Ending → Type 0) (told : Told) (e : Ending) (rose : Type 0) →
    ((x : Region) → of_region x e → IsAmong statuses e.status) → IsAmong statuses 13 → IsAmong statuses 14 → list_any (λ s. s == 5) statuses ≡ false →
    IsDueOr rose (OfStore statuses of_region told) e → e.status ≡ 5 → rose
fault_rose statuses of_region told e rose fine absent large none (inl h) is = absurd (among_not statuses e.status 5 (of_store_status statuses of_region told e fine absent large h) none is)
fault_rose statuses of_region told e rose fine absent large none (inr (inl h)) is = h.1
fault_rose statuses of_region told e rose fine absent large none (inr (inr h)) is = absurd (fault_not e 8 [] h refl is)

-- where another status than the fault's is due, the shelf had none
pub unfaulted : (of_region : Region → Ending → Type 0) (brought : Result Brought ShelfStop) (e : Ending) → IsEndingOf of_region brought e → e.status ≢ 5 → brought ≢ Err Failed
unfaulted of_region brought e is other failed = other (ap (λ (e : Ending). e.status) (subst (λ b. IsEndingOf of_region b e) failed is))
