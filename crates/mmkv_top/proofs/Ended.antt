-- What a play ends with follows from the lines that were taken.
use Rattle.std.proofs.Common.{◌≡◌, ℕ, Bool, true, false, List, [], ◌∷◌, ◌++◌, refl, sym, ap, ◌∙◌, inl, inr, subst, append-nil, append_assoc}
use Rattle.std.specs.Prelude.{IsOk, codes, decimal, Option, Result, Ok, Err}
use Rattle.meta_record.specs.declared.record.RecordFault.{RecordFault}
use Rattle.meta_record.specs.declared.record.RecordFault.TheVariants.{Version, Flags}
use Rattle.meta_record.specs.declared.shown.Shown.{Shown}
use Rattle.meta_record.specs.declared.shown.Shown.TheVariants.{Whole, Header, Last, Damaged}
use Rattle.meta_record.specs.Records.{checked}
use Rattle.region_words.specs.Region.{Region, IsAccepted, record_of, header, shown, if_accepted, shown_if_accepted}
use Rattle.region_words.specs.Past.{changes_of, region_after}
use Rattle.script_lang.specs.Script.{IsWholeInput}
use Rattle.script_lang.specs.Texts.{line, changes_text, region_text, run_text}
use Rattle.mmkv_top.specs.declared.ending.Ending.{Ending}
use Rattle.mmkv_top.specs.declared.halt.Halt.{Halt}
use Rattle.mmkv_top.specs.declared.halt.Halt.TheVariants as halt
use Rattle.mmkv_top.specs.Ending.{ending}
use Rattle.mmkv_top.specs.State.{PlayState}
use Rattle.script_lang.specs.Parts.{lines_of, past_of, outcomes_of}
use Rattle.script_lang.specs.Played.{Stock}
use Rattle.script_lang.specs.Script.{IsWithin, AreLines}
use Rattle.mmkv_top.specs.Play.{IsEndedEarly, PlaysInput}
use Rattle.world.specs.World.{IsSound, WorldState}
use Rattle.mmkv_top.specs.Lent.{IsPlayedOn, PlaysOn}
use Rattle.mmkv_top.specs.Progress.{IsTaken, HaltsAt, IsEndingAt}
use Rattle.mmkv_top.specs.Due.{IsAmong, IsPlayOf, IsInputPlay, PlayShown, play_statuses}
use Rattle.mmkv_top.proofs.Judged.{journal_of}

-- all lines were taken
pub whole_played : (stock left : Stock) (start : Region) (texts : List (List ℕ)) (p : PlayState) (count : ℕ) (e : Ending) → IsSound p.world → IsTaken stock left start texts [] p count →
    e ≡ ending 0 (p.text ++ (changes_text (changes_of p.world.region.past) ++ region_text (region_after p.world.region.start p.world.region.past))) → IsPlayedOn stock start texts p.world e
whole_played stock left start texts p count e sound taken text =
    let same : taken.taken.front ≡ texts = sym (append-nil taken.taken.front) ∙ sym taken.taken.are in
    let at = taken.at in
    record {
      played = record {
        parts = taken.parts;
        within = subst IsWithin same taken.taken.within;
        lines = subst (λ x. AreLines x (lines_of taken.parts)) same taken.taken.lines;
        journal = journal_of stock left start taken.parts p sound at;
        text = text ∙ (λ i. ending 0 (at.text i ++ (changes_text (changes_of (at.past i)) ++ region_text (region_after (at.start_is i) (at.past i)))));
      };
      past = at.past;
      answers = at.answers;
    }

-- a line ended the play
pub ended_early : (stock : Stock) (start : Region) (texts : List (List ℕ)) (beyond : Bool) (number : ℕ) (why : Halt) (e : Ending) →
    HaltsAt stock start texts beyond number why → IsEndingAt number why e → IsEndedEarly stock start texts beyond e
ended_early stock start texts beyond number halt.Refused e halts is = inl (number, halts, is)
ended_early stock start texts beyond number halt.JournalFull e halts is = inr (inl (number, halts.0, halts.1, is))
ended_early stock start texts beyond number halt.NotWhole e halts is = inr (inr (number, halts.0, halts.1, is))
ended_early stock start texts beyond number halt.Memory e halts is = absurd is

abbrev IsOneOf : Ending → Type 0
IsOneOf e = IsAmong play_statuses e.status

with_status : (e : Ending) (status : ℕ) (text : List ℕ) → IsAmong play_statuses status → e ≡ ending status text → IsOneOf e
with_status e status text c is = subst IsOneOf (sym is) c

early_status : (stock : Stock) (start : Region) (texts : List (List ℕ)) (beyond : Bool) (e : Ending) → IsEndedEarly stock start texts beyond e → IsOneOf e
early_status stock start texts beyond e (inl h) = with_status e 9 (line (codes "script" ∷ decimal h.0 ∷ [])) refl h.2
early_status stock start texts beyond e (inr (inl h)) = with_status e 16 (line (codes "journal" ∷ decimal h.0 ∷ [])) refl h.3
early_status stock start texts beyond e (inr (inr h)) = with_status e 17 (codes "not yet\n") refl h.3

input_status : (stock : Stock) (start : Region) (left now : Option (List ℕ)) (e : Ending) → PlaysInput stock start left now e → IsOneOf e
input_status stock start left now e (inl h) = elim h.2 [
  | inl p ↦ with_status e 0 (run_text (outcomes_of p.parts) (changes_of (past_of p.parts)) (region_after start (past_of p.parts))) refl p.text
  | inr r ↦ early_status stock start _ false e r
]
input_status stock start left now e (inr h) = early_status stock start _ true e h.4

-- what a script that is played on a world ends with is a play of the whole input
pub whole_input : (stock : Stock) (start : Region) (left now : Option (List ℕ)) (script : List ℕ) (w : WorldState) (e : Ending) → IsWholeInput left now script →
    PlaysOn false stock start script w e → PlaysInput stock start left now e
whole_input stock start left now script w e whole (inl h) = inl (script, whole, inl h.played)
whole_input stock start left now script w e whole (inr h) = inl (script, whole, inr h)

-- the play of a region has one of these statuses
pub play_of_status : (stock : Stock) (left now : Option (List ℕ)) (rose : Type 0) (r : Region) (e : Ending) → IsPlayOf stock left now rose r e → IsAmong play_statuses e.status
play_of_status stock left now rose r e = go (shown_if_accepted r)
  where
    go : (s : Result Shown RecordFault) → PlayShown s stock r left now rose e → IsOneOf e
    go (Err (Version n)) h = with_status e 10 (line (codes "version" ∷ decimal n ∷ [])) refl h
    go (Err (Flags n)) h = with_status e 10 (line (codes "flags" ∷ decimal n ∷ [])) refl h
    go (Ok (Whole n)) (inl h) = input_status stock r left now e h
    go (Ok (Whole n)) (inr h) = with_status e 3 (codes "read fault\n") refl h.0
    go (Ok (Header n)) h = with_status e 17 (codes "not yet\n") refl h
    go (Ok (Last n)) h = with_status e 17 (codes "not yet\n") refl h
    go (Ok (Damaged d)) h = with_status e 17 (codes "not yet\n") refl h

-- what was appended piece by piece
pub texts_join : (a b c changes region : List ℕ) → b ≡ a ++ changes → c ≡ b ++ region → c ≡ a ++ (changes ++ region)
texts_join a b c changes region e1 e2 = e2 ∙ ap (λ x. x ++ region) e1 ∙ append_assoc a changes region

-- what shows anything is accepted
pub accepted_shown : (r : Region) (s : Shown) → shown_if_accepted r ≡ Ok s → IsAccepted r
accepted_shown r s h = go (checked (record_of r) (header r)) h
  where
    go : (c : Result (Unit {0}) RecordFault) → if_accepted c (shown r) ≡ Ok s → IsOk c
    go (Ok u) h = refl
    go (Err fault) h = absurd cc

-- the play of a region that shows a whole image is that of the input
pub whole_shown : (stock : Stock) (left now : Option (List ℕ)) (rose : Type 0) (r : Region) (n : ℕ) (e : Ending) → shown_if_accepted r ≡ Ok (Whole n) →
    IsInputPlay stock r left now rose e → IsPlayOf stock left now rose r e
whole_shown stock left now rose r n e shows h = subst (λ s. PlayShown s stock r left now rose e) (sym shows) h
