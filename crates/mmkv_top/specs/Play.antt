-- What `play` ends with, by the region brought and the bytes of the input.
use Rattle.std.specs.Prelude.{◌≡◌, ℕ, ◌⊎◌, Bool, true, false, List, [], ◌∷◌, Option, take, codes, decimal}
use Rattle.region_words.specs.Region.{Region}
use Rattle.region_words.specs.Past.{region_after, changes_of}
use Rattle.script_lang.specs.Script.{AreLines, EndsLines, IsCutInput, IsWholeInput, IsWithin, texts_of}
use Rattle.script_lang.specs.Texts.{line, run_text}
use Rattle.script_lang.specs.Parts.{Part, lines_of, past_of, outcomes_of}
use Rattle.script_lang.specs.Played.{Stock, MeetsFullJournal, MeetsNoImage}
use Rattle.script_lang.specs.Journal.{IsFirstRefused, IsHalted, IsJournal}
use Rattle.mmkv_top.specs.declared.ending.Ending.{Ending}
use Rattle.mmkv_top.specs.Ending.{ending}

-- all lines are played, and the text is that of their outcomes, of their changes, and of the region left
pub record IsPlayed (stock : Stock) (start : Region) (texts : List (List ℕ)) (e : Ending) : Type 0 where
  pub parts : List Part
  pub within : IsWithin texts
  pub lines : AreLines texts (lines_of parts)
  pub journal : IsJournal stock start parts
  pub text : e ≡ ending 0 (run_text (outcomes_of parts) (changes_of (past_of parts)) (region_after start (past_of parts)))

-- a line is refused, and named
abbrev pub IsScriptRefused : Stock → Region → List (List ℕ) → Bool → Ending → Type 0
IsScriptRefused stock start texts beyond e =
    (number : ℕ) × IsFirstRefused stock start texts beyond number × (e ≡ ending 9 (line (codes "script" ∷ decimal number ∷ [])))

-- the journal had no place for what a line makes, and the line is named
abbrev pub IsJournalFull : Stock → Region → List (List ℕ) → Ending → Type 0
IsJournalFull stock start texts e =
    (number : ℕ) × (h : IsHalted stock start texts number) × MeetsFullJournal start h.before.parts h.named × (e ≡ ending 16 (line (codes "journal" ∷ decimal number ∷ [])))

-- a region without a whole image isn't repaired yet
abbrev pub not_yet : Ending
not_yet = ending 17 (codes "not yet\n")

-- a line met such a region
abbrev pub IsWithoutImage : Stock → Region → List (List ℕ) → Ending → Type 0
IsWithoutImage stock start texts e = (number : ℕ) × (h : IsHalted stock start texts number) × MeetsNoImage start h.before.parts h.named × (e ≡ not_yet)

-- a line ended the play
abbrev pub IsEndedEarly : Stock → Region → List (List ℕ) → Bool → Ending → Type 0
IsEndedEarly stock start texts beyond e =
    IsScriptRefused stock start texts beyond e ⊎ IsJournalFull stock start texts e ⊎ IsWithoutImage stock start texts e

-- the whole input is a script that is played, or ended early; or the input has a byte too many, and a line ends the play, be it that which holds it
abbrev pub PlaysInput : Stock → Region → Option (List ℕ) → Option (List ℕ) → Ending → Type 0
PlaysInput stock start left now e =
    ((script : List ℕ) × IsWholeInput left now script
    × (IsPlayed stock start (texts_of script) e ⊎ IsEndedEarly stock start (texts_of script) false e))
    ⊎ ((script : List ℕ) × (size : ℕ) × IsCutInput left script × EndsLines script size
    × IsEndedEarly stock start (texts_of (take size script)) true e)
