-- The journal of a script that was played, and why a line ends the play.
use Rattle.std.specs.Prelude.{◌≡◌, ℕ, ◌+◌, ◌*◌, ◌<◌, ◌≤◌, ◌⊎◌, Bool, true, List, [], ◌∷◌, ◌++◌, Option, Some, None, length, All, AllPairs, ⊤}
use Rattle.change_log.specs.History.{IsPlaced, IsMade, Legal}
use Rattle.change_log.specs.declared.call.Answer.{Answer}
use Rattle.region_words.specs.Region.{Region, IsAccepted, base, file_size}
use Rattle.region_words.specs.Outcome.{AtRest, ShowsHistory}
use Rattle.region_words.specs.Past.{region_after, changes_of}
use Rattle.region_words.specs.Apart.{Apart}
use Rattle.region_words.specs.Lawful.{Lawful}
use Rattle.region_words.specs.declared.event.Event.{Event}
use Rattle.script_lang.specs.declared.limits.TheConstants.{LARGEST_COUNT, LARGEST_LINE}
use Rattle.script_lang.specs.declared.line.Line.{Line}
use Rattle.script_lang.specs.declared.line.Line.TheVariants.{Open, Begin, Step, Die, Next}
use Rattle.script_lang.specs.Lines.{IsLine}
use Rattle.script_lang.specs.Script.{AreLines, IsWithin}
use Rattle.script_lang.specs.Parts.{Part, lines_of, past_of, outcomes_of, answers_in, Running, running, asked_of}
use Rattle.script_lang.specs.Played.{Stock, MayCome, AreHeld, ArePlayed, AreReasoned, AreRoomy, AreTorn}
use Rattle.script_lang.specs.Kept.{ReadByWords}

-- a line of openers that are stepped: none has its next call made for it
abbrev pub IsPlayable : Line → Type 0
IsPlayable (Open strategy) = ⊤
IsPlayable (Begin who now call) = ⊤
IsPlayable (Step who count) = ⊤
IsPlayable (Die who bits) = ⊤
IsPlayable (Next who now call) = ⊥

-- each line is one of those, or names nothing
abbrev pub IsPlayableLine : Option Line → Type 0
IsPlayableLine None = ⊤
IsPlayableLine (Some l) = IsPlayable l

abbrev pub ArePlayable : List Part → Type 0
ArePlayable [] = ⊤
ArePlayable (p ∷ parts) = ArePlayable parts × IsPlayableLine p.line

-- a line that names nothing can always be taken
abbrev pub CanTake : Stock → List Part → Option Line → Type 0
CanTake stock parts None = ⊤
CanTake stock parts (Some l) = MayCome stock parts l × IsPlayable l

-- Each caller's answers are in its order, and the change that an answered call makes stands at its place. Where checksums tell payloads
-- apart, each answered call has its place between its begin and its answer, and found there the map of the changes before it.
pub record AreAnswered (start : Region) (past : List Event) (answers : List Answer) : Type 0 where
  pub in_order : AllPairs (λ a b. a.who ≡ b.who → a.ended ≤ b.begun) answers
  pub made : All (IsMade (base start) (changes_of past)) answers
  pub placed : IsAccepted start → Apart start past → All (IsPlaced (base start) (changes_of past)) answers

-- no call goes on for ever: one that runs after these lines was asked for fewer steps than six for each word of four bytes of its data file,
-- and a hundred
abbrev pub IsInTime : Region → List Part → Type 0
IsInTime start parts =
    (who : ℕ) (c : Running) (words : ℕ) → running who parts ≡ Some c → file_size (region_after start (past_of parts)) ≤ 4 * words → asked_of who parts < 6 * words + 100

-- after each line
abbrev pub AreInTime : Region → List Part → Type 0
AreInTime start [] = ⊤
AreInTime start (p ∷ parts) = AreInTime start parts × IsInTime start (p ∷ parts)

-- where checksums tell payloads apart, the changes and answers of these lines are one legal history,
abbrev pub IsHistory : Region → List Part → Type 0
IsHistory start parts =
    IsAccepted start → Apart start (past_of parts) → Legal (base start) (changes_of (past_of parts)) (answers_in (outcomes_of parts))

-- and so they are after each line, whatever comes behind it
abbrev pub AreHistories : Region → List Part → Type 0
AreHistories start [] = ⊤
AreHistories start (p ∷ parts) = AreHistories start parts × IsHistory start (p ∷ parts)

-- Where checksums tell payloads apart, and no row is under way, the region shows the map of the history so far, unless a death cut a rewrite
-- and nothing was changed since. So it is after each death: the history has the change that was interrupted, or hasn't.
abbrev pub ShowsAtRest : Region → List Part → Type 0
ShowsAtRest start parts = Apart start (past_of parts) → AtRest start (past_of parts) → ShowsHistory start (past_of parts)

-- after each line
abbrev pub ShowAtRest : Region → List Part → Type 0
ShowAtRest start [] = ⊤
ShowAtRest start (p ∷ parts) = ShowAtRest start parts × ShowsAtRest start (p ∷ parts)

-- A journal of these parts, which is lawful and in which the answers stand. After each line changes and answers are one legal history,
-- whose map the region shows at rest; through each line the holds are kept, and just the reads that find their openers' words need no load of the region.
pub record IsJournal (stock : Stock) (start : Region) (parts : List Part) : Type 0 where
  pub each : ArePlayed stock parts
  pub playable : ArePlayable parts
  pub lawful : Lawful start (past_of parts)
  pub in_time : AreInTime start parts
  pub reasoned : AreReasoned start parts
  pub torn : AreTorn start parts
  pub held : AreHeld parts
  pub roomy : AreRoomy parts
  pub answers : AreAnswered start (past_of parts) (answers_in (outcomes_of parts))
  pub histories : AreHistories start parts
  pub shown : ShowAtRest start parts
  pub by_words : ReadByWords start parts

-- the lines before the one of this number are played; these texts are left
pub record IsPlayedTo (stock : Stock) (start : Region) (texts rest : List (List ℕ)) (number : ℕ) : Type 0 where
  pub front : List (List ℕ)
  pub parts : List Part
  pub are : texts ≡ front ++ rest
  pub within : IsWithin front
  pub lines : AreLines front (lines_of parts)
  pub journal : IsJournal stock start parts
  pub numbered : number ≡ length front + 1

-- the text names nothing that can be done
abbrev pub IsRefusedIn : Stock → List Part → List ℕ → Type 0
IsRefusedIn stock parts text = (l : Option Line) → IsLine text l → CanTake stock parts l → ⊥

-- the next line is one too many, is too long, is none of the grammar, or can't be done; or there is none, but
-- the byte that is one too many lies beyond
abbrev pub IsRefusedNext : Stock → Bool → ℕ → List Part → List (List ℕ) → Type 0
IsRefusedNext stock beyond number parts [] = beyond ≡ true
IsRefusedNext stock beyond number parts (text ∷ texts) = (LARGEST_COUNT < number) ⊎ (LARGEST_LINE < length text) ⊎ IsRefusedIn stock parts text

-- the line of this number is the first that is refused
pub record IsFirstRefused (stock : Stock) (start : Region) (texts : List (List ℕ)) (beyond : Bool) (number : ℕ) : Type 0 where
  pub rest : List (List ℕ)
  pub before : IsPlayedTo stock start texts rest number
  pub refused : IsRefusedNext stock beyond number before.parts rest

-- the next line can be taken, and ended the play
pub record IsHalted (stock : Stock) (start : Region) (texts : List (List ℕ)) (number : ℕ) : Type 0 where
  pub text : List ℕ
  pub rest : List (List ℕ)
  pub named : Line
  pub before : IsPlayedTo stock start texts (text ∷ rest) number
  pub is : IsLine text (Some named)
  pub can : CanTake stock before.parts (Some named)
