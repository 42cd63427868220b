-- How far the script of a race has been read.
use Rattle.std.specs.Prelude.{◌≡◌, ℕ, ◌+◌, ◌<◌, ◌≤◌, List, [], ◌∷◌, ◌++◌, Option, Result, Ok, Err, false, length, if◌then◌else◌, ⊤}
use Rattle.handlers.specs.declared.handler.Strategy.{Strategy}
use Rattle.script_lang.specs.declared.limits.TheConstants.{LARGEST_COUNT, LARGEST_LINE}
use Rattle.script_lang.specs.declared.line.Line.{Line}
use Rattle.script_lang.specs.Lines.{IsLine}
use Rattle.script_lang.specs.Played.{Stock, drawn, is_same, stocked}
use Rattle.race_core.specs.declared.entrant.Entrant.{Entrant}
use Rattle.race_core.specs.declared.halt.Halt.{Halt}
use Rattle.race_core.specs.declared.halt.Halt.TheVariants as halt
use Rattle.race_core.specs.Script.{AreOpeners, AreRead, ArePermitted, CanFollow, IsRefusedNext, calls_of, strategies}

-- so many handlers and openers are as many as each other where they were before
abbrev pub StayPaired : ℕ → ℕ → ℕ → ℕ → Type 0
StayPaired handlers openers handlers' openers' = handlers ≡ openers → handlers' ≡ openers'

-- one handler fewer of this strategy
abbrev pub IsOneFewer : Strategy → Stock → Stock → Type 0
IsOneFewer strategy old new = (s : Strategy) → stocked new s + (if is_same s strategy then 1 else 0) ≡ stocked old s

-- these lines were read, and so much is left of the stock
pub record IsAt (stock left : Stock) (lines : List (Option Line)) (openers : List Entrant) : Type 0 where
  pub permitted : ArePermitted stock lines
  pub are : AreOpeners lines openers
  pub drawn_are : (s : Strategy) → stocked left s + drawn s (strategies lines) ≡ stocked stock s
  -- nobody has calls that was not opened
  pub beyond : (who : ℕ) → length (strategies lines) < who → calls_of who lines ≡ []

-- a line was taken, or why it ended the reading
abbrev pub Takes : {A : Type 0} → Stock → Stock → List (Option Line) → Option Line → List Entrant → Result A Halt → Type 0
Takes stock left before line openers (Ok _) = IsAt stock left (line ∷ before) openers
Takes stock left before line openers (Err halt.Refused) = CanFollow stock before line → ⊥
Takes stock left before line openers (Err halt.Memory) = ⊤

-- the text of a line was taken
pub record TakesText (stock left : Stock) (before : List (Option Line)) (text : List ℕ) (openers : List Entrant) : Type 0 where
  pub few : length before < LARGEST_COUNT
  pub short : length text ≤ LARGEST_LINE
  pub named : Option Line
  pub is : IsLine text named
  pub at : IsAt stock left (named ∷ before) openers

-- or why it ended the reading
abbrev pub TextHalts : Stock → List (Option Line) → List ℕ → Halt → Type 0
TextHalts stock before text halt.Refused = IsRefusedNext stock false before (text ∷ [])
TextHalts stock before text halt.Memory = ⊤

abbrev pub TakesOrHalts : {A : Type 0} → Stock → Stock → List (Option Line) → List ℕ → List Entrant → Result A Halt → Type 0
TakesOrHalts stock left before text openers (Ok _) = TakesText stock left before text openers
TakesOrHalts stock left before text openers (Err why) = TextHalts stock before text why

-- so many texts were taken, and these are left
pub record IsTaken (stock left : Stock) (texts rest : List (List ℕ)) (openers : List Entrant) (count : ℕ) : Type 0 where
  pub front : List (List ℕ)
  pub lines : List (Option Line)
  pub are : texts ≡ front ++ rest
  pub read : AreRead stock front lines
  pub counted : count ≡ length lines
  pub few : count ≤ LARGEST_COUNT
  pub at : IsAt stock left lines openers
