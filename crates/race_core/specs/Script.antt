-- What the script of a race says: its openers, and the calls of each. Lines that were read stand with the latest first.
use Rattle.std.specs.Prelude.{◌≡◌, ℕ, ◌+◌, ◌<◌, ◌≤◌, ◌⊎◌, Bool, true, false, List, [], ◌∷◌, ◌++◌, Option, Some, None, length, map, slice_get, take, ◌==◌, if◌then◌else◌, ⊤}
use Rattle.handlers.specs.declared.handler.Strategy.{Strategy}
use Rattle.lock_rules.specs.declared.limits.TheConstants.{MOST_OPENERS}
use Rattle.opener.specs.Begins.{call_refusal}
use Rattle.opener.specs.Calls.{holds_after}
use Rattle.script_lang.specs.declared.limits.TheConstants.{LARGEST_COUNT, LARGEST_LINE}
use Rattle.script_lang.specs.declared.line.Line.{Line}
use Rattle.script_lang.specs.declared.line.Line.TheVariants.{Open, Next}
use Rattle.script_lang.specs.Lines.{IsLine}
use Rattle.script_lang.specs.Parts.{opened_by}
use Rattle.script_lang.specs.Played.{Stock, drawn, stocked}
use Rattle.script_lang.specs.Script.{AreLines, EndsLines, IsWithin, texts_of}
use Rattle.race_core.specs.declared.entrant.Entrant.{Entrant}
use Rattle.race_core.specs.declared.entrant.TimedCall.{TimedCall}
use Rattle.race_core.specs.declared.halt.Halt.{Halt}
use Rattle.race_core.specs.declared.halt.Halt.TheVariants as halt
use Rattle.race_core.specs.declared.halt.Halted.{Halted}

-- the strategies of the openers 1, 2, .. in order
abbrev pub strategies : List (Option Line) → List Strategy
strategies [] = []
strategies (l ∷ before) = strategies before ++ opened_by l

-- the call that the line of this number names for an opener, if any
abbrev pub named_for : ℕ → ℕ → Option Line → List TimedCall
named_for who number (Some (Next w now call)) = if w == who then record { line = number; now = now; call = call } ∷ [] else []
named_for who number _ = []

-- the calls of an opener, the first of them first
abbrev pub calls_of : ℕ → List (Option Line) → List TimedCall
calls_of who [] = []
calls_of who (l ∷ before) = calls_of who before ++ named_for who (length before + 1) l

-- the holds that stand once these calls are answered, beside those that stood before
abbrev pub holds_left : ℕ → List TimedCall → ℕ
holds_left held [] = held
holds_left held (c ∷ calls) = holds_left (holds_after c.call held) calls

-- a race may have this line behind these: a further opener, for which there is a handler, or a call of an opener above that may begin once its
-- earlier calls are answered
abbrev pub MayFollow : Stock → List (Option Line) → Line → Type 0
MayFollow stock before (Open strategy) = (length (strategies before) < MOST_OPENERS) × (drawn strategy (strategies before) < stocked stock strategy)
MayFollow stock before (Next who now call) = (1 ≤ who) × (who ≤ length (strategies before)) × (call_refusal call (holds_left 0 (calls_of who before)) ≡ None)
MayFollow stock before _ = ⊥

-- a line that names nothing may stand anywhere
abbrev pub CanFollow : Stock → List (Option Line) → Option Line → Type 0
CanFollow stock before None = ⊤
CanFollow stock before (Some l) = MayFollow stock before l

abbrev pub ArePermitted : Stock → List (Option Line) → Type 0
ArePermitted stock [] = ⊤
ArePermitted stock (l ∷ before) = ArePermitted stock before × CanFollow stock before l

-- the lines with the first of them first
abbrev pub in_order : List (Option Line) → List (Option Line)
in_order [] = []
in_order (l ∷ before) = in_order before ++ l ∷ []

-- the calls of an opener, and the holds that they leave
abbrev pub IsOpener : ℕ → List (Option Line) → Entrant → Type 0
IsOpener who lines e = (e.calls.items ≡ calls_of who lines) × (e.holds ≡ holds_left 0 (calls_of who lines))

-- the openers of these lines, each with its calls
pub record AreOpeners (lines : List (Option Line)) (openers : List Entrant) : Type 0 where
  pub strategies_are : map (λ (e : Entrant). e.strategy) openers ≡ strategies lines
  pub each : (i : ℕ) (e : Entrant) → slice_get openers i ≡ Some e → IsOpener (i + 1) lines e

-- the texts are these lines, each of which may follow those before it
pub record AreRead (stock : Stock) (texts : List (List ℕ)) (lines : List (Option Line)) : Type 0 where
  pub within : IsWithin texts
  pub named : AreLines texts (in_order lines)
  pub permitted : ArePermitted stock lines

-- the texts are the script of a race of these openers
pub record SaysRace (stock : Stock) (texts : List (List ℕ)) (openers : List Entrant) : Type 0 where
  pub lines : List (Option Line)
  pub read : AreRead stock texts lines
  pub are : AreOpeners lines openers

-- the text names nothing that a race may have behind these lines
abbrev pub IsRefusedBehind : Stock → List (Option Line) → List ℕ → Type 0
IsRefusedBehind stock before text = (l : Option Line) → IsLine text l → CanFollow stock before l → ⊥

-- the next line is one too many, is too long, or names nothing that may follow; or there is none, but the byte that is one too many lies beyond
abbrev pub IsRefusedNext : Stock → Bool → List (Option Line) → List (List ℕ) → Type 0
IsRefusedNext stock beyond before [] = beyond ≡ true
IsRefusedNext stock beyond before (text ∷ texts) = (LARGEST_COUNT ≤ length before) ⊎ (LARGEST_LINE < length text) ⊎ IsRefusedBehind stock before text

-- the line of this number is the first that is refused
pub record IsFirstRefused (stock : Stock) (texts : List (List ℕ)) (beyond : Bool) (number : ℕ) : Type 0 where
  pub front : List (List ℕ)
  pub rest : List (List ℕ)
  pub lines : List (Option Line)
  pub are : texts ≡ front ++ rest
  pub read : AreRead stock front lines
  pub numbered : number ≡ length lines + 1
  pub refused : IsRefusedNext stock beyond lines rest

-- the line of this number ended the reading
abbrev pub HaltsAt : Stock → List (List ℕ) → Bool → ℕ → Halt → Type 0
HaltsAt stock texts beyond number halt.Refused = IsFirstRefused stock texts beyond number
HaltsAt stock texts beyond number halt.Memory = ⊤

-- a line of the script did; where it was cut, and a further byte follows, be it that which holds this byte
abbrev pub IsHaltedIn : Bool → Stock → List ℕ → Halted → Type 0
IsHaltedIn false stock script h = HaltsAt stock (texts_of script) false h.number h.why
IsHaltedIn true stock script h = (size : ℕ) × EndsLines script size × HaltsAt stock (texts_of (take size script)) true h.number h.why
