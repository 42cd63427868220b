-- How the answers of one caller grow, and that what is legal for each is legal for all.
use Rattle.std.specs.Prelude.{◌≡◌, ℕ, ◌≤◌, List, [], ◌∷◌, ◌++◌, None, All}
use Rattle.expiring_map.specs.Map.{Map}
use Rattle.change_log.specs.Acts.{act_of}
use Rattle.change_log.specs.History.{IsPlaced, Legal}
use Rattle.change_log.specs.EachCaller.{answers_of, LegalFor}
use Rattle.change_log.specs.Settled.{NoneBy, AreEndedBy, IsSettled, AreBegun, HasMade}
use Rattle.change_log.specs.declared.change.Change.{Change}
use Rattle.change_log.specs.declared.call.Call.{Call}
use Rattle.change_log.specs.declared.call.Answer.{Answer}

-- a caller that changed nothing and answered nothing is settled
abbrev pub IsSettledFirst : Type 0
IsSettledFirst = (who : ℕ) (base : Map) (changes : List Change) → NoneBy who changes → IsSettled who base changes []

-- it stays settled while others make changes
abbrev pub StaysSettled : Type 0
StaysSettled =
    (who : ℕ) (base : Map) (changes more : List Change) (own : List Answer) → IsSettled who base changes own → NoneBy who more →
    IsSettled who base (changes ++ more) own

-- it is settled after an answer that made no change
abbrev pub IsSettledByARead : Type 0
IsSettledByARead =
    (who : ℕ) (base : Map) (changes : List Change) (own : List Answer) (a : Answer) → IsSettled who base changes own →
    a.who ≡ who → act_of a.call a.now ≡ None → AreEndedBy a.begun own → IsPlaced base changes a →
    IsSettled who base changes (own ++ a ∷ [])

-- it is settled after the answer of a call and the changes that this call made
abbrev pub IsSettledByAWrite : Type 0
IsSettledByAWrite =
    (who : ℕ) (base : Map) (before made : List Change) (own : List Answer) (a : Answer) → IsSettled who base before own →
    AreEndedBy a.begun own → HasMade who base before made a →
    IsSettled who base (before ++ made) (own ++ a ∷ [])

-- what is settled is legal
abbrev pub SettledIsLegal : Type 0
SettledIsLegal =
    (who : ℕ) (base : Map) (changes : List Change) (own : List Answer) → IsSettled who base changes own → LegalFor who base changes own

-- it is still legal where the caller's next call made some of its changes and was never answered
abbrev pub CutIsLegal : Type 0
CutIsLegal =
    (who : ℕ) (base : Map) (before made more : List Change) (own : List Answer) (call : Call) (now : ℕ) → IsSettled who base before own →
    AreBegun who call now made → NoneBy who more → LegalFor who base (before ++ made ++ more) own

-- what is legal for each caller is legal
abbrev pub EachIsLegal : Type 0
EachIsLegal =
    (base : Map) (changes : List Change) (answers : List Answer) →
    ((who : ℕ) → LegalFor who base changes (answers_of who answers)) → Legal base changes answers

-- the same, where the callers are numbered from 1 to the most
abbrev pub EachOfSomeIsLegal : Type 0
EachOfSomeIsLegal =
    (most : ℕ) (base : Map) (changes : List Change) (answers : List Answer) →
    All (λ c. (1 ≤ c.maker) × (c.maker ≤ most)) changes → All (λ a. (1 ≤ a.who) × (a.who ≤ most)) answers →
    ((who : ℕ) → 1 ≤ who → who ≤ most → LegalFor who base changes (answers_of who answers)) → Legal base changes answers
