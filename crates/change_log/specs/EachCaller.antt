-- A history seen by each of its callers alone.
use Rattle.std.specs.Prelude.{◌≡◌, ℕ, ◌≤◌, List, All, AllPairs, Some, slice_get, filter, ◌==◌}
use Rattle.expiring_map.specs.Map.{Map}
use Rattle.change_log.specs.History.{IsPlaced, IsMade, IsOwned, IsFollowed}
use Rattle.change_log.specs.declared.change.Change.{Change}
use Rattle.change_log.specs.declared.call.Answer.{Answer}

-- the answers of one caller, in its order
abbrev pub answers_of : ℕ → List Answer → List Answer
answers_of who answers = filter (λ a. a.who == who) answers

-- one caller's answers are legal, and its own changes belong to them
pub record LegalFor (who : ℕ) (base : Map) (changes : List Change) (own : List Answer) : Type 0 where
  pub all_own : All (λ a. a.who ≡ who) own
  pub in_order : AllPairs (λ a b. a.ended ≤ b.begun) own
  pub placed : All (IsPlaced base changes) own
  pub made : All (IsMade base changes) own
  pub owned : (i : ℕ) (c : Change) → slice_get changes i ≡ Some c → c.maker ≡ who → IsOwned changes own i c
  pub followed : (i : ℕ) (c : Change) → slice_get changes i ≡ Some c → c.maker ≡ who → IsFollowed changes own i c
