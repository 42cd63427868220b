-- Counts of faults and of other causes, and what sources, sinks and shelves tell of their bytes.
use Rattle.std.specs.Prelude.{◌≡◌, ℕ, ◌+◌, ◌-◌, ◌^◌, ◌<◌, ◌≤◌, ◌⊎◌, min, Bool, List, [], ◌++◌, Option, Some, None, length, take, drop, if◌then◌else◌}

-- a count of 64 bits after one more; at its end it stands still
abbrev pub one_more : ℕ → ℕ
one_more n = min (n + 1) (2 ^ 64 - 1)

-- a count has risen; where it stands at its end, it counts as risen
abbrev pub Rose : ℕ → ℕ → Type 0
Rose before now = one_more before ≤ now

-- the numbers of the calls that are to fail, how many calls were made, and how many of them failed
pub record Tally : Type 0 where
  pub listed : List ℕ
  pub made : ℕ
  pub faults : ℕ

-- one more call was made, and this says whether it failed
abbrev pub after_call : Tally → Bool → Tally
after_call t failed = record t { made = one_more t.made; faults = if failed then one_more t.faults else t.faults }

-- Where the bytes left are told, a read of n bytes takes the first n of them. A read of no bytes into a buffer that
-- isn't empty says that none is left.
abbrev pub Reads : Option (List ℕ) → Option (List ℕ) → List ℕ → ℕ → Type 0
Reads None new buffer n = new ≡ None
Reads (Some left) new buffer n =
    (left ≡ take n buffer ++ drop n left) × (new ≡ Some (drop n left)) × (n ≡ 0 → 0 < length buffer → left ≡ [])

-- where the bytes written are told, these have come behind them
abbrev pub Writes : Option (List ℕ) → Option (List ℕ) → List ℕ → Type 0
Writes None new piece = new ≡ None
Writes (Some written) new piece = new ≡ Some (written ++ piece)

-- a write that takes nothing of a piece that isn't empty counts as a fault; another leaves the count as it was
abbrev pub CountsWrite : ℕ → ℕ → List ℕ → ℕ → Type 0
CountsWrite before now piece n = (0 < length piece → n ≡ 0 → Rose before now) × ((length piece ≡ 0) ⊎ (0 < n) → now ≡ before)

-- an input in memory: what is left of it, how often its end was met, and the calls made on it
pub record Input : Type 0 where
  pub left : List ℕ
  pub ends : ℕ
  pub tally : Tally

-- an output in memory: what it took, how much it takes in all, and the calls made on it
pub record Output : Type 0 where
  pub written : List ℕ
  pub room : ℕ
  pub tally : Tally
