-- The numbers of openers that a pass answers for.
use Rattle.std.specs.Prelude.{◌≡◌, ◌⊎◌, ℕ, zero, suc, ◌≤◌, ◌==◌, if◌then◌else◌, List, [], ◌∷◌, ◌++◌}
use Rattle.region_words.specs.Past.{NoneOf}
use Rattle.region_words.specs.declared.event.Event.{Event}
use Rattle.step_desk.specs.declared.view.View.{View}

abbrev pub Among : ℕ → List ℕ → Type 0
Among n [] = ⊥
Among n (x ∷ xs) = (x ≡ n) ⊎ Among n xs

abbrev pub without : ℕ → List ℕ → List ℕ
without n [] = []
without n (x ∷ xs) = if x == n then without n xs else x ∷ without n xs

-- the numbers from this one down to 2
abbrev pub others_to : ℕ → List ℕ
others_to zero = []
others_to (suc zero) = []
others_to (suc (suc n)) = suc (suc n) ∷ others_to (suc n)

-- a pass answers for its own number, for those that it has taken in and for those that it may hand out
abbrev pub Answers : View → ℕ → Type 0
Answers v n = (v.who ≡ n) ⊎ (Among n v.taken ⊎ Among n v.hands)

-- these numbers as a list
abbrev pub numbers : View → List ℕ
numbers v = v.who ∷ (v.taken ++ v.hands)

-- it answers for all of 1 to this number
abbrev pub HasAll : ℕ → View → Type 0
HasAll seats v = (n : ℕ) → 1 ≤ n → n ≤ seats → Answers v n

-- the journal goes on from what the pass has seen, with no event of the numbers that it answers for
abbrev pub GoesOn : View → List Event → Type 0
GoesOn v journal = (later : List Event) × (journal ≡ later ++ v.seen) × ((n : ℕ) → Answers v n → NoneOf n later)
