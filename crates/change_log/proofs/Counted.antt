-- The seats of changes, one more at a time.
use Rattle.std.proofs.Common.{◌≡◌, ℕ, zero, suc, ◌+◌, ◌<◌, List, [], ◌∷◌, drop, length, refl, ap, ◌∙◌, arith}
use Rattle.change_log.specs.Seats.{change_seat, change_seats}
use Rattle.change_log.specs.declared.change.Change.{Change}

pub change_seats_more : (n i : ℕ) (changes : List Change) → i < length changes → change_seats n (drop i changes) ≡ change_seat n ∷ change_seats (n + 1) (drop (i + 1) changes)
change_seats_more n i [] lt = absurd (omega (arith, lt))
change_seats_more n zero (c ∷ changes) lt = refl
change_seats_more n (suc i) (c ∷ changes) lt =
    change_seats_more n i changes (omega (arith, lt)) ∙ ap (λ k. change_seat n ∷ change_seats (n + 1) (drop k (c ∷ changes))) (next i)
  where
    next : (j : ℕ) → suc (j + 1) ≡ suc j + 1
    next j = omega arith
