-- A write-back grows the file to the room that it asks for, if at all.
use Rattle.std.proofs.Common.{◌≡◌, ℕ, ◌≤◌, Bool, true, false, cond, List, [], ◌∷◌, ◌++◌, refl, sym, subst, arith}
use Rattle.std.specs.Prelude.{Option, None, nat_lt, unwrap_or, ◌==◌, if◌then◌else◌}
use Rattle.std.proofs.lemmas.Bool.Decides.{nat_tests}
use Rattle.region_words.specs.Rows.{next_sequence, store_meta, payload_stores, confirmed_by_checksum, write_back_stores}
use Rattle.region_words.specs.Owing.{AreWithin}
use Rattle.region_words.specs.declared.standing.Standing.{Standing}
use Rattle.region_words.specs.declared.event.Mark.{Mark}
use Rattle.region_words.specs.declared.event.What.{What}
use Rattle.region_words.specs.declared.event.What.TheVariants.{Grow}
use Rattle.region_words.proofs.OwedRows.{write_back_within}
use Rattle.write_back.specs.Rewrites.{room_for}

-- the events of a write-back that grows the file or doesn't
abbrev stores : Standing → List ℕ → Mark → ℕ → Bool → List What
stores s new mark wanted grows =
    cond grows (Grow wanted ∷ []) [] ++ next_sequence s ∷ (if s.version == 0 then store_meta 1 3 ∷ [] else [])
    ++ payload_stores new ++ confirmed_by_checksum new mark

none_wanted : (size : ℕ) → nat_lt size 0 ≡ false
none_wanted size = grind (arith, nat_tests)

pub within_room : (s : Standing) (size : Option ℕ) (new : List ℕ) (mark : Mark) (k : ℕ) → room_for s size ≤ k → AreWithin k (write_back_stores s size new mark)
within_room s size new mark k h = go (nat_lt s.file_size (unwrap_or size 0)) refl h
  where
    go : (b : Bool) → nat_lt s.file_size (unwrap_or size 0) ≡ b → cond b (unwrap_or size 0) 0 ≤ k → AreWithin k (write_back_stores s size new mark)
    go true e room = write_back_within k s size new mark room
    go false e room =
        let ungrown = subst (λ b. AreWithin k (stores s new mark 0 b)) (none_wanted s.file_size) (write_back_within k s None new mark (omega arith)) in
        subst (λ b. AreWithin k (stores s new mark (unwrap_or size 0) b)) (sym e) ungrown
