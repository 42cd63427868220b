-- A play goes on by one line, or ends there.
use Rattle.std.proofs.Common.{ℕ, ◌+◌, ◌<◌, ◌≤◌, true, false, List, [], ◌∷◌, ◌++◌, length, refl, sym, ap, ◌∙◌, inl, inr, arith, subst, length-append, append_assoc}
use Rattle.std.specs.Prelude.{Option, Result, Ok, Err}
use Rattle.std.proofs.lemmas.List.Elements.{All-push}
use Rattle.region_words.specs.Region.{Region}
use Rattle.script_lang.specs.declared.line.Line.{Line}
use Rattle.script_lang.specs.Lines.{IsLine}
use Rattle.script_lang.proofs.OneMeaning.{names_one_thing}
use Rattle.mmkv_top.specs.declared.halt.Halt.{Halt}
use Rattle.mmkv_top.specs.declared.halt.Halt.TheVariants as halt
use Rattle.script_lang.specs.declared.limits.TheConstants.{LARGEST_COUNT, LARGEST_LINE}
use Rattle.mmkv_top.specs.State.{PlayState}
use Rattle.script_lang.specs.Parts.{Part, lines_of}
use Rattle.script_lang.specs.Played.{Stock}
use Rattle.script_lang.specs.Script.{AreLines}
use Rattle.script_lang.specs.Journal.{CanTake, IsPlayedTo, IsFirstRefused, IsRefusedNext}
use Rattle.world.specs.World.{IsSound}
use Rattle.mmkv_top.specs.Progress.{IsAt, Takes, TakesText, TextHalts, TakesOrHalts, IsTaken, HaltsAt}
use Rattle.mmkv_top.proofs.Judged.{journal_of}

-- a line that was read is taken, or ends the play
pub text_takes : {A : Type 0} (stock left : Stock) (start : Region) (parts : List Part) (count : ℕ) (text : List ℕ) (q : PlayState) (line : Option Line) (result : Result A Halt) →
    count < LARGEST_COUNT → length text ≤ LARGEST_LINE → IsLine text line → Takes stock left start parts line q result → TakesOrHalts stock left start parts count text q result
text_takes stock left start parts count text q line (Ok x) few short is takes = record { few = few; short = short; named = line; is = is; one = takes }
text_takes stock left start parts count text q line (Err halt.Refused) few short is takes =
    inr (inr (λ other reads can. takes (subst (CanTake stock parts) (names_one_thing text other line reads is) can)))
text_takes stock left start parts count text q line (Err halt.Memory) few short is takes = tt
text_takes stock left start parts count text q line (Err halt.JournalFull) few short is takes = (takes.0, subst (IsLine text) takes.1 is, subst (CanTake stock parts) takes.1 takes.2, takes.3)
text_takes stock left start parts count text q line (Err halt.NotWhole) few short is takes = (takes.0, subst (IsLine text) takes.1 is, subst (CanTake stock parts) takes.1 takes.2, takes.3)

lines_more : (texts : List (List ℕ)) (lines : List (Option Line)) (text : List ℕ) (line : Option Line) → AreLines texts lines → IsLine text line → AreLines (texts ++ text ∷ []) (lines ++ line ∷ [])
lines_more [] lines text line are is = (line, [], ap (λ x. x ++ line ∷ []) are, is, refl)
lines_more (first ∷ texts) lines text line are is =
    (are.0, are.1 ++ line ∷ [], ap (λ x. x ++ line ∷ []) are.2, are.3, lines_more texts are.1 text line are.4 is)

-- nothing was taken of these texts
pub none_taken : (stock left : Stock) (start : Region) (texts : List (List ℕ)) (p : PlayState) → IsAt stock left start [] p → IsTaken stock left start texts texts p 0
none_taken stock left start texts p at =
    record {
      parts = [];
      taken = record { front = []; are = refl; within = (omega arith, λ k d lt. absurd (omega (arith, lt))); lines = refl; counted = refl };
      at = at;
    }

-- one more text was taken
pub one_taken : (stock before left : Stock) (start : Region) (texts rest : List (List ℕ)) (text : List ℕ) (p q : PlayState) (count : ℕ)
    (taken : IsTaken stock before start texts (text ∷ rest) p count) → TakesText stock left start taken.parts count text q → IsTaken stock left start texts rest q (count + 1)
one_taken stock before left start texts rest text p q count taken takes =
    let so_far = taken.taken in
    record {
      parts = record { line = takes.named; made = takes.one.0; outcome = takes.one.1 } ∷ taken.parts;
      taken = record {
        front = so_far.front ++ text ∷ [];
        are = so_far.are ∙ sym (append_assoc so_far.front (text ∷ []) rest);
        within = (omega (arith, so_far.counted, takes.few, length-append so_far.front (text ∷ [])), All-push (λ t. length t ≤ LARGEST_LINE) so_far.front text so_far.within.1 takes.short);
        lines = lines_more so_far.front (lines_of taken.parts) text takes.named so_far.lines takes.is;
        counted = omega (arith, so_far.counted, length-append so_far.front (text ∷ []));
      };
      at = takes.one.2;
    }

played_to : (stock left : Stock) (start : Region) (texts rest : List (List ℕ)) (p : PlayState) (count : ℕ) → IsSound p.world → IsTaken stock left start texts rest p count →
    IsPlayedTo stock start texts rest (count + 1)
played_to stock left start texts rest p count ready taken =
    record {
      front = taken.taken.front;
      parts = taken.parts;
      are = taken.taken.are;
      within = taken.taken.within;
      lines = taken.taken.lines;
      journal = journal_of stock left start taken.parts p ready taken.at;
      numbered = ap (λ n. n + 1) taken.taken.counted;
    }

-- the next text ended the play
pub stops_there : (stock left : Stock) (start : Region) (texts rest : List (List ℕ)) (text : List ℕ) (p : PlayState) (count : ℕ) (why : Halt) → IsSound p.world →
    (taken : IsTaken stock left start texts (text ∷ rest) p count) → TextHalts stock start taken.parts count text why → HaltsAt stock start texts false (count + 1) why
unfolding played_to
stops_there stock left start texts rest text p count halt.Refused ready taken halts =
    record {
      rest = text ∷ rest;
      before = played_to stock left start texts (text ∷ rest) p count ready taken;
      refused = elim halts [ inl many ↦ inl (omega (arith, many)) | inr bad ↦ inr bad ];
    }
stops_there stock left start texts rest text p count halt.Memory ready taken halts = tt
stops_there stock left start texts rest text p count halt.JournalFull ready taken halts =
    (record { text = text; rest = rest; named = halts.0; before = played_to stock left start texts (text ∷ rest) p count ready taken; is = halts.1; can = halts.2 }, halts.3)
stops_there stock left start texts rest text p count halt.NotWhole ready taken halts =
    (record { text = text; rest = rest; named = halts.0; before = played_to stock left start texts (text ∷ rest) p count ready taken; is = halts.1; can = halts.2 }, halts.3)

-- where all was taken, the line that lies beyond is the first that is refused
pub beyond_all : (stock left : Stock) (start : Region) (texts : List (List ℕ)) (p : PlayState) (count : ℕ) → IsSound p.world → IsTaken stock left start texts [] p count →
    IsFirstRefused stock start texts true (count + 1)
beyond_all stock left start texts p count ready taken =
    record { rest = []; before = played_to stock left start texts [] p count ready taken; refused = refl }

-- a line that ended the play did so too where more lies beyond
pub halts_beyond : (stock : Stock) (start : Region) (texts : List (List ℕ)) (number : ℕ) (why : Halt) → HaltsAt stock start texts false number why → HaltsAt stock start texts true number why
halts_beyond stock start texts number halt.Refused f = record { rest = f.rest; before = f.before; refused = go f.rest f.refused }
  where
    go : (rest : List (List ℕ)) → IsRefusedNext stock false number f.before.parts rest → IsRefusedNext stock true number f.before.parts rest
    go [] h = refl
    go (text ∷ rest) h = h
halts_beyond stock start texts number halt.Memory f = f
halts_beyond stock start texts number halt.JournalFull f = f
halts_beyond stock start texts number halt.NotWhole f = f
