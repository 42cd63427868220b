-- The texts of a script, taken one after another.
use Rattle.std.proofs.Common.{◌≡◌, ℕ, ◌+◌, ◌<◌, ◌≤◌, true, false, List, [], ◌∷◌, ◌++◌, length, refl, sym, ap, ◌∙◌, inr, arith, subst, length-append, append_assoc, append-nil}
use Rattle.std.specs.Prelude.{Option, Result, Ok, Err}
use Rattle.std.proofs.lemmas.List.Elements.{All-push}
use Rattle.script_lang.specs.declared.limits.TheConstants.{LARGEST_COUNT, LARGEST_LINE}
use Rattle.script_lang.specs.declared.line.Line.{Line}
use Rattle.script_lang.specs.Lines.{IsLine}
use Rattle.script_lang.specs.Played.{Stock}
use Rattle.script_lang.specs.Script.{AreLines}
use Rattle.script_lang.proofs.OneMeaning.{names_one_thing}
use Rattle.race_core.specs.declared.entrant.Entrant.{Entrant}
use Rattle.race_core.specs.declared.halt.Halt.{Halt}
use Rattle.race_core.specs.declared.halt.Halt.TheVariants as halt
use Rattle.race_core.specs.Script.{AreRead, CanFollow, HaltsAt, IsFirstRefused, IsRefusedNext, SaysRace, in_order}
use Rattle.race_core.specs.Reading.{IsAt, IsTaken, Takes, TakesOrHalts, TakesText, TextHalts}

-- a line that was read is taken, or ends the reading
pub text_takes : {A : Type 0} (stock left : Stock) (before : List (Option Line)) (text : List ℕ) (openers : List Entrant) (line : Option Line) (result : Result A Halt) →
    length before < LARGEST_COUNT → length text ≤ LARGEST_LINE → IsLine text line → Takes stock left before line openers result → TakesOrHalts stock left before text openers result
text_takes stock left before text openers line (Ok x) few short is takes = record { few = few; short = short; named = line; is = is; at = takes }
text_takes stock left before text openers line (Err halt.Refused) few short is takes =
    inr (inr (λ other reads can. takes (subst (CanFollow stock before) (names_one_thing text other line reads is) can)))
text_takes stock left before text openers line (Err halt.Memory) few short is takes = tt

lines_more : (texts : List (List ℕ)) (lines : List (Option Line)) (text : List ℕ) (line : Option Line) → AreLines texts lines → IsLine text line → AreLines (texts ++ text ∷ []) (lines ++ line ∷ [])
lines_more [] lines text line are is = (line, [], ap (λ x. x ++ line ∷ []) are, is, refl)
lines_more (first ∷ texts) lines text line are is =
    (are.0, are.1 ++ line ∷ [], ap (λ x. x ++ line ∷ []) are.2, are.3, lines_more texts are.1 text line are.4 is)

as_long : (lines : List (Option Line)) → length (in_order lines) ≡ length lines
as_long [] = refl
as_long (l ∷ before) = omega (arith, length-append (in_order before) (l ∷ []), as_long before)

named_long : (texts : List (List ℕ)) (lines : List (Option Line)) → AreLines texts lines → length texts ≡ length lines
named_long [] lines are = sym (ap length are)
named_long (text ∷ texts) lines are = omega (arith, ap length are.2, named_long texts are.1 are.4)

-- nothing was read
pub none_read : (stock : Stock) (openers : List Entrant) → openers ≡ [] → IsAt stock stock [] openers
none_read stock openers none =
    subst (IsAt stock stock []) (sym none)
    (record {
      permitted = tt;
      are = record { strategies_are = refl; each = λ i e is. absurd cc };
      drawn_are = λ s. omega arith;
      beyond = λ who far. refl;
    })

-- nothing was taken of these texts
pub none_taken : (stock left : Stock) (texts : List (List ℕ)) (openers : List Entrant) → IsAt stock left [] openers → IsTaken stock left texts texts openers 0
none_taken stock left texts openers at =
    record {
      front = [];
      lines = [];
      are = refl;
      read = record { within = (omega arith, λ k d lt. absurd (omega (arith, lt))); named = refl; permitted = tt };
      counted = refl;
      few = omega arith;
      at = at;
    }

-- one more text was taken
pub one_taken : (stock mid left : Stock) (texts rest : List (List ℕ)) (text : List ℕ) (old new : List Entrant) (count : ℕ)
    (taken : IsTaken stock mid texts (text ∷ rest) old count) → TakesText stock left taken.lines text new → IsTaken stock left texts rest new (count + 1)
one_taken stock mid left texts rest text old new count taken takes =
    let counted : length taken.front ≡ length taken.lines = named_long taken.front (in_order taken.lines) taken.read.named ∙ as_long taken.lines in
    record {
      front = taken.front ++ text ∷ [];
      lines = takes.named ∷ taken.lines;
      are = taken.are ∙ sym (append_assoc taken.front (text ∷ []) rest);
      read = record {
        within = (omega (arith, counted, takes.few, length-append taken.front (text ∷ [])), All-push (λ t. length t ≤ LARGEST_LINE) taken.front text taken.read.within.1 takes.short);
        named = lines_more taken.front (in_order taken.lines) text takes.named taken.read.named takes.is;
        permitted = takes.at.permitted;
      };
      counted = omega (arith, taken.counted);
      few = omega (arith, takes.few, taken.counted);
      at = takes.at;
    }

-- the next text ended the reading
pub stops_there : (stock mid : Stock) (texts rest : List (List ℕ)) (text : List ℕ) (old : List Entrant) (count : ℕ) (why : Halt)
    (taken : IsTaken stock mid texts (text ∷ rest) old count) → TextHalts stock taken.lines text why → HaltsAt stock texts false (count + 1) why
stops_there stock mid texts rest text old count halt.Refused taken halts =
    record { front = taken.front; rest = text ∷ rest; lines = taken.lines; are = taken.are; read = taken.read; numbered = ap (λ n. n + 1) taken.counted; refused = halts }
stops_there stock mid texts rest text old count halt.Memory taken halts = tt

-- all texts were taken
pub all_read : (stock left : Stock) (texts : List (List ℕ)) (openers : List Entrant) (count : ℕ) → IsTaken stock left texts [] openers count → SaysRace stock texts openers
all_read stock left texts openers count taken =
    record { lines = taken.lines; read = subst (λ t. AreRead stock t taken.lines) (sym (taken.are ∙ append-nil taken.front)) taken.read; are = taken.at.are }

-- where all was taken, the line that lies beyond is the first that is refused
pub beyond_all : (stock left : Stock) (texts : List (List ℕ)) (openers : List Entrant) (count : ℕ) → IsTaken stock left texts [] openers count → IsFirstRefused stock texts true (count + 1)
beyond_all stock left texts openers count taken =
    record { front = taken.front; rest = []; lines = taken.lines; are = taken.are; read = taken.read; numbered = ap (λ n. n + 1) taken.counted; refused = refl }

-- a line that ended the reading did so too where more lies beyond
pub halts_beyond : (stock : Stock) (texts : List (List ℕ)) (number : ℕ) (why : Halt) → HaltsAt stock texts false number why → HaltsAt stock texts true number why
halts_beyond stock texts number halt.Refused f = record { front = f.front; rest = f.rest; lines = f.lines; are = f.are; read = f.read; numbered = f.numbered; refused = go f.rest f.refused }
  where
    go : (rest : List (List ℕ)) → IsRefusedNext stock false f.lines rest → IsRefusedNext stock true f.lines rest
    go [] h = refl
    go (text ∷ rest) h = h
halts_beyond stock texts number halt.Memory f = f
