-- The words of lines: which line they spell, or that they spell none.
use Rattle.std.proofs.Common.{◌≡◌, ℕ, ◌≤◌, List, [], ◌∷◌, refl, ap, sym, ◌∙◌, subst, arith}
use Rattle.std.specs.Prelude.{Some, None, codes}
use Rattle.std.proofs.lemmas.Fmt.{decimal_injective}
use Rattle.change_log.specs.declared.call.Call.{Call}
use Rattle.script_lang.specs.declared.line.Line.{Line}
use Rattle.script_lang.specs.declared.line.Line.TheVariants.{Open, Begin, Step, Die, Next}
use Rattle.handlers.specs.declared.handler.Strategy.{Strategy}
use Rattle.handlers.specs.declared.handler.Strategy.TheVariants.{Discard, Recover, Leave}
use Rattle.script_lang.specs.Lines.{IsNumber, IsBits, IsLineOf, strategy_word}
use Rattle.script_lang.specs.Splitting.{words_of, AreNumbers, IsTimedCall}
use Rattle.script_lang.proofs.Cutting.{apart, words_of-one, one_word, no_words, unspaced}
use Rattle.script_lang.proofs.Letters.{decimal_word, bits_word}

pub last_number : (text first second : List ℕ) → words_of text ≡ first ∷ words_of second → ((n : ℕ) → IsNumber second n → ⊥) → (t : ℕ × ℕ) → AreNumbers (words_of text) t → ⊥
last_number text first second e h t m =
    let same : words_of second ≡ m.1 ∷ [] = cc (e, m.2) in
    h t.1 (subst (λ w. IsNumber w t.1) (sym (one_word second m.1 same)) m.4)

pub both_numbers : (text first second : List ℕ) (m n : ℕ) → words_of text ≡ first ∷ words_of second → IsNumber first m → IsNumber second n → AreNumbers (words_of text) (m, n)
both_numbers text first second m n e f s =
    let word = subst (λ w. words_of w ≡ w ∷ []) (sym s.0) (words_of-one _ (unspaced _ (decimal_word n (omega (arith, s.1))))) in
    (first, second, e ∙ ap (λ ws. first ∷ ws) word, f, s)

same_second : (words : List (List ℕ)) (s t : ℕ × ℕ) → AreNumbers words s → AreNumbers words t → s.1 ≡ t.1
same_second words s t a b =
    let same : a.1 ≡ b.1 = cc (a.2, b.2) in
    decimal_injective s.1 t.1 (omega (arith, a.4.1)) (omega (arith, b.4.1)) (sym a.4.0 ∙ same ∙ b.4.0)

pub no_step : (words : List (List ℕ)) → ((t : ℕ × ℕ) → AreNumbers words t → 1 ≤ t.1 → t.1 ≤ 1048576 → ⊥) → (l : Line) → IsLineOf (codes "step" ∷ words) l → ⊥
no_step words h (Open s) m = omega (arith, apart _ _ _ _ m)
no_step words h (Begin who now c) m = omega (arith, apart _ _ _ _ m.words_are)
no_step words h (Step who count) m = h (who, count) (m.0, m.1, cc (m.2), m.3, m.4) m.5 m.6
no_step words h (Die who None) m = omega (arith, apart _ _ _ _ m.1)
no_step words h (Die who (Some bits)) m = omega (arith, apart _ _ _ _ m.2)
no_step words h (Next who now c) m = omega (arith, apart _ _ _ _ m.words_are)

-- another number of steps is not meant
pub no_such_step : (words : List (List ℕ)) (s : ℕ × ℕ) → AreNumbers words s → (1 ≤ s.1 → s.1 ≤ 1048576 → ⊥) → (l : Line) → IsLineOf (codes "step" ∷ words) l → ⊥
no_such_step words s a out = no_step words (λ t b low high. let same = same_second words s t a b in out (omega (arith, same, low)) (omega (arith, same, high)))

pub no_begin : (words : List (List ℕ)) → ((t : ℕ × ℕ × Call) → IsTimedCall words t → ⊥) → (l : Line) → IsLineOf (codes "begin" ∷ words) l → ⊥
no_begin words h (Open s) m = omega (arith, apart _ _ _ _ m)
no_begin words h (Begin who now c) m = h (who, now, c) (m.who_word, m.now_word, m.call_words, cc (m.words_are), m.who_is, m.now_is, m.call_is)
no_begin words h (Step who count) m = omega (arith, apart _ _ _ _ m.2)
no_begin words h (Die who None) m = omega (arith, apart _ _ _ _ m.1)
no_begin words h (Die who (Some bits)) m = omega (arith, apart _ _ _ _ m.2)
no_begin words h (Next who now c) m = omega (arith, apart _ _ _ _ m.words_are)

pub no_next : (words : List (List ℕ)) → ((t : ℕ × ℕ × Call) → IsTimedCall words t → ⊥) → (l : Line) → IsLineOf (codes "call" ∷ words) l → ⊥
no_next words h (Open s) m = omega (arith, apart _ _ _ _ m)
no_next words h (Begin who now c) m = omega (arith, apart _ _ _ _ m.words_are)
no_next words h (Step who count) m = omega (arith, apart _ _ _ _ m.2)
no_next words h (Die who None) m = omega (arith, apart _ _ _ _ m.1)
no_next words h (Die who (Some bits)) m = omega (arith, apart _ _ _ _ m.2)
no_next words h (Next who now c) m = h (who, now, c) (m.who_word, m.now_word, m.call_words, cc (m.words_are), m.who_is, m.now_is, m.call_is)

pub no_open : (text : List ℕ) → ((s : Strategy) → text ≡ strategy_word s → ⊥) → (l : Line) → IsLineOf (codes "open" ∷ words_of text) l → ⊥
no_open text h (Open s) m = let same : words_of text ≡ strategy_word s ∷ [] = cc m in h s (one_word text (strategy_word s) same)
no_open text h (Begin who now c) m = omega (arith, apart _ _ _ _ m.words_are)
no_open text h (Step who count) m = omega (arith, apart _ _ _ _ m.2)
no_open text h (Die who None) m = omega (arith, apart _ _ _ _ m.1)
no_open text h (Die who (Some bits)) m = omega (arith, apart _ _ _ _ m.2)
no_open text h (Next who now c) m = omega (arith, apart _ _ _ _ m.words_are)

pub strategy_words : (s : Strategy) → words_of (strategy_word s) ≡ strategy_word s ∷ []
unfolding words_of
strategy_words Discard = refl
strategy_words Recover = refl
strategy_words Leave = refl

pub no_torn : (who torn : List ℕ) → ((n : ℕ) → IsBits torn n → ⊥) → (l : Line) → IsLineOf (codes "die" ∷ who ∷ words_of torn) l → ⊥
no_torn name torn h (Open s) m = omega (arith, apart _ _ _ _ m)
no_torn name torn h (Begin who now c) m = omega (arith, apart _ _ _ _ m.words_are)
no_torn name torn h (Step who count) m = omega (arith, apart _ _ _ _ m.2)
no_torn name torn h (Die who None) m = no_words torn (cc (m.1))
no_torn name torn h (Die who (Some bits)) m =
    let same : words_of torn ≡ m.1 ∷ [] = cc (m.2) in
    h bits (subst (λ w. IsBits w bits) (sym (one_word torn m.1 same)) m.4)
no_torn name torn h (Next who now c) m = omega (arith, apart _ _ _ _ m.words_are)

pub torn_line : (who torn : List ℕ) (m n : ℕ) → IsNumber who m → IsBits torn n → IsLineOf (codes "die" ∷ who ∷ words_of torn) (Die m (Some n))
torn_line who torn m n a b =
    (who, torn, ap (λ ws. codes "die" ∷ who ∷ ws) (words_of-one torn (unspaced torn (bits_word torn n b))), a, b)
