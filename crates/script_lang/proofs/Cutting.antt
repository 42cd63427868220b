-- A text is cut at its spaces in one way.
use Rattle.std.proofs.Common.{◌≡◌, ◌≢◌, ℕ, suc, ◌+◌, ◌*◌, ◌<◌, List, [], ◌∷◌, ◌++◌, length, get_or, refl, ap, sym, ◌∙◌, arith, inl, inr}
use Rattle.std.specs.List.{AllByRecursion}
use Rattle.std.proofs.lemmas.Bool.{cases_eq}
use Rattle.std.specs.Prelude.{Option, Some, None, MatchOption}
use Rattle.std.specs.Borrow.{Bor}
use Rattle.std.proofs.lemmas.Str.Pattern.{IsSplitOnceResult, split_parts}
use Rattle.script_lang.specs.Texts.{spaced}
use Rattle.script_lang.specs.Splitting.{words_of, before_words}

-- a byte of a word
abbrev pub InWord : ℕ → Type 0
InWord b = (b ≢ 32) × (b < 128)

abbrev pub IsWord : List ℕ → Type 0
IsWord word = AllByRecursion InWord word

-- no byte is a space
abbrev pub Unspaced : List ℕ → Type 0
Unspaced word = AllByRecursion (λ b. b ≢ 32) word

pub unspaced : (word : List ℕ) → IsWord word → Unspaced word
unspaced [] h = tt
unspaced (b ∷ bytes) h = (h.0.0, unspaced bytes h.1)

pub unspaced_at : (word : List ℕ) → ((i : ℕ) → i < length word → get_or word i 0 ≢ 32) → Unspaced word
unspaced_at [] h = tt
unspaced_at (b ∷ bytes) h = (h 0 (omega arith), unspaced_at bytes (λ i l. h (suc i) (omega arith)))

words_of-space : (bytes : List ℕ) → words_of (32 ∷ bytes) ≡ [] ∷ words_of bytes
unfolding words_of
words_of-space bytes = refl

words_of-byte : (b : ℕ) (bytes : List ℕ) → b ≢ 32 → words_of (b ∷ bytes) ≡ before_words b (words_of bytes)
unfolding words_of
words_of-byte b bytes h = grind arith

-- a text without a space is one word
pub words_of-one : (word : List ℕ) → Unspaced word → words_of word ≡ word ∷ []
unfolding words_of
words_of-one [] h = refl
words_of-one (b ∷ bytes) h = words_of-byte b bytes h.0 ∙ ap (before_words b) (words_of-one bytes h.1)

-- the first word is what stands before the first space
pub words_of-more : (word rest : List ℕ) → Unspaced word → words_of (word ++ (32 ∷ rest)) ≡ word ∷ words_of rest
words_of-more [] rest h = words_of-space rest
words_of-more (b ∷ bytes) rest h = words_of-byte b (bytes ++ (32 ∷ rest)) h.0 ∙ ap (before_words b) (words_of-more bytes rest h.1)

spaced_before : (b : ℕ) (words : List (List ℕ)) → spaced (before_words b words) ≡ b ∷ spaced words
spaced_before b [] = refl
spaced_before b (word ∷ []) = refl
spaced_before b (word ∷ next ∷ words) = refl

pub some_word : (text : List ℕ) → (first : List ℕ) × (others : List (List ℕ)) × (words_of text ≡ first ∷ others)
unfolding words_of
some_word [] = ([], [], refl)
some_word (b ∷ bytes) =
    elim (cases_eq b 32) [
      | inl space ↦ ([], words_of bytes, ap (λ x. words_of (x ∷ bytes)) space ∙ words_of-space bytes)
      | inr byte ↦ let s = some_word bytes in (b ∷ s.0, s.1, words_of-byte b bytes byte ∙ ap (before_words b) s.2)
    ]

spaced_after : (word text : List ℕ) → spaced (word ∷ words_of text) ≡ word ++ (32 ∷ spaced (words_of text))
spaced_after word text =
    let s = some_word text in
    ap (λ ws. spaced (word ∷ ws)) s.2 ∙ ap (λ ws. word ++ (32 ∷ spaced ws)) (sym s.2)

-- the words with one space between are the text
pub spaced-words_of : (text : List ℕ) → spaced (words_of text) ≡ text
unfolding words_of
spaced-words_of [] = refl
spaced-words_of (b ∷ bytes) =
    elim (cases_eq b 32) [
      | inl space ↦
          ap (λ x. spaced (words_of (x ∷ bytes))) space ∙ ap spaced (words_of-space bytes) ∙ spaced_after [] bytes
          ∙ ap (λ t. 32 ∷ t) (spaced-words_of bytes) ∙ ap (λ x. x ∷ bytes) (sym space)
      | inr byte ↦ ap spaced (words_of-byte b bytes byte) ∙ spaced_before b (words_of bytes) ∙ ap (λ t. b ∷ t) (spaced-words_of bytes)
    ]

-- words without spaces are found again
pub words_of-spaced : (word : List ℕ) (words : List (List ℕ)) → AllByRecursion Unspaced (word ∷ words) → words_of (spaced (word ∷ words)) ≡ word ∷ words
words_of-spaced word [] h = words_of-one word h.0
words_of-spaced word (next ∷ words) h =
    words_of-more word (spaced (next ∷ words)) h.0 ∙ ap (λ ws. word ∷ ws) (words_of-spaced next words h.1)

pub cut_words : (text : List ℕ) (r : Option (Bor (List ℕ) × Bor (List ℕ))) → IsSplitOnceResult 32 text r → MatchOption r (words_of text ≡ text ∷ []) (λ x. words_of text ≡ x.0.now ∷ words_of x.1.now)
cut_words text None h = words_of-one text (unspaced_at text (split_parts 32 text None h (omega arith)))
cut_words text (Some x) h =
    let p = split_parts 32 text (Some x) h (omega arith) in
    ap words_of p.0 ∙ words_of-more x.0.now x.1.now (unspaced_at x.0.now p.1)

-- a text of one word is that word
pub one_word : (text word : List ℕ) → words_of text ≡ word ∷ [] → text ≡ word
one_word text word e = sym (spaced-words_of text) ∙ ap spaced e

-- a text has a word
pub no_words : (text : List ℕ) → words_of text ≡ [] → ⊥
no_words text e = let s = some_word text in cc (e, s.2)

-- a number of its own for each word
abbrev pub code : List ℕ → ℕ
code [] = 0
code (c ∷ word) = (c + 1) + 1000 * code word

pub apart : (a b : List ℕ) (xs ys : List (List ℕ)) → a ∷ xs ≡ b ∷ ys → code a ≡ code b
apart a b xs ys e = let same : a ≡ b = cc e in ap code same

all_unspaced : (words : List (List ℕ)) → AllByRecursion IsWord words → AllByRecursion Unspaced words
all_unspaced [] h = tt
all_unspaced (word ∷ words) h = (unspaced word h.0, all_unspaced words h.1)

pub words_again : (words : List (List ℕ)) → words ≢ [] → AllByRecursion IsWord words → words_of (spaced words) ≡ words
words_again [] some h = absurd (some refl)
words_again (word ∷ words) some h = words_of-spaced word words (all_unspaced (word ∷ words) h)
