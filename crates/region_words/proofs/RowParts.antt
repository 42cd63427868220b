-- The parts of a row that are still to come.
use Rattle.std.proofs.Common.{◌≡◌, ◌≢◌, ℕ, ◌+◌, ◌*◌, ◌/◌, ◌<◌, ◌≤◌, List, [], ◌∷◌, ◌++◌, length, drop, refl, sym, ap, ◌∙◌, arith, length-drop, get_or, subst}
use Rattle.std.proofs.lemmas.List.{drop-drop, drop_more}
use Rattle.std.specs.Prelude.{◌-◌, false, Some}
use Rattle.lock_rules.specs.declared.table.LockKind.TheVariants.{Exclusive}
use Rattle.region_words.specs.Rows.{Row, stores_from, store_data}
use Rattle.region_words.specs.Standings.{words_of, first_of}
use Rattle.region_words.specs.Share.{ShareState, MayMake}
use Rattle.region_words.specs.Owing.{IsOwing, IsWithin}
use Rattle.region_words.specs.Making.{IsOwingFirst, MakesFirst}
use Rattle.region_words.specs.declared.event.What.{What}
use Rattle.region_words.proofs.Owing.{may_make_next, owing_next}

-- the number of words of some bytes, the last filled up with zeros
pub length-words : (bytes : List ℕ) → length (words_of bytes) ≡ (length bytes + 3) / 4
length-words [] = refl
length-words (a ∷ []) = refl
length-words (a ∷ b ∷ []) = refl
length-words (a ∷ b ∷ c ∷ []) = refl
length-words (a ∷ b ∷ c ∷ d ∷ rest) = omega (arith, length-words rest)

pub length-stores : (place : ℕ) (words : List ℕ) → length (stores_from place words) ≡ length words
length-stores place [] = refl
length-stores place (word ∷ words) = omega (arith, length-stores (place + 1) words)

-- the first word and the others
first_word : (bytes : List ℕ) → 0 < length bytes → words_of bytes ≡ first_of (words_of bytes) ∷ words_of (drop 4 bytes)
first_word [] some = absurd (omega (arith, some))
first_word (a ∷ []) some = refl
first_word (a ∷ b ∷ []) some = refl
first_word (a ∷ b ∷ c ∷ []) some = refl
first_word (a ∷ b ∷ c ∷ d ∷ rest) some = refl

-- the stores of the words from word k on: that of word k and the others
pub first_store : (first k : ℕ) (bytes : List ℕ) → 4 * k < length bytes →
    stores_from (first + k) (words_of (drop (4 * k) bytes))
    ≡ store_data (first + k) (first_of (words_of (drop (4 * k) bytes))) ∷ stores_from (first + (k + 1)) (words_of (drop (4 * (k + 1)) bytes))
first_store first k bytes inside =
    let rest = drop (4 * k) bytes in
    let on : drop 4 rest ≡ drop (4 * (k + 1)) bytes = drop-drop 4 (4 * k) bytes ∙ ap (λ n. drop n bytes) (omega arith) in
    ap (stores_from (first + k)) (first_word rest (omega (arith, inside, length-drop (4 * k) bytes)) ∙ ap (λ l. first_of (words_of rest) ∷ words_of l) on)
    ∙ ap (λ n. store_data (first + k) (first_of (words_of rest)) ∷ stores_from n (words_of (drop (4 * (k + 1)) bytes))) (omega arith)

-- how many words are left
pub words_left : (first k : ℕ) (bytes : List ℕ) → 4 * k ≤ length bytes + 3 →
    length (stores_from (first + k) (words_of (drop (4 * k) bytes))) ≡ (length bytes + 3) / 4 - k
words_left first k bytes within =
    length-stores (first + k) (words_of (drop (4 * k) bytes)) ∙ length-words (drop (4 * k) bytes)
    ∙ omega (arith, within, length-drop (4 * k) bytes)

-- a word is left exactly where its first byte stands
pub some_left : (first k : ℕ) (bytes : List ℕ) → stores_from (first + k) (words_of (drop (4 * k) bytes)) ≢ [] → 4 * k < length bytes
some_left first k bytes some = go (drop (4 * k) bytes) refl
  where
    go : (rest : List ℕ) → rest ≡ drop (4 * k) bytes → 4 * k < length bytes
    go [] e = absurd (some (ap (λ l. stores_from (first + k) (words_of l)) (sym e)))
    go (b ∷ rest) e = omega (arith, ap length e, length-drop (4 * k) bytes)

-- what may be done with the first event of a part
pub record MayMakeThis (what : What) (s : ShareState) : Type 0 where
  pub alive : s.ended ≡ false
  pub held : s.holds ≡ Some Exclusive
  pub place : 0 < s.reserved s.who
  pub room : IsWithin (s.room s.who) what
  pub lawful : MayMake what s

pub may_make_this : (events : List What) (first : What) (rest : List What) (s : ShareState) → events ≡ first ∷ rest → IsOwingFirst events s → MayMakeThis first s
may_make_this events first rest s is o =
    let owing : IsOwing o.0 (first ∷ rest ++ o.1) s = subst (λ l. IsOwing o.0 (l ++ o.1) s) is o.2 in
    record {
      alive = owing.alive;
      held = owing.holds;
      place = omega (arith, owing.places);
      room = owing.room.0;
      lawful = may_make_next o.0 first (rest ++ o.1) s owing;
    }

-- a part makes its first event, and the row goes on
pub owing_on : (row : Row) (old new : List What) (s t : ShareState) → MakesFirst old new s t → IsOwing row old s → IsOwing row new t
owing_on row old new s t made is = owing_next row made.0 new s t (subst (λ l. IsOwing row l s) made.1 is) made.2

-- the first event of a list that is left
pub first_listed : (events : List What) (made : ℕ) (first : What) → drop made events ≢ [] → first ≡ get_or events made first → drop made events ≡ first ∷ drop (made + 1) events
first_listed events made first some is = go (drop made events) refl
  where
    go : (rest : List What) → rest ≡ drop made events → drop made events ≡ first ∷ drop (made + 1) events
    go [] e = absurd (some (sym e))
    go (x ∷ rest) e =
        drop_more events made first (omega (arith, ap length e, length-drop made events)) ∙ ap (λ w. w ∷ drop (made + 1) events) (sym is)
