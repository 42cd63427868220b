-- The text of a line has the words that the grammar wants, and no others.
use Rattle.std.proofs.Common.{◌≡◌, ◌≢◌, ℕ, List, [], get_or, refl, ap, sym, ◌∙◌, subst, inl, inr, arith}
use Rattle.std.specs.Prelude.{Option, Some, None, codes, true, false}
use Rattle.std.specs.List.{AllByRecursion}
use Rattle.std.specs.Str.{IsUtf8}
use Rattle.std.proofs.lemmas.Str.{IsUtf8-from_ascii}
use Rattle.change_log.specs.declared.call.Call.{Call}
use Rattle.change_log.specs.declared.call.Call.TheVariants as call
use Rattle.wire_values.specs.declared.value.Kind.{Kind}
use Rattle.wire_values.specs.declared.value.Kind.TheVariants as kind
use Rattle.wire_values.specs.declared.value.Value.{Value}
use Rattle.wire_values.specs.declared.value.Value.TheVariants as value
use Rattle.wire_values.specs.Values.{kind_of}
use Rattle.script_lang.specs.declared.line.Line.{Line}
use Rattle.script_lang.specs.declared.line.Line.TheVariants.{Open, Begin, Step, Die, Next}
use Rattle.handlers.specs.declared.handler.Strategy.{Strategy}
use Rattle.handlers.specs.declared.handler.Strategy.TheVariants.{Discard, Recover, Leave}
use Rattle.script_lang.specs.Lines.{IsNumber, IsValueWord, IsPut, IsCall, IsCallLine, IsLineOf, IsLine, kind_word, strategy_word}
use Rattle.script_lang.specs.Splitting.{words_of}
use Rattle.script_lang.proofs.Numerals.{mag_of_32, mag_of_64}
use Rattle.script_lang.proofs.Cutting.{IsWord, spaced-words_of, words_again}
use Rattle.script_lang.proofs.Letters.{decimal_word, signed_word, hex_word, bits_word, tested_word, ascii_spaced}

number_word : (word : List ℕ) (n : ℕ) → IsNumber word n → IsWord word
number_word word n h = subst IsWord (sym h.0) (decimal_word n (omega (arith, h.1)))

name_of_kind : (k : Kind) → IsWord (kind_word k)
name_of_kind kind.Bool = tested_word (kind_word kind.Bool) refl
name_of_kind kind.I32 = tested_word (kind_word kind.I32) refl
name_of_kind kind.U32 = tested_word (kind_word kind.U32) refl
name_of_kind kind.I64 = tested_word (kind_word kind.I64) refl
name_of_kind kind.U64 = tested_word (kind_word kind.U64) refl
name_of_kind kind.Text = tested_word (kind_word kind.Text) refl
name_of_kind kind.Blob = tested_word (kind_word kind.Blob) refl
name_of_kind kind.Raw = tested_word (kind_word kind.Raw) refl

value_word : (word : List ℕ) (v : Value) → IsValueWord word v → IsWord word
value_word word (value.Bool true) h = subst IsWord (sym h) (tested_word (codes "true") refl)
value_word word (value.Bool false) h = subst IsWord (sym h) (tested_word (codes "false") refl)
value_word word (value.I32 z) h = subst IsWord (sym h.0) (signed_word z (mag_of_32 z h.1))
value_word word (value.U32 n) h = subst IsWord (sym h.0) (decimal_word n (omega (arith, h.1)))
value_word word (value.I64 z) h = subst IsWord (sym h.0) (signed_word z (mag_of_64 z h.1))
value_word word (value.U64 n) h = subst IsWord (sym h.0) (decimal_word n h.1)
value_word word (value.Text bytes) h = hex_word word bytes h
value_word word (value.Blob bytes) h = hex_word word bytes h
value_word word (value.Raw bytes) h = hex_word word bytes h

put_words : (words : List (List ℕ)) (key v : List ℕ) (seconds : ℕ) → IsPut words key v seconds → AllByRecursion IsWord words
put_words words key v seconds m = subst (AllByRecursion IsWord) (sym m.words_are) (
  tested_word (codes "put") refl,
  (hex_word m.key_word key m.key_is, (name_of_kind (kind_of m.typed), (value_word m.value_word m.typed m.value_is, (number_word m.seconds_word seconds m.seconds_are, tt)))),
)

call_words : (words : List (List ℕ)) (c : Call) → IsCall words c → AllByRecursion IsWord words
call_words words (call.Get key) m = subst (AllByRecursion IsWord) (sym m.1) (tested_word (codes "get") refl, (hex_word m.0 key m.2, tt))
call_words words (call.Put key v seconds) m = put_words words key v seconds m
call_words words (call.Remove key) m = subst (AllByRecursion IsWord) (sym m.1) (tested_word (codes "remove") refl, (hex_word m.0 key m.2, tt))
call_words words (call.Enable seconds) m = subst (AllByRecursion IsWord) (sym m.1) (tested_word (codes "enable") refl, (number_word m.0 seconds m.2, tt))
call_words words call.Clear m = subst (AllByRecursion IsWord) (sym m) (tested_word (codes "clear") refl, tt)
call_words words call.Keys m = subst (AllByRecursion IsWord) (sym m) (tested_word (codes "keys") refl, tt)
call_words words call.Count m = subst (AllByRecursion IsWord) (sym m) (tested_word (codes "count") refl, tt)
call_words words call.Disable m = subst (AllByRecursion IsWord) (sym m) (tested_word (codes "disable") refl, tt)
call_words words call.Hold m = subst (AllByRecursion IsWord) (sym m) (tested_word (codes "hold") refl, tt)
call_words words call.Release m = subst (AllByRecursion IsWord) (sym m) (tested_word (codes "release") refl, tt)
call_words words call.Sync m = subst (AllByRecursion IsWord) (sym m) (tested_word (codes "sync") refl, tt)

timed_words : (name : List ℕ) (words : List (List ℕ)) (who now : ℕ) (c : Call) → IsWord name → IsCallLine name words who now c → AllByRecursion IsWord words
timed_words name words who now c w m = subst (AllByRecursion IsWord) (sym m.words_are) (w, (number_word m.who_word who m.who_is, (number_word m.now_word now m.now_is, call_words m.call_words c m.call_is)))

name_of_strategy : (s : Strategy) → IsWord (strategy_word s)
name_of_strategy Discard = tested_word (strategy_word Discard) refl
name_of_strategy Recover = tested_word (strategy_word Recover) refl
name_of_strategy Leave = tested_word (strategy_word Leave) refl

line_words : (words : List (List ℕ)) (l : Line) → IsLineOf words l → AllByRecursion IsWord words
line_words words (Open s) m = subst (AllByRecursion IsWord) (sym m) (tested_word (codes "open") refl, (name_of_strategy s, tt))
line_words words (Begin who now c) m = timed_words (codes "begin") words who now c (tested_word (codes "begin") refl) m
line_words words (Step who n) m = subst (AllByRecursion IsWord) (sym m.2) (tested_word (codes "step") refl, (number_word m.0 who m.3, (number_word m.1 n m.4, tt)))
line_words words (Die who None) m = subst (AllByRecursion IsWord) (sym m.1) (tested_word (codes "die") refl, (number_word m.0 who m.2, tt))
line_words words (Die who (Some bits)) m = subst (AllByRecursion IsWord) (sym m.2) (tested_word (codes "die") refl, (number_word m.0 who m.3, (bits_word m.1 bits m.4, tt)))
line_words words (Next who now c) m = timed_words (codes "call") words who now c (tested_word (codes "call") refl) m

some_words : (words : List (List ℕ)) (l : Line) → IsLineOf words l → words ≢ []
some_words words (Open s) m = λ e. cc (e, m)
some_words words (Begin who now c) m = λ e. cc (e, m.words_are)
some_words words (Step who n) m = λ e. cc (e, m.2)
some_words words (Die who None) m = λ e. cc (e, m.1)
some_words words (Die who (Some bits)) m = λ e. cc (e, m.2)
some_words words (Next who now c) m = λ e. cc (e, m.words_are)

-- a line's words are those between its spaces
pub found_words : (text : List ℕ) (l : Line) → IsLine text (Some l) → IsLineOf (words_of text) l
found_words text l m =
    let same = words_again m.0 (some_words m.0 l m.2) (line_words m.0 l m.2) in
    subst (λ ws. IsLineOf ws l) (sym (ap words_of m.1 ∙ same)) m.2

pub line_found : (text : List ℕ) (l : Line) → IsLineOf (words_of text) l → IsLine text (Some l)
line_found text l h = (words_of text, sym (spaced-words_of text), h)

-- a text that is not even UTF-8 is no line
pub no_utf8 : (text : List ℕ) → (IsUtf8 text → ⊥) → (l : Line) → IsLineOf (words_of text) l → ⊥
no_utf8 text bad l h = bad (subst IsUtf8 (spaced-words_of text) (IsUtf8-from_ascii _ (ascii_spaced (words_of text) (line_words (words_of text) l h))))

pub not_a_line : (text : List ℕ) → (text ≡ [] → ⊥) → (get_or text 0 0 ≡ 35 → ⊥) → ((l : Line) → IsLineOf (words_of text) l → ⊥) → (l : Option Line) → IsLine text l → ⊥
not_a_line text some hash h None (inl e) = some e
not_a_line text some hash h None (inr m) = hash (ap (λ t. get_or t 0 0) m.1)
not_a_line text some hash h (Some l) m = h l (found_words text l m)
