-- A line is read in one way: what the words mean is a function of them.
use Rattle.std.proofs.Common.{◌≡◌, ◌≢◌, ℕ, suc, ◌<◌, ◌^◌, List, [], ◌∷◌, drop, get_or, refl, ap, sym, ◌∙◌, inl, inr, arith, decimal}
use Rattle.std.specs.Prelude.{◌==◌, if◌then◌else◌, Some, None, Result, Ok, Err, codes, true, false}
use Rattle.std.specs.Fmt.{signed_decimal}
use Rattle.std.specs.Int.{from_be_bytes, w32}
use Rattle.std.specs.Str.Parse.{digits_value}
use Rattle.std.proofs.Math.IntN.{ℤ, pos, negsuc, neg_ℤ}
use Rattle.std.proofs.lemmas.Fmt.{decimal_is_IsNumeral}
use Rattle.std.proofs.lemmas.Nat.{from_be_bytes-to_be_bytes_4}
use Rattle.std.proofs.lemmas.Bool.Decides.{nat_tests}
use lib.Signed.{mag}
use Rattle.hex.specs.Hex.{decode_of}
use Rattle.hex.specs.declared.error.FromHexError.{FromHexError}
use Rattle.change_log.specs.declared.call.Call.{Call}
use Rattle.change_log.specs.declared.call.Call.TheVariants as call
use Rattle.wire_values.specs.declared.value.Kind.{Kind}
use Rattle.wire_values.specs.declared.value.Kind.TheVariants as kind
use Rattle.wire_values.specs.declared.value.Value.{Value}
use Rattle.wire_values.specs.declared.value.Value.TheVariants as value
use Rattle.wire_values.specs.Values.{kind_of}
use Rattle.wire_values.specs.Spelling.{spelling_of}
use Rattle.script_lang.specs.declared.line.Line.{Line}
use Rattle.script_lang.specs.declared.line.Line.TheVariants.{Open, Begin, Step, Die, Next}
use Rattle.handlers.specs.declared.handler.Strategy.{Strategy}
use Rattle.handlers.specs.declared.handler.Strategy.TheVariants.{Discard, Recover, Leave}
use Rattle.script_lang.specs.Lines.{IsNumber, IsHex, IsBits, IsValueWord, IsPut, IsCall, IsLineOf, IsLine, NamesOneThing, kind_word, strategy_word}
use Rattle.script_lang.specs.Texts.{spaced}
use Rattle.script_lang.specs.Splitting.{words_of}
use Rattle.script_lang.proofs.Numerals.{decimal_plain, mag_of_32, mag_of_64}
use Rattle.script_lang.proofs.Cutting.{code}
use Rattle.script_lang.proofs.Meaning.{found_words}

abbrev number_of : List ℕ → ℕ
number_of word = digits_value 10 word

number_back : (word : List ℕ) (n : ℕ) → n < 2 ^ 64 → word ≡ decimal n → number_of word ≡ n
number_back word n h e = ap number_of e ∙ (decimal_is_IsNumeral n h).1

abbrev signed_of : List ℕ → ℤ
signed_of word = if get_or word 0 0 == 45 then neg_ℤ (pos (number_of (drop 1 word))) else pos (number_of word)

unsigned : (word : List ℕ) → get_or word 0 0 ≢ 45 → signed_of word ≡ pos (number_of word)
unsigned word h = grind (arith, nat_tests)

signed_back : (word : List ℕ) (z : ℤ) → mag z < 2 ^ 63 → word ≡ signed_decimal z → signed_of word ≡ z
signed_back word (pos n) h e =
    ap signed_of e ∙ unsigned (decimal n) (decimal_plain n (omega (arith, h))).1 ∙ ap pos (number_back (decimal n) n (omega (arith, h)) refl)
signed_back word (negsuc n) h e =
    ap signed_of e ∙ ap (λ m. neg_ℤ (pos m)) (number_back (decimal (suc n)) (suc n) (omega (arith, h)) refl)

abbrev from_ok : Result (List ℕ) FromHexError → List ℕ
from_ok (Ok bytes) = bytes
from_ok (Err e) = []

abbrev bytes_of : List ℕ → List ℕ
bytes_of word = from_ok (decode_of word)

bytes_back : (word bytes : List ℕ) → IsHex word bytes → bytes_of word ≡ bytes
bytes_back word bytes (inl h) = ap bytes_of h.0 ∙ sym h.1
bytes_back word bytes (inr h) = ap from_ok h.1

bits_back : (word : List ℕ) (n : ℕ) → IsBits word n → from_be_bytes w32 (bytes_of word) ≡ n
bits_back word n h = ap (λ r. from_be_bytes w32 (from_ok r)) h.1 ∙ from_be_bytes-to_be_bytes_4 n h.2

abbrev kind_named : ℕ → Kind
kind_named n =
    if n == code (codes "bool") then kind.Bool
    else if n == code (codes "i32") then kind.I32
    else if n == code (codes "u32") then kind.U32
    else if n == code (codes "i64") then kind.I64
    else if n == code (codes "u64") then kind.U64
    else if n == code (codes "text") then kind.Text
    else if n == code (codes "blob") then kind.Blob
    else kind.Raw

kind_back : (k : Kind) → kind_named (code (kind_word k)) ≡ k
kind_back kind.Bool = refl
kind_back kind.I32 = refl
kind_back kind.U32 = refl
kind_back kind.I64 = refl
kind_back kind.U64 = refl
kind_back kind.Text = refl
kind_back kind.Blob = refl
kind_back kind.Raw = refl

abbrev value_of : Kind → List ℕ → Value
value_of kind.Bool word = value.Bool (code word == code (codes "true"))
value_of kind.I32 word = value.I32 (signed_of word)
value_of kind.U32 word = value.U32 (number_of word)
value_of kind.I64 word = value.I64 (signed_of word)
value_of kind.U64 word = value.U64 (number_of word)
value_of kind.Text word = value.Text (bytes_of word)
value_of kind.Blob word = value.Blob (bytes_of word)
value_of kind.Raw word = value.Raw (bytes_of word)

value_back : (word : List ℕ) (v : Value) → IsValueWord word v → value_of (kind_of v) word ≡ v
value_back word (value.Bool true) h = ap (value_of kind.Bool) h
value_back word (value.Bool false) h = ap (value_of kind.Bool) h
value_back word (value.I32 z) h = ap (λ x. value.I32 x) (signed_back word z (mag_of_32 z h.1) h.0)
value_back word (value.U32 n) h = ap (λ x. value.U32 x) (number_back word n (omega (arith, h.1)) h.0)
value_back word (value.I64 z) h = ap (λ x. value.I64 x) (signed_back word z (mag_of_64 z h.1) h.0)
value_back word (value.U64 n) h = ap (λ x. value.U64 x) (number_back word n h.1 h.0)
value_back word (value.Text bytes) h = ap (λ x. value.Text x) (bytes_back word bytes h)
value_back word (value.Blob bytes) h = ap (λ x. value.Blob x) (bytes_back word bytes h)
value_back word (value.Raw bytes) h = ap (λ x. value.Raw x) (bytes_back word bytes h)

abbrev call_named : ℕ → Call
call_named n =
    if n == code (codes "clear") then call.Clear
    else if n == code (codes "keys") then call.Keys
    else if n == code (codes "count") then call.Count
    else if n == code (codes "disable") then call.Disable
    else if n == code (codes "hold") then call.Hold
    else if n == code (codes "release") then call.Release
    else call.Sync

abbrev call_with : ℕ → List ℕ → Call
call_with n word =
    if n == code (codes "get") then call.Get (bytes_of word)
    else if n == code (codes "remove") then call.Remove (bytes_of word)
    else call.Enable (number_of word)

abbrev put_of : List ℕ → List (List ℕ) → Call
put_of key (named ∷ word ∷ seconds ∷ words) = call.Put (bytes_of key) (spelling_of (value_of (kind_named (code named)) word)) (number_of seconds)
put_of key (named ∷ word ∷ []) = call.Clear
put_of key (named ∷ []) = call.Clear
put_of key [] = call.Clear

abbrev call_of : List (List ℕ) → Call
call_of [] = call.Clear
call_of (name ∷ []) = call_named (code name)
call_of (name ∷ word ∷ []) = call_with (code name) word
call_of (name ∷ key ∷ named ∷ words) = put_of key (named ∷ words)

same_put : (a b c d : List ℕ) (m n : ℕ) → a ≡ b → c ≡ d → m ≡ n → call.Put a c m ≡ call.Put b d n
same_put a b c d m n e f g = cc

number_is : (word : List ℕ) (n : ℕ) → IsNumber word n → number_of word ≡ n
number_is word n h = number_back word n (omega (arith, h.1)) h.0

put_back : (words : List (List ℕ)) (key v : List ℕ) (seconds : ℕ) → IsPut words key v seconds → call_of words ≡ call.Put key v seconds
put_back words key v seconds m =
    let spelled = ap (λ k. spelling_of (value_of k m.value_word)) (kind_back (kind_of m.typed)) ∙ ap spelling_of (value_back m.value_word m.typed m.value_is) ∙ sym m.encoded in
    ap call_of m.words_are ∙ same_put _ _ _ _ _ _ (bytes_back m.key_word key m.key_is) spelled (number_is m.seconds_word seconds m.seconds_are)

call_back : (words : List (List ℕ)) (c : Call) → IsCall words c → call_of words ≡ c
call_back words (call.Get key) m = ap call_of m.1 ∙ ap (λ x. call.Get x) (bytes_back m.0 key m.2)
call_back words (call.Put key v seconds) m = put_back words key v seconds m
call_back words (call.Remove key) m = ap call_of m.1 ∙ ap (λ x. call.Remove x) (bytes_back m.0 key m.2)
call_back words (call.Enable seconds) m = ap call_of m.1 ∙ ap (λ x. call.Enable x) (number_is m.0 seconds m.2)
call_back words call.Clear m = ap call_of m
call_back words call.Keys m = ap call_of m
call_back words call.Count m = ap call_of m
call_back words call.Disable m = ap call_of m
call_back words call.Hold m = ap call_of m
call_back words call.Release m = ap call_of m
call_back words call.Sync m = ap call_of m

abbrev strategy_named : ℕ → Strategy
strategy_named n =
    if n == code (codes "discard") then Discard
    else if n == code (codes "recover") then Recover
    else Leave

strategy_back : (s : Strategy) → strategy_named (code (strategy_word s)) ≡ s
strategy_back Discard = refl
strategy_back Recover = refl
strategy_back Leave = refl

abbrev short_line : ℕ → List ℕ → Line
short_line n word = if n == code (codes "open") then Open (strategy_named (code word)) else Die (number_of word) None

abbrev long_line : ℕ → List ℕ → List ℕ → List (List ℕ) → Line
long_line n first second words =
    if n == code (codes "begin") then Begin (number_of first) (number_of second) (call_of words)
    else if n == code (codes "call") then Next (number_of first) (number_of second) (call_of words)
    else if n == code (codes "step") then Step (number_of first) (number_of second)
    else Die (number_of first) (Some (from_be_bytes w32 (bytes_of second)))

abbrev line_meant : List (List ℕ) → Line
line_meant [] = Open Leave
line_meant (name ∷ []) = Open Leave
line_meant (name ∷ word ∷ []) = short_line (code name) word
line_meant (name ∷ first ∷ second ∷ words) = long_line (code name) first second words

same_begin : (a b c d : ℕ) (x y : Call) → a ≡ b → c ≡ d → x ≡ y → Begin a c x ≡ Begin b d y
same_begin a b c d x y e f g = cc

same_next : (a b c d : ℕ) (x y : Call) → a ≡ b → c ≡ d → x ≡ y → Next a c x ≡ Next b d y
same_next a b c d x y e f g = cc

same_step : (a b c d : ℕ) → a ≡ b → c ≡ d → Step a c ≡ Step b d
same_step a b c d e f = cc

same_death : (a b c d : ℕ) → a ≡ b → c ≡ d → Die a (Some c) ≡ Die b (Some d)
same_death a b c d e f = cc

line_back : (words : List (List ℕ)) (l : Line) → IsLineOf words l → line_meant words ≡ l
line_back words (Open s) m = ap line_meant m ∙ ap (λ x. Open x) (strategy_back s)
line_back words (Begin who now c) m = ap line_meant m.words_are ∙ same_begin _ _ _ _ _ _ (number_is m.who_word who m.who_is) (number_is m.now_word now m.now_is) (call_back m.call_words c m.call_is)
line_back words (Step who n) m = ap line_meant m.2 ∙ same_step _ _ _ _ (number_is m.0 who m.3) (number_is m.1 n m.4)
line_back words (Die who None) m = ap line_meant m.1 ∙ ap (λ x. Die x None) (number_is m.0 who m.2)
line_back words (Die who (Some bits)) m = ap line_meant m.2 ∙ same_death _ _ _ _ (number_is m.0 who m.3) (bits_back m.1 bits m.4)
line_back words (Next who now c) m = ap line_meant m.words_are ∙ same_next _ _ _ _ _ _ (number_is m.who_word who m.who_is) (number_is m.now_word now m.now_is) (call_back m.call_words c m.call_is)

first_byte : (words : List (List ℕ)) (l : Line) → IsLineOf words l → 96 < get_or (spaced words) 0 0
first_byte words (Open s) m = omega (arith, ap (λ ws. get_or (spaced ws) 0 0) m)
first_byte words (Begin who now c) m = omega (arith, ap (λ ws. get_or (spaced ws) 0 0) m.words_are)
first_byte words (Step who n) m = omega (arith, ap (λ ws. get_or (spaced ws) 0 0) m.2)
first_byte words (Die who None) m = omega (arith, ap (λ ws. get_or (spaced ws) 0 0) m.1)
first_byte words (Die who (Some bits)) m = omega (arith, ap (λ ws. get_or (spaced ws) 0 0) m.2)
first_byte words (Next who now c) m = omega (arith, ap (λ ws. get_or (spaced ws) 0 0) m.words_are)

something : (text : List ℕ) (l : Line) → IsLine text None → IsLine text (Some l) → ⊥
something text l (inl e) m = omega (arith, first_byte m.0 l m.2, ap (λ t. get_or t 0 0) (sym m.1 ∙ e))
something text l (inr h) m = omega (arith, first_byte m.0 l m.2, ap (λ t. get_or t 0 0) (sym m.1 ∙ h.1))

pub names_one_thing : NamesOneThing
names_one_thing text None None a b = refl
names_one_thing text None (Some m) a b = absurd (something text m a b)
names_one_thing text (Some l) None a b = absurd (something text l b a)
names_one_thing text (Some l) (Some m) a b =
    ap (λ x. Some x) (sym (line_back (words_of text) l (found_words text l a)) ∙ line_back (words_of text) m (found_words text m b))
