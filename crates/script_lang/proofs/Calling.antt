-- The words of calls: which call they spell, or that they spell none.
use Rattle.std.proofs.Common.{◌≡◌, ◌≢◌, ℕ, List, [], ◌∷◌, ap, subst, arith}
use Rattle.std.specs.Prelude.{codes}
use Rattle.change_log.specs.declared.call.Call.{Call}
use Rattle.change_log.specs.declared.call.Call.TheVariants as call
use Rattle.wire_values.specs.Values.{kind_of}
use Rattle.script_lang.specs.Lines.{IsNumber, IsHex, IsValueWord, IsCall, kind_word}
use Rattle.script_lang.specs.Splitting.{IsEncoded}
use Rattle.script_lang.proofs.Cutting.{code, apart}

pub no_get : (name word : List ℕ) → name ≡ codes "get" → ((key : List ℕ) → IsHex word key → ⊥) → (x : Call) → IsCall (name ∷ word ∷ []) x → ⊥
no_get name word e h (call.Get key) m = let same : m.0 ≡ word = cc (m.1) in h key (subst (λ w. IsHex w key) same m.2)
no_get name word e h (call.Put key value seconds) m = omega (arith, ap code e, apart _ _ _ _ m.words_are)
no_get name word e h (call.Remove key) m = omega (arith, ap code e, apart _ _ _ _ m.1)
no_get name word e h (call.Enable seconds) m = omega (arith, ap code e, apart _ _ _ _ m.1)
no_get name word e h call.Clear m = omega (arith, ap code e, apart _ _ _ _ m)
no_get name word e h call.Keys m = omega (arith, ap code e, apart _ _ _ _ m)
no_get name word e h call.Count m = omega (arith, ap code e, apart _ _ _ _ m)
no_get name word e h call.Disable m = omega (arith, ap code e, apart _ _ _ _ m)
no_get name word e h call.Hold m = omega (arith, ap code e, apart _ _ _ _ m)
no_get name word e h call.Release m = omega (arith, ap code e, apart _ _ _ _ m)
no_get name word e h call.Sync m = omega (arith, ap code e, apart _ _ _ _ m)

pub no_remove : (name word : List ℕ) → name ≡ codes "remove" → ((key : List ℕ) → IsHex word key → ⊥) → (x : Call) → IsCall (name ∷ word ∷ []) x → ⊥
no_remove name word e h (call.Get key) m = omega (arith, ap code e, apart _ _ _ _ m.1)
no_remove name word e h (call.Put key value seconds) m = omega (arith, ap code e, apart _ _ _ _ m.words_are)
no_remove name word e h (call.Remove key) m = let same : m.0 ≡ word = cc (m.1) in h key (subst (λ w. IsHex w key) same m.2)
no_remove name word e h (call.Enable seconds) m = omega (arith, ap code e, apart _ _ _ _ m.1)
no_remove name word e h call.Clear m = omega (arith, ap code e, apart _ _ _ _ m)
no_remove name word e h call.Keys m = omega (arith, ap code e, apart _ _ _ _ m)
no_remove name word e h call.Count m = omega (arith, ap code e, apart _ _ _ _ m)
no_remove name word e h call.Disable m = omega (arith, ap code e, apart _ _ _ _ m)
no_remove name word e h call.Hold m = omega (arith, ap code e, apart _ _ _ _ m)
no_remove name word e h call.Release m = omega (arith, ap code e, apart _ _ _ _ m)
no_remove name word e h call.Sync m = omega (arith, ap code e, apart _ _ _ _ m)

pub no_long : (words : List (List ℕ)) (name a b : List ℕ) (others : List (List ℕ)) → words ≡ name ∷ a ∷ b ∷ others → name ≢ codes "put" → (x : Call) → IsCall words x → ⊥
no_long words name a b others e isnt (call.Get key) m = cc (e, m.1)
no_long words name a b others e isnt (call.Put key value seconds) m = isnt (cc (e, m.words_are))
no_long words name a b others e isnt (call.Remove key) m = cc (e, m.1)
no_long words name a b others e isnt (call.Enable seconds) m = cc (e, m.1)
no_long words name a b others e isnt call.Clear m = cc (e, m)
no_long words name a b others e isnt call.Keys m = cc (e, m)
no_long words name a b others e isnt call.Count m = cc (e, m)
no_long words name a b others e isnt call.Disable m = cc (e, m)
no_long words name a b others e isnt call.Hold m = cc (e, m)
no_long words name a b others e isnt call.Release m = cc (e, m)
no_long words name a b others e isnt call.Sync m = cc (e, m)

pub no_put : (words : List (List ℕ)) (k n v s : List ℕ) → words ≡ k ∷ n ∷ v ∷ s ∷ [] → ((key value : List ℕ) (seconds : ℕ) → IsHex k key → IsEncoded n v value → IsNumber s seconds → ⊥) → (x : Call) → IsCall (codes "put" ∷ words) x → ⊥
no_put words k n v s e h (call.Get key) m = omega (arith, apart _ _ _ _ m.1)
no_put words k n v s e h (call.Put key value seconds) m =
    let at_key : m.key_word ≡ k = cc (e, m.words_are) in
    let at_kind : n ≡ kind_word (kind_of m.typed) = cc (e, m.words_are) in
    let at_value : m.value_word ≡ v = cc (e, m.words_are) in
    let at_seconds : m.seconds_word ≡ s = cc (e, m.words_are) in
    h key value seconds (subst (λ w. IsHex w key) at_key m.key_is)
    (m.typed, at_kind, subst (λ w. IsValueWord w m.typed) at_value m.value_is, m.encoded)
    (subst (λ w. IsNumber w seconds) at_seconds m.seconds_are)
no_put words k n v s e h (call.Remove key) m = omega (arith, apart _ _ _ _ m.1)
no_put words k n v s e h (call.Enable seconds) m = omega (arith, apart _ _ _ _ m.1)
no_put words k n v s e h call.Clear m = omega (arith, apart _ _ _ _ m)
no_put words k n v s e h call.Keys m = omega (arith, apart _ _ _ _ m)
no_put words k n v s e h call.Count m = omega (arith, apart _ _ _ _ m)
no_put words k n v s e h call.Disable m = omega (arith, apart _ _ _ _ m)
no_put words k n v s e h call.Hold m = omega (arith, apart _ _ _ _ m)
no_put words k n v s e h call.Release m = omega (arith, apart _ _ _ _ m)
no_put words k n v s e h call.Sync m = omega (arith, apart _ _ _ _ m)
