-- Openers at their places, and answers by their openers.
use Rattle.std.proofs.Common.{◌≡◌, ◌≢◌, ℕ, zero, suc, ◌+◌, ◌<◌, ◌≤◌, ◌⊎◌, Bool, true, false, cond, eqb, List, [], ◌∷◌, ◌++◌, length, set, refl, sym, ap, ◌∙◌, inl, inr, arith, ne_eqb, eq-eqb, append-nil}
use Rattle.std.specs.Prelude.{Some, slice_get, filter, ⊤}
use Rattle.std.proofs.lemmas.List.Elements.{filter-append}
use Rattle.change_log.specs.EachCaller.{answers_of}
use Rattle.change_log.specs.declared.call.Answer.{Answer}
use Rattle.opener.specs.Settles.{answers_by}
use Rattle.opener.specs.State.{OpenerState}
use Rattle.opener.specs.declared.calls.Step.{Step}
use Rattle.opener.specs.declared.calls.Step.TheVariants as step
use Rattle.region_words.specs.Past.{NoneOf}
use Rattle.region_words.specs.declared.event.Event.{Event}
use Rattle.world.specs.World.{calls_running, runs_call}

-- an element that was put in a place stands there,
pub set_there : {A : Type 0} (xs : List A) (i : ℕ) (x y : A) → slice_get xs i ≡ Some x → slice_get (set xs i y) i ≡ Some y
set_there [] i x y was = absurd cc
set_there (z ∷ xs) zero x y was = refl
set_there (z ∷ xs) (suc i) x y was = set_there xs i x y was

-- and nothing else,
pub set_is : {A : Type 0} (xs : List A) (i : ℕ) (x y z : A) → slice_get xs i ≡ Some x → slice_get (set xs i y) i ≡ Some z → z ≡ y
set_is xs i x y z was is = let there = set_there xs i x y was in let both = sym is ∙ there in cc

-- and the other places are as they were
pub set_elsewhere : {A : Type 0} (xs : List A) (i j : ℕ) (y : A) → i ≢ j → slice_get (set xs i y) j ≡ slice_get xs j
set_elsewhere [] i j y n = refl
set_elsewhere (x ∷ xs) zero zero y n = absurd (n refl)
set_elsewhere (x ∷ xs) zero (suc j) y n = refl
set_elsewhere (x ∷ xs) (suc i) zero y n = refl
set_elsewhere (x ∷ xs) (suc i) (suc j) y n = set_elsewhere xs i j y (λ e. n (ap suc e))

-- what stands in a list with one element more
pub pushed_is : {A : Type 0} (xs : List A) (y : A) (j : ℕ) (z : A) → slice_get (xs ++ y ∷ []) j ≡ Some z → (slice_get xs j ≡ Some z) ⊎ ((j ≡ length xs) × (z ≡ y))
pushed_is [] y zero z is = inr (refl, cc)
pushed_is [] y (suc j) z is = absurd cc
pushed_is (x ∷ xs) y zero z is = inl is
pushed_is (x ∷ xs) y (suc j) z is = elim (pushed_is xs y j z is) [ inl was ↦ inl was | inr now ↦ inr (ap suc now.0, now.1) ]

-- within a list there is an element
pub within_is : {A : Type 0} (xs : List A) (i : ℕ) → i < length xs → (x : A) × (slice_get xs i ≡ Some x)
within_is [] i lt = absurd (omega (arith, lt))
within_is (x ∷ xs) zero lt = (x, refl)
within_is (x ∷ xs) (suc i) lt = within_is xs i (omega (arith, lt))

-- an opener without a call in another's place
pub fewer_run : (openers : List OpenerState) (i : ℕ) (o next : OpenerState) → slice_get openers i ≡ Some o → (runs_call o.work ≡ false → runs_call next.work ≡ false) →
    calls_running (set openers i next) ≤ calls_running openers
fewer_run [] i o next is waits = absurd cc
fewer_run (x ∷ openers) zero o next is waits = let e : x ≡ o = cc in go (runs_call x.work) (runs_call next.work) (λ idle. waits (ap (λ (p : OpenerState). runs_call p.work) (sym e) ∙ idle))
  where
    go : (before now : Bool) → (before ≡ false → now ≡ false) →
        length (cond now (next ∷ filter (λ (p : OpenerState). runs_call p.work) openers) (filter (λ (p : OpenerState). runs_call p.work) openers))
        ≤ length (cond before (x ∷ filter (λ (p : OpenerState). runs_call p.work) openers) (filter (λ (p : OpenerState). runs_call p.work) openers))
    go true true w = omega arith
    go true false w = omega arith
    go false true w = let e = w refl in absurd cc
    go false false w = omega arith
fewer_run (x ∷ openers) (suc i) o next is waits = go (runs_call x.work) (fewer_run openers i o next is waits)
  where
    go : (b : Bool) → calls_running (set openers i next) ≤ calls_running openers →
        length (cond b (x ∷ filter (λ (p : OpenerState). runs_call p.work) (set openers i next)) (filter (λ (p : OpenerState). runs_call p.work) (set openers i next)))
        ≤ length (cond b (x ∷ filter (λ (p : OpenerState). runs_call p.work) openers) (filter (λ (p : OpenerState). runs_call p.work) openers))
    go true le = omega (arith, le)
    go false le = le

-- one whose call has ended
pub one_fewer_runs : (openers : List OpenerState) (i : ℕ) (o next : OpenerState) → slice_get openers i ≡ Some o → runs_call o.work ≡ true → runs_call next.work ≡ false →
    calls_running (set openers i next) + 1 ≤ calls_running openers
one_fewer_runs [] i o next is ran over = absurd cc
one_fewer_runs (x ∷ openers) zero o next is ran over = let e : x ≡ o = cc in go (runs_call x.work) (runs_call next.work) (ap (λ (p : OpenerState). runs_call p.work) e ∙ ran) over
  where
    go : (before now : Bool) → before ≡ true → now ≡ false →
        length (cond now (next ∷ filter (λ (p : OpenerState). runs_call p.work) openers) (filter (λ (p : OpenerState). runs_call p.work) openers)) + 1
        ≤ length (cond before (x ∷ filter (λ (p : OpenerState). runs_call p.work) openers) (filter (λ (p : OpenerState). runs_call p.work) openers))
    go true true r v = absurd cc
    go true false r v = omega arith
    go false now r v = absurd cc
one_fewer_runs (x ∷ openers) (suc i) o next is ran over = go (runs_call x.work) (one_fewer_runs openers i o next is ran over)
  where
    go : (b : Bool) → calls_running (set openers i next) + 1 ≤ calls_running openers →
        length (cond b (x ∷ filter (λ (p : OpenerState). runs_call p.work) (set openers i next)) (filter (λ (p : OpenerState). runs_call p.work) (set openers i next))) + 1
        ≤ length (cond b (x ∷ filter (λ (p : OpenerState). runs_call p.work) openers) (filter (λ (p : OpenerState). runs_call p.work) openers))
    go true le = omega (arith, le)
    go false le = le

-- no more calls run than there are openers
pub few_run : (openers : List OpenerState) → calls_running openers ≤ length openers
few_run [] = omega arith
few_run (x ∷ openers) = go (runs_call x.work) (few_run openers)
  where
    go : (b : Bool) → calls_running openers ≤ length openers →
        length (cond b (x ∷ filter (λ (p : OpenerState). runs_call p.work) openers) (filter (λ (p : OpenerState). runs_call p.work) openers)) ≤ suc (length openers)
    go true le = omega (arith, le)
    go false le = omega (arith, le)

-- whose the answer of a step is, if there is one
abbrev pub AnswersOf : ℕ → Step → Type 0
AnswersOf who (step.Answered a) = a.who ≡ who
AnswersOf who _ = ⊤

-- an opener's own answers come behind the earlier ones,
pub own_answers : (who : ℕ) (answers : List Answer) (came : Step) → AnswersOf who came → answers_of who (answers ++ answers_by came) ≡ answers_of who answers ++ answers_by came
own_answers who answers came own = filter-append (λ (a : Answer). eqb a.who who) answers (answers_by came) ∙ ap (λ more. answers_of who answers ++ more) (go came own)
  where
    go : (s : Step) → AnswersOf who s → answers_of who (answers_by s) ≡ answers_by s
    go (step.Answered a) e = ap (λ b. cond b (a ∷ []) []) (eq-eqb a.who who e)
    go step.Idle e = refl
    go step.Going e = refl
    go step.Again e = refl
    go (step.Blocked holder) e = refl
    go (step.Stopped why) e = refl

-- and another's stay as they were
pub others_answers : (maker who : ℕ) (answers : List Answer) (came : Step) → maker ≢ who → AnswersOf maker came → answers_of who (answers ++ answers_by came) ≡ answers_of who answers
others_answers maker who answers came n own =
    filter-append (λ (a : Answer). eqb a.who who) answers (answers_by came) ∙ (ap (λ more. answers_of who answers ++ more) (go came own) ∙ append-nil (answers_of who answers))
  where
    go : (s : Step) → AnswersOf maker s → answers_of who (answers_by s) ≡ []
    go (step.Answered a) e = ap (λ b. cond b (a ∷ []) []) (ne_eqb a.who who (λ same. n (sym e ∙ same)))
    go step.Idle e = refl
    go step.Going e = refl
    go step.Again e = refl
    go (step.Blocked holder) e = refl
    go (step.Stopped why) e = refl

-- events of others behind events of others
pub none_more : (who : ℕ) (later past : List Event) → NoneOf who later → NoneOf who past → NoneOf who (later ++ past)
none_more who [] past a b = b
none_more who (e ∷ later) past a b = (a.0, none_more who later past a.1 b)
