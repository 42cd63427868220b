-- The call that an opener runs, after a line of its own, and after one of another.
use Rattle.std.proofs.Common.{◌≡◌, ◌≢◌, ℕ, ◌+◌, cond, List, [], ◌∷◌, refl, sym, ap, ◌∙◌, eq-eqb, ne_eqb}
use Rattle.std.specs.Prelude.{Option, Some, None, option_map, option_and_then, if◌then◌else◌}
use Rattle.change_log.specs.declared.call.Call.{Call as Asked}
use Rattle.region_words.specs.Past.{AreSteps}
use Rattle.region_words.specs.declared.event.Event.{Event}
use Rattle.script_lang.specs.declared.line.Line.TheVariants.{Begin, Step as StepLine}
use Rattle.script_lang.specs.declared.outcome.Outcome.{Outcome}
use Rattle.script_lang.specs.declared.outcome.Outcome.TheVariants.{Answered, Blocked, Stopped}
use Rattle.script_lang.specs.Parts.{Part, Running, asked_after, going_on, own_of, running, running_after, stepped}
use Rattle.script_lang.specs.Played.{TakesNone}

-- the call that runs after a line of its own
abbrev pub still_running : Option Outcome → List Event → Option Running → Option Running
still_running outcome made r = option_and_then (stepped outcome) (option_map (going_on made) r)

-- all of an opener's own steps are its own, and none is another's
pub own_all : (who : ℕ) (made : List Event) → AreSteps who made → own_of who made ≡ made
own_all who [] own = refl
own_all who (e ∷ made) own = ap (λ b. cond b (e ∷ own_of who made) (own_of who made)) (eq-eqb e.who who own.0.0) ∙ ap (λ l. e ∷ l) (own_all who made own.1)

pub own_none : (maker who : ℕ) (made : List Event) → maker ≢ who → AreSteps maker made → own_of who made ≡ []
own_none maker who [] n own = refl
own_none maker who (e ∷ made) n own =
    ap (λ b. cond b (e ∷ own_of who made) (own_of who made)) (ne_eqb e.who who (λ same. n (sym own.0.0 ∙ same))) ∙ own_none maker who made n own.1

pub going_none : (r : Option Running) → option_map (going_on []) r ≡ r
going_none None = refl
going_none (Some r) = refl

-- so it is of the one whose line it is,
pub running_own : (who count : ℕ) (parts : List Part) (made : List Event) (outcome : Option Outcome) → AreSteps who made →
    running who (record { line = Some (StepLine who count); made = made; outcome = outcome } ∷ parts) ≡ still_running outcome made (running who parts)
running_own who count parts made outcome own =
    ap (λ b. cond b (option_and_then (stepped outcome) (option_map (going_on (own_of who made)) (running who parts))) (option_map (going_on (own_of who made)) (running who parts))) (eq-eqb who who refl)
    ∙ ap (λ l. option_and_then (stepped outcome) (option_map (going_on l) (running who parts))) (own_all who made own)

-- and that of another stays as it was
pub running_other : (maker who count : ℕ) (parts : List Part) (made : List Event) (outcome : Option Outcome) → maker ≢ who → AreSteps maker made →
    running who (record { line = Some (StepLine maker count); made = made; outcome = outcome } ∷ parts) ≡ running who parts
running_other maker who count parts made outcome n own =
    ap (λ b. cond b (option_and_then (stepped outcome) (option_map (going_on (own_of who made)) (running who parts))) (option_map (going_on (own_of who made)) (running who parts))) (ne_eqb maker who n)
    ∙ ap (λ l. option_map (going_on l) (running who parts)) (own_none maker who made n own) ∙ going_none (running who parts)

-- no step of another takes a lock for this one
pub others_take_none : (maker who : ℕ) (made : List Event) → maker ≢ who → AreSteps maker made → TakesNone who made
others_take_none maker who [] n own = tt
others_take_none maker who (e ∷ made) n own = ((λ same. absurd (n (sym own.0.0 ∙ same))), others_take_none maker who made n own.1)

-- and what was asked of this one stays
pub asked_other : (maker who count : ℕ) (outcome : Option Outcome) (asked : ℕ) → maker ≢ who → asked_after (Some (StepLine maker count)) outcome who asked ≡ asked
asked_other maker who count None asked n = ap (λ b. if b then asked + count else asked) (ne_eqb maker who n)
asked_other maker who count (Some (Answered a)) asked n = ap (λ b. if b then asked + count else asked) (ne_eqb maker who n)
asked_other maker who count (Some (Stopped w why)) asked n = ap (λ b. if b then asked + count else asked) (ne_eqb maker who n)
asked_other maker who count (Some (Blocked w holder)) asked n = ap (λ b. if b then 0 else asked) (ne_eqb maker who n)

-- the begin of another's call
pub begin_other : (maker who now : ℕ) (call : Asked) (past : List Event) (r : Option Running) → maker ≢ who → running_after (Some (Begin maker now call)) None who past r ≡ r
begin_other maker who now call past r n = ap (λ b. cond b (Some (record { call = call; now = now; past = past; since = [] })) r) (ne_eqb maker who n)

pub begin_asked : (maker who now : ℕ) (call : Asked) (asked : ℕ) → maker ≢ who → asked_after (Some (Begin maker now call)) None who asked ≡ asked
begin_asked maker who now call asked n = ap (λ b. cond b 0 asked) (ne_eqb maker who n)
