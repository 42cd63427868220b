-- A sync that has loaded the region, and a second one that finds the words which the first has kept.
use Rattle.std.proofs.Common.{◌≡◌, ℕ, List, [], ◌∷◌, refl, ap, arith}
use Rattle.std.specs.Prelude.{Option, Some, None}
use Rattle.change_log.specs.declared.call.Answer.{Answer}
use Rattle.change_log.specs.declared.call.Call.TheVariants as call
use Rattle.change_log.specs.declared.call.Reply.TheVariants as reply
use Rattle.region_words.specs.Region.{Region}
use Rattle.region_words.specs.declared.event.What.TheVariants as what
use Rattle.script_lang.specs.declared.line.Line.TheVariants.{Begin, Step}
use Rattle.script_lang.specs.declared.outcome.Outcome.TheVariants.{Answered, Stopped}
use Rattle.script_lang.specs.declared.outcome.Reason.TheVariants as reason
use Rattle.script_lang.specs.Kept.{IsByWords, SeesWords, kept_of, looks_of}
use Rattle.script_lang.specs.Parts.{Part, past_of}

-- the answer of a sync with so many loads and locks
abbrev answer : ℕ → ℕ → Answer
answer loads locks = record { who = 1; call = call.Sync; now = 0; begun = 0; place = 0; ended = 0; reply = reply.Done; loads = loads; stores = 0; locks = locks }

abbrev first : List Part
first = record { line = Some (Step 1 20); made = record { who = 1; what = what.Unlock } ∷ []; outcome = Some (Answered (answer 13 1)) } ∷ []

-- the second sync has begun
abbrev begun : List Part
begun = record { line = Some (Begin 1 0 call.Sync); made = []; outcome = None } ∷ first

-- and was asked for more steps than two
abbrev answered : Answer → Part
answered a = record { line = Some (Step 1 5); made = []; outcome = Some (Answered a) }

its_words : kept_of 1 begun ≡ Some (past_of first)
its_words = refl

its_looks : looks_of 1 (answered (answer 2 0) ∷ begun) ≡ past_of first ∷ past_of first ∷ []
its_looks = refl

finds_them : (start : Region) (a : Answer) → SeesWords start 1 (answered a) begun
finds_them start a = (omega arith, (refl, refl))

-- the two looks are to answer it,
looks_answer : (start : Region) → IsByWords start 1 (answered (answer 2 0)) begun
looks_answer start = record { seen = λ sees. (answer 2 0, refl, (refl, refl, refl, refl)); only = λ a is fresh. finds_them start (answer 2 0) }

-- and a load of the region is refused
no_load_answers : (start : Region) → IsByWords start 1 (answered (answer 13 1)) begun → ⊥
no_load_answers start by =
    let seen = by.seen (finds_them start (answer 13 1)) in
    let same : answer 13 1 ≡ seen.0 = cc in
    absurd (omega (arith, ap (λ (a : Answer). a.loads) same, seen.2.0))

-- a stop takes the words away, that of another opener doesn't
abbrev stopped : ℕ → List Part
stopped who = record { line = Some (Step who 9); made = []; outcome = Some (Stopped who reason.ExpiryOff) } ∷ first

no_words : kept_of 1 (stopped 1) ≡ None
no_words = refl

still_words : kept_of 1 (stopped 2) ≡ Some (past_of first)
still_words = refl
