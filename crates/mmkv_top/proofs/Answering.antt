-- What was answered stays so, and one answer more joins it.
use Rattle.std.proofs.Common.{◌≡◌, ◌≢◌, ℕ, ◌≤◌, List, [], ◌∷◌, ◌++◌, length, sym, ap, arith, subst, ◌∙◌, length-append}
use Rattle.std.specs.Prelude.{Option, Some, None, All, option_map}
use Rattle.std.proofs.lemmas.List.Elements.{All-push, All-weaker}
use Rattle.std.proofs.lemmas.List.Quantifiers.{all_pairs_push}
use Rattle.change_log.specs.Acts.{act_of}
use Rattle.change_log.specs.History.{IsPlaced, IsMade}
use Rattle.change_log.specs.Settled.{AreEndedBy}
use Rattle.change_log.specs.declared.call.Answer.{Answer}
use Rattle.change_log.proofs.Later.{placed_later, made_at}
use Rattle.opener.specs.Opener.{IsAnswer}
use Rattle.region_words.specs.Region.{Region, base}
use Rattle.region_words.specs.Past.{changes_of}
use Rattle.region_words.specs.declared.event.Event.{Event}
use Rattle.region_words.proofs.ReadLaws.{apart_front, changes_more}
use Rattle.script_lang.specs.Parts.{Running, going_on}
use Rattle.script_lang.specs.Journal.{AreAnswered}
use Rattle.mmkv_top.specs.Progress.{AreEarlier}

pub nothing_answered : (start : Region) → AreAnswered start [] []
nothing_answered start =
    record {
      in_order = λ i j d le lt. absurd (omega (arith, lt));
      made = λ k d lt. absurd (omega (arith, lt));
      placed = λ ok apart k d lt. absurd (omega (arith, lt));
    }

pub answered_later : (start : Region) (more past : List Event) (answers : List Answer) → AreAnswered start past answers → AreAnswered start (more ++ past) answers
answered_later start more past answers h =
    record {
      in_order = h.in_order;
      made = subst (λ c. All (IsMade (base start) c) answers) (sym (changes_more more past))
          (All-weaker (IsMade (base start) (changes_of past)) (IsMade (base start) (changes_of past ++ changes_of more))
          (λ a is. made_at (act_of a.call a.now) (changes_of past) (changes_of more) a is) answers h.made);
      placed = λ ok apart. subst (λ c. All (IsPlaced (base start) c) answers) (sym (changes_more more past))
          (All-weaker (IsPlaced (base start) (changes_of past)) (IsPlaced (base start) (changes_of past ++ changes_of more))
          (λ a is. placed_later (base start) (changes_of past) (changes_of more) a is) answers (h.placed ok (apart_front start more past apart)));
    }

pub within_later : (more past : List Event) (answers : List Answer) → AreEndedBy (length (changes_of past)) answers → AreEndedBy (length (changes_of (more ++ past))) answers
within_later more past answers h =
    All-weaker (λ a. a.ended ≤ length (changes_of past)) (λ a. a.ended ≤ length (changes_of (more ++ past)))
    (λ a le. omega (arith, le, ap length (changes_more more past), length-append (changes_of past) (changes_of more))) answers h

-- the call of the one who answered was begun after all its answers
pub answers_one : (who : ℕ) (start : Region) (more past : List Event) (r : Running) (answers : List Answer) (a : Answer) → AreAnswered start past answers → AreEarlier who (Some r) answers →
    a.who ≡ who → a.begun ≡ length (changes_of r.past) → IsAnswer a start (more ++ past) → AreAnswered start (more ++ past) (answers ++ a ∷ [])
answers_one who start more past r answers a so_far earlier by begun is =
    let old = answered_later start more past answers so_far in
    record {
      in_order = all_pairs_push (λ (x : Answer) (y : Answer). x.who ≡ y.who → x.ended ≤ y.begun) answers a old.in_order (λ k d lt same. omega (arith, earlier k d lt (same ∙ by), begun));
      made = All-push (IsMade (base start) (changes_of (more ++ past))) answers a old.made is.made;
      placed = λ ok apart. All-push (IsPlaced (base start) (changes_of (more ++ past))) answers a (old.placed ok apart)
          (record { begun = is.begun; ended = is.placed; within = omega (arith, is.ended); reply = is.reply ok apart });
    }

pub one_within : (start : Region) (more past : List Event) (answers : List Answer) (a : Answer) → AreEndedBy (length (changes_of past)) answers → IsAnswer a start (more ++ past) →
    AreEndedBy (length (changes_of (more ++ past))) (answers ++ a ∷ [])
one_within start more past answers a within is =
    All-push (λ x. x.ended ≤ length (changes_of (more ++ past))) answers a (within_later more past answers within) (omega (arith, is.ended))

-- all that was answered by now was answered before a call that begins now
pub earlier_now : (who : ℕ) (r : Running) (answers : List Answer) → AreEndedBy (length (changes_of r.past)) answers → AreEarlier who (Some r) answers
earlier_now who r answers within =
    All-weaker (λ a. a.ended ≤ length (changes_of r.past)) (λ a. a.who ≡ who → a.ended ≤ length (changes_of r.past)) (λ a le same. le) answers within

-- what another answers, and what the call itself goes on with, change nothing of that
pub earlier_on : (who : ℕ) (more : List Event) (r : Option Running) (answers : List Answer) → AreEarlier who r answers → AreEarlier who (option_map (going_on more) r) answers
earlier_on who more None answers e = tt
earlier_on who more (Some r) answers e = e

pub earlier_other : (who : ℕ) (r : Option Running) (answers : List Answer) (a : Answer) → a.who ≢ who → AreEarlier who r answers → AreEarlier who r (answers ++ a ∷ [])
earlier_other who None answers a n e = tt
earlier_other who (Some r) answers a n e = All-push (λ (x : Answer). x.who ≡ who → x.ended ≤ length (changes_of r.past)) answers a e (λ same. absurd (n same))
