-- The answers of all openers are one legal history.
use Rattle.std.proofs.Common.{◌≡◌, ℕ, ◌+◌, ◌-◌, ◌<◌, ◌≤◌, ◌⊎◌, true, false, leb, List, [], ◌∷◌, ◌++◌, length, sym, inl, inr, subst, arith, append-nil}
use Rattle.std.specs.Prelude.{All}
use Rattle.std.proofs.lemmas.Bool.Decides.{leb_tells}
use Rattle.std.proofs.lemmas.List.Elements.{All-nil, All-push, All-weaker}
use Rattle.change_log.specs.EachCaller.{LegalFor, answers_of}
use Rattle.change_log.specs.History.{Legal}
use Rattle.change_log.specs.declared.call.Answer.{Answer}
use Rattle.change_log.specs.declared.change.Change.{Change}
use Rattle.change_log.proofs.Settled.{settled_first, settled_is_legal}
use Rattle.change_log.proofs.Together.{each_of_some_is_legal}
use Rattle.lock_rules.specs.Locks.{Locks}
use Rattle.region_words.specs.Apart.{Apart}
use Rattle.region_words.specs.Lawful.{IsPossible, Lawful}
use Rattle.region_words.specs.Local.{Local}
use Rattle.region_words.specs.Past.{change_of, changes_of, locks_after, region_after}
use Rattle.region_words.specs.Region.{Region, base}
use Rattle.region_words.specs.declared.event.Event.{Event}
use Rattle.region_words.specs.declared.event.Mark.TheVariants.{Plain, Commit}
use Rattle.region_words.specs.declared.event.What.{What}
use Rattle.region_words.specs.declared.event.What.TheVariants.{Store, Grow, Lock, Unlock, Died}
use Rattle.opener.specs.State.{OpenerState}
use Rattle.opener.proofs.Settles.{settled_legal}
use Rattle.world.specs.World.{IsWorld, history_of}
use Rattle.world.proofs.Numbered.{within_is}
use Rattle.world.proofs.Stepped.{nothing_by}

abbrev IsNumbered : Change → Type 0
IsNumbered c = (1 ≤ c.maker) × (c.maker ≤ 64)

one_more_change : (r : Region) (locks : Locks) (who : ℕ) (xs : List Change) (what : What) → (1 ≤ who) × (who ≤ 64) → All IsNumbered xs → IsPossible r locks who what → All IsNumbered (xs ++ change_of what)
one_more_change r locks who xs (Store side word value Plain) number all may = subst (All IsNumbered) (sym (append-nil xs)) all
one_more_change r locks who xs (Store side word value (Commit c)) number all may = All-push IsNumbered xs c all (omega (arith, number.0, may.4), omega (arith, number.1, may.4))
one_more_change r locks who xs (Grow size) number all may = subst (All IsNumbered) (sym (append-nil xs)) all
one_more_change r locks who xs (Lock kind) number all may = subst (All IsNumbered) (sym (append-nil xs)) all
one_more_change r locks who xs Unlock number all may = subst (All IsNumbered) (sym (append-nil xs)) all
one_more_change r locks who xs (Died torn) number all may = subst (All IsNumbered) (sym (append-nil xs)) all

-- the changes of a lawful journal are those of openers
makers : (start : Region) (past : List Event) → Lawful start past → All IsNumbered (changes_of past)
makers start [] lawful = All-nil IsNumbered
makers start (e ∷ past) lawful =
    one_more_change (region_after start past) (locks_after past) e.who (changes_of past) e.what lawful.1.maker (makers start past lawful.0) lawful.1.possible

pub world_is_legal : (l : Local) (openers : List OpenerState) (answers : List Answer) → IsWorld l openers answers → Apart l.start l.past →
    Legal (base l.start) (changes_of l.past) answers
world_is_legal l openers answers world apart =
    each_of_some_is_legal 64 (base l.start) (changes_of l.past) answers (makers l.start l.past world.lawful)
    (All-weaker (λ (a : Answer). (1 ≤ a.who) × (a.who ≤ length openers)) (λ (a : Answer). (1 ≤ a.who) × (a.who ≤ 64)) (λ a own. (own.0, omega (arith, own.1, world.few))) answers world.theirs)
    (λ who least most. by who least (leb_tells who (length openers)))
  where
    by : (who : ℕ) → 1 ≤ who → ((leb who (length openers) ≡ true) × (who ≤ length openers)) ⊎ ((leb who (length openers) ≡ false) × (length openers < who)) →
        LegalFor who (base l.start) (changes_of l.past) (answers_of who answers)
    by who least (inl (small, within)) =
        let i = who - 1 in
        let is : i + 1 ≡ who = omega (arith, least) in
        let opener = within_is openers i (omega (arith, least, within)) in
        let o = opener.0 in
        let each = world.each i o opener.1 in
        subst (λ w. LegalFor w (base l.start) (changes_of l.past) (answers_of w answers)) is
        (subst (λ w. LegalFor w (base l.start) (changes_of l.past) (answers_of (i + 1) answers)) each.number
        (settled_legal o (history_of l) (answers_of (i + 1) answers) world.accepted apart each.settled))
    by who least (inr (large, above)) =
        let unused = world.unused who above in
        subst (LegalFor who (base l.start) (changes_of l.past)) (sym unused.unanswered)
        (settled_is_legal who (base l.start) (changes_of l.past) []
        (settled_first who (base l.start) (changes_of l.past) (nothing_by l.start l.past who world.lawful unused.silent)))
