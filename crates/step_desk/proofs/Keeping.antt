-- What stays true of a pass through peeks, splits and joins.
use Rattle.std.proofs.Common.{◌≡◌, ℕ, ◌+◌, ◌*◌, ◌/◌, ◌%◌, ◌≤◌, max, List, [], ◌++◌, refl, sym, ◌∙◌, ap, subst, inl, arith}
use Rattle.std.proofs.lemmas.Nat.{div-mul-add, mod-mul-add}
use Rattle.std.specs.Prelude.{if◌then◌else◌}
use Rattle.region_words.specs.Past.{NoneOf}
use Rattle.region_words.specs.Lawful.{Lawful}
use Rattle.region_words.specs.Local.{Local, IsLocal, lock_after}
use Rattle.region_words.specs.declared.event.Event.{Event}
use Rattle.region_words.proofs.Later.{lock_others}
use Rattle.step_desk.specs.declared.view.View.{View}
use Rattle.step_desk.specs.Mirrors.{Words, changes_made}
use Rattle.step_desk.specs.Numbers.{Among, GoesOn, numbers}
use Rattle.step_desk.specs.Rule.{newcomer}
use Rattle.step_desk.specs.Steps.{M, having_seen, Looked, LookedAt, turned_away, keeper, handed, joined, longer, shorter, numbers_of_shorter, Follows}
use Rattle.step_desk.specs.Passes.{IsKnown, PassIs}
use Rattle.step_desk.proofs.Lists.{among_without, others_within, more_changes, by_lengths}
use Rattle.step_desk.proofs.Passing.{numbers_answers}

-- what is known of a pass that has seen later events of others
pub known_later : (v : View) (later : List Event) → IsKnown v → NoneOf v.who later → Lawful v.about.start (later ++ v.seen) → IsKnown (having_seen v (later ++ v.seen))
known_later v later k others lawful = record {
  maker = k.maker;
  region = k.region;
  lawful = lawful;
  unreserved = λ n. k.unreserved (λ held. n (lock_others v.about.start later v.seen v.who lawful others ∙ held));
  hands = k.hands;
}

-- a pass that looked
pub looked_pass : (me new : M) (who made made' : ℕ) → PassIs me who made → (l : Looked me new) → made' ≡ changes_made (l.later ++ me.0.seen) → PassIs new who made'
looked_pass me new who made made' pass l is = subst (λ m. PassIs m who made') (sym l.view) (record {
  ready = record { live = pass.ready.live; stage = pass.ready.stage; is = pass.ready.is; maker = pass.ready.maker; slots = pass.ready.slots };
  made_is = is;
  known = known_later me.0 l.later pass.known l.others l.lawful;
})

-- a pass that was refused the turn
pub refused_pass : (me new : M) (who made : ℕ) → PassIs me who made → new ≡ (turned_away me.0, me.1) → PassIs new who made
refused_pass me new who made pass is = subst (λ m. PassIs m who made) (sym is) (record {
  ready = record { live = pass.ready.live; stage = pass.ready.stage; is = pass.ready.is; maker = pass.ready.maker; slots = pass.ready.slots };
  made_is = pass.made_is;
  known = record { maker = pass.known.maker; region = pass.known.region; lawful = pass.known.lawful; unreserved = pass.known.unreserved; hands = pass.known.hands };
})

-- what was found in a word that mirrors another
module _ (word : Words) (me new : M) (found who made : ℕ) (pass : PassIs me who made) (l : LookedAt word me found new) where
  abbrev shown : ℕ
  shown = word me.0.about.start l.shown_at

  turned : found ≡ changes_made l.shown_at * 4294967296 + shown
  turned = let n : ℕ = changes_made l.shown_at in let h : ℕ = shown in let same : h + 4294967296 * n ≡ n * 4294967296 + h = omega arith in l.found_is ∙ same

  beside : found / 4294967296 ≡ changes_made l.shown_at
  beside = ap (λ k. k / 4294967296) turned ∙ div-mul-add (changes_made l.shown_at) 4294967296 shown l.fits

  -- the number beside the word, or the number that was seen
  number_is : max made (found / 4294967296) ≡ changes_made (l.looked.later ++ me.0.seen)
  number_is = let b = beside in let m = pass.made_is in let most = l.most in omega (arith, b, m, most)

  pub peeked_pass : PassIs new who (max made (found / 4294967296))
  peeked_pass = looked_pass me new who made (max made (found / 4294967296)) pass l.looked number_is

  pub word_is : found % 4294967296 ≡ word me.0.about.start new.0.seen
  word_is = ap (λ k. k % 4294967296) turned ∙ mod-mul-add (changes_made l.shown_at) 4294967296 shown l.fits ∙ sym l.same ∙ ap (λ (m : M). word me.0.about.start m.0.seen) (sym l.looked.view)

-- a pass that has handed a number out, and the pass of that number
pub kept_pass : (me new : M) (who made n : ℕ) → PassIs me who made → new ≡ (keeper me.0 n, me.1) → PassIs new who made
kept_pass me new who made n pass is = subst (λ m. PassIs m who made) (sym is) (record {
  ready = record { live = pass.ready.live; stage = pass.ready.stage; is = pass.ready.is; maker = pass.ready.maker; slots = pass.ready.slots };
  made_is = pass.made_is;
  known = record { maker = pass.known.maker; region = pass.known.region; lawful = pass.known.lawful; unreserved = pass.known.unreserved; hands = λ k a. pass.known.hands k (among_without k n me.0.hands a).1 };
})

pub handed_pass : (me new : M) (who made n : ℕ) → PassIs me who made → Among n me.0.hands → new ≡ (handed me.0 n, []) → PassIs new n made
handed_pass me new who made n pass may is = subst (λ m. PassIs m n made) (sym is) (record {
  ready = record { live = refl; stage = refl; is = refl; maker = pass.known.hands n may; slots = refl };
  made_is = pass.made_is;
  known = record { maker = pass.known.hands n may; region = pass.known.region; lawful = pass.known.lawful; unreserved = λ _. (refl, refl); hands = λ k a. absurd a };
})

-- the longer of two journals has all the changes
most_changes : (v w : View) → Follows (numbers_of_shorter v w) (longer v.seen w.seen) (shorter v.seen w.seen) → max (changes_made v.seen) (changes_made w.seen) ≡ changes_made (longer v.seen w.seen)
most_changes v w = by_lengths v.seen w.seen (λ b. Follows (if b then numbers v else numbers w) (if b then w.seen else v.seen) (if b then v.seen else w.seen) → max (changes_made v.seen) (changes_made w.seen) ≡ changes_made (if b then w.seen else v.seen))
    (λ _ f. let n = more_changes f.0 v.seen in let e = ap changes_made f.1 in omega (arith, n, e))
    (λ _ f. let n = more_changes f.0 w.seen in let e = ap changes_made f.1 in omega (arith, n, e))

-- a lock that was held is held in the longer of two journals, since the pass has seen all events of its number
longer_lock : (v w : View) → Lawful v.about.start (longer v.seen w.seen) → Follows (numbers_of_shorter v w) (longer v.seen w.seen) (shorter v.seen w.seen) → lock_after (longer v.seen w.seen) v.who ≡ lock_after v.seen v.who
longer_lock v w = by_lengths v.seen w.seen (λ b. Lawful v.about.start (if b then w.seen else v.seen) → Follows (if b then numbers v else numbers w) (if b then w.seen else v.seen) (if b then v.seen else w.seen) → lock_after (if b then w.seen else v.seen) v.who ≡ lock_after v.seen v.who)
    (λ _ lawful f. ap (λ past. lock_after past v.who) f.1 ∙ lock_others v.about.start f.0 v.seen v.who (subst (Lawful v.about.start) f.1 lawful) (f.2 v.who (inl refl)))
    (λ _ _ _. refl)

pub joined_pass : (me other new : M) (who made who' made' : ℕ) → PassIs me who made → PassIs other who' made' → new ≡ (joined me.0 other.0, me.1) →
    Follows (numbers_of_shorter me.0 other.0) (longer me.0.seen other.0.seen) (shorter me.0.seen other.0.seen) → Lawful me.0.about.start (longer me.0.seen other.0.seen) → PassIs new who (max made made')
joined_pass me other new who made who' made' pass pass' is follows lawful = subst (λ m. PassIs m who (max made made')) (sym is) (record {
  ready = record { live = pass.ready.live; stage = pass.ready.stage; is = pass.ready.is; maker = pass.ready.maker; slots = pass.ready.slots };
  made_is = (λ i. max (pass.made_is i) (pass'.made_is i)) ∙ most_changes me.0 other.0 follows;
  known = record {
    maker = pass.known.maker;
    region = pass.known.region;
    lawful = lawful;
    unreserved = λ n. pass.known.unreserved (λ held. n (longer_lock me.0 other.0 lawful follows ∙ held));
    hands = pass.known.hands;
  };
})

-- the joined pass goes on from both
pub both_go_on : (v w : View) → Follows (numbers_of_shorter v w) (longer v.seen w.seen) (shorter v.seen w.seen) → GoesOn v (longer v.seen w.seen) × GoesOn w (longer v.seen w.seen)
both_go_on v w = by_lengths v.seen w.seen (λ b. Follows (if b then numbers v else numbers w) (if b then w.seen else v.seen) (if b then v.seen else w.seen) → GoesOn v (if b then w.seen else v.seen) × GoesOn w (if b then w.seen else v.seen))
    (λ _ f. ((f.0, f.1, (λ n a. f.2 n (numbers_answers v n a))), ([], refl, (λ n a. tt))))
    (λ _ f. (([], refl, (λ n a. tt)), (f.0, f.1, (λ n a. f.2 n (numbers_answers w n a)))))

-- the pass with which a desk begins
pub first_pass : (about : Local) (seats : ℕ) → IsLocal about → seats ≤ 64 → PassIs (newcomer about seats, []) 1 0
first_pass about seats local most = record {
  ready = record { live = refl; stage = refl; is = refl; maker = (omega arith, omega arith); slots = refl };
  made_is = refl;
  known = record {
    maker = (omega arith, omega arith);
    region = local.region;
    lawful = tt;
    unreserved = λ _. (refl, refl);
    hands = λ n a. let r = others_within n seats a in (omega (arith, r.0), omega (arith, r.1, most));
  };
}
