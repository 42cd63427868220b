-- What a quick read knows after its two peeks. It is proved as the read of a call that was begun and looks at the same words.
use Rattle.std.proofs.Common.{◌≡◌, ◌≢◌, ℕ, arith, Bool, true, false, cond, List, refl, sym, ◌∙◌, subst, ap, inl, inr}
use Rattle.std.specs.Prelude.{Option, Some, None, ⊤, ◌⊎◌, ◌==◌, is_some, not}
use Rattle.std.proofs.lemmas.Bool.Decides.{nat_tests}
use Rattle.expiring_map.specs.Live.{value_at}
use Rattle.change_log.specs.declared.call.Call.TheVariants as call
use Rattle.region_words.specs.Region.{Region}
use Rattle.region_words.specs.Images.{checksum_at, sequence_at}
use Rattle.region_words.specs.Told.{OnTold, changes_told}
use Rattle.region_words.specs.Share.{ShareState, Goes, Fails, loaded}
use Rattle.region_words.specs.declared.event.Event.{Event}
use Rattle.region_words.specs.declared.stops.Peek.{Peek}
use Rattle.region_words.proofs.Telling.{told_map}
use Rattle.loader.specs.declared.loaded.Image.{Image}
use Rattle.opener.specs.State.{OpenerState}
use Rattle.opener.specs.Begins.{IsFirst, begun_at, refusal_at}
use Rattle.opener.specs.Extents.{load_after}
use Rattle.opener.specs.declared.work.Extent.{Extent}
use Rattle.opener.specs.declared.work.Extent.TheVariants.{Partial, Full}
use Rattle.opener.specs.Opener.{Tied, Owes, WorkIs, is_ended, lock_in, running_as}
use Rattle.opener.specs.Quick.{IsUpToDate, IsAnswered, IsStale, KeptValuesAnswer, Peeks, WasMap, ended_as}
use Rattle.opener.specs.Ends.{OnImage}
use Rattle.loader.specs.Maps.{map_of_image}
use Rattle.opener.specs.declared.work.Running.{Running}
use Rattle.opener.specs.declared.work.Stage.TheVariants.{PeekChecksum, PeekSequence}
use Rattle.opener.specs.declared.work.Work.TheVariants.{Idle}
use Rattle.opener.proofs.Begun.{begun_tied}
use Rattle.opener.proofs.Carry.{none_reserved, tied_after}
use Rattle.opener.proofs.Noticed.{IsCurrent as HasWords, current_ready, none_asked}
use Rattle.opener.proofs.Ready.{ReadyWith}
use Rattle.opener.proofs.Same.{SameLock}
use Rattle.opener.proofs.Stages.{peeked_tied}
use Rattle.opener.proofs.StopClauses.{same_call}
use Rattle.opener.proofs.Stopped.{failed_tied, nothing_told}

-- an image is kept
pub some_image : (image : Option Image) → is_some image ≡ true → (i : Image) × (image ≡ Some i)
some_image None some = absurd cc
some_image (Some i) some = (i, refl)

-- one of the words that were peeked is not the image's
pub differs : (i : Image) (image : Option Image) (peek : Peek) (sequence : ℕ) → image ≡ Some i → not (is_some (load_after image peek sequence)) ≡ false →
    (peek.checksum ≢ i.standing.checksum) ⊎ (sequence ≢ i.standing.sequence)
differs i image peek sequence kept e =
    go (i.standing.checksum == peek.checksum) refl (i.standing.sequence == sequence) refl (subst (λ z. not (is_some (load_after z peek sequence)) ≡ false) kept e)
  where
    go : (a : Bool) → (i.standing.checksum == peek.checksum) ≡ a → (b : Bool) → (i.standing.sequence == sequence) ≡ b → not (is_some (cond b (cond a None (Some Partial)) (Some Full))) ≡ false →
        (peek.checksum ≢ i.standing.checksum) ⊎ (sequence ≢ i.standing.sequence)
    go false ea b eb e = inl (λ same. grind (arith, nat_tests))
    go true ea false eb e = inr (λ same. grind (arith, nat_tests))
    go true ea true eb e = absurd cc

no_load : (load : Option Extent) → not (is_some load) ≡ true → load ≡ None
no_load None e = refl
no_load (Some extent) e = absurd cc

-- the call as which the read is proved
abbrev looking : ShareState → Running
looking s = begun_at call.Sync 0 (changes_told s.told)

looks_same : (s : ShareState) → SameLock (looking s) (looking s)
looks_same s = record { same = same_call (looking s); taken = refl }

-- the checksum was peeked
module _ (o : OpenerState) (i : Image) (s m : ShareState) (peek : Peek) (tied : Tied o s) (idle : o.work ≡ Idle) (kept : o.image ≡ Some i)
    (first : Goes (loaded s) s m) (checksum : OnTold m.told (λ h. peek.checksum ≡ checksum_at h.start h.past)) (changes : peek.changes ≡ changes_told m.told) where
  began : Tied (running_as o (looking s) PeekChecksum) s
  began =
      begun_tied o (running_as o (looking s) PeekChecksum) call.Sync 0 (changes_told s.told) s tied tt (ap (λ w. refusal_at w call.Sync o.holds) idle) refl
      PeekChecksum (subst (λ z. IsFirst z o.holds call.Sync PeekChecksum) (sym kept) refl) refl

  peeked : Tied (running_as o (looking s) (PeekSequence peek)) m
  peeked = peeked_tied o (looking s) (looking s) peek s m began (same_call (looking s)) refl first checksum changes

  -- then the share failed
  pub fails_later : (t : ShareState) → Fails m t → Tied (ended_as o.who) t
  fails_later t fails = failed_tied (running_as o (looking s) (PeekSequence peek)) m t peeked fails

  -- then the sequence was peeked
  module _ (t : ShareState) (sequence : ℕ) (second : Goes (loaded m) m t) (told : OnTold t.told (λ h. sequence ≡ sequence_at h.start h.past)) where
    pub both_peeked : Peeks peek.checksum sequence s t
    both_peeked = record { mid = m; first = first; second = second; checksum_is = checksum; sequence_is = told }

    -- the opener is as before
    pub tied_still : Tied o t
    tied_still =
        tied_after (running_as o (looking s) (PeekSequence peek)) o m t (loaded m) (λ start past. ⊤) peeked second.after refl (peeked.ended ∙ sym (ap is_ended idle))
        (peeked.holds ∙ sym (ap (lock_in o.holds) idle)) tied.deep tied.sound tied.at
        (subst (λ w. Owes o w t) (sym idle) (none_reserved m t (loaded m) second.after peeked.owes)) (nothing_told t.told)
        (λ start past region lawful lock facts e. record {
          image = facts.image;
          rests = λ held calm. facts.rests (sym (ap (lock_in o.holds) idle) ∙ held) refl;
          work = subst (λ w. WorkIs o w start past) (sym idle) tt;
        })

    -- both words are the image's
    pub current : not (is_some (load_after o.image peek sequence)) ≡ true → IsUpToDate o.image s t
    current is =
        let words = none_asked o.image peek sequence (no_load (load_after o.image peek sequence) is) in
        record {
          i = words.i;
          kept = words.kept;
          peeks = record {
            mid = m;
            first = first;
            second = second;
            checksum_is = told_map m.told _ (λ h. words.i.standing.checksum ≡ checksum_at h.start h.past) (λ h e. words.checksum ∙ e) checksum;
            sequence_is = told_map t.told _ (λ h. words.i.standing.sequence ≡ sequence_at h.start h.past) (λ h e. words.sequence_is ∙ e) told;
          };
          history = told_map t.told _ (λ h. WasMap words.i.map (changes_told s.told) (changes_told m.told) h.start h.past) (λ h e. was words h.start h.past e)
              (current_ready o (looking s) (looking s) peek m t peeked (looks_same s) second sequence words told);
        }
      where
        was : (words : HasWords o.image peek sequence) (start : Region) (past : List Event) → ReadyWith (Some peek) o words.i (looking s) peek.changes start past →
            WasMap words.i.map (changes_told s.told) (changes_told m.told) start past
        was words start past e =
            subst (λ place. WasMap words.i.map (changes_told s.told) place start past) changes (record { since = e.begun; within = e.placed; map_is = e.found })

    -- one is not
    pub stale : not (is_some (load_after o.image peek sequence)) ≡ false → IsStale o.image peek.checksum sequence s t
    stale is = record { i = i; kept = kept; peeks = both_peeked; differs = differs i o.image peek sequence kept is }

-- the image's value is the answer
pub answered : (image : Option Image) (value : Option (List ℕ)) (key : List ℕ) (now : ℕ) (s t : ShareState) → (is : IsUpToDate image s t) → value ≡ value_at is.i.map key now →
    IsAnswered image value key now s t
answered image value key now s t is e =
    record {
      i = is.i;
      kept = is.kept;
      peeks = is.peeks;
      value_is = e;
      history = told_map t.told _ _ (λ h was. record {
        since = was.since;
        within = was.within;
        value_is = λ ok apart. e ∙ ap (λ m. value_at m key now) (was.map_is ok apart);
      }) is.history;
    }

-- and so it is where the image says it of itself
pub answers : KeptValuesAnswer
answers image value key now s t is e = answered image value key now s t is (subst (λ z. OnImage z (λ i. value ≡ value_at (map_of_image i) key now)) is.kept e)
