-- A woven history of legal answers, walked from a map on.
use Rattle.std.proofs.Common.{◌≡◌, inl, inr, ℕ, zero, suc, ◌+◌, ◌<◌, List, [], ◌∷◌, ◌++◌, take, drop, get_or, refl, sym, ap, ◌∙◌, arith, subst}
use Rattle.std.specs.Prelude.{Option, Some, None, IfSome, IsTrue, map, slice_get}
use Rattle.std.specs.Option.{is_some}
use Rattle.std.proofs.lemmas.Option.{slice_get_within, get_or_from_slice_get}
use Rattle.std.proofs.lemmas.List.{append-nil}
use Rattle.expiring_map.specs.Map.{Map}
use Rattle.change_log.specs.Acts.{replay, applied, act_of}
use Rattle.change_log.specs.History.{reply_in, Legal, IsPlaced, IsReadAt, WovenFrom}
use Rattle.change_log.specs.OneThread.{AreAnsweredBy, Answers, AsOneThread}
use Rattle.change_log.specs.declared.change.Act.{Act}
use Rattle.change_log.specs.declared.change.Change.{Change}
use Rattle.change_log.specs.declared.call.Answer.{Answer}
use Rattle.change_log.specs.declared.woven.Entry.{Entry}
use Rattle.change_log.specs.declared.woven.Entry.TheVariants as entry
use Rattle.change_log.proofs.Members.{In, contains_from_in}
use Rattle.change_log.proofs.Found.{replay_more}

-- a list from a place on is the member there and those after it
from_place : (p : ℕ) (changes : List Change) (c : Change) (rest : List Change) → drop p changes ≡ c ∷ rest → (slice_get changes p ≡ Some c) × (drop (p + 1) changes ≡ rest)
from_place p [] c rest e = absurd (nothing p e)
  where
    nothing : (n : ℕ) → drop n [] ≡ c ∷ rest → ⊥
    nothing zero e = cc
    nothing (suc n) e = cc
from_place zero (x ∷ changes) c rest e = (cc, cc)
from_place (suc p) (x ∷ changes) c rest e =
    let later = from_place p changes c rest e in
    (later.0, ap (λ n. drop n (x ∷ changes)) (next p) ∙ later.1)
  where
    next : (n : ℕ) → suc n + 1 ≡ suc (n + 1)
    next n = omega arith

module _ (base : Map) (changes : List Change) (answers : List Answer) (h : Legal base changes answers) where
  placed_at : (i : ℕ) (a : Answer) → slice_get answers i ≡ Some a → IsPlaced base changes a
  placed_at i a at = subst (IsPlaced base changes) (get_or_from_slice_get answers i a a at) (h.placed i a (slice_get_within answers i a at))

  reads_answered : (p : ℕ) (m : Map) → m ≡ replay base (take p changes) → (reads : List ℕ) → ((i : ℕ) → In i reads → IsReadAt changes answers p i) →
      (later : List Entry) → Answers m changes answers later → Answers m changes answers (map entry.Read reads ++ later)
  reads_answered p m is [] all later rest = rest
  reads_answered p m is (i ∷ reads) all later rest =
      let r = all i (inl refl) in
      let found = placed_at i r.0 r.1 in (
        (r.0, r.1, found.reply ∙ ap (λ n. reply_in (replay base (take n changes)) r.0.now r.0.call) r.3 ∙ ap (λ n. reply_in n r.0.now r.0.call) (sym is)),
        reads_answered p m is reads (λ j k. all j (inr k)) later rest,
      )

  answered_by : (p : ℕ) (m : Map) (c : Change) → m ≡ replay base (take p changes) → slice_get changes p ≡ Some c → AreAnsweredBy m changes answers p c
  answered_by p m c is at k d lt makes place =
      let a = get_or answers k d in (
        made (act_of a.call a.now) refl makes place (h.made k d lt),
        (h.placed k d lt).reply ∙ ap (λ n. reply_in (replay base (take n changes)) a.now a.call) place ∙ ap (λ n. reply_in n a.now a.call) (sym is),
      )
    where
      made : (o : Option Act) → act_of (get_or answers k d).call (get_or answers k d).now ≡ o → IsTrue (is_some o) → (get_or answers k d).place ≡ p →
          IfSome o (λ act. ((get_or answers k d).place < (get_or answers k d).ended) × (slice_get changes (get_or answers k d).place ≡ Some (record { maker = (get_or answers k d).who; act = act }))) →
          o ≡ Some c.act
      made None e t place f = absurd cc
      made (Some act) e t place f =
          let same : Some (record { maker = (get_or answers k d).who; act = act }) ≡ Some c = sym f.1 ∙ ap (slice_get changes) place ∙ at in
          let one : record { maker = (get_or answers k d).who; act = act } ≡ c = cc in
          ap (λ (x : Change). Some x.act) one

  answers_from : (p : ℕ) (rest : List Change) (m : Map) (woven : List Entry) → drop p changes ≡ rest → m ≡ replay base (take p changes) →
      WovenFrom changes answers p rest woven → Answers m changes answers woven
  answers_from p [] m woven from is (reads, are, e) =
      subst (Answers m changes answers) (sym (e ∙ sym (append-nil (map entry.Read reads))))
      (reads_answered p m is reads (λ i k. (are.all i).0 (contains_from_in reads i k)) [] tt)
  answers_from p (c ∷ rest) m woven from is (reads, more, are, later, e) =
      let here = from_place p changes c rest from in
      let next : applied m c.act ≡ replay base (take (p + 1) changes) =
      ap (λ n. applied n c.act) is ∙ sym (replay_more base changes p c (slice_get_within changes p c here.0) (sym (get_or_from_slice_get changes p c c here.0))) in
      subst (Answers m changes answers) (sym e)
      (reads_answered p m is reads (λ i k. (are.all i).0 (contains_from_in reads i k)) (entry.Change p ∷ more)
      (c, here.0, answered_by p m c is here.0, answers_from (p + 1) rest (applied m c.act) more here.1 next later))

pub as_one_thread : AsOneThread
as_one_thread base changes answers woven legal is = answers_from base changes answers legal 0 changes base woven refl refl is
