-- How a pass is cut in two, how two are put together, and how a desk begins.
use Rattle.std.proofs.Common.{◌≡◌, ◌≢◌, ◌⊎◌, ℕ, zero, suc, ◌+◌, ◌-◌, ◌^◌, ◌<◌, ◌≤◌, true, false, eqb, leb, cond, eq-eqb, ne_eqb, List, [], ◌∷◌, ◌++◌, length, set, refl, sym, ◌∙◌, ap, subst, inl, inr, ⊎_elim, arith}
use Rattle.std.proofs.lemmas.List.{append-nil}
use Rattle.std.specs.Prelude.{Some, None, if◌then◌else◌}
use mathlib.Core.Option.{some, some-injective, some-ne-none}
use lib.ListN.{get_elem?}
use Rattle.atomic_table.specs.Table.{Splits, Joins, opening}
use Rattle.atomic_table.proofs.Lists.{at_set}
use Rattle.region_words.specs.Past.{NoneOf}
use Rattle.region_words.specs.Share.{unlock_place}
use Rattle.region_words.specs.Local.{Local, IsLocal, account_of, lock_after, reserved_in}
use Rattle.region_words.specs.declared.event.Event.{Event}
use Rattle.region_words.proofs.LockOf.{lock_at_first}
use Rattle.step_desk.specs.declared.view.Stage.TheVariants.{Idle}
use Rattle.step_desk.specs.declared.view.View.{View}
use Rattle.step_desk.specs.Mirrors.{checksum_after, sequence_after, mirror}
use Rattle.step_desk.specs.Numbers.{Among, Answers, numbers}
use Rattle.step_desk.specs.Rule.{room_in, StageIs, LiveIs, Views, TableIs, newcomer}
use Rattle.step_desk.specs.Steps.{keeper, handed, joined, spent}
use Rattle.step_desk.proofs.Lists.{among_without, among_append, among_left, among_right, others_within, none_first, cut, by_lengths}
use Rattle.step_desk.proofs.Views.{at_stage, views_set}

at_end : {A : Type 0} (l : List A) (a b : A) (j : ℕ) → get_elem? (l ++ a ∷ []) j ≡ some b → (get_elem? l j ≡ some b) ⊎ ((j ≡ length l) × (a ≡ b))
at_end [] a b zero e = inr (refl, some-injective a b e)
at_end [] a b (suc j) e = absurd (some-ne-none b (sym e))
at_end (x ∷ xs) a b zero e = inl e
at_end (x ∷ xs) a b (suc j) e = ⊎_elim inl (λ t. inr (ap suc t.0, t.1)) (at_end xs a b j e)

-- another owner of other numbers
reowned : (about : Local) (seats : ℕ) (now : Local) (turn count : ℕ) (owner owner' : ℕ → ℕ) (j : ℕ) (u : View) → ((n : ℕ) → Answers u n → owner' n ≡ owner n) →
    LiveIs about seats now turn count owner j u → LiveIs about seats now turn count owner' j u
reowned about seats now turn count owner owner' j u same l = record {
  about_is = l.about_is;
  owns = λ n a. (same n a ∙ (l.owns n a).0, (l.owns n a).1, (l.owns n a).2);
  later = l.later;
  past = l.past;
  others = l.others;
  fresh = l.fresh;
  places = l.places;
  room = l.room;
  heard = l.heard;
  heard_past = l.heard_past;
  heard_others = l.heard_others;
  stage = l.stage;
}

-- a number is handed out
module _ (about : Local) (seats : ℕ) (now : Local) (turn count : ℕ) (owner : ℕ → ℕ) (id w new : ℕ) (v : View) (l : LiveIs about seats now turn count owner id v) (may : Among w v.hands) where
  abbrev given : ℕ → ℕ
  given k = cond (eqb k w) new (owner k)

  given_here : given w ≡ new
  given_here = ap (λ t. cond t new (owner w)) (eq-eqb w w refl)

  given_else : (k : ℕ) → k ≢ w → given k ≡ owner k
  given_else k ne = ap (λ t. cond t new (owner k)) (ne_eqb k w ne)

  keeper_answers : (n : ℕ) → Answers (keeper v w) n → (n ≢ w) × Answers v n
  keeper_answers n (inl own) = let ne = (l.fresh w may).not_own in ((λ e. ne (own ∙ e)), inl own)
  keeper_answers n (inr (inl taken)) = let not_taken = (l.fresh w may).not_taken in ((λ e. not_taken (subst (λ k. Among k v.taken) e taken)), inr (inl taken))
  keeper_answers n (inr (inr hands)) = let r = among_without n w v.hands hands in (r.0, inr (inr r.1))

  keeper_is : v.stage ≡ Idle → LiveIs about seats now turn count given id (keeper v w)
  keeper_is idle = record {
    about_is = l.about_is;
    owns = λ n a. let k = keeper_answers n a in let o = l.owns n k.1 in (given_else n k.0 ∙ o.0, o.1, o.2);
    later = l.later;
    past = l.past;
    others = λ n a. l.others n (keeper_answers n a).1;
    fresh = λ n a. let f = l.fresh n (among_without n w v.hands a).1 in record { none = f.none; places = f.places; room = f.room; not_own = f.not_own; not_taken = f.not_taken };
    places = l.places;
    room = l.room;
    heard = now.past;
    heard_past = sym (append-nil now.past);
    heard_others = λ n a. absurd a;
    stage = subst (StageIs turn count now (keeper v w)) (sym idle) (λ n a. at_stage turn count now v Idle idle l.stage n (keeper_answers n a).1);
  }

  only : (n : ℕ) → Answers (handed v w) n → (P : ℕ → Type 0) → P w → P n
  only n (inl own) P p = subst P own p
  only n (inr (inl gone)) P p = absurd gone
  only n (inr (inr gone)) P p = absurd gone

  handed_is : v.stage ≡ Idle → LiveIs about seats now turn count given new (handed v w)
  handed_is idle = record {
    about_is = l.about_is;
    owns = λ n a. only n a (λ k. (given k ≡ new) × (1 ≤ k) × (k ≤ seats)) (let o = l.owns w (inr (inr may)) in (given_here, o.1, o.2));
    later = l.later;
    past = l.past;
    others = λ n a. only n a (λ k. NoneOf k l.later) (l.others w (inr (inr may)));
    fresh = λ n a. absurd a;
    places = (l.fresh w may).places;
    room = (l.fresh w may).room;
    heard = now.past;
    heard_past = sym (append-nil now.past);
    heard_others = λ n a. absurd a;
    stage = λ n a. only n a (λ k. turn ≢ k) (at_stage turn count now v Idle idle l.stage w (inr (inr may)));
  }

  other_given : (j : ℕ) (u : View) → j ≢ id → LiveIs about seats now turn count owner j u → LiveIs about seats now turn count given j u
  other_given j u apart k = reowned about seats now turn count owner given j u
      (λ n a. given_else n (λ e. apart (sym (k.owns n a).0 ∙ ap owner e ∙ (l.owns w (inr (inr may))).0))) k

pub splits_allowed : (about : Local) (seats id : ℕ) (v : View) (w : ℕ) → v.live ≡ true → v.stage ≡ Idle → Among w v.hands → Splits (TableIs about seats) id v (keeper v w) (handed v w)
splits_allowed about seats id v w live idle may s r at =
    let vs : List View = set s.views id (keeper v w) in
    let l = r.each id v at live in
    let owner' : ℕ → ℕ = λ k. cond (eqb k w) (length vs) (r.owner k) in
    record {
      now = r.now;
      owner = owner';
      count = r.count;
      turn = r.turn;
      shown = r.shown;
      sequence = r.sequence;
      words = r.words;
      few = r.few;
      each = λ j u there. ⊎_elim
          (λ old. views_set about seats r.now r.turn r.count owner' s.views id (keeper v w)
          (λ i t apart is alive. other_given about seats r.now r.turn r.count r.owner id w (length vs) v l may i t apart (r.each i t is alive))
          (λ _. keeper_is about seats r.now r.turn r.count r.owner id w (length vs) v l may idle) j u old)
          (λ (x : (j ≡ length vs) × (handed v w ≡ u)). λ _. subst (λ (y : ℕ × View). LiveIs about seats r.now r.turn r.count owner' y.0 y.1) (λ i. (sym x.0 i, x.1 i))
          (handed_is about seats r.now r.turn r.count r.owner id w (length vs) v l may idle))
          (at_end vs (handed v w) u j there);
      free = r.free;
      continues = r.continues;
      beyond = r.beyond;
      of_checksum = r.of_checksum;
      of_sequence = r.of_sequence;
    }

answers_numbers : (v : View) (n : ℕ) → Among n (numbers v) → Answers v n
answers_numbers v n (inl own) = inl own
answers_numbers v n (inr more) = inr (among_append n v.taken v.hands more)

pub numbers_answers : (v : View) (n : ℕ) → Answers v n → Among n (numbers v)
numbers_answers v n (inl own) = inl own
numbers_answers v n (inr (inl taken)) = inr (among_left n v.taken v.hands taken)
numbers_answers v n (inr (inr hands)) = inr (among_right n v.taken v.hands hands)

-- one pass takes in another
module _ (about : Local) (seats : ℕ) (now : Local) (turn count : ℕ) (owner : ℕ → ℕ) (id other : ℕ) (v w : View) (apart : other ≢ id)
    (l : LiveIs about seats now turn count owner id v) (m : LiveIs about seats now turn count owner other w) (idle : v.stage ≡ Idle) (idle' : w.stage ≡ Idle) where
  abbrev merged : ℕ → ℕ
  merged k = cond (eqb (owner k) other) id (owner k)

  merged_theirs : (k : ℕ) → owner k ≡ other → merged k ≡ id
  merged_theirs k e = ap (λ t. cond t id (owner k)) (eq-eqb (owner k) other e)

  merged_else : (k : ℕ) → owner k ≢ other → merged k ≡ owner k
  merged_else k ne = ap (λ t. cond t id (owner k)) (ne_eqb (owner k) other ne)

  taken_of : (n : ℕ) → Among n (w.who ∷ (w.taken ++ (w.hands ++ v.taken))) → Answers w n ⊎ Among n v.taken
  taken_of n (inl own) = inl (inl own)
  taken_of n (inr more) = ⊎_elim (λ a. inl (inr (inl a))) (λ rest. ⊎_elim (λ a. inl (inr (inr a))) (λ a. inr a) (among_append n w.hands v.taken rest)) (among_append n w.taken (w.hands ++ v.taken) more)

  answers_of : (n : ℕ) → Answers (joined v w) n → Answers v n ⊎ Answers w n
  answers_of n (inl own) = inl (inl own)
  answers_of n (inr (inl taken)) = ⊎_elim (λ a. inr a) (λ a. inl (inr (inl a))) (taken_of n taken)
  answers_of n (inr (inr hands)) = inl (inr (inr hands))

  ours_joined : (n : ℕ) → Answers v n → Answers (joined v w) n
  ours_joined n (inl own) = inl own
  ours_joined n (inr (inl taken)) = inr (inl (inr (among_right n w.taken (w.hands ++ v.taken) (among_right n w.hands v.taken taken))))
  ours_joined n (inr (inr hands)) = inr (inr hands)

  theirs_joined : (n : ℕ) → Answers w n → Answers (joined v w) n
  theirs_joined n (inl own) = inr (inl (inl own))
  theirs_joined n (inr (inl taken)) = inr (inl (inr (among_left n w.taken (w.hands ++ v.taken) taken)))
  theirs_joined n (inr (inr hands)) = inr (inl (inr (among_right n w.taken (w.hands ++ v.taken) (among_left n w.hands v.taken hands))))

  -- what came after the longer, and all that both have seen of their numbers
  record Longer (seen told : List Event) (of : List ℕ) : Type 0 where
    pub later : List Event
    pub past : now.past ≡ later ++ seen
    pub ours : (n : ℕ) → Answers v n → NoneOf n later
    pub theirs : (n : ℕ) → Answers w n → NoneOf n later
    pub heard : List Event
    pub heard_past : now.past ≡ heard ++ told
    pub heard_others : (n : ℕ) → Among n of → (Answers v n ⊎ Answers w n) × NoneOf n heard

  longer_is : Longer (if leb (length v.seen) (length w.seen) then w.seen else v.seen) (if leb (length v.seen) (length w.seen) then v.seen else w.seen) (if leb (length v.seen) (length w.seen) then numbers v else numbers w)
  longer_is = by_lengths v.seen w.seen (λ b. Longer (if b then w.seen else v.seen) (if b then v.seen else w.seen) (if b then numbers v else numbers w))
      (λ less.
      let c = cut l.later v.seen m.later w.seen (sym l.past ∙ m.past) less in
      record { later = m.later; past = m.past; ours = λ n a. none_first n m.later c.0 (subst (NoneOf n) c.1 (l.others n a)); theirs = m.others; heard = l.later; heard_past = l.past; heard_others = λ n a. let b = answers_numbers v n a in (inl b, l.others n b) })
      (λ less.
      let c = cut m.later w.seen l.later v.seen (sym m.past ∙ l.past) less in
      record { later = l.later; past = l.past; ours = l.others; theirs = λ n a. none_first n l.later c.0 (subst (NoneOf n) c.1 (m.others n a)); heard = m.later; heard_past = m.past; heard_others = λ n a. let b = answers_numbers w n a in (inr b, m.others n b) })

  joined_is : LiveIs about seats now turn count merged id (joined v w)
  joined_is =
      let x = longer_is in
      let ours : (n : ℕ) → Answers v n → merged n ≡ id = λ n a. merged_else n (λ e. apart (sym e ∙ (l.owns n a).0)) ∙ (l.owns n a).0 in
      record {
        about_is = l.about_is;
        owns = λ n a. ⊎_elim
            (λ b. (ours n b, (l.owns n b).1, (l.owns n b).2))
            (λ b. (merged_theirs n (m.owns n b).0, (m.owns n b).1, (m.owns n b).2))
            (answers_of n a);
        later = x.later;
        past = x.past;
        others = λ n a. ⊎_elim (x.ours n) (x.theirs n) (answers_of n a);
        fresh = λ n a. let f = l.fresh n a in record {
          none = f.none;
          places = f.places;
          room = f.room;
          not_own = f.not_own;
          not_taken = λ t. ⊎_elim (λ b. apart (sym (m.owns n b).0 ∙ (l.owns n (inr (inr a))).0)) f.not_taken (taken_of n t);
        };
        places = l.places;
        room = l.room;
        heard = x.heard;
        heard_past = x.heard_past;
        heard_others = λ n a. let h = x.heard_others n a in (⊎_elim (ours_joined n) (theirs_joined n) h.0, h.1);
        stage = subst (StageIs turn count now (joined v w)) (sym idle)
            (λ n a. ⊎_elim (at_stage turn count now v Idle idle l.stage n) (at_stage turn count now w Idle idle' m.stage n) (answers_of n a));
      }

pub joins_allowed : (about : Local) (seats id : ℕ) (v : View) (other : ℕ) (w : View) → v.live ≡ true → v.stage ≡ Idle → w.live ≡ true → w.stage ≡ Idle →
    Joins (TableIs about seats) id v other w (joined v w) spent
joins_allowed about seats id v other w live idle live' idle' s r at apart there =
    let there' : get_elem? s.views other ≡ some w = ⊎_elim (λ (x : (other ≡ id) × (joined v w ≡ w)). absurd (apart x.0)) (λ (x : (other ≢ id) × (get_elem? s.views other ≡ some w)). x.1) (at_set s.views id other (joined v w) w there) in
    let l = r.each id v at live in
    let m = r.each other w there' live' in
    let owner' : ℕ → ℕ = λ k. cond (eqb (r.owner k) other) id (r.owner k) in
    record {
      now = r.now;
      owner = owner';
      count = r.count;
      turn = r.turn;
      shown = r.shown;
      sequence = r.sequence;
      words = r.words;
      few = r.few;
      each = views_set about seats r.now r.turn r.count owner' (set s.views id (joined v w)) other spent
          (λ j u ne is alive. ⊎_elim
          (λ (x : (j ≡ id) × (joined v w ≡ u)). subst (λ (y : ℕ × View). LiveIs about seats r.now r.turn r.count owner' y.0 y.1) (λ i. (sym x.0 i, x.1 i))
          (joined_is about seats r.now r.turn r.count r.owner id other v w apart l m idle idle'))
          (λ (x : (j ≢ id) × (get_elem? s.views j ≡ some u)). let k = r.each j u x.1 alive in reowned about seats r.now r.turn r.count r.owner owner' j u
          (λ n a. ap (λ t. cond t id (r.owner n)) (ne_eqb (r.owner n) other (λ e. ne (sym (k.owns n a).0 ∙ e)))) k)
          (at_set s.views id j (joined v w) u is))
          (λ alive. absurd (dead alive));
      free = r.free;
      continues = r.continues;
      beyond = r.beyond;
      of_checksum = r.of_checksum;
      of_sequence = r.of_sequence;
    }
  where
    dead : false ≡ true → ⊥
    dead h = cc

first_numbers : (about : Local) (seats n : ℕ) → 1 ≤ seats → Answers (newcomer about seats) n → (1 ≤ n) × (n ≤ seats)
first_numbers about seats n some_seats (inl e) = (omega (arith, e), omega (arith, e, some_seats))
first_numbers about seats n some_seats (inr (inl gone)) = absurd gone
first_numbers about seats n some_seats (inr (inr a)) = let r = others_within n seats a in (omega (arith, r.0), r.1)

-- nobody holds anything at first, so nobody has anything reserved
pub unkept : (about : Local) → IsLocal about → about.past ≡ [] → (n : ℕ) → (reserved_in about n ≡ 0) × (room_in about n ≡ 0)
unkept about is gone n =
    let none = ap (λ past. lock_after past n) gone ∙ lock_at_first n in
    let free = (is.each n).unreserved (λ held. some_none (sym held ∙ none)) in
    (none_over (account_of about.accounts n).kept (unlock_place (lock_after about.past n)) free.0, free.1)
  where
    some_none : {A : Type 0} {a : A} → Some a ≡ None → ⊥
    some_none e = cc

    none_over : (kept u : ℕ) → kept ≤ 1 + u → kept - (1 + u) ≡ 0
    none_over kept u p = omega (arith, p)

-- a desk begins with a region that has no events
pub begins : (about : Local) (seats shown sequence : ℕ) → IsLocal about → 1 ≤ seats → about.past ≡ [] → shown ≡ mirror checksum_after about.start about.past → checksum_after about.start about.past < 2 ^ 32 →
    sequence ≡ mirror sequence_after about.start about.past → sequence_after about.start about.past < 2 ^ 32 → TableIs about seats (opening (0 ∷ 0 ∷ shown ∷ sequence ∷ []) (Some about ∷ []) (newcomer about seats))
begins about seats shown sequence local some_seats gone shown_is fits sequence_is sequence_fits = record {
  now = about;
  owner = λ _. 0;
  count = 0;
  turn = 0;
  shown = shown;
  sequence = sequence;
  words = refl;
  few = omega arith;
  each = one;
  free = λ _. (refl, sym (ap length gone));
  continues = record { start = refl; listed = refl; admitted = λ n. refl; lawful = local.lawful; unreserved = λ n _. (unkept about local gone n).0 };
  beyond = λ n _. nothing n;
  of_checksum = record { shown_at = about.past; since = []; past_is = refl; shown_is = shown_is; quiet = tt; fits = fits };
  of_sequence = record { shown_at = about.past; since = []; past_is = refl; shown_is = sequence_is; quiet = tt; fits = sequence_fits };
}
  where
    nothing : (n : ℕ) → NoneOf n about.past
    nothing n = subst (NoneOf n) (sym gone) tt

    first : LiveIs about seats about 0 0 (λ _. 0) 0 (newcomer about seats)
    first = record {
      about_is = refl;
      owns = λ n a. (refl, (first_numbers about seats n some_seats a).0, (first_numbers about seats n some_seats a).1);
      later = [];
      past = gone;
      others = λ n a. tt;
      fresh = λ n a. let two = (others_within n seats a).0 in record {
        none = nothing n;
        places = (unkept about local gone n).0;
        room = (unkept about local gone n).1;
        not_own = λ e. omega (arith, two, e);
        not_taken = λ none. none;
      };
      places = (unkept about local gone 1).0;
      room = (unkept about local gone 1).1;
      heard = [];
      heard_past = gone;
      heard_others = λ n a. absurd a;
      stage = λ n a e. let one = (first_numbers about seats n some_seats a).0 in omega (arith, one, e);
    }

    one : Views about seats about 0 0 (λ _. 0) (newcomer about seats ∷ [])
    one zero v e = λ _. subst (LiveIs about seats about 0 0 (λ _. 0) 0) (some-injective _ _ e) first
    one (suc j) v e = absurd (some-ne-none v (sym e))
