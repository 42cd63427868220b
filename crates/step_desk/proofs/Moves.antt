-- Each step on the table keeps the rule.
use Rattle.std.proofs.Common.{◌≡◌, ◌≢◌, ℕ, ◌^◌, ◌<◌, ◌≤◌, true, eqb, max, List, [], ◌∷◌, ◌++◌, length, get_or, set, refl, sym, ◌∙◌, ap, subst, inl, inr, arith, append_assoc}
use Rattle.std.proofs.lemmas.List.{append-nil}
use Rattle.std.specs.Prelude.{Option, Some}
use mathlib.Core.Option.{none, some}
use lib.ListN.{get_elem?}
use prog.Atomic.{either}
use Rattle.atomic_table.specs.Table.{State, step, stepped, Act, keeps, takes, gives, rest, put_back, Allows, Valid, carried_after}
use Rattle.atomic_table.proofs.Lists.{set_again, exchanged}
use Rattle.region_words.specs.Region.{Region}
use Rattle.region_words.specs.Past.{NoneOf}
use Rattle.region_words.specs.Lawful.{Lawful}
use Rattle.region_words.specs.Share.{made_by}
use Rattle.region_words.specs.Local.{Local}
use Rattle.region_words.specs.declared.event.Event.{Event}
use Rattle.region_words.specs.declared.event.What.{What}
use Rattle.step_desk.specs.declared.view.Stage.{Stage}
use Rattle.step_desk.specs.declared.view.Stage.TheVariants.{Idle, Holding, Counted}
use Rattle.step_desk.specs.declared.view.View.{View}
use Rattle.step_desk.specs.Mirrors.{Words, checksum_after, sequence_after, changes_made, mirror, Quiet}
use Rattle.step_desk.specs.Rule.{Continues, StageIs, LiveIs, Views, Mirrored, TableIs}
use Rattle.step_desk.specs.Steps.{M, seeing, having_seen, idle, IsReady, LookedAt, turned_away, Carries, CanCount, OthersStand, takes_turn, seeing_slot, shows, counts, gives_turn, Looked, peeks_at_checksum, peeks_at_sequence, settles}
use Rattle.step_desk.proofs.Lists.{none_append, none_made, none_first, none_second, lawful_before, more_changes, cut, by_lengths}
use Rattle.step_desk.proofs.Views.{at_stage, views_set, other_live}

-- the fields of a rule whose desk only changes its words and views
same_continues : (about x : Local) (start : Region) → about.start ≡ start → Continues about x → Lawful start x.past
same_continues about x start is c = subst (λ s. Lawful s x.past) is c.lawful

-- a pass that sees what the desk has
pub sees_all : (about : Local) (seats : ℕ) (now : Local) (turn count turn' count' : ℕ) (owner : ℕ → ℕ) (id : ℕ) (v : View) (stage : Stage) → LiveIs about seats now turn count owner id v →
    StageIs turn' count' now (seeing v stage now) stage → LiveIs about seats now turn' count' owner id (seeing v stage now)
sees_all about seats now turn count turn' count' owner id v stage l is = record {
  about_is = l.about_is;
  owns = l.owns;
  later = [];
  past = refl;
  others = λ n a. tt;
  fresh = λ n a. let f = l.fresh n a in record { none = f.none; places = f.places; room = f.room; not_own = f.not_own; not_taken = f.not_taken };
  places = refl;
  room = refl;
  heard = now.past;
  heard_past = sym (append-nil now.past);
  heard_others = λ n a. absurd a;
  stage = is;
}

-- a pass that was refused the turn
refused_live : (about : Local) (seats : ℕ) (now : Local) (turn count : ℕ) (owner : ℕ → ℕ) (id : ℕ) (v : View) → LiveIs about seats now turn count owner id v → LiveIs about seats now turn count owner id (turned_away v)
refused_live about seats now turn count owner id v l = record {
  about_is = l.about_is;
  owns = l.owns;
  later = l.later;
  past = l.past;
  others = l.others;
  fresh = λ n a. let f = l.fresh n a in record { none = f.none; places = f.places; room = f.room; not_own = f.not_own; not_taken = f.not_taken };
  places = l.places;
  room = l.room;
  heard = l.heard;
  heard_past = l.heard_past;
  heard_others = l.heard_others;
  stage = same_stage v.stage l.stage;
}
  where
    same_stage : (stage : Stage) → StageIs turn count now v stage → StageIs turn count now (turned_away v) stage
    same_stage Idle s = s
    same_stage Holding s = s
    same_stage Counted s = s

-- take the turn, and the region with it
pub takes_allowed : (about : Local) (seats n id who : ℕ) (me : M) → IsReady who me →
    Allows (TableIs about seats) n id me 1 (λ t. either (eqb t 0) who t) (takes_turn (step n 1 0 who none) me)
takes_allowed about seats n id who me ready s r len at small =
    exchanged (get_or s.words 1 0) 0 who F hit miss
  where
    found_is : get_or s.words 1 0 ≡ r.turn
    found_is = ap (λ ws. get_or ws 1 0) r.words

    l : LiveIs about seats r.now r.turn r.count r.owner id me.0
    l = r.each id me.0 at ready.live

    F : ℕ → Type 0
    F k = (w : View) × (a : Act (Option Local)) × Valid s.homes me.1 a × TableIs about seats (stepped s 1 k id me.1 w a) × takes_turn (step n 1 0 who none) me (get_or s.words 1 0) (w, carried_after me.1 a)

    hit : get_or s.words 1 0 ≡ 0 → F who
    hit none_found =
        let free : r.turn ≡ 0 = sym found_is ∙ none_found in
        let f = r.free free in
        let w : View = seeing me.0 Holding r.now in
        let mine = l.owns me.0.who (inl refl) in
        let one : 1 ≤ who = subst (λ (k : ℕ). 1 ≤ k) ready.is mine.1 in (
          w,
          takes 0 (Some r.now),
          ap (λ h. get_elem? h 0) f.0,
          record {
            now = r.now;
            owner = r.owner;
            count = r.count;
            turn = who;
            shown = r.shown;
            sequence = r.sequence;
            words = ap (λ ws. set ws 1 who) r.words;
            few = subst (λ (k : ℕ). k ≤ seats) ready.is mine.2;
            each = views_set about seats r.now who r.count r.owner s.views id w
                (λ j u apart there live. other_live about seats r.now r.owner id me.0.who mine.0 j u apart r.turn r.count who r.count [] r.now refl (λ w ne. (refl, refl)) (inl free) (inr (sym ready.is)) (r.each j u there live))
                (λ live. sees_all about seats r.now r.turn r.count who r.count r.owner id me.0 Holding l (sym ready.is, refl, refl));
            free = λ gone. absurd (omega (arith, gone, one));
            continues = r.continues;
            beyond = r.beyond;
            of_checksum = r.of_checksum;
            of_sequence = r.of_sequence;
          },
          (
            (λ _. (r.now, record { view = ap (λ (c : List (ℕ × Option Local)). (w, (0, Some r.now) ∷ c)) ready.slots; continues = subst (λ a. Continues a r.now) (sym l.about_is) r.continues; later = l.later; past = l.past; others = l.others me.0.who (inl refl); places = l.places; room = l.room })),
            (λ held. absurd (held none_found)),
          ),
        )

    miss : get_or s.words 1 0 ≢ 0 → F (get_or s.words 1 0)
    miss held = (
      turned_away me.0,
      keeps,
      tt,
      record {
        now = r.now;
        owner = r.owner;
        count = r.count;
        turn = r.turn;
        shown = r.shown;
        sequence = r.sequence;
        words = ap (λ ws. set ws 1 (get_or ws 1 0)) r.words;
        few = r.few;
        each = views_set about seats r.now r.turn r.count r.owner s.views id (turned_away me.0) (λ j u apart there live. r.each j u there live) (λ live. refused_live about seats r.now r.turn r.count r.owner id me.0 l);
        free = r.free;
        continues = r.continues;
        beyond = r.beyond;
        of_checksum = r.of_checksum;
        of_sequence = r.of_sequence;
      },
      ((λ none_found. absurd (held none_found)), (λ _. refl)),
    )

-- the holder lets its region be the desk's
module _ (about : Local) (seats : ℕ) (s : State (Option Local) View) (r : TableIs about seats s) (id : ℕ) (me : M) (own : List What) (x : Local) (h : Carries Holding (Some x) own me x) (at : get_elem? s.views id ≡ some me.0) where
  mine : LiveIs about seats r.now r.turn r.count r.owner id me.0
  mine = r.each id me.0 at h.live

  held : (r.turn ≡ me.0.who) × (r.now ≡ me.0.held) × (r.now.past ≡ me.0.seen)
  held = at_stage r.turn r.count r.now me.0 Holding h.at mine.stage

  -- the turn is not free
  not_free : {A : Type 0} → r.turn ≡ 0 → A
  not_free {A} free = let one = (mine.owns me.0.who (inl refl)).1 in let t = held.0 in absurd (omega (arith, one, t, free))

  grown : x.past ≡ made_by me.0.who own ++ r.now.past
  grown = h.past ∙ ap (λ past. made_by me.0.who own ++ past) (sym held.2)

  -- the others' places and rooms stand
  stand : OthersStand me.0.who r.now x
  stand = subst (λ k. OthersStand me.0.who k x) (sym held.1) h.others

  continued : Continues about x
  continued = subst (λ a. Continues a x) mine.about_is h.continues

  beyond_all : (n : ℕ) → seats < n → NoneOf n x.past
  beyond_all n beyond = subst (NoneOf n) (sym grown) (none_append n (made_by me.0.who own) r.now.past (none_made me.0.who n own (λ e. let most = (mine.owns me.0.who (inl refl)).2 in omega (arith, most, beyond, e))) (r.beyond n beyond))

  grown_views : (count : ℕ) (stage : Stage) → StageIs r.turn count x (seeing me.0 stage x) stage → Views about seats x r.turn count r.owner (set s.views id (seeing me.0 stage x))
  grown_views count stage is = views_set about seats x r.turn count r.owner s.views id (seeing me.0 stage x)
      (λ j u apart there live. other_live about seats r.now r.owner id me.0.who (mine.owns me.0.who (inl refl)).0 j u apart r.turn r.count r.turn count own x grown stand (inr held.0) (inr held.0) (r.each j u there live))
      (λ live. record {
        about_is = mine.about_is;
        owns = mine.owns;
        later = [];
        past = refl;
        others = λ n a. tt;
        fresh = λ n a. let f = mine.fresh n a in let s = stand n (λ e. f.not_own (sym e)) in record {
          none = subst (NoneOf n) (sym grown) (none_append n (made_by me.0.who own) r.now.past (none_made me.0.who n own f.not_own) f.none);
          places = s.0 ∙ f.places;
          room = s.1 ∙ f.room;
          not_own = f.not_own;
          not_taken = f.not_taken;
        };
        places = refl;
        room = refl;
        heard = x.past;
        heard_past = sym (append-nil x.past);
        heard_others = λ n a. absurd a;
        stage = is;
      })

  -- what is shown of the journal before the step, by what the pass has seen
  seen_start : x.start ≡ about.start
  seen_start = continued.start

  same_before : (word : Words) → word x.start x.past ≡ word x.start me.0.seen → word about.start (made_by me.0.who own ++ r.now.past) ≡ word about.start r.now.past
  same_before word same = (λ i. word (sym seen_start i) (sym grown i)) ∙ same ∙ (λ i. word (seen_start i) (sym held.2 i))

pub quiet_now : (word : Words) (start : Region) (since shown_at : List Event) → Quiet word start since shown_at → word start (since ++ shown_at) ≡ word start shown_at
quiet_now word start [] shown_at quiet = refl
quiet_now word start (e ∷ since) shown_at quiet = quiet.1

quiet_more : (word : Words) (start : Region) (who : ℕ) (own : List What) (since shown_at : List Event) → length own ≤ 1 → Quiet word start since shown_at →
    word start (made_by who own ++ (since ++ shown_at)) ≡ word start (since ++ shown_at) → Quiet word start (made_by who own ++ since) shown_at
quiet_more word start who [] since shown_at one quiet same = quiet
quiet_more word start who (what ∷ []) since shown_at one quiet same = (quiet, same ∙ quiet_now word start since shown_at quiet)
quiet_more word start who (what ∷ again ∷ own) since shown_at one quiet same = absurd (omega (arith, one))

quiet_front : (word : Words) (start : Region) (later since shown_at : List Event) → Quiet word start (later ++ since) shown_at → Quiet word start since shown_at
quiet_front word start [] since shown_at quiet = quiet
quiet_front word start (e ∷ later) since shown_at quiet = quiet_front word start later since shown_at quiet.0

-- what a word shows goes on to be shown
mirrored_on : (word : Words) (start : Region) (past past' : List Event) (shown who : ℕ) (own : List What) → Mirrored word start past shown → length own ≤ 1 → past' ≡ made_by who own ++ past →
    word start (made_by who own ++ past) ≡ word start past → Mirrored word start past' shown
mirrored_on word start past past' shown who own m one grown same = record {
  shown_at = m.shown_at;
  since = made_by who own ++ m.since;
  past_is = grown ∙ ap (λ past. made_by who own ++ past) m.past_is ∙ sym (append_assoc (made_by who own) m.since m.shown_at);
  shown_is = m.shown_is;
  quiet = quiet_more word start who own m.since m.shown_at one m.quiet (subst (λ past. word start (made_by who own ++ past) ≡ word start past) m.past_is same);
  fits = m.fits;
}

-- a word that is stored shows the journal as it is
mirrored_now : (word : Words) (start start' : Region) (past : List Event) (shown : ℕ) → start ≡ start' → shown ≡ mirror word start past → word start past < 2 ^ 32 → Mirrored word start' past shown
mirrored_now word start start' past shown same is fits = record {
  shown_at = past;
  since = [];
  past_is = refl;
  shown_is = is ∙ ap (λ start. mirror word start past) same;
  quiet = tt;
  fits = subst (λ start. word start past < 2 ^ 32) same fits;
}

shown_by : (me : M) (stage : Stage) (x : Local) → me.1 ≡ (0, Some x) ∷ [] → ◌≡◌ {A = M} (seeing me.0 stage x, me.1) (seeing_slot me.0 stage me.1, me.1)
shown_by me stage x slots = ap (λ (c : List (ℕ × Option Local)). let m : M = (seeing_slot me.0 stage c, me.1) in m) (sym slots)

-- store the checksum with the number of changes: the step of an event that changes the checksum
pub shows_checksum : (about : Local) (seats n id m : ℕ) (me : M) (own : List What) (x : Local) → Carries Holding (Some x) own me x → m ≡ mirror checksum_after x.start x.past →
    checksum_after x.start x.past < 2 ^ 32 → sequence_after x.start x.past ≡ sequence_after x.start me.0.seen → Allows (TableIs about seats) n id me 2 (λ _. m) (λ _. shows (step n 2 m 0 none) me m)
shows_checksum about seats n id m me own x h is fits same s r len at small =
    let held' = held about seats s r id me own x h at in (
      seeing me.0 Holding x,
      keeps,
      tt,
      record {
        now = x;
        owner = r.owner;
        count = r.count;
        turn = r.turn;
        shown = m;
        sequence = r.sequence;
        words = ap (λ ws. set ws 2 m) r.words;
        few = r.few;
        each = grown_views about seats s r id me own x h at r.count Holding (held'.0, refl, refl);
        free = λ free. not_free about seats s r id me own x h at free;
        continues = continued about seats s r id me own x h at;
        beyond = beyond_all about seats s r id me own x h at;
        of_checksum = mirrored_now checksum_after x.start about.start x.past m (seen_start about seats s r id me own x h at) is fits;
        of_sequence = mirrored_on sequence_after about.start r.now.past x.past r.sequence me.0.who own r.of_sequence h.one (grown about seats s r id me own x h at) (same_before about seats s r id me own x h at sequence_after same);
      },
      shown_by me Holding x h.slots,
    )

-- store the sequence with the number of changes: the step of an event that changes the sequence
pub shows_sequence : (about : Local) (seats n id m : ℕ) (me : M) (own : List What) (x : Local) → Carries Holding (Some x) own me x → m ≡ mirror sequence_after x.start x.past →
    sequence_after x.start x.past < 2 ^ 32 → checksum_after x.start x.past ≡ checksum_after x.start me.0.seen → Allows (TableIs about seats) n id me 3 (λ _. m) (λ _. shows (step n 3 m 0 none) me m)
shows_sequence about seats n id m me own x h is fits same s r len at small =
    let held' = held about seats s r id me own x h at in (
      seeing me.0 Holding x,
      keeps,
      tt,
      record {
        now = x;
        owner = r.owner;
        count = r.count;
        turn = r.turn;
        shown = r.shown;
        sequence = m;
        words = ap (λ ws. set ws 3 m) r.words;
        few = r.few;
        each = grown_views about seats s r id me own x h at r.count Holding (held'.0, refl, refl);
        free = λ free. not_free about seats s r id me own x h at free;
        continues = continued about seats s r id me own x h at;
        beyond = beyond_all about seats s r id me own x h at;
        of_checksum = mirrored_on checksum_after about.start r.now.past x.past r.shown me.0.who own r.of_checksum h.one (grown about seats s r id me own x h at) (same_before about seats s r id me own x h at checksum_after same);
        of_sequence = mirrored_now sequence_after x.start about.start x.past m (seen_start about seats s r id me own x h at) is fits;
      },
      shown_by me Holding x h.slots,
    )

-- store the count: the step of every other event, and of a reservation
pub counts_allowed : (about : Local) (seats n id c : ℕ) (me : M) (own : List What) (x : Local) → CanCount own me x c → Allows (TableIs about seats) n id me 0 (λ _. c) (λ _. counts (step n 0 c 0 none) me c)
counts_allowed about seats n id c me own x can s r len at small =
    let h = can.carries in
    let held' = held about seats s r id me own x h at in (
      seeing me.0 Counted x,
      keeps,
      tt,
      record {
        now = x;
        owner = r.owner;
        count = c;
        turn = r.turn;
        shown = r.shown;
        sequence = r.sequence;
        words = ap (λ ws. set ws 0 c) r.words;
        few = r.few;
        each = grown_views about seats s r id me own x h at c Counted (held'.0, refl, refl, can.count_is);
        free = λ free. not_free about seats s r id me own x h at free;
        continues = continued about seats s r id me own x h at;
        beyond = beyond_all about seats s r id me own x h at;
        of_checksum = mirrored_on checksum_after about.start r.now.past x.past r.shown me.0.who own r.of_checksum h.one (grown about seats s r id me own x h at) (same_before about seats s r id me own x h at checksum_after can.checksum);
        of_sequence = mirrored_on sequence_after about.start r.now.past x.past r.sequence me.0.who own r.of_sequence h.one (grown about seats s r id me own x h at) (same_before about seats s r id me own x h at sequence_after can.sequence);
      },
      shown_by me Counted x h.slots,
    )

one_home : {A : Type 0} (hs : List A) (y : A) → length hs ≡ 1 → set hs 0 y ≡ y ∷ []
one_home [] y e = absurd (omega (arith, e))
one_home (x ∷ []) y e = refl
one_home (x ∷ z ∷ hs) y e = absurd (omega (arith, e))

-- give the turn, and the region with it
pub gives_allowed : (about : Local) (seats n id : ℕ) (me : M) (x : Local) → n ≡ 1 → Carries Counted (Some x) [] me x → x ≡ me.0.held → Allows (TableIs about seats) n id me 1 (λ _. 0) (λ _. gives_turn (step n 1 0 0 none) me 0)
gives_allowed about seats n id me x one h same s r len at small =
    let w : View = idle me.0 in
    let l = r.each id me.0 at h.live in
    let held = at_stage r.turn r.count r.now me.0 Counted h.at l.stage in (
      w,
      gives,
      tt,
      record {
        now = r.now;
        owner = r.owner;
        count = r.count;
        turn = 0;
        shown = r.shown;
        sequence = r.sequence;
        words = ap (λ ws. set ws 1 0) r.words;
        few = omega arith;
        each = views_set about seats r.now 0 r.count r.owner s.views id w
            (λ j u apart there live. other_live about seats r.now r.owner id me.0.who (l.owns me.0.who (inl refl)).0 j u apart r.turn r.count 0 r.count [] r.now refl (λ w ne. (refl, refl)) (inr held.0) (inl refl) (r.each j u there live))
            (λ live. record {
              about_is = l.about_is;
              owns = l.owns;
              later = l.later;
              past = l.past;
              others = l.others;
              fresh = λ n a. let f = l.fresh n a in record { none = f.none; places = f.places; room = f.room; not_own = f.not_own; not_taken = f.not_taken };
              places = l.places;
              room = l.room;
              heard = r.now.past;
              heard_past = sym (append-nil r.now.past);
              heard_others = λ n a. absurd a;
              stage = λ n a none. let one = (l.owns n a).1 in omega (arith, one, none);
            });
        free = λ _. (ap (put_back s.homes) h.slots ∙ one_home s.homes (some (Some x)) (len ∙ one) ∙ ap (λ y. some (Some y) ∷ []) (same ∙ sym held.1), held.3);
        continues = r.continues;
        beyond = r.beyond;
        of_checksum = r.of_checksum;
        of_sequence = r.of_sequence;
      },
      ap (λ (c : List (ℕ × Option Local)). (w, rest c)) h.slots,
    )

-- a pass that looks at a journal on the way from what it had seen to the desk's
module _ (about : Local) (seats : ℕ) (s : State (Option Local) View) (r : TableIs about seats s) (id who : ℕ) (me : M) (ready : IsReady who me) (at : get_elem? s.views id ≡ some me.0) where
  abbrev looker : LiveIs about seats r.now r.turn r.count r.owner id me.0
  looker = r.each id me.0 at ready.live

  looked_views : (rest more : List Event) → r.now.past ≡ rest ++ (more ++ me.0.seen) → looker.later ≡ rest ++ more → Views about seats r.now r.turn r.count r.owner (set s.views id (having_seen me.0 (more ++ me.0.seen)))
  looked_views rest more past later = views_set about seats r.now r.turn r.count r.owner s.views id (having_seen me.0 (more ++ me.0.seen))
      (λ j u apart there live. r.each j u there live)
      (λ live. record {
        about_is = looker.about_is;
        owns = looker.owns;
        later = rest;
        past = past;
        others = λ n a. none_first n rest more (subst (NoneOf n) later (looker.others n a));
        fresh = λ n a. let f = looker.fresh n a in record { none = f.none; places = f.places; room = f.room; not_own = f.not_own; not_taken = f.not_taken };
        places = looker.places;
        room = looker.room;
        heard = r.now.past;
        heard_past = sym (append-nil r.now.past);
        heard_others = λ n a. absurd a;
        stage = subst (StageIs r.turn r.count r.now (having_seen me.0 (more ++ me.0.seen))) (sym ready.stage) (at_stage r.turn r.count r.now me.0 Idle ready.stage looker.stage);
      })

  abbrev looked : (rest more : List Event) → r.now.past ≡ rest ++ (more ++ me.0.seen) → looker.later ≡ rest ++ more → Looked me (having_seen me.0 (more ++ me.0.seen), me.1)
  looked rest more past later = record {
    later = more;
    view = refl;
    others = none_second me.0.who rest more (subst (NoneOf me.0.who) later (looker.others me.0.who (inl refl)));
    lawful = lawful_before me.0.about.start rest (more ++ me.0.seen) (subst (λ p. Lawful me.0.about.start p) past (subst (λ (a : Local). Lawful a.start r.now.past) (sym looker.about_is) r.continues.lawful));
  }

-- the longer of what a word mirrors and of what was seen
record Longest (word : Words) (start : Region) (past shown_at later seen : List Event) : Type 0 where
  pub rest : List Event
  pub more : List Event
  pub past_is : past ≡ rest ++ (more ++ seen)
  pub later_is : later ≡ rest ++ more
  pub same : word start (more ++ seen) ≡ word start shown_at
  pub most : max (changes_made shown_at) (changes_made seen) ≡ changes_made (more ++ seen)

longest : (word : Words) (start : Region) (past since shown_at later seen : List Event) → past ≡ since ++ shown_at → past ≡ later ++ seen → Quiet word start since shown_at → Longest word start past shown_at later seen
longest word start past since shown_at later seen shown_past past_is quiet = by_lengths seen shown_at (λ _. Longest word start past shown_at later seen)
    (λ less.
    let c = cut later seen since shown_at (sym past_is ∙ shown_past) less in
    record {
      rest = since;
      more = c.0;
      past_is = shown_past ∙ ap (λ l. since ++ l) c.2;
      later_is = c.1;
      same = ap (word start) (sym c.2);
      most = let n = more_changes c.0 seen in let e = ap changes_made c.2 in omega (arith, n, e);
    })
    (λ less.
    let c = cut since shown_at later seen (sym shown_past ∙ past_is) less in
    record {
      rest = later;
      more = [];
      past_is = past_is;
      later_is = sym (append-nil later);
      same = ap (word start) c.2 ∙ quiet_now word start c.0 shown_at (quiet_front word start later c.0 shown_at (subst (λ l. Quiet word start l shown_at) c.1 quiet));
      most = let n = more_changes c.0 shown_at in let e = ap changes_made c.2 in omega (arith, n, e);
    })

-- what is found by a load of a word that mirrors another
module _ (about : Local) (seats : ℕ) (s : State (Option Local) View) (r : TableIs about seats s) (id who : ℕ) (me : M) (ready : IsReady who me) (at : get_elem? s.views id ≡ some me.0) (word : Words) (shown : ℕ) (m : Mirrored word about.start r.now.past shown) where
  found_at : Longest word about.start r.now.past m.shown_at (looker about seats s r id who me ready at).later me.0.seen
  found_at = longest word about.start r.now.past m.since m.shown_at (looker about seats s r id who me ready at).later me.0.seen m.past_is (looker about seats s r id who me ready at).past m.quiet

  new_view : View
  new_view = having_seen me.0 (found_at.more ++ me.0.seen)

  new_views : Views about seats r.now r.turn r.count r.owner (set s.views id new_view)
  unfolding new_view
  new_views = looked_views about seats s r id who me ready at found_at.rest found_at.more found_at.past_is found_at.later_is

  from : about.start ≡ me.0.about.start
  from = ap (λ (a : Local). a.start) (sym (looker about seats s r id who me ready at).about_is)

  looks_at : (found : ℕ) → found ≡ shown → LookedAt word me found (new_view, me.1)
  unfolding new_view
  looks_at found is = record {
    looked = looked about seats s r id who me ready at found_at.rest found_at.more found_at.past_is found_at.later_is;
    shown_at = m.shown_at;
    found_is = is ∙ m.shown_is ∙ ap (λ start. mirror word start m.shown_at) from;
    fits = subst (λ start. word start m.shown_at < 2 ^ 32) from m.fits;
    same = subst (λ start. word start (found_at.more ++ me.0.seen) ≡ word start m.shown_at) from found_at.same;
    most = found_at.most;
  }

-- one load of word 2
pub peeks_checksum : (about : Local) (seats n id who : ℕ) (me : M) → IsReady who me → Allows (TableIs about seats) n id me 2 (λ k. k) (peeks_at_checksum (step n 2 0 0 none) me)
peeks_checksum about seats n id who me ready s r len at small = (
  new_view about seats s r id who me ready at checksum_after r.shown r.of_checksum,
  keeps,
  tt,
  record {
    now = r.now;
    owner = r.owner;
    count = r.count;
    turn = r.turn;
    shown = r.shown;
    sequence = r.sequence;
    words = ap (λ ws. set ws 2 (get_or ws 2 0)) r.words;
    few = r.few;
    each = new_views about seats s r id who me ready at checksum_after r.shown r.of_checksum;
    free = r.free;
    continues = r.continues;
    beyond = r.beyond;
    of_checksum = r.of_checksum;
    of_sequence = r.of_sequence;
  },
  looks_at about seats s r id who me ready at checksum_after r.shown r.of_checksum (get_or s.words 2 0) (ap (λ ws. get_or ws 2 0) r.words),
)

-- one load of word 3
pub peeks_sequence : (about : Local) (seats n id who : ℕ) (me : M) → IsReady who me → Allows (TableIs about seats) n id me 3 (λ k. k) (peeks_at_sequence (step n 3 0 0 none) me)
peeks_sequence about seats n id who me ready s r len at small = (
  new_view about seats s r id who me ready at sequence_after r.sequence r.of_sequence,
  keeps,
  tt,
  record {
    now = r.now;
    owner = r.owner;
    count = r.count;
    turn = r.turn;
    shown = r.shown;
    sequence = r.sequence;
    words = ap (λ ws. set ws 3 (get_or ws 3 0)) r.words;
    few = r.few;
    each = new_views about seats s r id who me ready at sequence_after r.sequence r.of_sequence;
    free = r.free;
    continues = r.continues;
    beyond = r.beyond;
    of_checksum = r.of_checksum;
    of_sequence = r.of_sequence;
  },
  looks_at about seats s r id who me ready at sequence_after r.sequence r.of_sequence (get_or s.words 3 0) (ap (λ ws. get_or ws 3 0) r.words),
)

-- one load of word 0, by which a pass looks at what it knows
pub settles_allowed : (about : Local) (seats n id : ℕ) (me : M) → me.0.live ≡ true → Allows (TableIs about seats) n id me 0 (λ k. k) (settles (step n 0 0 0 none) me)
settles_allowed about seats n id me live s r len at small =
    let l = r.each id me.0 at live in (
      me.0,
      keeps,
      tt,
      record {
        now = r.now;
        owner = r.owner;
        count = r.count;
        turn = r.turn;
        shown = r.shown;
        sequence = r.sequence;
        words = ap (λ ws. set ws 0 (get_or ws 0 0)) r.words;
        few = r.few;
        each = subst (Views about seats r.now r.turn r.count r.owner) (sym (set_again s.views id me.0 at)) r.each;
        free = r.free;
        continues = r.continues;
        beyond = r.beyond;
        of_checksum = r.of_checksum;
        of_sequence = r.of_sequence;
      },
      (
        refl,
        record {
          follows = λ less. let c = cut l.heard me.0.told l.later me.0.seen (sym l.heard_past ∙ l.past) less in (c.0, c.2, (λ n a. none_second n l.later c.0 (subst (NoneOf n) c.1 (l.heard_others n a).1)));
          lawful = lawful_before me.0.about.start l.later me.0.seen (subst (λ p. Lawful me.0.about.start p) l.past (subst (λ (a : Local). Lawful a.start r.now.past) (sym l.about_is) r.continues.lawful));
          fresh = λ k a. none_second k l.later me.0.seen (subst (NoneOf k) l.past (l.fresh k a).none);
        },
      ),
    )
