-- What looks at payloads tell of all of them.
use Rattle.std.proofs.Common.{◌≡◌, ℕ, Bool, true, false, cond, List, [], ◌∷◌, ◌++◌, Vec, refl, sym, ap, ◌∙◌, inl, inr, subst}
use Rattle.std.specs.Prelude.{Contains, Some, None, Result, Ok, Err, IfOk, nat_eq}
use Rattle.std.specs.declared.alloc.Global.{Global}
use Rattle.std.specs.declared.cmp.Ordering.{Ordering}
use Rattle.std.specs.declared.cmp.Ordering.TheVariants.{Less, Equal, Greater}
use Rattle.std.specs.Option.{option_map}
use Rattle.std.specs.Cmp.Lexicographic.{pointwise, same_text, other_text}
use Rattle.std.specs.Ordering.{nat_cmp, is_eq}
use Rattle.std.specs.FinMap as fin
use Rattle.std.specs.BTreeMap.{get, is_at, Updates}
use Rattle.std.proofs.lemmas.List.Elements.{Contains-append_cases}
use Rattle.crc_words.specs.Crc.{crc}
use Rattle.region_words.proofs.Strings.{contains_first, contains_more}
use Rattle.region_words.specs.Region.{Region}
use Rattle.region_words.specs.Apart.{recorded_payloads}
use Rattle.death_model.specs.FilesInside.{payload_at, sizes_of}
use Rattle.death_model.specs.SeenInside.{Keeps, Tells, Within, kept_for}
use Rattle.death_model.specs.declared.seen.Seen.{Seen}
use Rattle.death_model.specs.declared.files.Sizes.{Sizes}
use Rattle.death_model.proofs.Payloads.{recorded_are}
use Rattle.death_model.proofs.Lists.{in_none, in_one, in_either, within_left, within_right, apart_within}

-- only what is among the payloads matters
pub keeps_same : (seen : Seen) (xs ys : List (List ℕ)) → Within xs ys → Within ys xs → Keeps seen xs → Keeps seen ys
keeps_same seen xs ys to from k = record { each = λ s c. k.each s (from s c); only = λ c s e. let h = k.only c s e in (to s h.0, h.1) }

-- a payload of this checksum was seen
pub found_tells : (seen : Seen) (p t : List ℕ) (b : Bool) → kept_for seen (crc p) ≡ Some t → b ≡ pointwise nat_eq t p → Tells [] seen seen (p ∷ []) b
found_tells seen p t true e told = λ all w k. record {
  each = λ s c. elim (Contains-append_cases (p ∷ []) all s c) [
    | inl h ↦ let is : t ≡ s = same_text t p told ∙ in_one p s h in ap (λ x. kept_for seen (crc x)) (sym (in_one p s h)) ∙ e ∙ ap Some is
    | inr h ↦ k.each s h
  ];
  only = λ c s f. let h = k.only c s f in (contains_more p all s h.0, h.1);
}
found_tells seen p t false e told = λ all w k apart. let h = k.only (crc p) t e in other_text t p told (apart t p (contains_more p all t h.0) (contains_first p all) h.1)

is_equal : (r : Ordering) → is_eq r ≡ true → r ≡ Equal
is_equal Less p = absurd cc
is_equal Equal p = refl
is_equal Greater p = absurd cc

-- none was, and now this one is kept
pub inserted_tells : (old new : Seen) (p : List ℕ) (v : Vec ℕ Global) → get nat_cmp old.payloads (crc p) ≡ None → Updates nat_cmp old.payloads new.payloads (crc p) (Some v) → v.items ≡ p →
    Tells [] old new (p ∷ []) true
inserted_tells old new p v none put is = λ all w k. record {
  each = λ s c. elim (Contains-append_cases (p ∷ []) all s c) [
    | inl h ↦ ap (λ x. kept_for new (crc x)) (sym (in_one p s h)) ∙ here ∙ ap Some (in_one p s h)
    | inr h ↦ there s (k.each s h)
  ];
  only = λ c s f. only all k c s f;
}
  where
    here : kept_for new (crc p) ≡ Some p
    here = ap (option_map (λ payload. payload.items)) put.1 ∙ ap Some is

    vacant : kept_for old (crc p) ≡ None
    vacant = ap (option_map (λ payload. payload.items)) none

    by : (c : ℕ) → kept_for new c ≡ option_map (λ payload. payload.items) (cond (is_at (nat_cmp (crc p)) c) (Some v) (get nat_cmp old.payloads c))
    by c = ap (option_map (λ payload. payload.items)) (put.0 c)

    there : (s : List ℕ) → kept_for old (crc s) ≡ Some s → kept_for new (crc s) ≡ Some s
    there s e = go (is_at (nat_cmp (crc p)) (crc s)) refl
      where
        go : (b : Bool) → is_at (nat_cmp (crc p)) (crc s) ≡ b → kept_for new (crc s) ≡ Some s
        go true t = let same : crc p ≡ crc s = fin.nat_cmp-IsAntisymmetric (crc p) (crc s) (is_equal _ t) in absurd (let clash : None ≡ Some s = sym vacant ∙ ap (λ x. kept_for old x) same ∙ e in cc)
        go false t = by (crc s) ∙ ap (λ b. option_map (λ payload. payload.items) (cond b (Some v) (get nat_cmp old.payloads (crc s)))) t ∙ e

    only : (all : List (List ℕ)) → Keeps old all → (c : ℕ) (s : List ℕ) → kept_for new c ≡ Some s → Contains (p ∷ all) s × (crc s ≡ c)
    only all k c s f = go (is_at (nat_cmp (crc p)) c) refl
      where
        go : (b : Bool) → is_at (nat_cmp (crc p)) c ≡ b → Contains (p ∷ all) s × (crc s ≡ c)
        go true t =
            let same : crc p ≡ c = fin.nat_cmp-IsAntisymmetric (crc p) c (is_equal _ t) in
            let now : Some p ≡ Some s = sym here ∙ ap (λ x. kept_for new x) same ∙ f in
            let it : p ≡ s = cc in
            (subst (λ x. Contains (p ∷ all) x) it (contains_first p all), ap crc (sym it) ∙ same)
        go false t =
            let was : kept_for old c ≡ Some s = sym (by c ∙ ap (λ b. option_map (λ payload. payload.items) (cond b (Some v) (get nat_cmp old.payloads c))) t) ∙ f in
            let h = k.only c s was in
            (contains_more p all s h.0, h.1)

-- a look at nothing
pub tells_nothing : (known : List (List ℕ)) (seen : Seen) → Tells known seen seen [] true
tells_nothing known seen = λ all w k. k

-- a look at what is known
pub tells_known : (known : List (List ℕ)) (seen : Seen) → Tells known seen seen known true
tells_known known seen = λ all w k. keeps_same seen all (known ++ all) (within_right known all) (in_either known all all w (λ s c. c)) k

-- a second look, after a first
pub tells_then : (known also : List (List ℕ)) (old mid new : Seen) (first second : List (List ℕ)) (b : Bool) → Tells known old mid first true → Tells also mid new second b →
    Tells (known ++ also) old new (first ++ second) b
tells_then known also old mid new first second true one two = λ all w k.
    keeps_same new (second ++ (first ++ all)) ((first ++ second) ++ all)
    (in_either second (first ++ all) _ (λ s c. within_left (first ++ second) all s (within_right first second s c)) (in_either first all _ (λ s c. within_left (first ++ second) all s (within_left first second s c)) (within_right (first ++ second) all)))
    (in_either (first ++ second) all _ (in_either first second _ (λ s c. within_right second (first ++ all) s (within_left first all s c)) (within_left second (first ++ all))) (λ s c. within_right second (first ++ all) s (within_right first all s c)))
    (two (first ++ all) (λ s c. within_right first all s (w s (within_right known also s c))) (one all (λ s c. w s (within_left known also s c)) k))
tells_then known also old mid new first second false one two = λ all w k apart.
    two (first ++ all) (λ s c. within_right first all s (w s (within_right known also s c))) (one all (λ s c. w s (within_left known also s c)) k)
    (apart_within (second ++ (first ++ all)) ((first ++ second) ++ all)
    (in_either second (first ++ all) _ (λ s c. within_left (first ++ second) all s (within_right first second s c)) (in_either first all _ (λ s c. within_left (first ++ second) all s (within_left first second s c)) (within_right (first ++ second) all))) apart)

-- a first look that found two payloads of one checksum needs no second
pub tells_first : (known also : List (List ℕ)) (old mid new : Seen) (first second : List (List ℕ)) → Tells known old mid first false → Tells (known ++ also) old new (first ++ second) false
tells_first known also old mid new first second one = λ all w k apart.
    one all (λ s c. w s (within_left known also s c)) k
    (apart_within (first ++ all) ((first ++ second) ++ all) (in_either first all _ (λ s c. within_left (first ++ second) all s (within_left first second s c)) (within_right (first ++ second) all)) apart)

wider : (xs ys all : List (List ℕ)) → Within xs ys → Within (xs ++ all) (ys ++ all)
wider xs ys all to = in_either xs all (ys ++ all) (λ s c. within_left ys all s (to s c)) (within_right ys all)

-- a look that tells of all payloads tells so where some are known
pub tells_anyway : (known : List (List ℕ)) (old new : Seen) (more : List (List ℕ)) (b : Bool) → Tells [] old new more b → Tells known old new more b
tells_anyway known old new more true t = λ all w k. t all (λ s c. absurd (in_none s c)) k
tells_anyway known old new more false t = λ all w k apart. t all (λ s c. absurd (in_none s c)) k apart

-- the same payloads in another order
pub tells_as : (known : List (List ℕ)) (old new : Seen) (xs ys : List (List ℕ)) (b : Bool) → Within xs ys → Within ys xs → Tells known old new xs b → Tells known old new ys b
tells_as known old new xs ys true to from t = λ all w k. keeps_same new (xs ++ all) (ys ++ all) (wider xs ys all to) (wider ys xs all from) (t all w k)
tells_as known old new xs ys false to from t = λ all w k apart. t all w k (apart_within (xs ++ all) (ys ++ all) (wider xs ys all to) apart)

-- more payloads aren't apart either
pub tells_clash : (known : List (List ℕ)) (old new : Seen) (xs ys : List (List ℕ)) → Within xs ys → Tells known old new xs false → Tells known old new ys false
tells_clash known old new xs ys to t = λ all w k apart. t all w k (apart_within (xs ++ all) (ys ++ all) (wider xs ys all to) apart)

-- what holds of the answer
pub if_ok : {A E : Type 0} (P Q : A → Type 0) (r : Result A E) → ((x : A) → P x → Q x) → IfOk r P → IfOk r Q
if_ok P Q (Ok x) f h = f x h
if_ok P Q (Err e) f h = tt

-- a look with this answer
pub answered : (known : List (List ℕ)) (old new : Seen) (more : List (List ℕ)) (b x : Bool) → b ≡ x → Tells known old new more b → Tells known old new more x
answered known old new more b x e t = subst (Tells known old new more) e t

-- the payloads of these three sizes
pub three_are : (r : Region) (z : Sizes) → z ≡ sizes_of r → payload_at r z.header ++ (payload_at r z.size ++ payload_at r z.last_size) ≡ recorded_payloads r
three_are r z is = ap (λ (y : Sizes). payload_at r y.header ++ (payload_at r y.size ++ payload_at r y.last_size)) is ∙ sym (recorded_are r)

-- looks at the payloads of the three sizes, one after another
module _ (r : Region) (z : Sizes) (is : z ≡ sizes_of r) (k1 k2 k3 : List (List ℕ)) (s0 : Seen) where
  abbrev a : List (List ℕ)
  a = payload_at r z.header

  abbrev b : List (List ℕ)
  b = payload_at r z.size

  abbrev c : List (List ℕ)
  c = payload_at r z.last_size

  -- the first found two of one checksum
  pub stops_first : (s1 : Seen) (x : Bool) → x ≡ false → Tells k1 s0 s1 a x → Tells (k1 ++ (k2 ++ k3)) s0 s1 (recorded_payloads r) false
  stops_first s1 x e one =
      subst (λ ps. Tells (k1 ++ (k2 ++ k3)) s0 s1 ps false) (three_are r z is) (tells_first k1 (k2 ++ k3) s0 s1 s1 a (b ++ c) (answered k1 s0 s1 a x false e one))

  -- the second did
  pub stops_second : (s1 s2 : Seen) (x y : Bool) → x ≡ true → y ≡ false → Tells k1 s0 s1 a x → Tells k2 s1 s2 b y → Tells (k1 ++ (k2 ++ k3)) s0 s2 (recorded_payloads r) false
  stops_second s1 s2 x y e f one two =
      subst (λ ps. Tells (k1 ++ (k2 ++ k3)) s0 s2 ps false) (three_are r z is)
      (tells_then k1 (k2 ++ k3) s0 s1 s2 a (b ++ c) false (answered k1 s0 s1 a x true e one) (tells_first k2 k3 s1 s2 s2 b c (answered k2 s1 s2 b y false f two)))

  -- neither did
  pub comes_third : (s1 s2 s3 : Seen) (x y w : Bool) → x ≡ true → y ≡ true → Tells k1 s0 s1 a x → Tells k2 s1 s2 b y → Tells k3 s2 s3 c w → Tells (k1 ++ (k2 ++ k3)) s0 s3 (recorded_payloads r) w
  comes_third s1 s2 s3 x y w e f one two three =
      subst (λ ps. Tells (k1 ++ (k2 ++ k3)) s0 s3 ps w) (three_are r z is)
      (tells_then k1 (k2 ++ k3) s0 s1 s3 a (b ++ c) w (answered k1 s0 s1 a x true e one) (tells_then k2 k3 s1 s2 s3 b c w (answered k2 s1 s2 b y true f two) three))
