-- Units are read one after another, each behind the one before.
use Rattle.std.proofs.Common.{◌≡◌, ℕ, zero, suc, ◌+◌, ◌*◌, ◌%◌, ◌<◌, ◌≤◌, Bool, true, false, cond, List, [], ◌∷◌, ◌++◌, length, take, drop, refl, sym, ap, ◌∙◌, arith, subst, append_assoc, append-nil, length-drop}
use Rattle.std.specs.Prelude.{Option, Some, None, option_and_then, option_map, nat_lt, nat_le, ◌==◌}
use Rattle.std.specs.Option.{option_map_or}
use Rattle.kv_pairs.specs.Reading.{number_in, length_at, bytes_at, text_at, unit_at, units_in, units_at}
use Rattle.kv_pairs.specs.declared.item.Item.{Item}
use Rattle.kv_pairs.proofs.GrammarRead.{pair_of}

-- what is left is shorter
abbrev pub Less : {X : Type 0} → ℕ → Option (X × List ℕ) → Type 0
Less n None = Unit {0}
Less n (Some r) = length r.1 < n

number_less : (k : ℕ) (bytes : List ℕ) → Less (length bytes) (number_in k bytes)
number_less zero bytes = tt
number_less (suc k) [] = tt
number_less (suc k) (b ∷ bs) = go (nat_lt b 128) (number_in k bs) (number_less k bs)
  where
    go : (t : Bool) (o : Option (ℕ × List ℕ)) → Less (length bs) o → Less (length (b ∷ bs)) (cond t (Some (b, bs)) (option_map (λ r. (b % 128 + 128 * r.0, r.1)) o))
    go true o l = omega arith
    go false None l = tt
    go false (Some r) l = omega (arith, l)

pub length_less : (bytes : List ℕ) → Less (length bytes) (length_at bytes)
unfolding length_at
length_less bytes = go (number_in 5 bytes) (number_less 5 bytes)
  where
    fits : (t : Bool) (r : ℕ × List ℕ) → length r.1 < length bytes → Less (length bytes) (cond t (Some r) None)
    fits true r l = l
    fits false r l = tt

    go : (o : Option (ℕ × List ℕ)) → Less (length bytes) o → Less (length bytes) (option_and_then (λ r. cond (nat_lt r.0 2147483648) (Some r) None) o)
    go None l = tt
    go (Some r) l = fits (nat_lt r.0 2147483648) r l

text_less : (bytes : List ℕ) → Less (length bytes) (text_at bytes)
text_less bytes = go (length_at bytes) (length_less bytes)
  where
    fits : (t : Bool) (r : ℕ × List ℕ) → length r.1 < length bytes → Less (length bytes) (cond t (Some (take r.0 r.1, drop r.0 r.1)) None)
    fits true r l = omega (arith, l, length-drop r.0 r.1)
    fits false r l = tt

    go : (o : Option (ℕ × List ℕ)) → Less (length bytes) o → Less (length bytes) (option_and_then (λ n. bytes_at n.0 n.1) o)
    go None l = tt
    go (Some r) l = fits (nat_le r.0 (length r.1)) r l

pub unit_less : (bytes : List ℕ) → Less (length bytes) (unit_at bytes)
unit_less bytes = go (text_at bytes) (text_less bytes)
  where
    value : (key : List ℕ) (n : ℕ) (o : Option (List ℕ × List ℕ)) → n < length bytes → Less n o →
        Less {X = List Item} (length bytes) (option_and_then (λ value. Some (record { key = key; value = value.0 } ∷ [], value.1)) o)
    value key n None h l = tt
    value key n (Some v) h l = omega (arith, h, l)

    by_test : (t : Bool) (key rest : List ℕ) → length rest < length bytes →
        Less {X = List Item} (length bytes) (cond t (Some ([], rest)) (option_and_then (λ value. Some (record { key = key; value = value.0 } ∷ [], value.1)) (text_at rest)))
    by_test true key rest h = h
    by_test false key rest h = value key (length rest) (text_at rest) h (text_less rest)

    go : (o : Option (List ℕ × List ℕ)) → Less (length bytes) o →
        Less {X = List Item} (length bytes) (option_and_then (λ key. cond (length key.0 == 0) (Some ([], key.1)) (option_and_then (λ value. Some (record { key = key.0; value = value.0 } ∷ [], value.1)) (text_at key.1))) o)
    go None l = tt
    go (Some key) l = by_test (length key.0 == 0) key.0 key.1 l

-- a unit takes a byte at least
pub behind_unit : (bytes : List ℕ) (its : List Item) (rest : List ℕ) → unit_at bytes ≡ Some (its, rest) → length rest < length bytes
behind_unit bytes its rest e = rw e at (unit_less bytes)

-- what is left of the bytes is no longer than they are
pub left_within : (k : ℕ) (bytes : List ℕ) → length (units_in k bytes).1 ≤ length bytes
left_within zero bytes = omega arith
left_within (suc k) bytes = go (unit_at bytes) (unit_less bytes) (λ rest. left_within k rest)
  where
    go : (o : Option (List Item × List ℕ)) → Less (length bytes) o → ((rest : List ℕ) → length (units_in k rest).1 ≤ length rest) →
        length (option_map_or (λ u. pair_of (u.0 ++ (units_in k u.1).0) (units_in k u.1).1) o (pair_of [] bytes)).1 ≤ length bytes
    go None l more = omega arith
    go (Some u) l more = omega (arith, l, more u.1)

-- any number of units that is enough gives the same
enough : (j k : ℕ) (bytes : List ℕ) → length bytes ≤ j → length bytes ≤ k → units_in j bytes ≡ units_in k bytes
unfolding length_at
enough zero zero bytes h l = refl
enough zero (suc k) [] h l = refl
enough zero (suc k) (b ∷ bs) h l = absurd (omega (arith, h))
enough (suc j) zero [] h l = refl
enough (suc j) zero (b ∷ bs) h l = absurd (omega (arith, l))
enough (suc j) (suc k) bytes h l = go (unit_at bytes) (unit_less bytes) (λ rest s. enough j k rest (omega (arith, s, h)) (omega (arith, s, l)))
  where
    go : (o : Option (List Item × List ℕ)) → Less (length bytes) o → ((rest : List ℕ) → length rest < length bytes → units_in j rest ≡ units_in k rest) →
        option_map_or (λ u. pair_of (u.0 ++ (units_in j u.1).0) (units_in j u.1).1) o (pair_of [] bytes)
        ≡ option_map_or (λ u. pair_of (u.0 ++ (units_in k u.1).0) (units_in k u.1).1) o (pair_of [] bytes)
    go None s same = refl
    go (Some u) s same = ap (λ r. pair_of (u.0 ++ r.0) r.1) (same u.1 s)

-- where a unit stands at the front, its items come first, and then those of what stands behind it
pub first_unit : (bytes : List ℕ) (its : List Item) (rest : List ℕ) → unit_at bytes ≡ Some (its, rest) → units_at bytes ≡ pair_of (its ++ (units_at rest).0) (units_at rest).1
first_unit bytes its rest e =
    let less = behind_unit bytes its rest e in
    let one : units_in (suc (length bytes)) bytes ≡ pair_of (its ++ (units_in (length bytes) rest).0) (units_in (length bytes) rest).1 = rw e refl in
    let same : units_in (length bytes) rest ≡ units_at rest = enough (length bytes) (length rest) rest (omega (arith, less)) (omega arith) in
    enough (length bytes) (suc (length bytes)) bytes (omega arith) (omega arith) ∙ one ∙ ap (λ r. pair_of (its ++ r.0) r.1) same

-- where none stands there, nothing is read
pub no_unit : (bytes : List ℕ) → unit_at bytes ≡ None → units_at bytes ≡ pair_of [] bytes
no_unit bytes e =
    let one : units_in (suc (length bytes)) bytes ≡ pair_of [] bytes = rw e refl in
    enough (length bytes) (suc (length bytes)) bytes (omega arith) (omega arith) ∙ one

-- the items so far, and those of what is left, are those of all
pub record GoesOn (done : List Item) (rest all : List ℕ) : Type 0 where
  pub items : done ++ (units_at rest).0 ≡ (units_at all).0
  pub left : (units_at rest).1 ≡ (units_at all).1

pub goes_on : (done its : List Item) (rest behind all : List ℕ) → unit_at rest ≡ Some (its, behind) → GoesOn done rest all → GoesOn (done ++ its) behind all
goes_on done its rest behind all e g =
    let first = first_unit rest its behind e in
    record {
      items = append_assoc done its (units_at behind).0 ∙ ap (λ r. done ++ r.0) (sym first) ∙ g.items;
      left = ap (λ r. r.1) (sym first) ∙ g.left;
    }

pub goes_past : (done : List Item) (rest behind all : List ℕ) → unit_at rest ≡ Some ([], behind) → GoesOn done rest all → GoesOn done behind all
goes_past done rest behind all e g = subst (λ z. GoesOn z behind all) (append-nil done) (goes_on done [] rest behind all e g)

pub all_done : (done : List Item) (rest all : List ℕ) → unit_at rest ≡ None → GoesOn done rest all → units_at all ≡ pair_of done rest
all_done done rest all e g =
    let stop = no_unit rest e in
    let items : (units_at all).0 ≡ done = sym g.items ∙ ap (λ r. done ++ r.0) stop ∙ append-nil done in
    let left : (units_at all).1 ≡ rest = sym g.left ∙ ap (λ r. r.1) stop in
    λ i. (items i, left i)
