-- The payload of a map is read as that map.
use Rattle.std.proofs.Common.{◌≡◌, ℕ, zero, suc, ◌+◌, ◌-◌, ◌/◌, ◌%◌, ◌^◌, ◌<◌, ◌≤◌, Bool, true, false, cond, List, [], ◌∷◌, ◌++◌, length, drop, refl, sym, ap, ◌∙◌, arith, subst, append_assoc, length-append, length-take}
use Rattle.std.specs.Prelude.{Some, None, option_and_then, nat_lt, filter, map, fold, flat_map, ◌==◌, ◌&&◌, ◌||◌, T}
use Rattle.std.specs.List.{list_all}
use Rattle.std.specs.Int.{to_le_bytes, from_le_bytes, w32}
use Rattle.std.specs.Ordering.{eq_by_cmp, is_eq}
use Rattle.std.specs.Cmp.Lexicographic.{nat_list_cmp_total}
use Rattle.std.specs.Cmp.{tied_itself}
use Rattle.std.specs.declared.cmp.Ordering.{Ordering}
use Rattle.std.specs.declared.cmp.Ordering.TheVariants.{Less, Equal, Greater}
use Rattle.std.specs.FinMap as fin
use Rattle.std.proofs.lemmas.Bool.Decides.{nat_tests}
use Rattle.expiring_map.specs.ValueUntil.{ValueUntil}
use Rattle.expiring_map.specs.Map.{Map}
use Rattle.expiring_map.specs.Live.{is_live, live_part, expiring, with_expiry}
use Rattle.expiring_map.proofs.Refold.{order, Entry, with_entry, same_keys, not_below, refolded}
use Rattle.kv_pairs.specs.Lengths.{Spells, shortest, shortest_in}
use Rattle.kv_pairs.specs.Grammar.{Units, none, one, begun}
use Rattle.kv_pairs.specs.Reading.{items_of, read_payload, greedy_items}
use Rattle.kv_pairs.specs.Mapped.{stored, unstored, with_item, with_items, has_room_for_expiry, map_of, greedy_map, length_prefixed, put_item, heading, packed, map_in, IsShort, IsSmall, IsPackablePair, IsPackable}
use Rattle.kv_pairs.specs.Growth.{largest}
use Rattle.kv_pairs.specs.declared.item.Item.{Item}
use Rattle.kv_pairs.proofs.ReadsGrammar.{payload_read}
use Rattle.kv_pairs.proofs.GrammarRead.{Small}
use Rattle.kv_pairs.proofs.Appending.{shortest_spells}
use Rattle.kv_pairs.proofs.Mapping.{unstored-stored}
use Rattle.kv_pairs.proofs.GoodItems.{Small-take, Small-drop, Small-append, Small-at, Small-from, GoodItem, AllFit, read_good, fit_filtered, fit_all}

-- a pair that an item can hold
pub record Packs (flag : Bool) (key : List ℕ) (d : ValueUntil) : Type 0 where
  pub key_some : 0 < length key
  pub key_short : length key ≤ largest
  pub key_small : Small key
  pub value_some : 0 < length d.value
  pub value_short : length d.value ≤ largest
  pub value_small : Small d.value
  pub expiry_small : d.expiry < 2 ^ 32
  pub no_expiry : flag ≡ false → d.expiry ≡ 0

abbrev pub Packable : Bool → Map → Type 0
Packable flag m = (q : List ℕ) (d : ValueUntil) → fin.get m q ≡ Some d → Packs flag q d

-- it holds of each entry
abbrev pub Each : (List ℕ → ValueUntil → Type 0) → List Entry → Type 0
Each P [] = Unit {0}
Each P (e ∷ es) = P e.0 e.1 × Each P es

abbrev pub AllPack : Bool → List Entry → Type 0
AllPack flag es = Each (Packs flag) es

first : (a b : Bool) → T (a && b) → T a
first true b p = tt
first false b p = p

second : (a b : Bool) → T (a && b) → T b
second true b p = p
second false b p = absurd p

is_equal : (r : Ordering) → is_eq r ≡ true → r ≡ Equal
is_equal Less p = absurd cc
is_equal Equal p = refl
is_equal Greater p = absurd cc

-- from what a look-up finds to the entries, and back
each_entry : (P : List ℕ → ValueUntil → Type 0) (es : List Entry) → T (fin.is_sorted order es) → ((q : List ℕ) (d : ValueUntil) → fin.find order q es ≡ Some d → P q d) → Each P es
each_entry P [] h f = tt
each_entry P (e ∷ es) h f = (
  f e.0 e.1 (rw (ap is_eq (tied_itself nat_list_cmp_total e.0)) refl),
  each_entry P es (second _ _ h) (λ q d found. f q d (go q d found (eq_by_cmp order q e.0) refl)),
)
  where
    go : (q : List ℕ) (d : ValueUntil) → fin.find order q es ≡ Some d → (b : Bool) → eq_by_cmp order q e.0 ≡ b → cond (eq_by_cmp order q e.0) (Some e.1) (fin.find order q es) ≡ Some d
    go q d found true t = absurd (let n = not_below e.0 q es (first _ _ h) (is_equal _ t) in cc)
    go q d found false t = rw t found

-- what holds of each pair that a look-up finds holds of each entry
pub each_of : (P : List ℕ → ValueUntil → Type 0) (m : Map) → ((q : List ℕ) (d : ValueUntil) → fin.get m q ≡ Some d → P q d) → Each P (fin.entries m)
each_of P m p = each_entry P (fin.entries m) (fin.entries_sorted m) (λ q d e. p q d (fin.get-entries m q ∙ e))

found_pack : (flag : Bool) (es : List Entry) → AllPack flag es → (q : List ℕ) (d : ValueUntil) → fin.find order q es ≡ Some d → Packs flag q d
found_pack flag [] p q d e = absurd cc
found_pack flag (x ∷ es) p q d e = go (eq_by_cmp order q x.0) refl e (λ f. found_pack flag es p.1 q d f)
  where
    go : (b : Bool) → eq_by_cmp order q x.0 ≡ b → cond b (Some x.1) (fin.find order q es) ≡ Some d → (fin.find order q es ≡ Some d → Packs flag q d) → Packs flag q d
    go true t f more =
        let key : x.0 ≡ q = sym (same_keys q x.0 (is_equal _ t)) in
        let value : x.1 ≡ d = cc in
        subst (λ k. Packs flag k d) key (subst (Packs flag x.0) value p.0)
    go false t f more = more f

pub all_pack : (flag : Bool) (m : Map) → Packable flag m → AllPack flag (fin.entries m)
all_pack flag m p = each_of (Packs flag) m p

pub one_more : (m : Map) (key : List ℕ) (d : ValueUntil) → fin.len (fin.insert m key d) ≤ fin.len m + 1
one_more m key d = go (fin.contains_key m key) (fin.len-insert nat_list_cmp_total m key d)
  where
    go : (b : Bool) → fin.len (fin.insert m key d) ≡ cond b (fin.len m) (fin.len m + 1) → fin.len (fin.insert m key d) ≤ fin.len m + 1
    go true e = omega (arith, e)
    go false e = omega (arith, e)

-- a map that is small stays so with one more short pair
pub small_with : (m : Map) (key : List ℕ) (d : ValueUntil) → IsSmall m → IsShort key d → fin.len m + 1 < 2 ^ 32 → IsSmall (fin.insert m key d)
small_with m key d s short few = record { short = λ q e found. go q e (eq_by_cmp order q key) refl (sym (fin.get-insert nat_list_cmp_total m key d q) ∙ found); few = omega (arith, one_more m key d, few) }
  where
    go : (q : List ℕ) (e : ValueUntil) (b : Bool) → eq_by_cmp order q key ≡ b → cond (eq_by_cmp order q key) (Some d) (fin.get m q) ≡ Some e → IsShort q e
    go q e true t found =
        let same : cond (eq_by_cmp order q key) (Some d) (fin.get m q) ≡ Some d = rw t refl in
        let value : d ≡ e = cc in
        subst (λ k. IsShort k e) (sym (same_keys q key (is_equal _ t))) (subst (IsShort key) value short)
    go q e false t found =
        let same : cond (eq_by_cmp order q key) (Some d) (fin.get m q) ≡ fin.get m q = rw t refl in
        s.short q e (sym same ∙ found)

pub small_empty : IsSmall fin.empty
small_empty = record { short = λ q e found. nothing q e (sym (fin.get-empty order q) ∙ found); few = omega (arith, fin.len-empty order ValueUntil) }
  where
    nothing : (q : List ℕ) (e : ValueUntil) → None ≡ Some e → IsShort q e
    nothing q e f = absurd cc

pub packable_from : (flag : Bool) (es : List Entry) → AllPack flag es → Packable flag (fin.from_entries es)
packable_from flag es p q d e = found_pack flag es p q d (sym (fin.get-from_entries nat_list_cmp_total es q) ∙ e)

-- a part of the entries, and other expiries
filter_pack : (flag : Bool) (p : Entry → Bool) (es : List Entry) → AllPack flag es → AllPack flag (filter p es)
filter_pack flag p [] a = tt
filter_pack flag p (e ∷ es) a = go (p e) (filter_pack flag p es a.1)
  where
    go : (b : Bool) → AllPack flag (filter p es) → AllPack flag (cond b (e ∷ filter p es) (filter p es))
    go true rest = (a.0, rest)
    go false rest = rest

pub packable_live : (flag : Bool) (m : Map) (now : ℕ) → Packable flag m → Packable flag (live_part m now)
packable_live flag m now p = packable_from flag (filter (λ e. is_live now e.1) (fin.entries m)) (filter_pack flag (λ e. is_live now e.1) (fin.entries m) (all_pack flag m p))

expiring_pack : (flag to : Bool) (expiry : ℕ) (es : List Entry) → expiry < 2 ^ 32 → (to ≡ false → expiry ≡ 0) → AllPack flag es → AllPack to (map (λ e. (e.0, expiring expiry e.1)) es)
expiring_pack flag to expiry [] h o a = tt
expiring_pack flag to expiry (e ∷ es) h o a =
    let p = a.0 in (
      record {
        key_some = p.key_some;
        key_short = p.key_short;
        key_small = p.key_small;
        value_some = p.value_some;
        value_short = p.value_short;
        value_small = p.value_small;
        expiry_small = h;
        no_expiry = o;
      },
      expiring_pack flag to expiry es h o a.1,
    )

pub packable_expiring : (flag to : Bool) (m : Map) (expiry : ℕ) → expiry < 2 ^ 32 → (to ≡ false → expiry ≡ 0) → Packable flag m → Packable to (with_expiry expiry m)
packable_expiring flag to m expiry h o p = packable_from to (map (λ e. (e.0, expiring expiry e.1)) (fin.entries m)) (expiring_pack flag to expiry (fin.entries m) h o (all_pack flag m p))

pub packable_empty : (flag : Bool) → Packable flag fin.empty
packable_empty flag q d e = absurd (let n = fin.get-empty {X = ValueUntil} order q in cc)

-- a value with room for its expiry
worth : (bs : List ℕ) → Small bs → from_le_bytes w32 bs < 2 ^ 32
worth bs s = omega (arith, Small-at bs 0 s, Small-at bs 1 s, Small-at bs 2 s, Small-at bs 3 s)

unstored_packs : (flag : Bool) (n : ℕ) (i : Item) → n ≤ largest → GoodItem n i → has_room_for_expiry flag i ≡ true → (length i.value == 0) ≡ false → Packs flag i.key (unstored flag i.value)
unstored_packs false n i le g h some =
    let v : 0 < length i.value = grind (arith, nat_tests) in
    record {
      key_some = g.key_some;
      key_short = omega (arith, g.key_short);
      key_small = g.key_small;
      value_some = v;
      value_short = omega (arith, g.value_short);
      value_small = g.value_small;
      expiry_small = omega arith;
      no_expiry = λ e. refl;
    }
unstored_packs true n i le g h some =
    let room : nat_lt 4 (length i.value) ≡ true = right_of _ _ some h in
    let long : 4 < length i.value = grind (arith, nat_tests) in
    let size = length i.value - 4 in
    record {
      key_some = g.key_some;
      key_short = omega (arith, g.key_short);
      key_small = g.key_small;
      value_some = omega (arith, length-take size i.value, long);
      value_short = omega (arith, length-take size i.value, g.value_short);
      value_small = Small-take size i.value g.value_small;
      expiry_small = worth (drop size i.value) (Small-drop size i.value g.value_small);
      no_expiry = λ e. absurd cc;
    }
  where
    right_of : (a b : Bool) → a ≡ false → (a || b) ≡ true → b ≡ true
    right_of true b e h = absurd cc
    right_of false b e h = h

item_packs : (flag : Bool) (n : ℕ) (m : Map) (i : Item) → n ≤ largest → GoodItem n i → has_room_for_expiry flag i ≡ true → Packable flag m → Packable flag (with_item flag m i)
item_packs flag n m i le g h p = go (length i.value == 0) refl
  where
    removed : (b : Bool) (q : List ℕ) (d : ValueUntil) → cond b None (fin.get m q) ≡ Some d → fin.get m q ≡ Some d
    removed true q d e = absurd cc
    removed false q d e = e

    put : (q : List ℕ) (d : ValueUntil) → (length i.value == 0) ≡ false → (b : Bool) → eq_by_cmp order q i.key ≡ b → cond b (Some (unstored flag i.value)) (fin.get m q) ≡ Some d → Packs flag q d
    put q d some true t e =
        let value : unstored flag i.value ≡ d = cc in
        subst (λ k. Packs flag k d) (sym (same_keys q i.key (is_equal _ t))) (subst (Packs flag i.key) value (unstored_packs flag n i le g h some))
    put q d some false t e = p q d e

    go : (b : Bool) → (length i.value == 0) ≡ b → Packable flag (cond b (fin.remove m i.key) (fin.insert m i.key (unstored flag i.value)))
    go true z q d e = p q d (removed (eq_by_cmp order q i.key) q d (sym (fin.get-remove nat_list_cmp_total m i.key q) ∙ e))
    go false some q d e = put q d some (eq_by_cmp order q i.key) refl (sym (fin.get-insert nat_list_cmp_total m i.key (unstored flag i.value) q) ∙ e)

pub items_pack : (flag : Bool) (n : ℕ) (items : List Item) (m : Map) → n ≤ largest → AllFit flag n items → Packable flag m → Packable flag (with_items flag m items)
items_pack flag n [] m le g p = p
items_pack flag n (i ∷ items) m le g p = items_pack flag n items (with_item flag m i) le g.2 (item_packs flag n m i le g.0 g.1 p)

-- what is read from a payload can be packed again
pub greedy_packs : (flag : Bool) (bytes : List ℕ) → Small bytes → length bytes ≤ largest → Packable flag (greedy_map flag bytes)
greedy_packs flag bytes s le =
    items_pack flag (length bytes) (filter (has_room_for_expiry flag) (greedy_items bytes)) fin.empty le (fit_filtered flag (length bytes) (greedy_items bytes) (read_good bytes s)) (packable_empty flag)

pub read_packs : (flag : Bool) (bytes : List ℕ) (m : Map) → Small bytes → length bytes ≤ largest → option_and_then (map_of flag) (items_of bytes) ≡ Some m → Packable flag m
read_packs flag bytes m s le e = whole (length (read_payload bytes).1 == 0) e
  where
    items : List Item
    items = (read_payload bytes).0

    fits : (b : Bool) → list_all (has_room_for_expiry flag) (read_payload bytes).0 ≡ b → cond b (Some (with_items flag fin.empty (read_payload bytes).0)) None ≡ Some m → Packable flag m
    fits true t f =
        let is : with_items flag fin.empty (read_payload bytes).0 ≡ m = cc in
        subst (Packable flag) is (items_pack flag (length bytes) (read_payload bytes).0 fin.empty le (fit_all flag (length bytes) (read_payload bytes).0 (read_good bytes s) t) (packable_empty flag))
    fits false t f = absurd cc

    whole : (b : Bool) → option_and_then (map_of flag) (cond b (Some (read_payload bytes).0) None) ≡ Some m → Packable flag m
    whole true f = fits (list_all (has_room_for_expiry flag) (read_payload bytes).0) refl f
    whole false f = absurd cc

-- the item of an entry
abbrev item_at : Bool → Entry → Item
item_at flag e = record { key = e.0; value = stored flag e.1 }

stored_length : (flag : Bool) (d : ValueUntil) → length d.value ≤ length (stored flag d) → Unit {0}
stored_length flag d h = tt

stored_bounds : (flag : Bool) (d : ValueUntil) → (length d.value ≤ length (stored flag d)) × (length (stored flag d) ≤ length d.value + 4)
stored_bounds true d = let e = length-append d.value (to_le_bytes w32 d.expiry) in (omega (arith, e), omega (arith, e))
stored_bounds false d = let e = length-append d.value [] in (omega (arith, e), omega (arith, e))

units_of : (flag : Bool) (es : List Entry) → AllPack flag es → Units (flat_map (λ e. put_item flag e.0 e.1) es) (map (λ e. record { key = e.0; value = stored flag e.1 }) es)
units_of flag [] a = none
units_of flag (e ∷ es) a =
    let rest = flat_map (λ e. put_item flag e.0 e.1) es in
    let k = shortest (length e.0) in
    let v = shortest (length (stored flag e.1)) in
    let p = a.0 in
    let b = stored_bounds flag e.1 in
    one {bytes = put_item flag e.0 e.1 ++ rest} {key_text = k} {key = e.0} {value_text = v} {value = stored flag e.1} {rest = rest}
    (ap (λ l. l ++ rest) (sym (append_assoc (k ++ e.0) v (stored flag e.1))))
    (shortest_spells (length e.0) (omega (arith, p.key_short))) p.key_some (shortest_spells (length (stored flag e.1)) (omega (arith, p.value_short, b.1)))
    (units_of flag es a.1)

heading_spells : Spells heading 16777215
heading_spells =
    record {
      chain = (omega arith, omega arith, (omega arith, omega arith, (omega arith, omega arith, omega arith)));
      most = omega arith;
      value = refl;
      below = omega arith;
    }

packed_items : (flag : Bool) (m : Map) → Packable flag m → items_of (packed flag m) ≡ Some (map (λ e. record { key = e.0; value = stored flag e.1 }) (fin.entries m))
unfolding packed
packed_items flag m p =
    payload_read (begun {text = heading} {rest = flat_map (λ e. put_item flag e.0 e.1) (fin.entries m)} 16777215 refl heading_spells (units_of flag (fin.entries m) (all_pack flag m p)))

-- an entry's item gives its entry
item_again : (flag : Bool) (m : Map) (e : Entry) → Packs flag e.0 e.1 → with_item flag m (item_at flag e) ≡ with_entry m e
item_again flag m e p =
    let b = stored_bounds flag e.1 in
    rw (some_test (length (stored flag e.1)) (omega (arith, b.0, p.value_some))) (ap (fin.insert m e.0) (unstored-stored flag e.1 p.expiry_small p.no_expiry))
  where
    some_test : (n : ℕ) → 0 < n → (n == 0) ≡ false
    some_test n h = grind (arith, nat_tests)

items_again : (flag : Bool) (es : List Entry) (m : Map) → AllPack flag es → with_items flag m (map (λ e. record { key = e.0; value = stored flag e.1 }) es) ≡ fold with_entry m es
items_again flag [] m a = refl
items_again flag (e ∷ es) m a =
    ap (λ n. with_items flag n (map (λ e. record { key = e.0; value = stored flag e.1 }) es)) (item_again flag m e a.0) ∙ items_again flag es (with_entry m e) a.1

items_have : (flag : Bool) (es : List Entry) → AllPack flag es → list_all (has_room_for_expiry flag) (map (λ e. record { key = e.0; value = stored flag e.1 }) es) ≡ true
items_have flag [] a = refl
items_have flag (e ∷ es) a = both _ _ (one_has flag e.1 a.0.value_some) (items_have flag es a.1)
  where
    both : (a b : Bool) → a ≡ true → b ≡ true → (a && b) ≡ true
    both true b e f = f
    both false b e f = absurd cc

    right : (a b : Bool) → b ≡ true → (a || b) ≡ true
    right true b e = refl
    right false b e = e

    test : (n : ℕ) → 4 < n → nat_lt 4 n ≡ true
    test n h = grind (arith, nat_tests)

    one_has : (flag : Bool) (d : ValueUntil) → 0 < length d.value → has_room_for_expiry flag (record { key = e.0; value = stored flag d }) ≡ true
    one_has false d h = refl
    one_has true d h = right (length (stored true d) == 0) (nat_lt 4 (length (stored true d))) (test (length (stored true d)) (omega (arith, length-append d.value (to_le_bytes w32 d.expiry), h)))

-- a map that can be packed is read from its payload
pub packed_map : (flag : Bool) (m : Map) → Packable flag m → option_and_then (map_of flag) (items_of (packed flag m)) ≡ Some m
packed_map flag m p =
    let a = all_pack flag m p in
    rw (packed_items flag m p) (rw (items_have flag (fin.entries m) a) (ap Some (items_again flag (fin.entries m) fin.empty a ∙ refolded m)))

-- the same in the words of the definitions
packs_of : (flag : Bool) (key : List ℕ) (d : ValueUntil) → IsPackablePair flag key d → Packs flag key d
packs_of flag key d p =
    record {
      key_some = p.key_some;
      key_short = omega (arith, p.key_short);
      key_small = Small-from key p.key_bytes;
      value_some = p.value_some;
      value_short = omega (arith, p.value_short);
      value_small = Small-from d.value p.value_bytes;
      expiry_small = p.expiry_small;
      no_expiry = p.no_expiry;
    }

pub read_again : (flag : Bool) (m : Map) → IsPackable flag m → map_in flag (packed flag m) ≡ Some m
read_again flag m p = packed_map flag m (λ key d e. packs_of flag key d (p key d e))

-- payloads are bytes
shortest_small : (k n : ℕ) → Small (shortest_in k n)
shortest_small zero n = tt
shortest_small (suc k) n = go (nat_lt n 128) refl (shortest_small k (n / 128))
  where
    go : (b : Bool) → nat_lt n 128 ≡ b → Small (shortest_in k (n / 128)) → Small (cond b (n ∷ []) ((n % 128 + 128) ∷ shortest_in k (n / 128)))
    go true e s = let h : n < 128 = grind (arith, nat_tests) in (omega (arith, h), tt)
    go false e s = (omega arith, s)

pub text_small : (bytes : List ℕ) → Small bytes → Small (length_prefixed bytes)
unfolding shortest
text_small bytes s = Small-append (shortest_in 5 (length bytes)) bytes (shortest_small 5 (length bytes)) s

le_small : (n : ℕ) → Small (to_le_bytes w32 n)
le_small n = (omega arith, (omega arith, (omega arith, (omega arith, tt))))

pub stored_small : (flag : Bool) (d : ValueUntil) → Small d.value → Small (stored flag d)
stored_small true d s = Small-append d.value (to_le_bytes w32 d.expiry) s (le_small d.expiry)
stored_small false d s = Small-append d.value [] s tt

pub put_small : (flag : Bool) (key : List ℕ) (d : ValueUntil) → Small key → Small d.value → Small (put_item flag key d)
put_small flag key d k v = Small-append (length_prefixed key) (length_prefixed (stored flag d)) (text_small key k) (text_small (stored flag d) (stored_small flag d v))

entries_small : (flag : Bool) (es : List Entry) → AllPack flag es → Small (flat_map (λ e. put_item flag e.0 e.1) es)
entries_small flag [] a = tt
entries_small flag (e ∷ es) a = Small-append (put_item flag e.0 e.1) (flat_map (λ e. put_item flag e.0 e.1) es) (put_small flag e.0 e.1 a.0.key_small a.0.value_small) (entries_small flag es a.1)

pub packed_small : (flag : Bool) (m : Map) → Packable flag m → Small (packed flag m)
unfolding packed
packed_small flag m p =
    Small-append heading (flat_map (λ e. put_item flag e.0 e.1) (fin.entries m)) (omega arith, (omega arith, (omega arith, (omega arith, tt)))) (entries_small flag (fin.entries m) (all_pack flag m p))
