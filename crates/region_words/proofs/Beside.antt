-- No call of a seat is counted for another opener.
use base.Stored.{coded_list, coded_ℕ}
use Rattle.std.proofs.Common.{◌≡◌, ◌≢◌, ℕ, zero, suc, ◌≤◌, ◌⊎◌, true, false, cond, eqb, List, ◌∷◌, refl, sym, ◌∙◌, inl, inr, arith, subst}
use Rattle.std.proofs.lemmas.Bool.Decides.{eqb_tells}
use Rattle.lock_rules.specs.declared.limits.TheConstants.{MOST_OPENERS}
use Rattle.region_words.specs.Local.{Local, account_of, loads_beside, seat_state}
use Rattle.region_words.specs.declared.account.Account.{Account}

-- where the accounts of the others are the same, so are their loads
pub beside_same : (who : ℕ) (a b : List Account) (n : ℕ) → ((w : ℕ) → w ≢ who → account_of b w ≡ account_of a w) → loads_beside who b n ≡ loads_beside who a n
unfolding loads_beside
beside_same who a b zero same = refl
beside_same who a b (suc n) same = λ i. here (eqb_tells (suc n) who) i ∷ beside_same who a b n same i
  where
    here : ((eqb (suc n) who ≡ true) × (suc n ≡ who)) ⊎ ((eqb (suc n) who ≡ false) × (suc n ≢ who)) →
        cond (eqb (suc n) who) 0 (account_of b (suc n)).loads ≡ cond (eqb (suc n) who) 0 (account_of a (suc n)).loads
    here (inl own) = rw own.0 refl
    here (inr apart) = λ i. cond (eqb (suc n) who) 0 (same (suc n) apart.1 i).loads

-- and where their loads are the same, so are those of each
beside_each : (who : ℕ) (a b : List Account) (n w : ℕ) → 1 ≤ w → w ≤ n → w ≢ who → loads_beside who b n ≡ loads_beside who a n → (account_of b w).loads ≡ (account_of a w).loads
unfolding loads_beside
beside_each who a b zero w least most apart same = absurd (omega (arith, least, most))
beside_each who a b (suc n) w least most apart same = go (λ below. beside_each who a b n w least below apart rests) (eqb_tells (suc n) w)
  where
    heads : cond (eqb (suc n) who) 0 (account_of b (suc n)).loads ≡ cond (eqb (suc n) who) 0 (account_of a (suc n)).loads
    heads = cc

    rests : loads_beside who b n ≡ loads_beside who a n
    rests = cc

    own : (suc n ≢ who) → ((eqb (suc n) who ≡ true) × (suc n ≡ who)) ⊎ ((eqb (suc n) who ≡ false) × (suc n ≢ who)) → (account_of b (suc n)).loads ≡ (account_of a (suc n)).loads
    own other (inl is) = absurd (other is.1)
    own other (inr is) = subst (λ c. cond c 0 (account_of b (suc n)).loads ≡ cond c 0 (account_of a (suc n)).loads) is.0 heads

    go : (w ≤ n → (account_of b w).loads ≡ (account_of a w).loads) → ((eqb (suc n) w ≡ true) × (suc n ≡ w)) ⊎ ((eqb (suc n) w ≡ false) × (suc n ≢ w)) → (account_of b w).loads ≡ (account_of a w).loads
    go front (inl is) = subst (λ v. (account_of b v).loads ≡ (account_of a v).loads) is.1 (own (λ e. apart (sym is.1 ∙ e)) (eqb_tells (suc n) who))
    go front (inr is) = let ne = is.1 in front (omega (arith, most, ne))

-- what a seat's calls leave of the loads of another opener
pub others_loads : (l k : Local) (who w : ℕ) → (seat_state (record { who = who; region = k })).tag ≡ (seat_state (record { who = who; region = l })).tag → 1 ≤ w → w ≤ 64 → w ≢ who →
    (account_of k.accounts w).loads ≡ (account_of l.accounts w).loads
others_loads l k who w same least most apart =
    beside_each who l.accounts k.accounts MOST_OPENERS w least most apart
    ((coded_list coded_ℕ).inj (loads_beside who k.accounts MOST_OPENERS) (loads_beside who l.accounts MOST_OPENERS) same)
