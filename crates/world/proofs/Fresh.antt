-- A world without openers.
use Rattle.std.proofs.Common.{◌≡◌, ℕ, zero, suc, ◌+◌, ◌<◌, ◌≤◌, Bool, true, false, not, List, [], ◌∷◌, length, refl, sym, ap, ◌∙◌, subst, arith, replicate}
use Rattle.std.specs.Prelude.{◌&&◌, if◌then◌else◌}
use Rattle.std.proofs.lemmas.List.Elements.{All-nil}
use Rattle.change_log.specs.declared.call.Answer.{Answer}
use Rattle.region_words.specs.Lawful.{Lawful}
use Rattle.region_words.specs.Local.{Local, Seated, account_of, no_account, reserved_in}
use Rattle.region_words.specs.Past.{NoneOf, has_died, locks_after}
use Rattle.region_words.specs.Region.{IsAccepted}
use Rattle.region_words.specs.Share.{lock_of, places_for, places_kept, unlock_place}
use Rattle.region_words.specs.declared.account.Account.{Account}
use Rattle.region_words.specs.declared.event.Event.{Event}
use Rattle.region_words.proofs.Totals.{total_none}
use Rattle.opener.specs.State.{OpenerState}
use Rattle.world.specs.World.{IsWorld}

-- nobody has been let in
none_in : (n who : ℕ) → (account_of (replicate n no_account) who).admitted ≡ false
none_in zero who = refl
none_in (suc n) zero = refl
none_in (suc n) (suc who) = none_in n who

-- so no place is kept
no_places : (accounts : List Account) (reserved : ℕ → ℕ) (past : List Event) → accounts ≡ replicate 65 no_account → places_kept (λ w. (account_of accounts w).admitted) reserved past ≡ 0
no_places accounts reserved past fresh =
    total_none (places_for (λ w. (account_of accounts w).admitted) reserved past) 64
    (λ w. go (account_of accounts w).admitted (has_died past w) (1 + unlock_place (lock_of (locks_after past) w) + reserved w) (ap (λ all. (account_of all w).admitted) fresh ∙ none_in 65 w))
  where
    go : (a d : Bool) (places : ℕ) → a ≡ false → (if a && not d then places else 0) ≡ 0
    go false d places e = refl
    go true d places e = absurd cc

pub world_of_none : (l : Local) (s : Seated) → s ≡ record { who = 1; region = l } → l.past ≡ [] → l.accounts ≡ replicate 65 no_account → IsAccepted l.start → IsWorld s.region [] []
world_of_none l s is past accounts accepted =
    subst (λ (t : Seated). IsWorld t.region [] []) (sym is)
    (record {
      few = omega arith;
      accepted = accepted;
      lawful = subst (Lawful l.start) (sym past) tt;
      each = λ i o at. absurd cc;
      unused = λ who above. record {
        outside = ap (λ (all : List Account). (account_of all who).admitted) accounts ∙ none_in 65 who;
        silent = subst (NoneOf who) (sym past) tt;
        unanswered = refl;
      };
      theirs = All-nil (λ (a : Answer). (1 ≤ a.who) × (a.who ≤ 0));
      roomy = omega (arith, no_places l.accounts (reserved_in l) l.past accounts, ap length past);
    })

-- where no opener was opened, nothing was made
pub nothing_made : (l : Local) (openers : List OpenerState) (answers : List Answer) → openers ≡ [] → IsWorld l openers answers → l.past ≡ []
nothing_made l openers answers none world = go l.past world.lawful (λ who some. (world.unused who (omega (arith, ap length none, some))).silent)
  where
    go : (past : List Event) → Lawful l.start past → ((who : ℕ) → 0 < who → NoneOf who past) → past ≡ []
    go [] lawful none = refl
    go (e ∷ past) lawful none = absurd ((none e.who (omega (arith, lawful.1.maker.0))).0 refl)
