use Rattle.std.proofs.Common.{◌≡◌, ◌+◌, ◌++◌, ◌∷◌, [], true, length, sym, ap, ◌∙◌, subst, arith}
use Rattle.region_words.specs.Local.{Seated, account_of, after_admission, with_account}
use Rattle.opener.specs.Opener.{Tied}
use Rattle.region_words.specs.Local.{seat_state}
use Rattle.world.specs.Moves.{new_opener}
use Rattle.world.specs.World.{IsWorld}
use Rattle.world.proofs.Turns.{is_new_alive, is_new_free, world_opened}
use Rattle.world.proofs.openers.open_one.Goals as goal

pub opener_at-opener-requires-clause-alive : goal.opener_at-opener-requires-clause-alive
opener_at-opener-requires-clause-alive c =
    let openers = c.args.openers.now.items in
    let count : c.len-count.result ≡ length openers = omega (arith, c.len-count.ensures, c.args.openers.now.ok.0) in
    let turned : c.turn_to.new.self ≡ record { who = length openers + 1; region = c.args.seat.now.region } = c.turn_to.ensures ∙ ap (λ n. record { who = n + 1; region = c.args.seat.now.region }) count in
    let let_in : c.admit.new.self ≡ record c.turn_to.new.self { region = with_account c.turn_to.new.self.region (length openers + 1) (after_admission (account_of c.turn_to.new.self.region.accounts (length openers + 1))) } =
    c.in_default.ensures.ok ∙ ap (λ n. record c.turn_to.new.self { region = with_account c.turn_to.new.self.region (n + 1) (after_admission (account_of c.turn_to.new.self.region.accounts (n + 1))) }) count in
    is_new_alive c.args.seat.now.region c.turn_to.new.self c.admit.new.self openers c.args.answers.now.items c.requires turned let_in
    (subst (λ n. (account_of c.admit.new.self.region.accounts (n + 1)).admitted ≡ true) count c.in_default.ensures.admitted)

pub opener_at-opener-requires-clause-free : goal.opener_at-opener-requires-clause-free
opener_at-opener-requires-clause-free c =
    let openers = c.args.openers.now.items in
    let count : c.len-count.result ≡ length openers = omega (arith, c.len-count.ensures, c.args.openers.now.ok.0) in
    let turned : c.turn_to.new.self ≡ record { who = length openers + 1; region = c.args.seat.now.region } = c.turn_to.ensures ∙ ap (λ n. record { who = n + 1; region = c.args.seat.now.region }) count in
    let let_in : c.admit.new.self ≡ record c.turn_to.new.self { region = with_account c.turn_to.new.self.region (length openers + 1) (after_admission (account_of c.turn_to.new.self.region.accounts (length openers + 1))) } =
    c.in_default.ensures.ok ∙ ap (λ n. record c.turn_to.new.self { region = with_account c.turn_to.new.self.region (n + 1) (after_admission (account_of c.turn_to.new.self.region.accounts (n + 1))) }) count in
    is_new_free c.args.seat.now.region c.turn_to.new.self c.admit.new.self openers c.args.answers.now.items c.requires turned let_in

pub returns-clause-world : goal.returns-clause-world
returns-clause-world c =
    let openers = c.args.openers.now.items in
    let count : c.len-count.result ≡ length openers = omega (arith, c.len-count.ensures, c.args.openers.now.ok.0) in
    let turned : c.turn_to.new.self ≡ record { who = length openers + 1; region = c.args.seat.now.region } = c.turn_to.ensures ∙ ap (λ n. record { who = n + 1; region = c.args.seat.now.region }) count in
    let let_in : c.admit.new.self ≡ record c.turn_to.new.self { region = with_account c.turn_to.new.self.region (length openers + 1) (after_admission (account_of c.turn_to.new.self.region.accounts (length openers + 1))) } =
    c.in_default.ensures.ok ∙ ap (λ n. record c.turn_to.new.self { region = with_account c.turn_to.new.self.region (n + 1) (after_admission (account_of c.turn_to.new.self.region.accounts (n + 1))) }) count in
    let number : c.admit.new.self.who ≡ length openers + 1 = ap (λ (s : Seated). s.who) let_in ∙ ap (λ (s : Seated). s.who) turned in
    let new : c.opener_at-opener.result ≡ new_opener (length openers + 1) = c.opener_at-opener.ensures.new ∙ ap new_opener number in
    let items = c.push_within.ensures.items ∙ ap (λ l. l ++ c.opener_at-opener.result ∷ []) c.reserve.ensures.items in
    subst (λ all. IsWorld c.admit.new.self.region all c.args.answers.now.items) (sym (items ∙ ap (λ o. openers ++ o ∷ []) new))
    (world_opened c.args.seat.now.region c.turn_to.new.self c.admit.new.self openers c.args.answers.now.items c.requires turned let_in (omega (arith, count, c.if-count-ge-MOST_OPENERS.false))
    (subst (λ o. Tied o (seat_state c.admit.new.self)) new c.opener_at-opener.ensures.tied))
