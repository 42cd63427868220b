use Rattle.std.proofs.Common.{◌≡◌, ap, ◌∙◌, sym, subst, length}
use Rattle.change_log.specs.Acts.{applied}
use Rattle.change_log.specs.declared.change.Act.TheVariants as act
use Rattle.change_log.specs.declared.change.Change.{Change}
use Rattle.expiring_map.specs.Live.{live_part}
use Rattle.region_words.specs.Rows.{item_of}
use Rattle.appender.specs.Appends.{CanAppend, appending}
use Rattle.write_back.specs.Rewrites.{CanBegin, rewriting}
use Rattle.opener.specs.Plans.{fits_behind}
use Rattle.opener.proofs.Planning.{can_pack, can_append_next, room_plan}
use Rattle.opener.proofs.plan.plan_room.Goals as goal

pub start_rewrite-requires : goal.start_rewrite-requires
start_rewrite-requires c =
    can_pack c.args.image c.drop_expired.new.self c.args.change.maker c.args.now c.args.need c.drop_expired.ensures.after c.requires.image c.requires.most

pub append_to-requires : goal.append_to-requires
append_to-requires c =
    let i = c.args.image in
    let m = c.drop_expired.new.self in
    let change = c.args.change in
    let pack : Change = record { maker = change.maker; act = act.Pack c.args.now } in
    let begun = subst (λ n. CanBegin i.standing m n) c.requires.need c.in_ok-rewriting.ensures.begun in
    let is : c.standing.result ≡ (rewriting i.standing m pack (length (item_of i.standing.flag change.act))).standing =
    c.standing.ensures ∙ ap (λ k. k.standing) c.in_ok-rewriting.ensures.ok ∙ ap (λ n. (rewriting i.standing m pack n).standing) c.requires.need in
    subst (λ s. CanAppend s change) (sym is) (can_append_next i.standing m pack change c.requires.image.standing.file c.requires.appendable begun)

pub returns-clause-ok : goal.returns-clause-ok
returns-clause-ok c =
    let i = c.args.image in
    let change = c.args.change in
    let pack : Change = record { maker = change.maker; act = act.Pack c.args.now } in
    let live = c.drop_expired.ensures.after in
    let need = c.requires.need in
    let short = ap (fits_behind i.standing) (sym need) ∙ c.requires.short in
    let begun = subst (λ n. CanBegin i.standing (live_part i.map c.args.now) n) need (subst (λ m. CanBegin i.standing m c.args.need) live c.in_ok-rewriting.ensures.begun) in
    let left = c.in_ok-appending.ensures in
    room_plan change c.args.now i c.in_ok-rewriting.rewriting c.in_ok-appending.appending c.in_ok-appending.map short c.requires.image.standing.file c.requires.appendable begun
    (c.in_ok-rewriting.ensures.ok ∙ (λ j. rewriting i.standing (live j) pack (need j))) (left.0 ∙ ap (λ s. appending s change) c.standing.ensures) (left.1 ∙ ap (λ m. applied m change.act) live)
