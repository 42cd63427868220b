use Rattle.std.proofs.Common.{rules, ◌≡◌, ◌<◌, ◌^◌, [], ◌∷◌, List, Option, Some, sym, subst}
use Rattle.atomic_table.specs.Table.{opening}
use Rattle.region_words.specs.Local.{Local, Seated, IsLocal}
use Rattle.step_desk.specs.Mirrors.{checksum_after, sequence_after}
use Rattle.step_desk.specs.Rule.{TableIs, newcomer}
use Rattle.step_desk.specs.Steps.{M}
use Rattle.step_desk.specs.Passes.{IsShown, PassIs}
use Rattle.step_desk.proofs.Passing.{begins}
use Rattle.step_desk.proofs.Turning.{mirror_is}
use Rattle.step_desk.proofs.Keeping.{first_pass}
use Rattle.step_desk.proofs.table.Desk.new.Goals as goal

pub new-requires : goal.new-requires
new-requires c =
    let same : c.of.result.value ≡ c.args.region = c.of.ensures in
    let items : c.push.new.self.items ≡ Some c.args.region ∷ [] = search rules in
    let shown = c.shown_of-shown.result in
    let s = subst (λ (x : Seated). IsShown shown.checksum shown.sequence shown.changes shown.events x.region.start x.region.past) c.seat-seat.ensures c.shown_of-shown.ensures in
    subst (λ (t : Local × List (Option Local)). TableIs t.0 c.args.seats (opening (0 ∷ 0 ∷ c.mirror-checksum.result ∷ c.mirror-sequence.result ∷ []) t.1 (newcomer t.0 c.args.seats))) (λ i. (sym same i, sym items i))
    (begins c.args.region c.args.seats c.mirror-checksum.result c.mirror-sequence.result c.good.ensures c.requires.least c.requires.empty (mirror_is checksum_after _ _ _ _ _ c.mirror-checksum.ensures s.checksum_is s.changes_are) (subst (λ k. k < 2 ^ 32) s.checksum_is s.checksum_fits)
    (mirror_is sequence_after _ _ _ _ _ c.mirror-sequence.ensures s.sequence_is s.changes_are) (subst (λ k. k < 2 ^ 32) s.sequence_is s.sequence_fits))

pub first-requires : goal.first-requires
first-requires c =
    let same : c.of.result.value ≡ c.args.region = c.of.ensures in
    subst (λ (m : M). PassIs m 1 0) (sym c.in-Ok.ensures.ok.4) (first_pass c.of.result.value c.args.seats (subst IsLocal (sym same) c.good.ensures) c.requires.most)
