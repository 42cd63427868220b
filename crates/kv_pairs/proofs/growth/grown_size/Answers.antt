use Rattle.std.proofs.Common.{◌≡◌, ◌+◌, ◌*◌, ◌/◌, sym, ap, ◌∙◌, arith, max, Some}
use Rattle.kv_pairs.specs.Growth.{grown_to}
use Rattle.kv_pairs.proofs.Doubling.{no_room, room}
use Rattle.kv_pairs.proofs.growth.grown_size.Goals as goal

pub returns-then-needs-gt-LARGEST_FILE-clause-value : goal.returns-then-needs-gt-LARGEST_FILE-clause-value
returns-then-needs-gt-LARGEST_FILE-clause-value c = sym (no_room c.args.packed c.args.need c.args.pairs c.args.file (omega arith))

pub returns-clause-value : goal.returns-clause-value
returns-clause-value c =
    let needs = 4 + c.args.packed + c.args.need in
    let share : c.max.result ≡ max 1 c.args.pairs = omega (arith, c.max.ensures) in
    let more : c.max-2.result ≡ max 8 ((c.args.pairs + 1) / 2) = omega (arith, c.max-2.ensures) in
    ap Some (c.doubled.ensures.value ∙ (λ i. grown_to (needs + needs / share i * more i) (c.from.ensures i)))
    ∙ sym (room c.args.packed c.args.need c.args.pairs c.args.file (omega arith))
