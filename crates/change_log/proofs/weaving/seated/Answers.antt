use Rattle.std.proofs.Common.{◌≡◌, ◌++◌, ap, sym, ◌∙◌, subst}
use Rattle.std.specs.Prelude.{map}
use Rattle.std.specs.List.Sorted.{IsPermutation}
use Rattle.change_log.specs.History.{IsWoven}
use Rattle.change_log.specs.Seats.{entry_of, read_seats, change_seats}
use Rattle.change_log.proofs.Seated.{woven}
use Rattle.change_log.proofs.Sorting.{sorted_seats}
use Rattle.change_log.proofs.weaving.seated.Goals as goal

pub returns : goal.returns
returns c =
    let begun : c.seat_reads.new.seats.items ≡ read_seats 0 c.args.answers.now = c.in_ok-seat_reads.ensures ∙ ap (λ l. l ++ read_seats 0 c.args.answers.now) c.in_ok-seats.ensures.items in
    let all : c.seat_changes.new.seats.items ≡ read_seats 0 c.args.answers.now ++ change_seats 0 c.args.changes.now = c.in_ok-seat_changes.ensures ∙ ap (λ l. l ++ change_seats 0 c.args.changes.now) begun in
    let moved = subst (λ l. IsPermutation l c.sort.new.self.items) all c.in_ok-sort.ensures.permutation in
    subst (IsWoven c.args.changes.now c.args.answers.now) (sym (c.of_vec.ensures ∙ c.in_ok-entries_of.ensures ∙ ap (map entry_of) c.deref.ensures.value))
    (woven c.args.changes.now c.args.answers.now c.sort.new.self.items (sorted_seats c.args.changes.now c.args.answers.now c.sort.new.self.items moved c.in_ok-sort.ensures.sorted) c.requires.places)
