use Rattle.std.proofs.Common.{[], true, false, refl, sym, subst}
use Rattle.region_words.specs.Apart.{recorded_payloads}
use Rattle.death_model.specs.FilesInside.{IsReadable, region_in}
use Rattle.death_model.specs.SeenInside.{Tells, meant, plain_checksum}
use Rattle.death_model.proofs.Looks.{answered}
use Rattle.death_model.proofs.Ranges.{stays_readable}
use Rattle.death_model.proofs.Runs.{clashes, clashes_later, goes_on}
use Rattle.death_model.proofs.run.Run.step.Goals as goal

pub returns-then-not-branch-clause-follows : goal.returns-then-not-branch-clause-follows
returns-then-not-branch-clause-follows c =
    let old = region_in c.args.self.now.files in
    let now = region_in c.apply.new.self in
    let first = c.in_ok-look_again.ensures old (record { in_range = c.requires.range; after_is = c.in_ok-apply.ensures }) (sym c.sizes-before.ensures) in
    clashes c.args.self.now c.args.event.now now c.in_ok-apply.ensures c.look_again.new.self
    (answered (recorded_payloads old) c.args.self.now.seen c.look_again.new.self (recorded_payloads now) c.in_ok-look_again.field-0 false c.if-not-branch.true first)

pub returns-then-not-branch-clause-readable : goal.returns-then-not-branch-clause-readable
returns-then-not-branch-clause-readable c =
    subst IsReadable (sym c.in_ok-apply.ensures) (stays_readable (region_in c.args.self.now.files) c.args.event.now.what c.requires.range c.requires.readable)

pub returns-then-not-branch-2-clause-follows : goal.returns-then-not-branch-2-clause-follows
returns-then-not-branch-2-clause-follows c =
    let old = region_in c.args.self.now.files in
    let now = region_in c.apply.new.self in
    let first = c.in_ok-look_again.ensures old (record { in_range = c.requires.range; after_is = c.in_ok-apply.ensures }) (sym c.sizes-before.ensures) in
    let second =
    subst (λ sum. Tells [] c.look_again.new.self c.look_at_meant.new.self (meant now c.args.self.now.last_word sum) c.in_ok-look_at_meant.field-0) c.plain_checksum-checksum.ensures c.in_ok-look_at_meant.ensures in
    clashes_later c.args.self.now c.args.event.now now c.in_ok-apply.ensures c.look_again.new.self c.look_at_meant.new.self
    (answered (recorded_payloads old) c.args.self.now.seen c.look_again.new.self (recorded_payloads now) c.in_ok-look_again.field-0 true c.if-not-branch.false first)
    (answered [] c.look_again.new.self c.look_at_meant.new.self (meant now c.args.self.now.last_word (plain_checksum c.args.event.now.what)) c.in_ok-look_at_meant.field-0 false c.if-not-branch-2.true second)

pub returns-then-not-branch-2-clause-readable : goal.returns-then-not-branch-2-clause-readable
returns-then-not-branch-2-clause-readable c =
    subst IsReadable (sym c.in_ok-apply.ensures) (stays_readable (region_in c.args.self.now.files) c.args.event.now.what c.requires.range c.requires.readable)

pub returns-clause-follows : goal.returns-clause-follows
returns-clause-follows c =
    let old = region_in c.args.self.now.files in
    let now = region_in c.apply.new.self in
    let first = c.in_ok-look_again.ensures old (record { in_range = c.requires.range; after_is = c.in_ok-apply.ensures }) (sym c.sizes-before.ensures) in
    let second =
    subst (λ sum. Tells [] c.look_again.new.self c.look_at_meant.new.self (meant now c.args.self.now.last_word sum) c.in_ok-look_at_meant.field-0) c.plain_checksum-checksum.ensures c.in_ok-look_at_meant.ensures in
    goes_on c.args.self.now c.args.event.now now c.in_ok-apply.ensures (record { files = c.apply.new.self; last_word = c.last_word-self.result; seen = c.look_at_meant.new.self }) c.look_again.new.self
    refl c.last_word-self.ensures
    (answered (recorded_payloads old) c.args.self.now.seen c.look_again.new.self (recorded_payloads now) c.in_ok-look_again.field-0 true c.if-not-branch.false first)
    (answered [] c.look_again.new.self c.look_at_meant.new.self (meant now c.args.self.now.last_word (plain_checksum c.args.event.now.what)) c.in_ok-look_at_meant.field-0 true c.if-not-branch-2.false second)

pub returns-clause-readable : goal.returns-clause-readable
returns-clause-readable c =
    subst IsReadable (sym c.in_ok-apply.ensures) (stays_readable (region_in c.args.self.now.files) c.args.event.now.what c.requires.range c.requires.readable)
