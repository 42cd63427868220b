use Rattle.std.proofs.Common.{ap, length, subst, sym, ◌∙◌, List, ℕ}
use Rattle.std.specs.Prelude.{map}
use Rattle.script_lang.specs.Played.{stock_of}
use Rattle.script_lang.specs.Script.{texts_of, without_feed}
use Rattle.race_core.specs.Reading.{IsTaken, TakesText, TextHalts}
use Rattle.race_core.proofs.Texts.{none_read, none_taken, one_taken, stops_there}
use Rattle.race_core.proofs.script.take_lines.Goals as goal

pub returns-in-Err-clause-halted : goal.returns-in-Err-clause-halted
returns-in-Err-clause-halted g c =
    let stock = stock_of c.args.stock.now in
    let mid = stock_of c.loop-line.stock in
    let texts = texts_of c.args.script.now in
    let taken = subst (λ (x : List (List ℕ)). IsTaken stock mid texts (map without_feed x) c.loop-line.field.openers.items c.loop-line.count) c.in-Some.ensures.steps c.loop-line.invariant.0 in
    stops_there stock mid texts (map without_feed c.next.new.self) (without_feed c.in-Some.line.now) c.loop-line.field.openers.items c.loop-line.count c.in-Err.why taken
    (subst (λ x. TextHalts stock taken.lines x c.in-Err.why) c.text_of.ensures (c.in-Err.ensures.taken stock taken.lines taken.counted taken.at))

pub loop-line-init : goal.loop-line-init
loop-line-init g c =
    let stock = stock_of c.args.stock.now in
    let texts = texts_of c.args.script.now in
    let openers = c.args.field.now.openers.items in
    let lines = c.into_iter-line-iterator.ensures.into_iter_gives ∙ c.lines_with_terminator-line-items.ensures.value in (
      subst (λ x. IsTaken stock stock texts (map without_feed x) openers 0) (sym lines) (none_taken stock stock texts openers (none_read stock openers c.requires.none.0)),
      c.requires.fresh,
      c.requires.handlers,
      ap length c.requires.none.1 ∙ sym (ap length c.requires.none.0),
    )

pub loop-line-preserved : goal.loop-line-preserved
loop-line-preserved g c =
    let stock = stock_of c.args.stock.now in
    let mid = stock_of c.loop-line.stock in
    let texts = texts_of c.args.script.now in
    let taken = subst (λ (x : List (List ℕ)). IsTaken stock mid texts (map without_feed x) c.loop-line.field.openers.items c.loop-line.count) c.in-Some.ensures.steps c.loop-line.invariant.0 in (
      one_taken stock mid (stock_of c.take_text.new.stock) texts (map without_feed c.next.new.self) (without_feed c.in-Some.line.now) c.loop-line.field.openers.items c.take_text.new.field.openers.items c.loop-line.count taken
          (subst (λ x. TakesText stock (stock_of c.take_text.new.stock) taken.lines x c.take_text.new.field.openers.items) c.text_of.ensures (c.in_default.ensures.taken stock taken.lines taken.counted taken.at)),
      c.take_text.ensures.fresh,
      c.in_default.ensures.handlers,
      c.in_default.ensures.pairs c.loop-line.invariant.3,
    )
