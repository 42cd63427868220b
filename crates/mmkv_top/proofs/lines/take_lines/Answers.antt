use Rattle.std.proofs.Common.{subst, sym, ◌∙◌, List, ℕ}
use Rattle.std.specs.Prelude.{map}
use Rattle.mmkv_top.specs.State.{play_state}
use Rattle.script_lang.specs.Played.{stock_of}
use Rattle.script_lang.specs.Script.{texts_of, without_feed}
use Rattle.mmkv_top.specs.Progress.{IsTaken, TextHalts, TakesText}
use Rattle.world.proofs.Loaded.{came_join, came_still}
use Rattle.mmkv_top.proofs.Taking.{none_taken, one_taken, stops_there}
use Rattle.mmkv_top.proofs.lines.take_lines.Goals as goal

pub returns-in-Err-clause-halted : goal.returns-in-Err-clause-halted
returns-in-Err-clause-halted g c =
    let stock = stock_of c.args.handlers.now in
    let start = c.args.world.now.core.region.start in
    let texts = texts_of c.args.script.now in
    let p = play_state c.loop-line.world.core c.loop-line.text.items in
    let taken = subst (λ (x : List (List ℕ)). IsTaken stock (stock_of c.loop-line.handlers) start texts (map without_feed x) p c.loop-line.count) c.in-Some.ensures.steps c.loop-line.invariant.1 in
    stops_there stock (stock_of c.loop-line.handlers) start texts (map without_feed c.next.new.self) (without_feed c.in-Some.line.now) p c.loop-line.count c.in-Err.why c.loop-line.invariant.0 taken
    (subst (λ x. TextHalts stock start taken.parts c.loop-line.count x c.in-Err.why) c.text_of.ensures (c.in-Err.ensures.taken stock start taken.parts taken.at))

pub loop-line-preserved : goal.loop-line-preserved
loop-line-preserved g c =
    let stock = stock_of c.args.handlers.now in
    let start = c.args.world.now.core.region.start in
    let texts = texts_of c.args.script.now in
    let p = play_state c.loop-line.world.core c.loop-line.text.items in
    let q = play_state c.take_text.new.world.core c.take_text.new.text.items in
    let taken = subst (λ (x : List (List ℕ)). IsTaken stock (stock_of c.loop-line.handlers) start texts (map without_feed x) p c.loop-line.count) c.in-Some.ensures.steps c.loop-line.invariant.1 in (
      c.take_text.ensures.sound,
      one_taken stock (stock_of c.loop-line.handlers) (stock_of c.take_text.new.handlers) start texts (map without_feed c.next.new.self) (without_feed c.in-Some.line.now) p q c.loop-line.count taken
          (subst (λ x. TakesText stock (stock_of c.take_text.new.handlers) start taken.parts c.loop-line.count x q) c.text_of.ensures (c.in_default.ensures.taken stock start taken.parts taken.at)),
      came_join c.args.world.now.core c.loop-line.world.core c.take_text.new.world.core c.loop-line.invariant.2 c.take_text.ensures.moved,
      c.take_text.ensures.fresh,
    )

pub loop-line-init : goal.loop-line-init
loop-line-init g c =
    let stock = stock_of c.args.handlers.now in
    let texts = texts_of c.args.script.now in
    let p = play_state c.args.world.now.core c.args.text.now.items in
    let lines = c.into_iter-line-iterator.ensures.into_iter_gives ∙ c.lines_with_terminator-line-items.ensures.value in (
      c.requires.sound,
      subst (λ x. IsTaken stock stock c.args.world.now.core.region.start texts (map without_feed x) p 0) (sym lines) (none_taken stock stock c.args.world.now.core.region.start texts p c.requires.at),
      came_still c.args.world.now.core,
      c.requires.fresh,
    )

pub returns-in-Err-clause-moved : goal.returns-in-Err-clause-moved
returns-in-Err-clause-moved g c = came_join c.args.world.now.core c.loop-line.world.core c.take_text.new.world.core c.loop-line.invariant.2 c.take_text.ensures.moved

pub returns-clause-moved : goal.returns-clause-moved
returns-clause-moved g c = c.loop-line.invariant.2
