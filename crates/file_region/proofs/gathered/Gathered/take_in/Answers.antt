use Rattle.std.proofs.Common.{◌≡◌, ◌+◌, [], ◌∷◌, ◌++◌, length, ap, ◌∙◌, arith}
use Rattle.std.proofs.lemmas.Bool.Decides.{nat_tests}
use Rattle.file_region.specs.Pages.{placed, stores_of}
use Rattle.file_region.proofs.Runs.{placed-append, placed-none}
use Rattle.file_region.proofs.gathered.Gathered.take_in.Goals as goal

pub returns-then-not-is_next-clause-first : goal.returns-then-not-is_next-clause-first
returns-then-not-is_next-clause-first c none =
    let empty = placed-none c.self.inside.first c.self.inside.words.items (ap stores_of c.self.view_is ∙ none) in
    grind (arith, nat_tests, c.is_empty.ensures, c.if-is_empty.false, c.self.inside.words.ok, ap length empty)

pub returns-clause-stores : goal.returns-clause-stores
returns-clause-stores c =
    let g = c.self.inside in
    let next : g.first + length g.words.items ≡ c.args.word =
    ap (λ run. run.first + length run.words) c.self.view_is
    ∙ grind (arith, nat_tests, c.is_next.ensures, c.if-not-is_next.false) in
    ap (placed g.first) c.push_reserved.ensures.items
    ∙ placed-append g.first g.words.items c.args.value
    ∙ ap (λ n. placed g.first g.words.items ++ (n, c.args.value) ∷ []) next
    ∙ ap (λ stores. stores ++ (c.args.word, c.args.value) ∷ []) (ap stores_of c.self.view_is)
