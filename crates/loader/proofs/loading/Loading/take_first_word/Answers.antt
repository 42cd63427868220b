use Rattle.std.proofs.Common.{◌<◌, ◌∙◌, sym, ap, arith, subst}
use Rattle.std.specs.Prelude.{slice_index}
use Rattle.std.proofs.lemmas.Result.{err_from_is_err_and}
use Rattle.loader.specs.FirstWords.{first_answers}
use Rattle.loader.specs.Loads.{Load, HasLoaded, Refuses}
use Rattle.loader.specs.Inside.{load_of}
use Rattle.loader.proofs.Taken.{refused}
use Rattle.loader.proofs.loading.Loading.take_first_word.Goals as goal

pub returns-in_err-self-inside-clause-err : goal.returns-in_err-self-inside-clause-err
returns-in_err-self-inside-clause-err c =
    let p = err_from_is_err_and c.from_residual.result c.from_residual.ensures.1 in
    let stop = c.in_err-self-inside.field-0.0 in
    let few : c.self.inside.first.made < 10 = omega (arith, ap (λ (l : Load). l.first.made) c.self.view_is) in
    rw (p.1, p.2)
    (subst (λ (l : Load). Refuses stop l c.args.value) c.self.view_is
    (refused stop (load_of c.self.inside) c.with-first.result c.args.value few c.with-first.ensures.told c.in_err-self-inside.ensures.err))

pub returns-clause-told : goal.returns-clause-told
returns-clause-told c r has is =
    let here : HasLoaded (load_of c.self.inside) r = subst (λ (l : Load). HasLoaded l r) (sym c.self.view_is) has in
    let first = c.with-first.ensures.told r here.first (is ∙ sym (ap (λ (l : Load). slice_index (first_answers r) l.first.made) c.self.view_is)) in
    record { first = first; payload = here.payload; outlook = c.in_ok-self-inside.ensures.told r first }
