use Rattle.std.proofs.Common.{◌∙◌, sym, ap, subst}
use Rattle.step_desk.specs.Steps.{M}
use Rattle.step_desk.specs.Numbers.{HasAll}
use Rattle.step_desk.specs.Passes.{DeskState}
use Rattle.step_desk.proofs.Closing.{is_some, is_closed}
use Rattle.step_desk.proofs.table.Desk.close.Goals as goal

pub unwrap-requires : goal.unwrap-requires
unwrap-requires c =
    let is = c.into_token.ensures.view in
    is_some _ _ _ _ _ _ (ap (λ (m : M). m.0.live) is ∙ c.into_token.ensures.ready.0) (ap (λ (m : M). m.0.stage) is ∙ c.into_token.ensures.ready.1)
    (subst (λ (t : DeskState × M). HasAll t.0.seats t.1.0) (λ i. (sym c.self.view_is i, sym is i)) c.requires.all) c.close_with-closed.ensures.values.2 _ c.take-region.ensures.value

pub returns-clause-journal : goal.returns-clause-journal
returns-clause-journal c =
    let is = c.into_token.ensures.view in
    (is_closed _ _ _ _ _ _ (ap (λ (m : M). m.0.live) is ∙ c.into_token.ensures.ready.0) (ap (λ (m : M). m.0.stage) is ∙ c.into_token.ensures.ready.1)
    (subst (λ (t : DeskState × M). HasAll t.0.seats t.1.0) (λ i. (sym c.self.view_is i, sym is i)) c.requires.all) c.close_with-closed.ensures.values.2 _ _ c.take-region.ensures.value c.unwrap.ensures).past ∙ ap (λ (m : M). m.0.seen) is

pub returns-clause-start : goal.returns-clause-start
returns-clause-start c =
    let is = c.into_token.ensures.view in
    (is_closed _ _ _ _ _ _ (ap (λ (m : M). m.0.live) is ∙ c.into_token.ensures.ready.0) (ap (λ (m : M). m.0.stage) is ∙ c.into_token.ensures.ready.1)
    (subst (λ (t : DeskState × M). HasAll t.0.seats t.1.0) (λ i. (sym c.self.view_is i, sym is i)) c.requires.all) c.close_with-closed.ensures.values.2 _ _ c.take-region.ensures.value c.unwrap.ensures).start ∙ ap (λ (d : DeskState). d.about.start) c.self.view_is

pub returns-clause-fails : goal.returns-clause-fails
returns-clause-fails c =
    let is = c.into_token.ensures.view in
    (is_closed _ _ _ _ _ _ (ap (λ (m : M). m.0.live) is ∙ c.into_token.ensures.ready.0) (ap (λ (m : M). m.0.stage) is ∙ c.into_token.ensures.ready.1)
    (subst (λ (t : DeskState × M). HasAll t.0.seats t.1.0) (λ i. (sym c.self.view_is i, sym is i)) c.requires.all) c.close_with-closed.ensures.values.2 _ _ c.take-region.ensures.value c.unwrap.ensures).listed ∙ ap (λ (d : DeskState). d.about.failing.listed) c.self.view_is
