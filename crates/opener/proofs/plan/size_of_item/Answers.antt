use Rattle.std.proofs.Common.{[], refl, ap, ◌∙◌, length, sym}
use Rattle.expiring_map.specs.Map.{value_until}
use Rattle.region_words.specs.Rows.{item_of}
use Rattle.opener.proofs.Planning.{put_written}
use Rattle.opener.proofs.plan.size_of_item.Goals as goal

pub returns-in-Put-clause-size : goal.returns-in-Put-clause-size
returns-in-Put-clause-size c =
    let p = c.in-Put in
    c.item_size.ensures.size p.key (value_until p.value p.expiry) (ap length (sym c.as_slice.ensures)) (ap length (sym c.as_slice-in-Put.ensures))
    ∙ put_written c.args.flag c.args.act.now p.key p.value p.expiry p.is c.requires

pub returns-in-Remove-clause-size : goal.returns-in-Remove-clause-size
returns-in-Remove-clause-size c =
    let p = c.in-Remove in
    c.item_size-in-Remove.ensures.size p.key (value_until [] 0) (ap length (sym c.as_slice-in-Remove.ensures)) refl
    ∙ ap (λ a. length (item_of c.args.flag a)) (sym p.is)
