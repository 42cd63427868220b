use Rattle.std.proofs.Common.{◌≡◌, ap, sym, ◌∙◌, subst}
use Rattle.std.specs.Prelude.{Some, None}
use Rattle.std.specs.Option.{option_map, option_copied}
use Rattle.std.specs.Ordering.{nat_cmp}
use Rattle.std.specs.BTreeMap.{get, Updates}
use Rattle.crc_words.specs.Crc.{crc}
use Rattle.death_model.proofs.Looks.{found_tells, inserted_tells}
use Rattle.death_model.proofs.seen.Seen.look.Goals as goal

pub returns-in-Some : goal.returns-in-Some
returns-in-Some c =
    let at : Some c.in-Some.seen.now ≡ get nat_cmp c.args.self.now.payloads (crc c.args.payload.now) =
    ap option_copied (sym c.in-Some.is) ∙ c.get.ensures.value ∙ ap (get nat_cmp c.args.self.now.payloads) c.crc32-checksum.ensures in
    found_tells c.args.self.now c.args.payload.now c.as_slice.result.now c.eq.result (ap (option_map (λ payload. payload.items)) (sym at) ∙ ap Some (sym c.as_slice.ensures.value)) c.eq.ensures

pub returns : goal.returns
returns c =
    let none : get nat_cmp c.args.self.now.payloads (crc c.args.payload.now) ≡ None =
    ap (get nat_cmp c.args.self.now.payloads) (sym c.crc32-checksum.ensures) ∙ sym c.get.ensures.value ∙ ap option_copied c.in_default.is in
    inserted_tells c.args.self.now (record { payloads = c.insert.new.self; alloc = c.args.self.now.alloc }) c.args.payload.now c.in_ok-to_vec.field-0 none
    (subst (λ k. Updates nat_cmp c.args.self.now.payloads c.insert.new.self k (Some c.in_ok-to_vec.field-0)) c.crc32-checksum.ensures c.in_ok-insert.ensures.updates)
    (c.in_ok-to_vec.ensures.items_if_clones_equal (λ x y e. e))
