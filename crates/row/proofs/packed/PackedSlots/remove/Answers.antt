use Rattle.std.proofs.Common.{◌-◌, take, sym, ap, ◌∙◌, arith}
use Rattle.std.proofs.lemmas.Option.{slice_get_within}
use Rattle.shelves.proofs.Keeping.{removed-none}
use Rattle.row.specs.Packed.{front}
use Rattle.row.proofs.Fronts.{front-closed, length_front}
use Rattle.row.proofs.packed.PackedSlots.remove.Goals as goal

pub returns-in_err-removed-clause-orders : goal.returns-in_err-removed-clause-orders
returns-in_err-removed-clause-orders c = removed-none _ c.args.place (sym c.get.ensures ∙ c.in_err-removed.was)

pub close-requires : goal.close-requires
close-requires c =
    let t = c.args.self.now in
    let n = length_front t t.fits in
    let h = slice_get_within (front t) c.args.place _ (sym c.get.ensures ∙ c.in_ok-removed.was) in
    omega arith

pub returns-clause-orders : goal.returns-clause-orders
returns-clause-orders c =
    let t = c.args.self.now in
    let n = length_front t t.fits in
    let h = slice_get_within (front t) c.args.place _ (sym c.get.ensures ∙ c.in_ok-removed.was) in
    ap (λ k. take k c.close.new.self.at.now) c.close.ensures.used
    ∙ ap (take (t.used - 1)) c.close.ensures.slots
    ∙ front-closed t c.args.place (omega arith) t.fits
