use Rattle.std.proofs.Common.{take, sym, ap, ◌∙◌, arith}
use Rattle.std.proofs.lemmas.Option.{slice_get_within}
use Rattle.shelves.proofs.Keeping.{rewritten-none}
use Rattle.row.specs.Packed.{front}
use Rattle.row.proofs.Fronts.{front-renewed, length_front}
use Rattle.row.proofs.packed.PackedSlots.write.Goals as goal

pub returns-in_err-written-clause-orders : goal.returns-in_err-written-clause-orders
returns-in_err-written-clause-orders c = rewritten-none _ c.args.place _ _ (sym c.get.ensures ∙ c.in_err-written.was)

pub renew-requires : goal.renew-requires
renew-requires c =
    let t = c.args.self.now in
    let n = length_front t t.fits in
    let fits = t.fits in
    let h = slice_get_within (front t) c.args.place _ (sym c.get.ensures ∙ c.in_ok-written.was) in
    omega arith

pub returns-clause-orders : goal.returns-clause-orders
returns-clause-orders c =
    let t = c.args.self.now in
    let n = length_front t t.fits in
    let h = slice_get_within (front t) c.args.place _ (sym c.get.ensures ∙ c.in_ok-written.was) in
    ap (λ k. take k c.renew.new.self.at.now) c.renew.ensures.used
    ∙ ap (take t.used) c.renew.ensures.slots
    ∙ front-renewed t c.args.place c.args.balance c.args.terms (omega arith)
