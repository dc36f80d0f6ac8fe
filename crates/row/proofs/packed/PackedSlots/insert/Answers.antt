use Rattle.std.proofs.Common.{◌+◌, min, take, sym, ap, ◌∙◌, arith}
use Rattle.std.specs.List.{insert}
use Rattle.shelves.proofs.Keeping.{inserted-min}
use Rattle.row.specs.Packed.{front}
use Rattle.row.proofs.Fronts.{front-opened, length_front}
use Rattle.row.proofs.packed.PackedSlots.insert.Goals as goal

pub returns-clause-orders : goal.returns-clause-orders
returns-clause-orders c =
    let t = c.args.self.now in
    let n = length_front t t.fits in
    ap (λ k. take k c.open.new.self.at.now) c.open.ensures.used
    ∙ ap (take (t.used + 1)) c.open.ensures.slots
    ∙ front-opened t c.min.result c.args.new (omega arith) (omega arith)
    ∙ ap (λ q. insert (front t) q c.args.new) (c.min.ensures ∙ ap (min c.args.place) (sym n))
    ∙ inserted-min (front t) c.args.place c.args.new
