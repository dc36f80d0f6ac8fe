use Rattle.std.proofs.Common.{arith}
use Rattle.chain.proofs.Places.{length-held}
use Rattle.chain.proofs.Steps.{after_renew}
use Rattle.chain.proofs.linked.LinkedSlots.write.Goals as goal

pub returns-clause-orders : goal.returns-clause-orders
returns-clause-orders c =
    let s = c.args.self.now in
    let e = c.renew_slot.ensures in
    let n = length-held s.links in
    (after_renew s.links c.renew_slot.new.self s.sound c.args.place _ c.args.balance c.args.terms s.fits
    (omega (arith, c.if-place-count.false, c.count.ensures)) c.slot-slot.ensures.slot e.slots e.used e.head e.free).orders
