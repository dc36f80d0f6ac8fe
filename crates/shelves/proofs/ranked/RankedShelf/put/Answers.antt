use Rattle.std.proofs.Common.{sym, ◌∙◌}
use Rattle.shelves.proofs.Checks.{admitted, distinct-after}
use Rattle.shelves.proofs.ranked.RankedShelf.put.Goals as goal

pub invariant_of-self : goal.invariant_of-self
invariant_of-self g c =
    let s = c.args.self.now in
    let xs = g.S.Slots.orders s.slots in
    let a = admitted (g.S.Slots.room s.slots) c.args.new.serial xs _ (sym c.check.ensures ∙ c.in_ok-check.was) in
    record { apart = rw c.insert.ensures.orders (distinct-after c.insert.result _ c.args.new xs a.1 s.apart) }
