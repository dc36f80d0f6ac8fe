use Rattle.std.proofs.Common.{◌≡◌, ◌+◌, ◌-◌, ◌<◌, min, sym, ap, ◌∙◌, arith}
use Rattle.std.specs.List.{insert}
use Rattle.shelves.proofs.Keeping.{inserted-min}
use Rattle.chain.specs.Chains.{held, room}
use Rattle.chain.proofs.Places.{length-held}
use Rattle.chain.proofs.Steps.{after_link_behind, after_link_first}
use Rattle.chain.proofs.linked.LinkedSlots.insert.Goals as goal

pub invariant_of-self : goal.invariant_of-self
invariant_of-self c =
    let t = c.args.self.now.links in
    let e = c.link_first.ensures in
    let n = length-held t in
    let free : t.used < room t = omega (arith, c.if-count-room.false, c.count.ensures, c.room.ensures) in
    let l = after_link_first t c.link_first.new.self c.args.self.now.sound c.args.new free e.slots e.used e.head e.free in
    record { fits = l.fits; sound = l.sound }

pub returns-then-place-eq0-clause-orders : goal.returns-then-place-eq0-clause-orders
returns-then-place-eq0-clause-orders c =
    let t = c.args.self.now.links in
    let e = c.link_first.ensures in
    let n = length-held t in
    let free : t.used < room t = omega (arith, c.if-count-room.false, c.count.ensures, c.room.ensures) in
    let l = after_link_first t c.link_first.new.self c.args.self.now.sound c.args.new free e.slots e.used e.head e.free in
    l.orders
    ∙ ap (λ q. insert (held t) q c.args.new) (sym c.if-place-eq0.true ∙ c.min-place.ensures ∙ ap (min c.args.place) c.count-2.ensures)
    ∙ inserted-min (held t) c.args.place c.args.new

pub invariant_of-self-else-place-eq0 : goal.invariant_of-self-else-place-eq0
invariant_of-self-else-place-eq0 c =
    let t = c.args.self.now.links in
    let e = c.link_behind.ensures in
    let n = length-held t in
    let free : t.used < room t = omega (arith, c.if-count-room.false, c.count.ensures, c.room.ensures) in
    let l = after_link_behind t c.link_behind.new.self c.args.self.now.sound c.args.new (c.min-place.result - 1) _ free
    (omega (arith, c.if-place-eq0.false, c.min-place.ensures, c.count-2.ensures)) c.slot-prev.ensures.slot e.slots e.used e.head e.free in
    record { fits = l.fits; sound = l.sound }

pub returns-else-place-eq0-clause-orders : goal.returns-else-place-eq0-clause-orders
returns-else-place-eq0-clause-orders c =
    let t = c.args.self.now.links in
    let e = c.link_behind.ensures in
    let n = length-held t in
    let free : t.used < room t = omega (arith, c.if-count-room.false, c.count.ensures, c.room.ensures) in
    let up : c.min-place.result - 1 + 1 ≡ c.min-place.result = omega (arith, c.if-place-eq0.false) in
    let l = after_link_behind t c.link_behind.new.self c.args.self.now.sound c.args.new (c.min-place.result - 1) _ free
    (omega (arith, c.if-place-eq0.false, c.min-place.ensures, c.count-2.ensures)) c.slot-prev.ensures.slot e.slots e.used e.head e.free in
    l.orders
    ∙ ap (λ q. insert (held t) q c.args.new) (up ∙ c.min-place.ensures ∙ ap (min c.args.place) c.count-2.ensures)
    ∙ inserted-min (held t) c.args.place c.args.new
