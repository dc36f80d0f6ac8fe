use Rattle.std.proofs.Common.{◌≡◌, ◌+◌, ◌-◌, ◌<◌, sym, ap, ◌∙◌, arith}
use Rattle.std.specs.List.{remove}
use Rattle.std.proofs.lemmas.Option.{slice_get_within}
use Rattle.shelves.proofs.Keeping.{removed-none}
use Rattle.chain.specs.Chains.{held}
use Rattle.chain.specs.Trails.{next}
use Rattle.chain.proofs.Places.{length-held, next_other, next_within}
use Rattle.chain.proofs.Steps.{after_unlink_behind, after_unlink_first}
use Rattle.chain.proofs.linked.LinkedSlots.remove.Goals as goal

pub returns-in_err-removed-clause-orders : goal.returns-in_err-removed-clause-orders
returns-in_err-removed-clause-orders c = removed-none _ c.args.place (sym c.get.ensures ∙ c.in_err-removed.was)

pub invariant_of-self : goal.invariant_of-self
invariant_of-self c =
    let t = c.args.self.now.links in
    let e = c.unlink_first.ensures in
    let n = length-held t in
    let h = slice_get_within (held t) c.args.place _ (sym c.get.ensures ∙ c.in_ok-removed.was) in
    let l = after_unlink_first t c.unlink_first.new.self c.args.self.now.sound c.args.place c.if-place-eq0.true c.args.self.now.fits (omega arith)
    e.slots e.used e.head e.free in
    record { fits = l.fits; sound = l.sound }

pub returns-then-place-eq0-clause-orders : goal.returns-then-place-eq0-clause-orders
returns-then-place-eq0-clause-orders c =
    let t = c.args.self.now.links in
    let e = c.unlink_first.ensures in
    let n = length-held t in
    let h = slice_get_within (held t) c.args.place _ (sym c.get.ensures ∙ c.in_ok-removed.was) in
    (after_unlink_first t c.unlink_first.new.self c.args.self.now.sound c.args.place c.if-place-eq0.true c.args.self.now.fits (omega arith)
    e.slots e.used e.head e.free).orders

pub unlink_behind-requires : goal.unlink_behind-requires
unlink_behind-requires c =
    let s = c.args.self.now in
    let n = length-held s.links in
    let h = slice_get_within (held s.links) c.args.place _ (sym c.get.ensures ∙ c.in_ok-removed.was) in
    let more : c.args.place - 1 + 1 < s.links.used = omega (arith, c.if-place-eq0.false) in
    let is = c.slot-prev.ensures.slot in
    let there = ap (next s.links.at.now) is in
    let w = next_within s (c.args.place - 1) more in
    (omega arith, c.slot-prev.ensures.within, omega arith, next_other s (c.args.place - 1) _ more is)

pub invariant_of-self-else-place-eq0 : goal.invariant_of-self-else-place-eq0
invariant_of-self-else-place-eq0 c =
    let t = c.args.self.now.links in
    let e = c.unlink_behind.ensures in
    let n = length-held t in
    let h = slice_get_within (held t) c.args.place _ (sym c.get.ensures ∙ c.in_ok-removed.was) in
    let l = after_unlink_behind t c.unlink_behind.new.self c.args.self.now.sound (c.args.place - 1) _ c.args.self.now.fits
    (omega (arith, c.if-place-eq0.false)) c.slot-prev.ensures.slot e.slots e.used e.head e.free in
    record { fits = l.fits; sound = l.sound }

pub returns-else-place-eq0-clause-orders : goal.returns-else-place-eq0-clause-orders
returns-else-place-eq0-clause-orders c =
    let t = c.args.self.now.links in
    let e = c.unlink_behind.ensures in
    let n = length-held t in
    let h = slice_get_within (held t) c.args.place _ (sym c.get.ensures ∙ c.in_ok-removed.was) in
    let up : c.args.place - 1 + 1 ≡ c.args.place = omega (arith, c.if-place-eq0.false) in
    let l = after_unlink_behind t c.unlink_behind.new.self c.args.self.now.sound (c.args.place - 1) _ c.args.self.now.fits
    (omega (arith, c.if-place-eq0.false)) c.slot-prev.ensures.slot e.slots e.used e.head e.free in
    l.orders ∙ ap (remove (held t)) up
