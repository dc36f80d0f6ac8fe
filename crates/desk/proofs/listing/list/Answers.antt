use Rattle.std.proofs.Common.{◌≡◌, ℕ, ◌+◌, ◌≤◌, true, false, List, drop, Option, Result, is_some, sym, ◌∙◌, arith}
use Rattle.orders.specs.declared.refusal.Reason.{Reason}
use Rattle.wire.specs.Reading.{placed}
use Rattle.wire.specs.Stream.{Item, front, advance}
use Rattle.desk.specs.Listing.{is_item, Records, none, more, Shown, Listed}
use Rattle.desk.proofs.listing.list.Goals as goal

-- a record takes a byte or more, and what is none takes no byte
moves : (p : ℕ) (a : Result (Option Item) Reason) → is_item (placed p a) ≡ true → 1 ≤ advance a
moves p a h = grind arith

stays : (p : ℕ) (a : Result (Option Item) Reason) → is_item (placed p a) ≡ false → advance a ≡ 0
stays p a h = grind arith

farther : (l : List ℕ) (p q : ℕ) → Shown true l p q → p + 1 ≤ q
farther l p q s = omega (arith, moves p (front (drop p l)) s.found, s.moved)

one_more : (l : List ℕ) (n p q : ℕ) → Records l n p → Shown true l p q → Records l (n + 1) q
one_more l n p q so_far s = rw s.moved (more so_far s.found)

finished : (l : List ℕ) (n p q : ℕ) → Records l n p → Shown false l p q → Listed l n q
finished l n p q so_far s =
    let still : q ≡ p = omega (arith, stays p (front (drop p l)) s.found, s.moved) in
    rw still (record { records = so_far; last = s.found })

pub loop-records-init : goal.loop-records-init
loop-records-init c = (c.new-reader.ensures.bytes, rw c.new-reader.ensures.position none, omega arith)

pub loop-records-preserved : goal.loop-records-preserved
loop-records-preserved c =
    let inv = c.loop-records.invariant in
    let shown : is_some c.in_ok-show_next.field-0 ≡ true = sym c.is_some.ensures ∙ c.if-is_some.true in
    let step = rw (inv.0, shown) at c.in_ok-show_next.ensures.shown in
    (c.in_ok-show_next.ensures.bytes ∙ inv.0, one_more _ _ _ _ inv.1 step, omega (arith, farther _ _ _ step))

pub returns : goal.returns
returns c =
    let inv = c.loop-records.invariant in
    let last : is_some c.in_ok-show_next.field-0 ≡ false = sym c.is_some.ensures ∙ c.if-is_some.false in
    let step = rw (inv.0, last) at c.in_ok-show_next.ensures.shown in
    rw c.position-read.ensures (finished _ _ _ _ inv.1 step)
