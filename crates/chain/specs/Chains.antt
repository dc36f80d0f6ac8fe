-- A chain's slots with its first order and its first free slot. Assumes nothing.
--     held t                    the orders by place
--     room t                    the number of slots
--     Sound t                   no slot is lost and none is used twice
--     slot t p                  the slot of the order at place p
--     linked_first t o          the slots with o in the first free one, linked in before the first order
--     linked_behind t i o       the slots with o in the first free one, linked in behind slot i
--     unlinked_first t          the slots without the first order's, which is linked before the free ones
--     unlinked_behind t i       the slots without that behind slot i, likewise
--     renewed_slot t i b x      the slots with the balance b and the terms x for the order in slot i
--     ahead w                   the orders that a walk has yet to pass
use Rattle.std.specs.Prelude.{ℕ, List, length, slice_index, slice_set}
use Rattle.orders.specs.declared.order.Order.{Order}
use Rattle.orders.specs.declared.terms.Terms.{Terms}
use Rattle.shelves.specs.Lists.{renewed}
use Rattle.chain.specs.declared.link.Link.{Link}
use Rattle.chain.specs.declared.links.Links.{Links}
use Rattle.chain.specs.declared.trail.Trail.{Trail}
use Rattle.chain.specs.Trails.{Parted, along, linked, next, order_in, trail}

abbrev pub held : Links → List Order
held t = along t.at.now t.used t.head

abbrev pub room : Links → ℕ
room t = length t.at.now

abbrev pub Sound : Links → Type 0
Sound t = Parted t.at.now t.used t.head t.free

abbrev pub slot : Links → ℕ → ℕ
slot t p = slice_index (trail t.at.now t.used t.head) p

abbrev pub linked_first : Links → Order → List Link
linked_first t o = slice_set t.at.now t.free (linked o t.head)

abbrev pub linked_behind : Links → ℕ → Order → List Link
linked_behind t i o = slice_set (slice_set t.at.now i (linked (order_in t.at.now i) t.free)) t.free (linked o (next t.at.now i))

abbrev pub unlinked_first : Links → List Link
unlinked_first t = slice_set t.at.now t.head (linked (order_in t.at.now t.head) t.free)

abbrev pub unlinked_behind : Links → ℕ → List Link
unlinked_behind t i =
    let s = t.at.now in
    let out = next s i in
    slice_set (slice_set s i (linked (order_in s i) (next s out))) out (linked (order_in s out) t.free)

abbrev pub renewed_slot : Links → ℕ → ℕ → Terms → List Link
renewed_slot t i b x = slice_set t.at.now i (linked (renewed (order_in t.at.now i) b x) (next t.at.now i))

abbrev pub ahead : Trail → List Order
ahead w = along w.links.now w.left w.at
