-- The slots of a row. Assumes nothing.
--     front t            the orders in the used slots, which are the first
--     room t             the number of slots
--     opened t p o       the slots with what stands from place p on moved one up, and o written there
--     closed t p         the slots with what stands behind place p moved one down
use Rattle.std.specs.Prelude.{ℕ, ◌+◌, ◌-◌, ◌≤◌, List, length, take, drop, slice_set}
use Rattle.std.proofs.Common.{arith, length-take}
use Rattle.std.proofs.Math.Seq.{paste}
use Rattle.orders.specs.declared.order.Order.{Order}
use Rattle.row.specs.declared.packed.Packed.{Packed}

abbrev pub front : Packed → List Order
front t = take t.used t.at.now

abbrev pub room : Packed → ℕ
room t = length t.at.now

abbrev pub opened : Packed → ℕ → Order → List Order
opened t p o = slice_set (paste t.at.now (p + 1) (drop p t.at.now) (t.used - p)) p o

abbrev pub closed : Packed → ℕ → List Order
closed t p = paste t.at.now p (drop (p + 1) t.at.now) (t.used - (p + 1))

pub front_within : (s : List Order) (n : ℕ) → length (take n s) ≤ length s
front_within s n = simp length-take (omega arith)
