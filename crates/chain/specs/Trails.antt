-- Slots that are linked by number, and where the links lead. Assumes nothing.
--     linked o k        a slot with the order o that is linked to slot k
--     nowhere           a slot to read past the end of the slots
--     order_in s i      the order in slot i
--     next s i          the number of the slot to which slot i is linked
--     trail s n i       the numbers of the n slots from slot i on, each linked to the next
--     along s n i       the orders in these slots
--     times k xs        how often the number k stands in xs
--     Inside s n i      that trail stays among the slots
--     Parted s n h f    each slot stands exactly once on one of two trails, that of the n used ones from h
--                       on and that of the free ones from f on, and no other number stands there
use Rattle.std.specs.Prelude.{◌≡◌, ℕ, zero, suc, ◌+◌, ◌-◌, ◌<◌, ◌≤◌, cond, List, [], ◌∷◌, map, length, ◌==◌, nat_lt, slice_index, slice_index_or}
use Rattle.std.proofs.Common.{refl, ap, arith}
use Rattle.orders.specs.declared.order.Order.{Order}
use Rattle.shelves.specs.Lists.{nobody}
use Rattle.chain.specs.declared.link.Link.{Link}

abbrev pub linked : Order → ℕ → Link
linked o k = record { order = o; next = k }

abbrev pub nowhere : Link
nowhere = linked nobody 0

abbrev pub order_in : List Link → ℕ → Order
order_in s i = (slice_index_or s i nowhere).order

abbrev pub next : List Link → ℕ → ℕ
next s i = (slice_index_or s i nowhere).next

abbrev pub trail : List Link → ℕ → ℕ → List ℕ
trail s zero i = []
trail s (suc n) i = i ∷ trail s n (next s i)

abbrev pub along : List Link → ℕ → ℕ → List Order
along s n i = map (order_in s) (trail s n i)

abbrev pub times : ℕ → List ℕ → ℕ
times k [] = 0
times k (x ∷ xs) = cond (k == x) 1 0 + times k xs

abbrev pub Inside : List Link → ℕ → ℕ → Type 0
Inside s n i = (p : ℕ) → p < n → slice_index (trail s n i) p < length s

abbrev pub Parted : List Link → ℕ → ℕ → ℕ → Type 0
Parted s n h f = (k : ℕ) → times k (trail s n h) + times k (trail s (length s - n) f) ≡ cond (nat_lt k (length s)) 1 0

-- there are at most as many orders as slots
pub length-along : (s : List Link) (n i : ℕ) → length (along s n i) ≡ n
length-along s zero i = refl
length-along s (suc n) i = ap suc (length-along s n (next s i))

pub along_fits : (s : List Link) (n i : ℕ) → n ≤ length s → length (along s n i) ≤ length s
along_fits s n i h = omega (arith, length-along s n i)
