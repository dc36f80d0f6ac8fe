-- What a put that is not refused tells. Assumes nothing.
use Rattle.std.proofs.Common.{◌≡◌, ℕ, ◌<◌, Bool, true, false, leb, List, length, Ok, Err, Result, refl}
use Rattle.std.proofs.lemmas.Bool.{leb-false}
use Rattle.orders.specs.declared.order.Order.{Order}
use Rattle.shelves.specs.declared.shelf.PutRefusal.{PutRefusal}
use Rattle.shelves.specs.Lists.{distinct, has}
use Rattle.shelves.specs.Puts.{after_insert, put_answer, put_check}
use Rattle.shelves.proofs.Keeping.{distinct-inserted}

-- there is room, and the serial is new
pub admitted : (room n : ℕ) (xs : List Order) (u : Unit {0}) → put_answer room n xs ≡ Ok u → (length xs < room) × (has n xs ≡ false)
admitted room n xs u e = step (leb room (length xs)) (has n xs) refl refl e
  where
    step : (full held : Bool) → leb room (length xs) ≡ full → has n xs ≡ held → put_check full held ≡ Ok u → (length xs < room) × (has n xs ≡ false)
    step true held p q r = absurd (cc)
    step false true p q r = absurd (cc)
    step false false p q r = (leb-false room (length xs) p, q)

-- whatever an insertion of a new serial answers
pub distinct-after : (r : Result (Unit {0}) PutRefusal) (p : ℕ) (o : Order) (xs : List Order) → has o.serial xs ≡ false → distinct xs ≡ true → distinct (after_insert r p o xs) ≡ true
distinct-after (Ok u) p o xs new apart = distinct-inserted xs p o new apart
distinct-after (Err e) p o xs new apart = apart
