-- What a put answers and leaves. Assumes nothing.
--     put_check full held           refused if all places are used, then if the serial is held
--     put_answer room n xs          that check for the serial n on the list xs
--     after_put before r o xs       the list after a put of o that answered r
--     after_insert r p o xs         the list after o was to be put at place p, which answered r
--     put_refusal_text r            what a refusal prints, as ASCII codes
use Rattle.std.specs.Prelude.{ℕ, Bool, cond, List, length, codes, Ok, Err, Result, nat_le}
use Rattle.std.specs.List.{insert}
use Rattle.orders.specs.declared.order.Order.{Order}
use Rattle.shelves.specs.declared.shelf.PutRefusal.{PutRefusal}
use Rattle.shelves.specs.declared.shelf.PutRefusal.TheVariants.{Full, SerialHeld}
use Rattle.shelves.specs.Lists.{has, placed}
use Rattle.shelves.specs.Ranks.{Standing}

abbrev pub put_check : Bool → Bool → Result (Unit {0}) PutRefusal
put_check full held = cond full (Err Full) (cond held (Err SerialHeld) (Ok tt))

abbrev pub put_answer : ℕ → ℕ → List Order → Result (Unit {0}) PutRefusal
put_answer room n xs = put_check (nat_le room (length xs)) (has n xs)

abbrev pub after_put : (Standing → Standing → Bool) → Result (Unit {0}) PutRefusal → Order → List Order → List Order
after_put before (Ok u) o xs = placed before o xs
after_put before (Err e) o xs = xs

abbrev pub after_insert : Result (Unit {0}) PutRefusal → ℕ → Order → List Order → List Order
after_insert (Ok u) p o xs = insert xs p o
after_insert (Err e) p o xs = xs

abbrev pub put_refusal_text : PutRefusal → List ℕ
put_refusal_text Full = codes "every place is used"
put_refusal_text SerialHeld = codes "the serial is there"
