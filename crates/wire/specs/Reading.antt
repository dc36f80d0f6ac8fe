-- What the reader means and what a read of it answers. Assumes nothing.
--     bytes r, position r      the caller's bytes, and how many of them have been read
--     placed p a               an answer whose refusal, if it is one, has the place p
--     read l p                 the item at position p of l, the end, or a refusal whose place is p
--     position_after l p       the position after that read
use Rattle.std.specs.Prelude.{ℕ, ◌+◌, List, drop, Ok, Err, Option, Result}
use Rattle.orders.specs.declared.refusal.Reason.{Reason}
use Rattle.orders.specs.declared.refusal.Refusal.{Refusal}
use Rattle.wire.specs.declared.reader.Reader.{Reader}
use Rattle.wire.specs.Stream.{Item, front, advance}

abbrev pub bytes : Reader → List ℕ
bytes r = r.input.now

abbrev pub position : Reader → ℕ
position r = r.at

abbrev pub placed : ℕ → Result (Option Item) Reason → Result (Option Item) Refusal
placed p (Ok i) = Ok i
placed p (Err e) = Err (record { reason = e; place = p })

abbrev pub read : List ℕ → ℕ → Result (Option Item) Refusal
read l p = placed p (front (drop p l))

abbrev pub position_after : List ℕ → ℕ → ℕ
position_after l p = p + advance (front (drop p l))
