-- What stands on the wire, as a function of the bytes. Assumes nothing.
--     Item                 a record by its mark, with the bytes behind the mark
--     item_of r, seen r    what a record of the code lends; what a read of the code answers
--     size i               the bytes that an item takes, its mark with them
--     marked mark l        l begins with the mark
--     whole n i l          the n bytes behind the mark as an item, or a refusal if the record is cut short
--     front l              what stands at the front of l: an item, the end, or why there is neither
--     advance a            the bytes that an answer uses up
use Rattle.std.specs.Prelude.{ℕ, ◌+◌, Bool, cond, ◌&&◌, List, length, take, drop, Some, None, Ok, Err, codes, sum, Option, Result, ◌==◌, nat_le, slice_index}
use Prim.Native.String.{String}
use Rattle.orders.specs.declared.refusal.Reason.{Reason}
use Rattle.orders.specs.declared.refusal.Reason.TheVariants.{UnknownMark, CutShort}
use Rattle.wire.specs.Fields.{entry_widths, cancel_widths}
use Rattle.wire.specs.declared.record.Record.{Record}
use Rattle.wire.specs.declared.record.Record.TheVariants.{Enter, Cancel, Turn}

pub data Item : Type 0 where
  entry : List ℕ → Item
  cancel : List ℕ → Item
  turn : Item

abbrev pub item_of : Record → Item
item_of (Enter bytes) = entry bytes.now
item_of (Cancel bytes) = cancel bytes.now
item_of Turn = turn

abbrev pub seen : {E : Type 0} → Result (Option Record) E → Result (Option Item) E
seen (Ok None) = Ok None
seen (Ok (Some r)) = Ok (Some (item_of r))
seen (Err e) = Err e

abbrev pub size : Item → ℕ
size (entry bytes) = 2 + sum entry_widths
size (cancel bytes) = 2 + sum cancel_widths
size turn = 2

abbrev pub marked : String → List ℕ → Bool
marked mark l = nat_le 2 (length l) && (slice_index l 0 == slice_index (codes mark) 0 && slice_index l 1 == slice_index (codes mark) 1)

abbrev pub whole : ℕ → (List ℕ → Item) → List ℕ → Result (Option Item) Reason
whole n item l = cond (nat_le (2 + n) (length l)) (Ok (Some (item (take n (drop 2 l))))) (Err CutShort)

abbrev pub front : List ℕ → Result (Option Item) Reason
front l =
    cond (length l == 0) (Ok None)
    (cond (marked "EN" l) (whole (sum entry_widths) entry l)
    (cond (marked "CX" l) (whole (sum cancel_widths) cancel l)
    (cond (marked "TU" l) (Ok (Some turn)) (Err UnknownMark))))

abbrev pub advance : Result (Option Item) Reason → ℕ
advance (Ok None) = 0
advance (Ok (Some i)) = size i
advance (Err e) = 0
