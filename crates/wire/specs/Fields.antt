-- The fields of a record, by the bytes behind its mark. Assumes nothing.
--     number l p n          the number that the n bytes of l from position p write, the highest byte first
--     offset widths k       how many bytes stand before field k, the first being field 1
--     field widths l k      the number in field k
--     entry_widths, cancel_widths      the bytes of each field, in their order
--     entry_of l, cancel_of l          the fields of an entry and of a cancel
use Rattle.std.specs.Prelude.{ℕ, zero, suc, ◌+◌, ◌-◌, ◌*◌, List, [], ◌∷◌, take, sum, slice_index}
use Rattle.orders.specs.declared.entry.Entry.{Entry}
use Rattle.orders.specs.declared.entry.Cancel.{Cancel}

abbrev pub number : List ℕ → ℕ → ℕ → ℕ
number l p zero = 0
number l p (suc n) = number l p n * 256 + slice_index l (p + n)

abbrev pub offset : List ℕ → ℕ → ℕ
offset widths k = sum (take (k - 1) widths)

abbrev pub field : List ℕ → List ℕ → ℕ → ℕ
field widths l k = number l (offset widths k) (slice_index widths (k - 1))

-- member, side, price, quantity, kind, minimum, time, designation, date
abbrev pub entry_widths : List ℕ
entry_widths = 4 ∷ 1 ∷ 4 ∷ 4 ∷ 1 ∷ 4 ∷ 1 ∷ 1 ∷ 4 ∷ []

abbrev pub entry_of : List ℕ → Entry
entry_of l = record {
  member = field entry_widths l 1;
  side = field entry_widths l 2;
  price = field entry_widths l 3;
  quantity = field entry_widths l 4;
  kind = field entry_widths l 5;
  minimum = field entry_widths l 6;
  time = field entry_widths l 7;
  designation = field entry_widths l 8;
  date = field entry_widths l 9;
}

-- member, serial
abbrev pub cancel_widths : List ℕ
cancel_widths = 4 ∷ 8 ∷ []

abbrev pub cancel_of : List ℕ → Cancel
cancel_of l = record { member = field cancel_widths l 1; serial = field cancel_widths l 2 }
