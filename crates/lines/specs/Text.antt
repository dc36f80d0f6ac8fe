-- What the desk prints, as lists of ASCII codes. Assumes nothing.
--     text parts         the parts one after another
--     price_text p       a price with its three decimals
--     printable b        b is the code of a printable ASCII character
--     letter_text b      a printable character as itself, another byte as \x and two hexadecimal digits
--     entry_text e, cancel_text c      the line of each; terms_text e is an entry's second half
--     item_text i        the line of what stands on the wire
use Rattle.std.specs.Prelude.{ℕ, ◌/◌, ◌%◌, Bool, false, cond, ◌&&◌, List, [], ◌∷◌, ◌++◌, codes, decimal, nat_le}
use Rattle.std.specs.Fmt.{digit_glyph}
use Rattle.orders.specs.declared.entry.Cancel.{Cancel}
use Rattle.orders.specs.declared.entry.Entry.{Entry}
use Rattle.wire.specs.Fields.{cancel_of, entry_of}
use Rattle.wire.specs.Stream.{Item, cancel, entry, turn}

abbrev pub text : List (List ℕ) → List ℕ
text [] = []
text (x ∷ xs) = elim xs [ [] ↦ x | ◌∷◌ y ys ↦ x ++ text xs ]

abbrev pub price_text : ℕ → List ℕ
price_text p = text (decimal (p / 1000) ∷ codes "." ∷ decimal (p / 100 % 10) ∷ decimal (p / 10 % 10) ∷ decimal (p % 10) ∷ [])

abbrev pub printable : ℕ → Bool
printable b = nat_le 32 b && nat_le b 126

abbrev pub letter_text : ℕ → List ℕ
letter_text b = cond (printable b) (b ∷ []) (text (codes "\\x" ∷ (digit_glyph false (b / 16) ∷ digit_glyph false (b % 16) ∷ []) ∷ []))

abbrev pub terms_text : Entry → List ℕ
terms_text e = text (
    codes "kind " ∷ letter_text e.kind
    ∷ codes ", minimum " ∷ decimal e.minimum
    ∷ codes ", time " ∷ letter_text e.time
    ∷ codes ", designation " ∷ decimal e.designation
    ∷ codes ", date " ∷ decimal e.date
    ∷ [])

abbrev pub entry_text : Entry → List ℕ
entry_text e = text (
    codes "EN member " ∷ decimal e.member
    ∷ codes ", side " ∷ letter_text e.side
    ∷ codes ", price " ∷ price_text e.price
    ∷ codes ", quantity " ∷ decimal e.quantity
    ∷ codes ", " ∷ terms_text e
    ∷ [])

abbrev pub cancel_text : Cancel → List ℕ
cancel_text c = text (codes "CX member " ∷ decimal c.member ∷ codes ", serial " ∷ decimal c.serial ∷ [])

abbrev pub item_text : Item → List ℕ
item_text (entry bytes) = entry_text (entry_of bytes)
item_text (cancel bytes) = cancel_text (cancel_of bytes)
item_text turn = codes "TU"
