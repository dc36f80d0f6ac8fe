-- The reasons of refusals with their numbers and layers. Assumes nothing.
--     layers, reasons      every case, in the order of the numbers
--     layer_number l       1 reader, 2 form, 3 board
--     row r                the number and the layer of a reason, for every case
--     reason_number r, layer r      the parts of its row
--     reason_field r       the field of the entry that a check of form is about, the member being field 1; 0 for other reasons
--     direct r             the refusal of a direct call for a reason: its place is the reason's field
--     refusal_text r       what a refusal prints, as ASCII codes: its number, layer and place
use Rattle.std.specs.Prelude.{ℕ, List, [], ◌∷◌, ◌++◌, codes, decimal}
use Rattle.orders.specs.declared.refusal.Layer.{Layer}
use Rattle.orders.specs.declared.refusal.Layer.TheVariants.{Reader, Form, Board}
use Rattle.orders.specs.declared.refusal.Reason.{Reason}
use Rattle.orders.specs.declared.refusal.Reason.TheVariants.{ReferenceOutOfRange, CapacityOutOfRange, ShelfUnfit, UnknownMark, CutShort, UnknownSide, PriceOutOfRange, QuantityOutOfRange, KindNotAllowed, MinimumNotAllowed, TimeNotAllowed, DesignationNotAllowed, DateNotAllowed, MarketClosed, FillOrKillInQueue, NoSessionAhead, OutsideCollar, BoardFull, SerialsExhausted, NoSuchOrder, NotOwner, DaysExhausted, ReportTooShort}
use Rattle.orders.specs.declared.refusal.Refusal.{Refusal}

abbrev pub layers : List Layer
layers = Reader ∷ Form ∷ Board ∷ []

abbrev pub layer_number : Layer → ℕ
layer_number Reader = 1
layer_number Form = 2
layer_number Board = 3

abbrev pub reasons : List Reason
reasons =
    ReferenceOutOfRange
    ∷ CapacityOutOfRange
    ∷ ShelfUnfit
    ∷ UnknownMark
    ∷ CutShort
    ∷ UnknownSide
    ∷ PriceOutOfRange
    ∷ QuantityOutOfRange
    ∷ KindNotAllowed
    ∷ MinimumNotAllowed
    ∷ TimeNotAllowed
    ∷ DesignationNotAllowed
    ∷ DateNotAllowed
    ∷ MarketClosed
    ∷ FillOrKillInQueue
    ∷ NoSessionAhead
    ∷ OutsideCollar
    ∷ BoardFull
    ∷ SerialsExhausted
    ∷ NoSuchOrder
    ∷ NotOwner
    ∷ DaysExhausted
    ∷ ReportTooShort
    ∷ []

abbrev pub row : Reason → ℕ × Layer
row ReferenceOutOfRange = (1, Board)
row CapacityOutOfRange = (2, Board)
row ShelfUnfit = (3, Board)
row UnknownMark = (4, Reader)
row CutShort = (5, Reader)
row UnknownSide = (6, Form)
row PriceOutOfRange = (7, Form)
row QuantityOutOfRange = (8, Form)
row KindNotAllowed = (9, Form)
row MinimumNotAllowed = (10, Form)
row TimeNotAllowed = (11, Form)
row DesignationNotAllowed = (12, Form)
row DateNotAllowed = (13, Form)
row MarketClosed = (14, Board)
row FillOrKillInQueue = (15, Board)
row NoSessionAhead = (16, Board)
row OutsideCollar = (17, Board)
row BoardFull = (18, Board)
row SerialsExhausted = (19, Board)
row NoSuchOrder = (20, Board)
row NotOwner = (21, Board)
row DaysExhausted = (22, Board)
row ReportTooShort = (23, Board)

abbrev pub reason_number : Reason → ℕ
reason_number r = (row r).0

abbrev pub layer : Reason → Layer
layer r = (row r).1

abbrev pub reason_field : Reason → ℕ
reason_field ReferenceOutOfRange = 0
reason_field CapacityOutOfRange = 0
reason_field ShelfUnfit = 0
reason_field UnknownMark = 0
reason_field CutShort = 0
reason_field UnknownSide = 2
reason_field PriceOutOfRange = 3
reason_field QuantityOutOfRange = 4
reason_field KindNotAllowed = 5
reason_field MinimumNotAllowed = 6
reason_field TimeNotAllowed = 7
reason_field DesignationNotAllowed = 8
reason_field DateNotAllowed = 9
reason_field MarketClosed = 0
reason_field FillOrKillInQueue = 0
reason_field NoSessionAhead = 0
reason_field OutsideCollar = 0
reason_field BoardFull = 0
reason_field SerialsExhausted = 0
reason_field NoSuchOrder = 0
reason_field NotOwner = 0
reason_field DaysExhausted = 0
reason_field ReportTooShort = 0

abbrev pub direct : Reason → Refusal
direct r = record { reason = r; place = reason_field r }

abbrev pub refusal_text : Refusal → List ℕ
refusal_text r =
    codes "refused " ++ decimal (reason_number r.reason)
    ++ codes ", layer " ++ decimal (layer_number (layer r.reason))
    ++ codes ", place " ++ decimal r.place
