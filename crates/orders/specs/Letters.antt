-- The letters of sides, kinds, times in force and causes of leaving. Assumes nothing.
--     letter "B"      the ASCII code of a letter
--     sides, kinds, times, causes      every case
--     side_letter s, kind_letter k, time_letter t, cause_letter c      the letter of each case
use Rattle.std.specs.Prelude.{ℕ, List, [], ◌∷◌, codes, slice_index}
use Prim.Native.String.{String}
use Rattle.orders.specs.declared.cause.Cause.{Cause}
use Rattle.orders.specs.declared.cause.Cause.TheVariants.{Cancelled, Ended, Killed}
use Rattle.orders.specs.declared.kind.Kind.{Kind}
use Rattle.orders.specs.declared.kind.Kind.TheVariants.{Limit, AllOrNone, MinimumQuantity, FillOrKill}
use Rattle.orders.specs.declared.side.Side.{Side}
use Rattle.orders.specs.declared.side.Side.TheVariants.{Buy, Sell}
use Rattle.orders.specs.declared.time.TimeInForce.{TimeInForce}
use Rattle.orders.specs.declared.time.TimeInForce.TheVariants.{Day, GoodTillCancelled, GoodTillDate}

abbrev pub letter : String → ℕ
letter text = slice_index (codes text) 0

abbrev pub sides : List Side
sides = Buy ∷ Sell ∷ []

abbrev pub side_letter : Side → ℕ
side_letter Buy = letter "B"
side_letter Sell = letter "S"

abbrev pub kinds : List Kind
kinds = Limit ∷ AllOrNone ∷ MinimumQuantity ∷ FillOrKill ∷ []

abbrev pub kind_letter : Kind → ℕ
kind_letter Limit = letter "L"
kind_letter AllOrNone = letter "A"
kind_letter MinimumQuantity = letter "M"
kind_letter FillOrKill = letter "F"

abbrev pub times : List TimeInForce
times = Day ∷ GoodTillCancelled ∷ GoodTillDate ∷ []

abbrev pub time_letter : TimeInForce → ℕ
time_letter Day = letter "D"
time_letter GoodTillCancelled = letter "C"
time_letter GoodTillDate = letter "G"

abbrev pub causes : List Cause
causes = Cancelled ∷ Ended ∷ Killed ∷ []

abbrev pub cause_letter : Cause → ℕ
cause_letter Cancelled = letter "C"
cause_letter Ended = letter "E"
cause_letter Killed = letter "K"
