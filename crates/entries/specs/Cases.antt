-- Tests of kinds, times in force and phases, case by case. Assumes nothing.
--     is_kill k             k is F
--     is_conditional k      k is A or M: it sets a condition on size and may rest with it
--     is_day x              x is D
--     is_opening p          p is Opening
use Rattle.std.specs.Prelude.{Bool, true, false}
use Rattle.orders.specs.declared.kind.Kind.{Kind}
use Rattle.orders.specs.declared.kind.Kind.TheVariants.{Limit, AllOrNone, MinimumQuantity, FillOrKill}
use Rattle.orders.specs.declared.phase.Phase.{Phase}
use Rattle.orders.specs.declared.phase.Phase.TheVariants.{Queue, Opening, Core, Late, Closed}
use Rattle.orders.specs.declared.time.TimeInForce.{TimeInForce}
use Rattle.orders.specs.declared.time.TimeInForce.TheVariants.{Day, GoodTillCancelled, GoodTillDate}

abbrev pub is_kill : Kind → Bool
is_kill Limit = false
is_kill AllOrNone = false
is_kill MinimumQuantity = false
is_kill FillOrKill = true

abbrev pub is_conditional : Kind → Bool
is_conditional Limit = false
is_conditional AllOrNone = true
is_conditional MinimumQuantity = true
is_conditional FillOrKill = false

abbrev pub is_day : TimeInForce → Bool
is_day Day = true
is_day GoodTillCancelled = false
is_day GoodTillDate = false

abbrev pub is_opening : Phase → Bool
is_opening Queue = false
is_opening Opening = true
is_opening Core = false
is_opening Late = false
is_opening Closed = false
