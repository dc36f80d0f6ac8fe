-- Sets of kinds and of times in force. Assumes nothing.
--     has_kind s k      whether the kind k is in the set s
--     has_time s t      whether the time in force t is in the set s
use Rattle.std.specs.Prelude.{Bool}
use Rattle.orders.specs.declared.kind.Kind.{Kind}
use Rattle.orders.specs.declared.kind.Kind.TheVariants.{Limit, AllOrNone, MinimumQuantity, FillOrKill}
use Rattle.orders.specs.declared.time.TimeInForce.{TimeInForce}
use Rattle.orders.specs.declared.time.TimeInForce.TheVariants.{Day, GoodTillCancelled, GoodTillDate}
use Rattle.editions.specs.declared.sets.KindSet.{KindSet}
use Rattle.editions.specs.declared.sets.TimeSet.{TimeSet}

abbrev pub has_kind : KindSet → Kind → Bool
has_kind s Limit = s.limit
has_kind s AllOrNone = s.all_or_none
has_kind s MinimumQuantity = s.minimum_quantity
has_kind s FillOrKill = s.fill_or_kill

abbrev pub has_time : TimeSet → TimeInForce → Bool
has_time s Day = s.day
has_time s GoodTillCancelled = s.good_till_cancelled
has_time s GoodTillDate = s.good_till_date
