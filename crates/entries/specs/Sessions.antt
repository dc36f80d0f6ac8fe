-- The sessions of an entry. Assumes nothing.
--     running p                 the session that runs in the phase p, alone, or none
--     by_time x k p d           the sessions of an entry that is not F: of time in force x and kind k, entered in
--                               the phase p, and asking for the sessions d, if any
--     sessions_of e p           the sessions of the checked entry e, entered in the phase p
use Rattle.std.specs.Prelude.{true, false, cond, ◌&&◌, Some, None, Option}
use Rattle.orders.specs.Phases.{session_set}
use Rattle.orders.specs.declared.kind.Kind.{Kind}
use Rattle.orders.specs.declared.phase.Phase.{Phase}
use Rattle.orders.specs.declared.phase.Phase.TheVariants.{Queue, Opening, Core, Late, Closed}
use Rattle.orders.specs.declared.sessions.Sessions.{Sessions}
use Rattle.orders.specs.declared.time.TimeInForce.{TimeInForce}
use Rattle.orders.specs.declared.time.TimeInForce.TheVariants.{Day, GoodTillCancelled, GoodTillDate}
use Rattle.entries.specs.Cases.{is_conditional, is_kill, is_opening}
use Rattle.entries.specs.declared.checked.CheckedEntry.{CheckedEntry}

abbrev pub running : Phase → Sessions
running Queue = session_set false false false
running Opening = session_set true false false
running Core = session_set false true false
running Late = session_set false false true
running Closed = session_set false false false

abbrev pub by_time : TimeInForce → Kind → Phase → Option Sessions → Sessions
by_time Day k p (Some designated) = designated
by_time Day k p None = session_set (is_conditional k && is_opening p) true false
by_time GoodTillCancelled k p d = session_set false true false
by_time GoodTillDate k p d = session_set false true false

abbrev pub sessions_of : CheckedEntry → Phase → Sessions
sessions_of e p = cond (is_kill e.terms.kind) (running p) (by_time e.time e.terms.kind p e.designation)
