-- The phases of a day and the sets of its sessions, with their numbers. Assumes nothing.
--     phases, all_sessions      every case, in the order of the numbers
--     phase_number p            the place of a phase in the day, from 0
--     session_set o c l         the sessions by whether Opening, Core and Late are among them
--     designation_of s          the number that stands for a set of sessions
use Rattle.std.specs.Prelude.{ℕ, ◌+◌, Bool, true, false, cond, List, [], ◌∷◌}
use Rattle.orders.specs.declared.phase.Phase.{Phase}
use Rattle.orders.specs.declared.phase.Phase.TheVariants.{Queue, Opening, Core, Late, Closed}
use Rattle.orders.specs.declared.sessions.Sessions.{Sessions}

abbrev pub phases : List Phase
phases = Queue ∷ Opening ∷ Core ∷ Late ∷ Closed ∷ []

abbrev pub phase_number : Phase → ℕ
phase_number Queue = 0
phase_number Opening = 1
phase_number Core = 2
phase_number Late = 3
phase_number Closed = 4

abbrev pub session_set : Bool → Bool → Bool → Sessions
session_set o c l = record { opening = o; core = c; late = l }

abbrev pub all_sessions : List Sessions
all_sessions =
    session_set false false false
    ∷ session_set true false false
    ∷ session_set false true false
    ∷ session_set true true false
    ∷ session_set false false true
    ∷ session_set true false true
    ∷ session_set false true true
    ∷ session_set true true true
    ∷ []

-- 1 for Opening, 2 for Core, 4 for Late, added up
abbrev pub designation_of : Sessions → ℕ
designation_of s = cond s.opening 1 0 + cond s.core 2 0 + cond s.late 4 0
