-- What a script of calls makes of a shelf's list, by the meaning of a shelf alone. Assumes nothing.
--     buy n p                          the drill's order with the serial n at the price p
--     answer_of room s xs              the answer of a shelf with so many places and the orders xs to a step
--     after before room s xs           the orders that it leaves
--     answers before room ss xs        the answers to one step after another
--     after_all before room ss xs      the orders that they leave
use Rattle.std.specs.Prelude.{ℕ, Bool, true, false, List, [], ◌∷◌}
use Rattle.std.specs.List.{slice_get, remove}
use Rattle.script.specs.declared.step.Answer.{Answer}
use Rattle.script.specs.declared.step.Answer.TheVariants.{Placed, Taken, Written, Found, Shown}
use Rattle.script.specs.declared.step.Step.{Step}
use Rattle.script.specs.declared.step.Step.TheVariants.{Put, Take, Write, Find, Show}
use Rattle.orders.specs.Phases.{session_set}
use Rattle.orders.specs.declared.kind.Kind.TheVariants.{Limit}
use Rattle.orders.specs.declared.order.Order.{Order}
use Rattle.orders.specs.declared.side.Side.TheVariants.{Buy}
use Rattle.orders.specs.declared.time.TimeInForce.TheVariants.{Day}
use Rattle.shelves.specs.Lists.{place_of, rewritten}
use Rattle.shelves.specs.Puts.{after_put, put_answer}
use Rattle.shelves.specs.Ranks.{Standing}

abbrev pub buy : ℕ → ℕ → Order
buy n p = record {
  serial = n;
  member = 1;
  side = Buy;
  price = p;
  balance = 100;
  terms = record { kind = Limit; minimum = 0 };
  time = Day;
  sessions = session_set false true false;
  date = 0;
}

abbrev pub answer_of : ℕ → Step → List Order → Answer
answer_of room (Put n p) xs = Placed (put_answer room n xs)
answer_of room (Take i) xs = Taken (slice_get xs i)
answer_of room (Write i b t) xs = Written (slice_get xs i)
answer_of room (Find n) xs = Found (place_of n xs)
answer_of room (Show i) xs = Shown (slice_get xs i)

module _ (before : Standing → Standing → Bool) (room : ℕ) where
  abbrev pub after : Step → List Order → List Order
  after (Put n p) xs = after_put before (put_answer room n xs) (buy n p) xs
  after (Take i) xs = remove xs i
  after (Write i b t) xs = rewritten xs i b t
  after (Find n) xs = xs
  after (Show i) xs = xs

  abbrev pub answers : List Step → List Order → List Answer
  answers [] xs = []
  answers (s ∷ ss) xs = answer_of room s xs ∷ answers ss (after s xs)

  abbrev pub after_all : List Step → List Order → List Order
  after_all [] xs = xs
  after_all (s ∷ ss) xs = after_all ss (after s xs)
