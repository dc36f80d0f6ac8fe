-- How far the orders that answers show come in rank order. Assumes nothing.
--     order_of a                    the order that an answer shows
--     follows before p q            both orders are there, and the first comes before the second
--     ranked_pairs before p as      how many of the answers, behind one that showed p, show an order
--                                   right behind one that comes before it
use Rattle.std.specs.Prelude.{ℕ, ◌+◌, Bool, false, cond, List, [], ◌∷◌, Some, None, Option}
use Rattle.orders.specs.declared.order.Order.{Order}
use Rattle.script.specs.declared.step.Answer.{Answer}
use Rattle.script.specs.declared.step.Answer.TheVariants.{Placed, Taken, Written, Found, Shown}
use Rattle.shelves.specs.Ranks.{Standing, standing}

abbrev pub order_of : Answer → Option Order
order_of (Placed r) = None
order_of (Taken o) = o
order_of (Written o) = None
order_of (Found i) = None
order_of (Shown o) = o

module _ (before : Standing → Standing → Bool) where
  abbrev pub follows : Option Order → Option Order → Bool
  follows None q = false
  follows (Some a) None = false
  follows (Some a) (Some b) = before (standing a) (standing b)

  abbrev pub ranked_pairs : Option Order → List Answer → ℕ
  ranked_pairs p [] = 0
  ranked_pairs p (a ∷ as') = cond (follows p (order_of a)) 1 0 + ranked_pairs (order_of a) as'
