-- A shelf's list of orders, and what a put, a take and a write make of it. Assumes nothing.
--     has n xs                 some order of xs has the serial n
--     distinct xs              no two orders of xs have one serial
--     place_of n xs            the place of the serial n, from 0, if it is there
--     leads before x xs        x comes before each order of xs
--     ranked before xs         each order of xs comes before all behind it
--     place_in before o xs     the place of a new order o: behind all in front that come before it
--     placed before o xs       xs with o at that place
--     renewed o b t            o with the balance b on the terms t
--     rewritten xs i b t       xs with these for the order at place i, if there is one
--     nobody                   an order to read past the end of a list
-- A take leaves `remove xs i`, of the standard library: xs without the order at place i, if there is one.
use Rattle.std.specs.Prelude.{ℕ, suc, Bool, true, false, cond, not, ◌&&◌, ◌||◌, List, [], ◌∷◌, Some, None, Option, ◌==◌, slice_index_or, slice_set}
use Rattle.std.specs.List.{insert}
use Rattle.std.specs.Option.{option_map}
use Rattle.orders.specs.Phases.{session_set}
use Rattle.orders.specs.declared.kind.Kind.TheVariants.{Limit}
use Rattle.orders.specs.declared.order.Order.{Order}
use Rattle.orders.specs.declared.side.Side.TheVariants.{Buy}
use Rattle.orders.specs.declared.terms.Terms.{Terms}
use Rattle.orders.specs.declared.time.TimeInForce.TheVariants.{Day}
use Rattle.shelves.specs.Ranks.{Standing, standing}

abbrev pub has : ℕ → List Order → Bool
has n [] = false
has n (x ∷ xs) = x.serial == n || has n xs

abbrev pub distinct : List Order → Bool
distinct [] = true
distinct (x ∷ xs) = not (has x.serial xs) && distinct xs

abbrev pub place_of : ℕ → List Order → Option ℕ
place_of n [] = None
place_of n (x ∷ xs) = cond (x.serial == n) (Some 0) (option_map suc (place_of n xs))

module _ (before : Standing → Standing → Bool) where
  abbrev pub leads : Order → List Order → Bool
  leads x [] = true
  leads x (y ∷ ys) = before (standing x) (standing y) && leads x ys

  abbrev pub ranked : List Order → Bool
  ranked [] = true
  ranked (x ∷ xs) = leads x xs && ranked xs

  abbrev pub place_in : Order → List Order → ℕ
  place_in o [] = 0
  place_in o (x ∷ xs) = cond (before (standing x) (standing o)) (suc (place_in o xs)) 0

  abbrev pub placed : Order → List Order → List Order
  placed o xs = insert xs (place_in o xs) o

abbrev pub renewed : Order → ℕ → Terms → Order
renewed o b t = record {
  serial = o.serial;
  member = o.member;
  side = o.side;
  price = o.price;
  balance = b;
  terms = t;
  time = o.time;
  sessions = o.sessions;
  date = o.date;
}

abbrev pub nobody : Order
nobody = record {
  serial = 0;
  member = 0;
  side = Buy;
  price = 0;
  balance = 0;
  terms = record { kind = Limit; minimum = 0 };
  time = Day;
  sessions = session_set false false false;
  date = 0;
}

abbrev pub rewritten : List Order → ℕ → ℕ → Terms → List Order
rewritten xs i b t = slice_set xs i (renewed (slice_index_or xs i nobody) b t)
