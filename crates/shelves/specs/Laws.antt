-- What every put, take and write keeps of a shelf's list, whatever the rank. Assumes nothing.
--     KeepsRank before          a list in rank order stays in rank order
--     KeepsDistinct before      a list of distinct serials stays one
--     Finds                     what a search for a serial tells
--     In x xs                   the order x stands on the list xs
--     Iff A B                   A holds exactly if B does
--     Members before            who is on the list afterwards
--     Totals before             how often each is there: the sum of any number f over the orders
-- A put is of an order whose serial is not there; a take and a write are of a place where an order stands.
use Rattle.std.specs.Prelude.{◌≡◌, ℕ, ◌+◌, Bool, true, false, ◌⊎◌, List, [], ◌∷◌, is_some, Some, sum_by, ◌≢◌}
use Rattle.std.specs.List.{slice_get, remove}
use Rattle.orders.specs.declared.order.Order.{Order}
use Rattle.orders.specs.declared.terms.Terms.{Terms}
use Rattle.shelves.specs.Lists.{distinct, has, place_of, placed, ranked, renewed, rewritten}
use Rattle.shelves.specs.Ranks.{Standing}

pub record KeepsRank (before : Standing → Standing → Bool) : Type 0 where
  pub put : (o : Order) (xs : List Order) → has o.serial xs ≡ false → ranked before xs ≡ true → ranked before (placed before o xs) ≡ true
  pub take : (xs : List Order) (i : ℕ) → ranked before xs ≡ true → ranked before (remove xs i) ≡ true
  pub write : (xs : List Order) (i b : ℕ) (t : Terms) → ranked before xs ≡ true → ranked before (rewritten xs i b t) ≡ true

pub record KeepsDistinct (before : Standing → Standing → Bool) : Type 0 where
  pub put : (o : Order) (xs : List Order) → has o.serial xs ≡ false → distinct xs ≡ true → distinct (placed before o xs) ≡ true
  pub take : (xs : List Order) (i : ℕ) → distinct xs ≡ true → distinct (remove xs i) ≡ true
  pub write : (xs : List Order) (i b : ℕ) (t : Terms) → distinct xs ≡ true → distinct (rewritten xs i b t) ≡ true

pub record Finds : Type 0 where
  pub absent : (n : ℕ) (xs : List Order) → is_some (place_of n xs) ≡ has n xs
  pub there : (n : ℕ) (xs : List Order) (i : ℕ) → place_of n xs ≡ Some i → (o : Order) × (slice_get xs i ≡ Some o) × (o.serial ≡ n)

abbrev pub In : Order → List Order → Type 0
In x [] = ⊥
In x (y ∷ ys) = (x ≡ y) ⊎ In x ys

abbrev pub Iff : Type 0 → Type 0 → Type 0
Iff A B = (A → B) × (B → A)

-- x stands on xs, and is not the order with the serial of o
abbrev pub Other : Order → Order → List Order → Type 0
Other o x xs = In x xs × (x.serial ≢ o.serial)

pub record Members (before : Standing → Standing → Bool) : Type 0 where
  pub put : (o x : Order) (xs : List Order) → Iff (In x (placed before o xs)) ((x ≡ o) ⊎ In x xs)
  pub take : (o x : Order) (xs : List Order) (i : ℕ) → distinct xs ≡ true → slice_get xs i ≡ Some o → Iff (In x (remove xs i)) (Other o x xs)
  pub write : (o x : Order) (xs : List Order) (i b : ℕ) (t : Terms) → distinct xs ≡ true → slice_get xs i ≡ Some o →
      Iff (In x (rewritten xs i b t)) ((x ≡ renewed o b t) ⊎ Other o x xs)

pub record Totals (before : Standing → Standing → Bool) : Type 0 where
  pub put : (f : Order → ℕ) (o : Order) (xs : List Order) → sum_by f (placed before o xs) ≡ f o + sum_by f xs
  pub take : (f : Order → ℕ) (o : Order) (xs : List Order) (i : ℕ) → slice_get xs i ≡ Some o → f o + sum_by f (remove xs i) ≡ sum_by f xs
  pub write : (f : Order → ℕ) (o : Order) (xs : List Order) (i b : ℕ) (t : Terms) → slice_get xs i ≡ Some o →
      f o + sum_by f (rewritten xs i b t) ≡ f (renewed o b t) + sum_by f xs
