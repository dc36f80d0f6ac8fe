-- What a listing of a stream saw. Assumes nothing.
--     is_item a          the answer of a read is an item
--     Records l n p      n records stand one behind the other in l, from its start to position p
--     Listed l n p       these are all: no record stands at p
--     Shown more l p q   one step from p to q: past a record, or none stands at p
use Rattle.std.specs.Prelude.{◌≡◌, ℕ, ◌+◌, Bool, true, false, List, Some, None, Ok, Err, Option, Result}
use Rattle.orders.specs.declared.refusal.Refusal.{Refusal}
use Rattle.wire.specs.Reading.{read, position_after}
use Rattle.wire.specs.Stream.{Item}

abbrev pub is_item : Result (Option Item) Refusal → Bool
is_item (Ok None) = false
is_item (Ok (Some i)) = true
is_item (Err e) = false

pub data Records (l : List ℕ) : ℕ → ℕ → Type 0 where
  none : Records l 0 0
  more : {n p : ℕ} → Records l n p → is_item (read l p) ≡ true → Records l (n + 1) (position_after l p)

pub record Listed (l : List ℕ) (n p : ℕ) : Type 0 where
  pub records : Records l n p
  pub last : is_item (read l p) ≡ false

pub record Shown (more : Bool) (l : List ℕ) (p q : ℕ) : Type 0 where
  pub found : is_item (read l p) ≡ more
  pub moved : q ≡ position_after l p
