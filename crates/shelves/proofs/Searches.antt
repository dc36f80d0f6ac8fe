-- The searches along a list. Assumes nothing.
use Rattle.std.proofs.Common.{◌≡◌, ℕ, suc, ◌≤◌, Bool, true, false, cond, ◌||◌, eqb, List, [], ◌∷◌, length, is_some, Some, None, Option, refl, ap, ◌∙◌, arith}
use Rattle.std.specs.List.{slice_get}
use Rattle.std.specs.Option.{option_map}
use Rattle.std.proofs.lemmas.Bool.{eqb-true}
use Rattle.orders.specs.declared.order.Order.{Order}
use Rattle.shelves.specs.Laws.{Finds}
use Rattle.shelves.specs.Lists.{has, place_in, place_of}
use Rattle.shelves.specs.Ranks.{Standing}

pub place_within : (before : Standing → Standing → Bool) (o : Order) (xs : List Order) → place_in before o xs ≤ length xs
place_within before o [] = omega arith
place_within before o (x ∷ xs) = step _ (place_in before o xs) (length xs) (place_within before o xs)
  where
    step : (b : Bool) (p n : ℕ) → p ≤ n → cond b (suc p) 0 ≤ suc n
    step true p n h = omega arith
    step false p n h = omega arith

-- a serial is there where it has a place
pub has-place : (n : ℕ) (xs : List Order) → is_some (place_of n xs) ≡ has n xs
has-place n [] = refl
has-place n (x ∷ xs) = step (eqb x.serial n) (place_of n xs) (has n xs) (has-place n xs)
  where
    step : (b : Bool) (o : Option ℕ) (h : Bool) → is_some o ≡ h → is_some (cond b (Some 0) (option_map suc o)) ≡ (b || h)
    step true o h e = refl
    step false None h e = e
    step false (Some p) h e = e

-- where a serial was found, the order with it stands
abbrev There : ℕ → List Order → ℕ → Type 0
There n xs i = (o : Order) × (slice_get xs i ≡ Some o) × (o.serial ≡ n)

pub stands_there : (n : ℕ) (xs : List Order) (i : ℕ) → place_of n xs ≡ Some i → There n xs i
stands_there n [] i e = absurd (cc)
stands_there n (x ∷ xs) i e = step (stands_there n xs) (eqb x.serial n) refl (place_of n xs) refl e
  where
    step : ((j : ℕ) → place_of n xs ≡ Some j → There n xs j) → (b : Bool) → eqb x.serial n ≡ b → (p : Option ℕ) → place_of n xs ≡ p →
        cond b (Some 0) (option_map suc p) ≡ Some i → There n (x ∷ xs) i
    step on true q p r f = let z : i ≡ 0 = cc in (x, ap (slice_get (x ∷ xs)) z, eqb-true x.serial n q)
    step on false q None r f = absurd (cc)
    step on false q (Some j) r f =
        let z : i ≡ suc j = cc in
        let t = on j r in
        (t.0, ap (slice_get (x ∷ xs)) z ∙ t.1, t.2)

pub finds : Finds
finds = record { absent = has-place; there = stands_there }
