-- The two texts keep the laws. Assumes nothing.
use Rattle.std.specs.Prelude.{◌≡◌, ℕ, ◌-◌, ◌<◌, ◌≤◌, Bool, true, false, ◌⊎◌, Some, None, Option, nat_lt, refl}
use Rattle.std.proofs.Common.{inl, inr, arith}
use Rattle.std.proofs.lemmas.Bool.Decides.{nat_tests}
use Rattle.orders.specs.declared.kind.Kind.{Kind}
use Rattle.orders.specs.declared.kind.Kind.TheVariants.{Limit, AllOrNone, MinimumQuantity, FillOrKill}
use Rattle.editions.specs.Laws.{Lawful, Narrowed}
use Rattle.editions.specs.Text.{terms}
use Rattle.editions.specs.Texts.{admits2016, after2016, lowered, raised, text2006, text2016}

pub lawful2006 : Lawful text2006
lawful2006 = record {
  limit = λ b m f h k. grind (arith, nat_tests);
  whole = λ b x h. grind (arith, nat_tests);
  larger = λ b x f g h k m. grind (arith, nat_tests);
  left = λ b x f h k. inr (record { kind = refl; before = λ g m. grind (arith, nat_tests) });
  range = λ c v cut. record { from = omega arith; ordered = cut.meet; to = omega arith };
}

whole : (k : Kind) (b m : ℕ) → 1 ≤ b → admits2016 k b m b ≡ true
whole Limit b m h = grind (arith, nat_tests)
whole AllOrNone b m h = grind (arith, nat_tests)
whole MinimumQuantity b m h = grind (arith, nat_tests)
whole FillOrKill b m h = grind (arith, nat_tests)

larger : (k : Kind) (b m f g : ℕ) → admits2016 k b m f ≡ true → f < g → g ≤ b → admits2016 k b m g ≡ true
larger Limit b m f g h i j = grind (arith, nat_tests)
larger AllOrNone b m f g h i j = grind (arith, nat_tests)
larger MinimumQuantity b m f g h i j = grind (arith, nat_tests)
larger FillOrKill b m f g h i j = grind (arith, nat_tests)

-- what is left of a minimum-quantity balance, by whether that is under its minimum
minimum_left : (b m f : ℕ) (under : Bool) → nat_lt (b - f) m ≡ under → f < b →
    ((after2016 MinimumQuantity (b - f) m).kind ≡ Limit) ⊎ Narrowed text2016 b (terms MinimumQuantity m) f
minimum_left b m f true e h = inl (rw e)
minimum_left b m f false e h = inr (record { kind = rw e; before = λ g k. grind (arith, nat_tests) })

left : (k : Kind) (b m f : ℕ) → f < b → admits2016 k b m f ≡ true → ((after2016 k (b - f) m).kind ≡ Limit) ⊎ Narrowed text2016 b (terms k m) f
left Limit b m f h k = inl refl
left AllOrNone b m f h k = inr (record { kind = refl; before = λ g i. grind (arith, nat_tests) })
left MinimumQuantity b m f h k = minimum_left b m f (nat_lt (b - f) m) refl h
left FillOrKill b m f h k = inr (record { kind = refl; before = λ g i. grind (arith, nat_tests) })

-- the range of prices, by the V-th prices that meet and the next ones
module _ (s b : ℕ) (meet : s ≤ b) where
  ordered : (n m : Option ℕ) → ((p : ℕ) → n ≡ Some p → p ≤ b) → ((p : ℕ) → m ≡ Some p → s ≤ p) → ((p q : ℕ) → n ≡ Some p → m ≡ Some q → p < q) → raised s n ≤ lowered b m
  ordered None None fall rise apart = meet
  ordered (Some p) None fall rise apart = let i = fall p refl in omega arith
  ordered None (Some q) fall rise apart = let i = rise q refl in omega arith
  ordered (Some p) (Some q) fall rise apart =
      let i = fall p refl in
      let j = rise q refl in
      let k = apart p q refl refl in
      omega arith

from : (s : ℕ) (n : Option ℕ) → s ≤ raised s n
from s None = omega arith
from s (Some p) = omega arith

to : (b : ℕ) (m : Option ℕ) → lowered b m ≤ b
to b None = omega arith
to b (Some q) = omega arith

pub lawful2016 : Lawful text2016
lawful2016 = record {
  limit = λ b m f h k. grind (arith, nat_tests);
  whole = λ b x h. whole x.kind b x.minimum h;
  larger = λ b x f g h k m. larger x.kind b x.minimum f g h k m;
  left = λ b x f h k. left x.kind b x.minimum f h k;
  range = λ c v cut. record {
    from = from c.offers.last c.bids.next;
    ordered = ordered c.offers.last c.bids.last cut.meet c.bids.next c.offers.next cut.bids_fall cut.offers_rise cut.apart;
    to = to c.bids.last c.offers.next;
  };
}
