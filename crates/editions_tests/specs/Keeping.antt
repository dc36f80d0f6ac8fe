-- The odd edition keeps the laws. Assumes nothing.
use Rattle.std.specs.Prelude.{◌≡◌, ℕ, ◌-◌, ◌/◌, ◌<◌, Bool, true, false, ◌⊎◌, nat_le, refl}
use Rattle.std.proofs.Common.{inl, inr, arith}
use Rattle.std.proofs.lemmas.Bool.Decides.{nat_tests}
use Rattle.orders.specs.declared.kind.Kind.{Kind}
use Rattle.orders.specs.declared.kind.Kind.TheVariants.{Limit, AllOrNone, MinimumQuantity, FillOrKill}
use Rattle.editions.specs.Laws.{Lawful, Narrowed}
use Rattle.editions.specs.Text.{terms}
use Rattle.editions_tests.specs.Odd.{odd, odd_admits, odd_after}

whole : (k : Kind) (b m : ℕ) → odd_admits k b m b ≡ true
whole Limit b m = refl
whole AllOrNone b m = grind (arith, nat_tests)
whole MinimumQuantity b m = grind (arith, nat_tests)
whole FillOrKill b m = grind (arith, nat_tests)

larger : (k : Kind) (b m f g : ℕ) → odd_admits k b m f ≡ true → f < g → odd_admits k b m g ≡ true
larger Limit b m f g h i = refl
larger AllOrNone b m f g h i = grind (arith, nat_tests)
larger MinimumQuantity b m f g h i = grind (arith, nat_tests)
larger FillOrKill b m f g h i = grind (arith, nat_tests)

-- what is left of a minimum-quantity balance, by whether there is room for twice its minimum
minimum_left : (b m f : ℕ) (room : Bool) → nat_le m ((b - f) / 2) ≡ room →
    ((odd_after MinimumQuantity (b - f) m f).kind ≡ Limit) ⊎ Narrowed odd b (terms MinimumQuantity m) f
minimum_left b m f true e = inr (record { kind = rw e; before = λ g k. grind (arith, nat_tests) })
minimum_left b m f false e = inl (rw e)

left : (k : Kind) (b m f : ℕ) → ((odd_after k (b - f) m f).kind ≡ Limit) ⊎ Narrowed odd b (terms k m) f
left Limit b m f = inl refl
left AllOrNone b m f = inl refl
left MinimumQuantity b m f = minimum_left b m f (nat_le m ((b - f) / 2)) refl
left FillOrKill b m f = inl refl

pub lawful : Lawful odd
lawful = record {
  limit = λ b m f h k. refl;
  whole = λ b x h. whole x.kind b x.minimum;
  larger = λ b x f g h k m. larger x.kind b x.minimum f g h k;
  left = λ b x f h k. left x.kind b x.minimum f;
  range = λ c v cut. let meet = cut.meet in record { from = omega arith; ordered = omega arith; to = omega arith };
}
