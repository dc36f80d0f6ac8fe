-- The text of the odd edition. Assumes nothing.
--     odd_admits k b m f      whether a balance b of kind k with minimum m admits the fill f
--     odd_after k left m f    the terms of what is left of such a balance after the fill f
--     odd                     the text
use Rattle.std.specs.Prelude.{ℕ, ◌+◌, ◌-◌, ◌*◌, ◌/◌, Bool, true, cond, ◌||◌, nat_le}
use Rattle.std.specs.Option.{option_map}
use Rattle.orders.specs.Letters.{kind_letter, time_letter}
use Rattle.orders.specs.declared.kind.Kind.{Kind}
use Rattle.orders.specs.declared.kind.Kind.TheVariants.{Limit, AllOrNone, MinimumQuantity, FillOrKill}
use Rattle.editions.specs.Text.{Text, among, terms}
use Rattle.editions.specs.declared.cut.Level.{Level}
use Rattle.orders.specs.declared.terms.Terms.{Terms}

abbrev pub odd_admits : Kind → ℕ → ℕ → ℕ → Bool
odd_admits Limit b m f = true
odd_admits AllOrNone b m f = nat_le b (2 * f)
odd_admits MinimumQuantity b m f = nat_le m f || nat_le b f
odd_admits FillOrKill b m f = nat_le b f

abbrev pub odd_after : Kind → ℕ → ℕ → ℕ → Terms
odd_after Limit left m f = terms Limit f
odd_after AllOrNone left m f = terms Limit f
odd_after MinimumQuantity left m f = cond (nat_le m (left / 2)) (terms MinimumQuantity (m * 2)) (terms Limit f)
odd_after FillOrKill left m f = terms Limit f

abbrev pub odd : Text
odd = record {
  width = 0;
  kinds = among kind_letter "AM";
  times = among time_letter "G";
  admits = λ b x f. odd_admits x.kind b x.minimum f;
  after = λ b x f. odd_after x.kind (b - f) x.minimum f;
  low = λ c. (c.offers.last + c.bids.last) / 2;
  high = λ c. c.bids.last;
  idle_price = λ c. option_map (λ (offer : Level). offer.price) c.offers.best;
}
