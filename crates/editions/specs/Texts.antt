-- The two texts. Assumes nothing.
--     part b f                    f is from 1 to b
--     admits2016 k b m f          whether a balance b of kind k with minimum m admits the fill f, in 2016
--     after2016 k left m          the terms of what is left of such a balance
--     raised p q, lowered p q     the price p, moved to the price q where there is one that is larger, or smaller
--     idle_by choose bid offer    the price when nothing can trade, by the best price of each side with its bonds
--     best_bid, larger_side       of two best prices the bid, or that of the side with more bonds, the bid on a tie
--     text2006, text2016          the texts
use Rattle.std.specs.Prelude.{ℕ, ◌-◌, Bool, cond, ◌||◌, Some, None, Option, ◌==◌, max, min, nat_lt}
use Rattle.std.specs.Int.{is_in_range}
use Rattle.orders.specs.Letters.{kind_letter, time_letter}
use Rattle.orders.specs.declared.kind.Kind.{Kind}
use Rattle.orders.specs.declared.kind.Kind.TheVariants.{Limit, AllOrNone, MinimumQuantity, FillOrKill}
use Rattle.editions.specs.declared.cut.Level.{Level}
use Rattle.orders.specs.declared.terms.Terms.{Terms}
use Rattle.editions.specs.Text.{Text, among, terms}

abbrev pub part : ℕ → ℕ → Bool
part b f = is_in_range 1 b f

abbrev pub admits2016 : Kind → ℕ → ℕ → ℕ → Bool
admits2016 Limit b m f = part b f
admits2016 AllOrNone b m f = f == b
admits2016 MinimumQuantity b m f = f == b || is_in_range m b f
admits2016 FillOrKill b m f = f == b

abbrev pub after2016 : Kind → ℕ → ℕ → Terms
after2016 Limit left m = terms Limit m
after2016 AllOrNone left m = terms AllOrNone m
after2016 MinimumQuantity left m = cond (nat_lt left m) (terms Limit 0) (terms MinimumQuantity m)
after2016 FillOrKill left m = terms FillOrKill m

abbrev pub raised : ℕ → Option ℕ → ℕ
raised p None = p
raised p (Some q) = max p q

abbrev pub lowered : ℕ → Option ℕ → ℕ
lowered p None = p
lowered p (Some q) = min p q

-- with both sides empty none, with one the other's best
abbrev pub idle_by : (Level → Level → ℕ) → Option Level → Option Level → Option ℕ
idle_by choose None None = None
idle_by choose None (Some offer) = Some offer.price
idle_by choose (Some bid) None = Some bid.price
idle_by choose (Some bid) (Some offer) = Some (choose bid offer)

abbrev pub best_bid : Level → Level → ℕ
best_bid bid offer = bid.price

abbrev pub larger_side : Level → Level → ℕ
larger_side bid offer = cond (nat_lt bid.bonds offer.bonds) offer.price bid.price

abbrev pub text2006 : Text
text2006 = record {
  width = 1000;
  kinds = among kind_letter "L";
  times = among time_letter "DC";
  admits = λ b x f. part b f;
  after = λ b x f. x;
  low = λ c. c.offers.last;
  high = λ c. c.bids.last;
  idle_price = λ c. idle_by best_bid c.bids.best c.offers.best;
}

abbrev pub text2016 : Text
text2016 = record {
  width = 1000;
  kinds = among kind_letter "LAMF";
  times = among time_letter "DCG";
  admits = λ b x f. admits2016 x.kind b x.minimum f;
  after = λ b x f. after2016 x.kind (b - f) x.minimum;
  low = λ c. raised c.offers.last c.bids.next;
  high = λ c. lowered c.bids.last c.offers.next;
  idle_price = λ c. idle_by larger_side c.bids.best c.offers.best;
}
