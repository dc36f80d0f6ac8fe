-- The laws that every edition keeps; nothing more is known of one. Assumes nothing.
--     LimitIsFree t         1. L admits every fill from 1 to the balance
--     WholeIsAdmitted t     2. every kind admits the whole balance
--     LargerIsAdmitted t    3. whoever admits a fill admits each larger one up to the balance
--     LeftOnlyNarrows t     4. a balance left after an admitted fill is L, or keeps its kind and admits
--                              nothing that it did not admit before
--     RangeLiesBetween t    5. with V above 0, low is at most high, and both lie from the V-th selling
--                              price to the V-th buying price
--     Lawful t              all five, and no other
--     TrueCut c             what is so of every cut of two sides in rank order behind the bonds that
--                           trade: the V-th prices meet; a next price is no better than the V-th of its
--                           side; where there are both next prices, they do not meet
-- A balance is at least 1. Nothing says that an admitted fill is, or that it is at most the balance.
use Rattle.std.specs.Prelude.{◌≡◌, ℕ, ◌-◌, ◌<◌, ◌≤◌, true, ◌⊎◌, Some}
use Rattle.orders.specs.declared.kind.Kind.TheVariants.{Limit}
use Rattle.editions.specs.declared.cut.Cut.{Cut}
use Rattle.orders.specs.declared.terms.Terms.{Terms}
use Rattle.editions.specs.Text.{Text, terms}

abbrev pub LimitIsFree : Text → Type 0
LimitIsFree t = (b m f : ℕ) → 1 ≤ f → f ≤ b → t.admits b (terms Limit m) f ≡ true

abbrev pub WholeIsAdmitted : Text → Type 0
WholeIsAdmitted t = (b : ℕ) (x : Terms) → 1 ≤ b → t.admits b x b ≡ true

abbrev pub LargerIsAdmitted : Text → Type 0
LargerIsAdmitted t = (b : ℕ) (x : Terms) (f g : ℕ) → t.admits b x f ≡ true → f < g → g ≤ b → t.admits b x g ≡ true

-- the same kind as before, and whatever is admitted now was admitted then
pub record Narrowed (t : Text) (b : ℕ) (x : Terms) (f : ℕ) : Type 0 where
  pub kind : (t.after b x f).kind ≡ x.kind
  pub before : (g : ℕ) → t.admits (b - f) (t.after b x f) g ≡ true → t.admits b x g ≡ true

abbrev pub LeftOnlyNarrows : Text → Type 0
LeftOnlyNarrows t = (b : ℕ) (x : Terms) (f : ℕ) → f < b → t.admits b x f ≡ true → ((t.after b x f).kind ≡ Limit) ⊎ Narrowed t b x f

pub record TrueCut (c : Cut) : Type 0 where
  pub meet : c.offers.last ≤ c.bids.last
  pub bids_fall : (p : ℕ) → c.bids.next ≡ Some p → p ≤ c.bids.last
  pub offers_rise : (p : ℕ) → c.offers.next ≡ Some p → c.offers.last ≤ p
  pub apart : (p q : ℕ) → c.bids.next ≡ Some p → c.offers.next ≡ Some q → p < q

pub record InRange (t : Text) (c : Cut) : Type 0 where
  pub from : c.offers.last ≤ t.low c
  pub ordered : t.low c ≤ t.high c
  pub to : t.high c ≤ c.bids.last

abbrev pub RangeLiesBetween : Text → Type 0
RangeLiesBetween t = (c : Cut) → 1 ≤ c.volume → TrueCut c → InRange t c

pub record Lawful (t : Text) : Type 0 where
  pub limit : LimitIsFree t
  pub whole : WholeIsAdmitted t
  pub larger : LargerIsAdmitted t
  pub left : LeftOnlyNarrows t
  pub range : RangeLiesBetween t
