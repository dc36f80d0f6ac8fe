-- The text of an edition: what it names and what it answers. Assumes nothing.
--     Text          all of an edition; its answers are functions of what is asked about alone
--     terms k m     the terms of a balance of kind k with minimum m
--     among code letters x      the letter of x is one of these
use Rattle.std.specs.Prelude.{ℕ, Bool, codes, Option, ◌==◌}
use Rattle.std.specs.List.{list_any}
use Prim.Native.String.{String}
use Rattle.orders.specs.declared.kind.Kind.{Kind}
use Rattle.orders.specs.declared.time.TimeInForce.{TimeInForce}
use Rattle.editions.specs.declared.cut.Cut.{Cut}
use Rattle.orders.specs.declared.terms.Terms.{Terms}

abbrev pub terms : Kind → ℕ → Terms
terms k m = record { kind = k; minimum = m }

abbrev pub among : {A : Type 0} → (A → ℕ) → String → A → Bool
among code letters x = list_any (λ c. code x == c) (codes letters)

pub record Text : Type 0 where
  -- how far beyond the best opposite price an entry's price may lie
  pub width : ℕ
  -- the kinds and the times in force that it has
  pub kinds : Kind → Bool
  pub times : TimeInForce → Bool
  -- admits b x f: whether a balance b on the terms x admits a fill f
  pub admits : ℕ → Terms → ℕ → Bool
  -- after b x f: the terms of what is left of it after that fill
  pub after : ℕ → Terms → ℕ → Terms
  -- the lowest and the highest price at which an auction may trade
  pub low : Cut → ℕ
  pub high : Cut → ℕ
  -- an auction's price when nothing can trade
  pub idle_price : Cut → Option ℕ
