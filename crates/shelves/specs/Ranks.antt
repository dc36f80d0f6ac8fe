-- Ranks: which of two orders with different serials comes first. Assumes nothing.
--     Standing            all of an order that no fill changes: no balance, no kind, no minimum
--     standing o          the standing of the order o
--     Ranking before      before is a total order on standings with different serials
--     earlier a b         the same price, and a lower serial
--     bid_before, offer_before, waiting_before      the ranks of the three shelves of a board
use Rattle.std.specs.Prelude.{◌≡◌, ℕ, Bool, true, false, ◌&&◌, ◌||◌, ◌==◌, ◌≢◌, nat_lt}
use Rattle.orders.specs.declared.order.Order.{Order}
use Rattle.orders.specs.declared.sessions.Sessions.{Sessions}
use Rattle.orders.specs.declared.side.Side.{Side}
use Rattle.orders.specs.declared.time.TimeInForce.{TimeInForce}

pub record Standing : Type 0 where
  pub serial : ℕ
  pub member : ℕ
  pub side : Side
  pub price : ℕ
  pub time : TimeInForce
  pub sessions : Sessions
  pub date : ℕ

abbrev pub standing : Order → Standing
standing o = record {
  serial = o.serial;
  member = o.member;
  side = o.side;
  price = o.price;
  time = o.time;
  sessions = o.sessions;
  date = o.date;
}

pub record Ranking (before : Standing → Standing → Bool) : Type 0 where
  pub irreflexive : (a : Standing) → before a a ≡ false
  pub transitive : (a b c : Standing) → before a b ≡ true → before b c ≡ true → before a c ≡ true
  pub total : (a b : Standing) → (a.serial ≢ b.serial) → before a b ≡ false → before b a ≡ true

abbrev pub earlier : Standing → Standing → Bool
earlier a b = a.price == b.price && nat_lt a.serial b.serial

abbrev pub bid_before : Standing → Standing → Bool
bid_before a b = nat_lt b.price a.price || earlier a b

abbrev pub offer_before : Standing → Standing → Bool
offer_before a b = nat_lt a.price b.price || earlier a b

abbrev pub waiting_before : Standing → Standing → Bool
waiting_before a b = nat_lt a.serial b.serial
