-- The three ranks are total orders. Assumes nothing.
use Rattle.std.proofs.Common.{arith}
use Rattle.std.proofs.lemmas.Bool.Decides.{nat_tests}
use Rattle.shelves.specs.Ranks.{Ranking, bid_before, offer_before, waiting_before}

pub bid_ranking : Ranking bid_before
bid_ranking = record {
  irreflexive = λ a. grind (arith, nat_tests);
  transitive = λ a b c h k. grind (arith, nat_tests);
  total = λ a b apart h. grind (arith, nat_tests);
}

pub offer_ranking : Ranking offer_before
offer_ranking = record {
  irreflexive = λ a. grind (arith, nat_tests);
  transitive = λ a b c h k. grind (arith, nat_tests);
  total = λ a b apart h. grind (arith, nat_tests);
}

pub waiting_ranking : Ranking waiting_before
waiting_ranking = record {
  irreflexive = λ a. grind (arith, nat_tests);
  transitive = λ a b c h k. grind (arith, nat_tests);
  total = λ a b apart h. grind (arith, nat_tests);
}
