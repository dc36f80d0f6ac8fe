use Rattle.shelves.proofs.Keeping.{keeps_distinct, keeps_rank}
use Rattle.shelves.proofs.Membership.{members, totals}
use Rattle.shelves.proofs.Searches.{finds}
use Rattle.shelves.proofs.laws.hold.Goals as goal

pub returns : goal.returns
returns g c = record {
  rank = keeps_rank g.met.R.Rank.ranking;
  distinct = keeps_distinct g.R.Rank.before;
  found = finds;
  members = members g.R.Rank.before;
  totals = totals g.R.Rank.before;
}
