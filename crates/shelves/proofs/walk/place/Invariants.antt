use Rattle.std.proofs.Common.{◌≡◌, ◌+◌, ◌-◌, ◌≤◌, length}
use Rattle.shelves.specs.Lists.{place_in}
use Rattle.shelves.proofs.walk.place.Given as goal

-- the place is as far on as what is ahead says
abbrev pub invariant-loop-order : goal.invariant-loop-order
invariant-loop-order g l =
    let ahead = g.W.Walk.ahead in
    let seek = place_in g.R.Rank.before l.new in
    (seek (ahead l.initial.walk) ≡ (l.count - length (ahead l.walk)) + seek (ahead l.walk))
    × (length (ahead l.walk) ≤ l.count)

abbrev pub decreases-loop-order : goal.decreases-loop-order
decreases-loop-order g l = length (g.W.Walk.ahead l.walk)
