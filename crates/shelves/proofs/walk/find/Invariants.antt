use Rattle.std.proofs.Common.{◌≡◌, ◌+◌, ◌-◌, ◌≤◌, length}
use Rattle.std.specs.Option.{option_map}
use Rattle.shelves.specs.Lists.{place_of}
use Rattle.shelves.proofs.walk.find.Given as goal

-- the serial is as far on as what is ahead says
abbrev pub invariant-loop-order : goal.invariant-loop-order
invariant-loop-order g l =
    let ahead = g.W.Walk.ahead in
    let seek = place_of l.serial in
    (seek (ahead l.initial.walk) ≡ option_map (λ k. (l.count - length (ahead l.walk)) + k) (seek (ahead l.walk)))
    × (length (ahead l.walk) ≤ l.count)

abbrev pub decreases-loop-order : goal.decreases-loop-order
decreases-loop-order g l = length (g.W.Walk.ahead l.walk)
