use Rattle.std.proofs.Common.{◌≡◌, ◌++◌, drop, vec_items}
use Rattle.script.specs.Steps.{after_all, answers}
use Rattle.script.proofs.run.run.Given as goal

-- what the steps ahead make of the shelf now is what all of them make of it at first
abbrev pub invariant-loop-step : goal.invariant-loop-step
invariant-loop-step g l =
    let before = g.R.Rank.before in
    let orders = g.S.Shelf.orders in
    let room = g.S.Shelf.room l.initial.shelf in
    let ahead = drop l.step-index l.script in
    (vec_items l.answers ++ answers before room ahead (orders l.shelf) ≡ answers before room l.script (orders l.initial.shelf))
    × (after_all before room ahead (orders l.shelf) ≡ after_all before room l.script (orders l.initial.shelf))
    × (g.S.Shelf.room l.shelf ≡ room)
