use Rattle.std.proofs.Common.{◌≡◌}
use Rattle.chain.specs.Chains.{slot}
use Rattle.chain.proofs.linked.Linked.slot.Given as goal

abbrev pub invariant-loop : goal.invariant-loop
invariant-loop l = l.at ≡ slot l.self.links l.counter
