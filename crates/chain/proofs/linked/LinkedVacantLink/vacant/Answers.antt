use Rattle.std.proofs.Common.{arith}
use Rattle.chain.proofs.Moves.{parted_new}
use Rattle.chain.proofs.linked.LinkedVacantLink.vacant.Goals as goal

pub invariant_of-result : goal.invariant_of-result
invariant_of-result c = record { fits = omega arith; sound = parted_new c.link_up.new.at c.link_up.ensures }
