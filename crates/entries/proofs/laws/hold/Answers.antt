use Rattle.entries.proofs.Taken.{fitting, refused_by_field, taken}
use Rattle.entries.proofs.laws.hold.Goals as goal

pub returns : goal.returns
returns c = record { taken = λ t. record { taken = taken t; fitting = fitting t }; refused = refused_by_field }
