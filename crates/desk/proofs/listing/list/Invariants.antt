use Rattle.std.proofs.Common.{◌≡◌, ◌-◌, ◌≤◌, length}
use Rattle.wire.specs.Reading.{bytes, position}
use Rattle.desk.specs.Listing.{Records}
use Rattle.desk.proofs.listing.list.Given as goal

-- the records so far stand before the position, each in a byte or more
abbrev pub invariant-loop-records : goal.invariant-loop-records
invariant-loop-records l = (bytes l.reader ≡ l.input) × Records l.input l.records (position l.reader) × (l.records ≤ position l.reader)

abbrev pub decreases-loop-records : goal.decreases-loop-records
decreases-loop-records l = length l.input - position l.reader
