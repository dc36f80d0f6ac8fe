use Rattle.shelves.proofs.Searches.{has-place}
use Rattle.shelves.proofs.ranked.Ranked.check.Goals as goal

pub returns : goal.returns
returns g c =
    let xs = g.S.Slots.orders c.args.self.now.slots in
    rw (c.check_put.ensures, c.is_some.ensures, c.find.ensures, has-place c.args.serial xs, c.count.ensures, c.places.ensures)
