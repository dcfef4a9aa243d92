-- What `fill` leaves in front is n times x (`front_filled`).
use Rattle.std.proofs.Common.{rules}
use Rattle.std.proofs.lemmas.List.{length-take-le}
use Rattle.grids.proofs.Fronts.{front_filled}
use Rattle.cells.proofs.cores.fill_cells.Goals as goal

pub returns : goal.returns
returns c = rw (c.fill.ensures.after (search rules), length-take-le c.args.n c.args.m.now c.requires) (front_filled c.args.n c.args.x c.args.m.now c.requires)
