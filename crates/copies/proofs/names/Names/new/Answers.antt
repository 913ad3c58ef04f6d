-- The names are the numbers of the places, row by row, and all sixteen stand beside each.
use Rattle.copies.proofs.Beside.{begun_shared}
use Rattle.copies.proofs.Rows.{begun_cells, begun_inside}
use Rattle.copies.proofs.Wholes.{begun_whole}
use Rattle.copies.proofs.names.Names.new.Goals as goal

pub invariant_of-result : goal.invariant_of-result
invariant_of-result c = record { inside = begun_inside _ c.starting_rows.ensures.cells c.starting_rows.ensures.len; shared = begun_shared _ c.starting_rows.ensures.cells c.everyone.result c.everyone.ensures; counted = begun_whole c.everyone.result c.everyone.ensures }

pub returns : goal.returns
returns c = begun_cells _ c.starting_rows.ensures.cells
