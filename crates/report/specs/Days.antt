-- A collection day that has ended, as a day.
use Rattle.std.specs.Prelude.{[], slice_index_or, vec_items}
use Rattle.day.specs.Blank.{blank_place}
use Rattle.day.specs.Day.{Day}
use Rattle.report.specs.declared.ended.Ended.{Ended}

abbrev pub the_day : Ended → Day
the_day d = record { place = λ p. slice_index_or (vec_items d.places) p blank_place; waiting = []; journal = vec_items d.journal }
