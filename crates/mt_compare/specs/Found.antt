-- For which difference one that the code has stands.
use Rattle.std.specs.Option.{option_map}
use Rattle.mt_play.specs.mt_marks.Difference.{Difference}
use Rattle.mt_compare.specs.Sides.{line_in}
use Rattle.mt_compare.specs.declared.comparing.Difference as code

abbrev pub difference_in : code.Difference → Difference
difference_in d = record { number = d.number; part = d.part; first = option_map line_in d.first; second = option_map line_in d.second }
