use Rattle.mt_lens.proofs.values.+show_within.Given as goal

abbrev pub decreases-show_within : goal.decreases-show_within
decreases-show_within g l = l.room
