use Rattle.std.proofs.Common.{◌≡◌, ◌↔◌, length}
use Rattle.mt_marks.specs.Remembered.{told_among}
use Rattle.mt_marks.specs.Told.{talks_in}
use Rattle.mt_marks.proofs.told.are_same_among.Given as goal

-- those so far are the same: all are the same where the others are
abbrev pub invariant-pairs : goal.invariant-pairs
invariant-pairs l = (told_among l.mine (talks_in l.rest) ≡ told_among l.theirs (talks_in l.other_rest)) ↔ (told_among l.mine (talks_in l.talks) ≡ told_among l.theirs (talks_in l.others))

abbrev pub decreases-pairs : goal.decreases-pairs
decreases-pairs l = length l.rest
