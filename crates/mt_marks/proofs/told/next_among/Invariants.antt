use Rattle.std.proofs.Common.{◌≡◌, ◌≤◌, length}
use Rattle.mt_marks.specs.Remembered.{told_among}
use Rattle.mt_marks.specs.Told.{talks_in}
use Rattle.mt_marks.proofs.told.next_among.Given as goal

-- none so far is among them
abbrev pub invariant-talks : goal.invariant-talks
invariant-talks l = (told_among l.sessions (talks_in l.talks) ≡ told_among l.sessions (talks_in l.rest)) × (length l.rest ≤ length l.talks)

abbrev pub decreases-talks : goal.decreases-talks
decreases-talks l = length l.rest
