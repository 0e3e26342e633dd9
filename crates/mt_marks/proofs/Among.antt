-- What is shown of the sessions that are among some, the first and those behind it.
use Rattle.std.proofs.Common.{◌≡◌, true, false, List, ◌∷◌, refl}
use Rattle.mt_model.specs.declared.node.state.NodeSession.{NodeSession}
use Rattle.mt_marks.specs.Remembered.{is_told_among, told_among}
use Rattle.mt_marks.specs.Told.{talk_in, talks_in}
use Rattle.mt_marks.specs.declared.told.Told.{Told}

pub first_among : (sessions : List NodeSession) (t : Told) (ts : List Told) → is_told_among sessions (talk_in t) ≡ true → told_among sessions (talks_in (t ∷ ts)) ≡ talk_in t ∷ told_among sessions (talks_in ts)
first_among sessions t ts among = rw among refl

pub rest_among : (sessions : List NodeSession) (t : Told) (ts : List Told) → is_told_among sessions (talk_in t) ≡ false → told_among sessions (talks_in (t ∷ ts)) ≡ told_among sessions (talks_in ts)
rest_among sessions t ts other = rw other refl
