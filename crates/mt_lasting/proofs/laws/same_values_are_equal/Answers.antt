use Rattle.mt_lasting.proofs.Same.{same_values, values_same}
use Rattle.mt_lasting.proofs.laws.same_values_are_equal.Goals as goal

pub returns : goal.returns
returns c = λ value other. (values_same value other, same_values value other)
