use Rattle.std.proofs.Common.{refl}
use Rattle.mt_endings.specs.Faults.{fault_line, fault_text}
use Rattle.mt_endings.proofs.finishing.tell_bad_words.Goals as goal

pub tell-requires-clause-line : goal.tell-requires-clause-line
unfolding fault_line fault_text
tell-requires-clause-line g c = refl
