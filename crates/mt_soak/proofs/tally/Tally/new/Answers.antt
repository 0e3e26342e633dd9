use Rattle.std.proofs.Common.{refl}
use Rattle.std.proofs.lemmas.List.{get_or-replicate}
use Rattle.mt_soak.proofs.tally.Tally.new.Goals as goal

pub returns : goal.returns
returns c = record {
  text = c.new.ensures;
  sent = refl;
  counts = λ code below. get_or-replicate 256 code 0 0 below;
}
