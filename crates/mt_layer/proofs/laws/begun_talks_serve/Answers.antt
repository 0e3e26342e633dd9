use Rattle.mt_layer.proofs.Lines.{begins}
use Rattle.mt_layer.proofs.laws.begun_talks_serve.Goals as goal

pub returns : goal.returns
returns c = begins
