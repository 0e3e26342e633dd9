use Rattle.mt_layer.proofs.Datagrams.{datagrams}
use Rattle.mt_layer.proofs.laws.datagrams_are_lines.Goals as goal

pub returns : goal.returns
returns c = datagrams
