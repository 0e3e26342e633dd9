use Rattle.mt_lasting.proofs.KeptFacts.{kept_facts}
use Rattle.mt_lasting.proofs.ReadBack.{read_back}
use Rattle.mt_lasting.proofs.laws.maps_are_read_back.Goals as goal

pub returns : goal.returns
returns c = record { back = read_back; facts = kept_facts }
