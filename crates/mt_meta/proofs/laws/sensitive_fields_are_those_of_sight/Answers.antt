use Rattle.mt_meta.proofs.SensitiveFacts.{sensitive-same}
use Rattle.mt_meta.proofs.laws.sensitive_fields_are_those_of_sight.Goals as goal

pub returns : goal.returns
returns c = sensitive-same
