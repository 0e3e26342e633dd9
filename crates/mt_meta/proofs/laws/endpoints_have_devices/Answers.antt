use Rattle.mt_meta.proofs.TableFacts.{endpoint-device}
use Rattle.mt_meta.proofs.laws.endpoints_have_devices.Goals as goal

pub returns : goal.returns
returns c = endpoint-device
