use Rattle.mt_meta.proofs.WritableFacts.{found-takes}
use Rattle.mt_meta.proofs.laws.writable_attributes_take_something.Goals as goal

pub returns : goal.returns
returns c = found-takes
