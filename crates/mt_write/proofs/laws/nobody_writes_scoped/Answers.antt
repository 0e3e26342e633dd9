use Rattle.mt_write.proofs.Nobody.{nobody_sets_scoped}
use Rattle.mt_write.proofs.laws.nobody_writes_scoped.Goals as goal

pub returns : goal.returns
returns c = nobody_sets_scoped c.writable_attributes_take_something.ensures c.attributes_are_data.ensures
