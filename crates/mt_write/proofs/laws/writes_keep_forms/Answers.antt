use Rattle.mt_write.proofs.Sound.{leaves_sound}
use Rattle.mt_write.proofs.laws.writes_keep_forms.Goals as goal

pub returns : goal.returns
returns c = leaves_sound c.writable_attributes_take_something.ensures c.attributes_are_data.ensures c.values_are_trees.ensures.tree
