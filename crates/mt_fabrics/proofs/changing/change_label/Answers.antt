use Rattle.mt_fabrics.specs.Table.{with_label}
use Rattle.mt_fabrics.proofs.changing.change_label.Goals as goal

pub returns : goal.returns
returns c = c.requires.changes (with_label c.args.label) c.index-fabrics-place.result
