use Rattle.mt_files.proofs.Sizes.{size-cat}
use Rattle.mt_files.proofs.size.cat_size.Goals as goal

pub returns-else-cat-eq0-clause-size : goal.returns-else-cat-eq0-clause-size
returns-else-cat-eq0-clause-size c = size-cat c.args.cat c.if-cat-eq0.false
