use Rattle.mt_files.proofs.Sizes.{size-subject}
use Rattle.mt_files.proofs.size.subject_size.Goals as goal

pub returns-clause-size : goal.returns-clause-size
returns-clause-size c node =
    size-subject node c.args.cats.now c.cat_size.result c.cat_size-2.result c.cat_size-3.result c.type_inv.cats.1.1.0.1 c.cat_size.ensures.size c.cat_size-2.ensures.size c.cat_size-3.ensures.size
