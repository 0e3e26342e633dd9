use Rattle.mt_files.proofs.Cuts.{part_cut, part_whole}
use Rattle.mt_files.proofs.lines.cut.Goals as goal

pub returns-in-Some-clause-parts : goal.returns-in-Some-clause-parts
returns-in-Some-clause-parts c = part_cut c.args.separator c.args.text.now c.in-Some.at c.in-Some.ensures

pub returns-in-None-clause-parts : goal.returns-in-None-clause-parts
returns-in-None-clause-parts c = part_whole c.args.separator c.args.text.now c.in-None.ensures
