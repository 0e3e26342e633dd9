use Rattle.std.proofs.Common.{◌-◌, ◌∙◌, arith}
use Rattle.mt_fabrics.proofs.Gaps.{put_at}
use Rattle.mt_fabrics.proofs.changing.put.Goals as goal

pub returns-clause-ok : goal.returns-clause-ok
returns-clause-ok c =
    c.in_ok-insert.ensures.items
    ∙ put_at c.args.fabric (c.from-place.result - 1) c.args.fabrics.now.items c.requires.rises c.requires.least
    (omega (arith, c.from-place.ensures, c.requires.from_one))
