use Rattle.std.proofs.Common.{ap, arith, length}
use Rattle.mt_top.proofs.Soaks.{few_fabrics}
use Rattle.mt_top.proofs.soaking.fabrics_of.Goals as goal

pub overflow_cast-result : goal.overflow_cast-result
overflow_cast-result c = omega (arith, ap length c.as_slice.ensures, few_fabrics c.args.config.now.fabrics c.args.config.now.fabrics_are_valid)
