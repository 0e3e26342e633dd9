use Rattle.std.proofs.Common.{refl}
use Rattle.mt_ccm.specs.Aes.{s_box, affine, affine_bit, inverse, product, product_by_bits}
use Rattle.mt_ccm.specs.declared.tables.TheConstants.{S_BOX}
use Rattle.mt_ccm.proofs.TableFacts.{entry_is}
use Rattle.mt_ccm.proofs.tables.substituted.Goals as goal

pub returns : goal.returns
unfolding s_box affine affine_bit inverse product product_by_bits
returns c = entry_is S_BOX s_box 256 refl c.args.byte c.ranges.byte.fits
