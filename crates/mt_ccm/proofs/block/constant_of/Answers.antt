use Rattle.std.proofs.Common.{refl}
use Rattle.mt_ccm.specs.Aes.{round_constant}
use Rattle.mt_ccm.specs.declared.block.TheConstants.{ROUND_CONSTANTS}
use Rattle.mt_ccm.proofs.TableFacts.{entry_is}
use Rattle.mt_ccm.proofs.block.constant_of.Goals as goal

pub returns : goal.returns
unfolding round_constant
returns c = entry_is ROUND_CONSTANTS round_constant 10 refl c.args.round c.requires
