use Rattle.std.proofs.Common.{[], ◌∷◌, refl}
use Rattle.mt_ccm.specs.Aes.{s_box, affine, affine_bit, inverse, product, product_by_bits}
use Rattle.mt_ccm.specs.declared.tables.TheConstants.{FOURTH_ROW}
use Rattle.mt_ccm.proofs.TableFacts.{word_is}
use Rattle.mt_ccm.proofs.tables.mixed_fourth.Goals as goal

pub returns : goal.returns
unfolding s_box affine affine_bit inverse product product_by_bits
returns c = word_is FOURTH_ROW (λ b. s_box b ∷ s_box b ∷ product 3 (s_box b) ∷ product 2 (s_box b) ∷ []) refl c.args.byte c.ranges.byte.fits
