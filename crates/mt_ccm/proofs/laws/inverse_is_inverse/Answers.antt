use Rattle.std.proofs.Common.{◌≡◌, ℕ, ◌+◌, ◌-◌, ◌<◌, nat_eq, true, refl, arith}
use Rattle.std.proofs.lemmas.Bool.{agree_below_at, eqb-true}
use Rattle.mt_ccm.specs.Aes.{inverse, product, product_by_bits}
use Rattle.mt_ccm.proofs.laws.inverse_is_inverse.Goals as goal

inverse_of_next : (b : ℕ) → b < 255 → product (b + 1) (inverse (b + 1)) ≡ 1
unfolding inverse product product_by_bits
inverse_of_next b low = eqb-true _ _ (agree_below_at (λ n. nat_eq (product (n + 1) (inverse (n + 1))) 1) (λ _. true) 255 b refl low)

pub returns : goal.returns
returns c =
    let byte : ℕ = c.args.byte in
    let before : byte - 1 + 1 ≡ byte = omega arith in
    rw before at (inverse_of_next (byte - 1) (omega arith))
