use Rattle.std.proofs.Common.{◌≡◌, ℕ, ◌+◌, List, Option, Some, None, length, take, ap, ◌∙◌, arith}
use Rattle.std.specs.Prelude.{IfSome, IfNone}
use Rattle.mt_ccm.specs.Ccm.{Sealed}
use Rattle.mt_ccm.proofs.SealFacts.{length-sealed, one_plaintext}
use Rattle.mt_ccm.proofs.laws.opens_what_is_sealed.Goals as goal

module _ (key nonce aad plain old new : List ℕ) (sealed : Sealed key nonce aad plain old) where
  answer_is : (answer : Option ℕ) → IfSome answer (λ n. n + 16 ≡ length old) → IfNone answer ((p : List ℕ) → ¬ Sealed key nonce aad p old)
      → answer ≡ Some (length plain)
  answer_is (Some n) long none = ap (λ (m : ℕ). Some m) (omega (arith, length-sealed key nonce aad plain old sealed))
  answer_is None long none = absurd (none plain sealed)

  front_is : (answer : Option ℕ) → IfSome answer (λ n. Sealed key nonce aad (take n new) old) → IfSome answer (λ n. n + 16 ≡ length old)
      → IfNone answer ((p : List ℕ) → ¬ Sealed key nonce aad p old) → take (length plain) new ≡ plain
  front_is (Some n) opened long none =
      let len : length plain ≡ n = omega (arith, length-sealed key nonce aad plain old sealed) in
      ap (λ (m : ℕ). take m new) len ∙ one_plaintext key nonce aad (take n new) plain old opened sealed
  front_is None opened long none = absurd (none plain sealed)

pub returns-clause-length : goal.returns-clause-length
returns-clause-length c =
    answer_is c.args.key.now c.args.nonce.now c.args.aad.now c.args.plain.now c.args.buf.now c.unseal.new.buf c.requires.sealed c.unseal.result
    c.unseal.ensures.length c.unseal.ensures.refused

pub returns-clause-plain : goal.returns-clause-plain
returns-clause-plain c =
    front_is c.args.key.now c.args.nonce.now c.args.aad.now c.args.plain.now c.args.buf.now c.unseal.new.buf c.requires.sealed c.unseal.result
    c.unseal.ensures.opened c.unseal.ensures.length c.unseal.ensures.refused
