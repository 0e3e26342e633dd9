use Rattle.std.proofs.Common.{◌≡◌, ◌-◌, drop, sym, ap, ◌∙◌, arith}
use Rattle.mt_tlv.specs.Reading.{number_of}
use Rattle.mt_tlv.proofs.Numbers.{number_of-below, number_of-below_7, number_of-next, number_of-none}
use Rattle.mt_tlv.proofs.reading.number_of.Goals as goal

pub loop-i-init : goal.loop-i-init
loop-i-init c = sym (number_of-none c.args.bytes.now)

pub overflow_mul-number : goal.overflow_mul-number
overflow_mul-number c =
    let lt = number_of-below_7 c.args.bytes.now c.loop-i.i (λ i. omega (arith, c.type_inv.bytes i)) c.requires (omega arith) in
    omega (arith, lt, c.loop-i.invariant)

pub overflow_add-number : goal.overflow_add-number
overflow_add-number c =
    let lt = number_of-below_7 c.args.bytes.now c.loop-i.i (λ i. omega (arith, c.type_inv.bytes i)) c.requires (omega arith) in
    omega (arith, lt, c.loop-i.invariant, c.type_inv.bytes (c.loop-i.i - 1))

pub loop-i-preserved : goal.loop-i-preserved
loop-i-preserved c = rw c.loop-i.invariant (sym (number_of-next c.args.bytes.now c.loop-i.i (omega arith) (omega arith)))

pub returns-clause-below : goal.returns-clause-below
returns-clause-below c =
    let lt = number_of-below c.args.bytes.now (λ i. omega (arith, c.type_inv.bytes i)) in
    let first : c.loop-i.i ≡ 0 = omega arith in
    let value : c.loop-i.number ≡ number_of c.args.bytes.now = c.loop-i.invariant ∙ ap (λ i. number_of (drop i c.args.bytes.now)) first in
    omega (arith, lt, value)
