use Rattle.std.proofs.Common.{arith, rules}
use Rattle.std.proofs.lemmas.Bool.{eq-eqb, eqb-true}
use Rattle.mt_ccm.proofs.SealFacts.{compared_none, compared_same, tail_at, tail_same}
use Rattle.mt_ccm.proofs.sealing.ends_with_tag.Goals as goal

pub bytes-preserved : goal.bytes-preserved
bytes-preserved c = record {
  same = compared_same c.args.bytes.now c.args.tag.now c.args.at c.bytes.j c.bytes.difference c.bytes.invariant.same;
  none = compared_none c.args.bytes.now c.args.tag.now c.args.at c.bytes.j c.bytes.difference c.bytes.invariant.none;
}

pub returns : goal.returns
returns c = (
  λ equal.
      tail_same c.args.bytes.now c.args.tag.now c.args.at c.bytes.j c.requires (search rules) (omega arith)
      (c.bytes.invariant.same (eqb-true c.bytes.difference 0 equal)),
  λ same. eq-eqb c.bytes.difference 0 (c.bytes.invariant.none (λ k low. tail_at c.args.bytes.now c.args.tag.now c.args.at same k)),
)
