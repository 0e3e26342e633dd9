use Rattle.std.proofs.Common.{◌*◌, refl, arith}
use Rattle.mt_ccm.proofs.RoundFacts.{first_key, keys_more, next_key_is}
use Rattle.mt_ccm.proofs.block.expanded.Goals as goal

pub rounds-init : goal.rounds-init
rounds-init c = record {
  last = first_key c.args.key.now c.load-last.result c.load-last.ensures;
  before = λ n low. absurd (omega arith);
}

pub rounds-preserved : goal.rounds-preserved
rounds-preserved c = record {
  last = next_key_is c.args.key.now c.rounds.last c.next_key-next.result c.rounds.round c.rounds.invariant.last c.next_key-next.ensures;
  before = keys_more c.args.key.now c.rounds.words c.put_key.new.words c.rounds.last c.rounds.round (4 * c.rounds.round) refl c.rounds.invariant.before
      c.rounds.invariant.last c.put_key.ensures.put c.put_key.ensures.before;
}

pub returns : goal.returns
returns c = λ n low.
    keys_more c.args.key.now c.rounds.words c.put_key-2.new.words c.rounds.last c.rounds.round 40 (omega arith) c.rounds.invariant.before
    c.rounds.invariant.last c.put_key-2.ensures.put c.put_key-2.ensures.before n (omega arith)
