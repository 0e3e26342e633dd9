use Rattle.std.proofs.Common.{◌≡◌, ◌++◌, length, map}
use Rattle.std.specs.Vec.Iter.{into_iter_items, into_iter_len}
use Rattle.mt_node.specs.mt_machine.Lines.{sent_as, sent_plain}
use Rattle.mt_interactions.proofs.sending.sent_as.Given as goal

-- the messages so far and those of the payloads to come are those of all payloads
abbrev pub invariant-loop-payload : goal.invariant-loop-payload
invariant-loop-payload l = record {
  so_far : l.sent.items ++ map (sent_plain l.ms l.fabric) (into_iter_items l.payload-iterator) ≡ sent_as l.ms l.fabric l.fn.reply;
  counted : into_iter_len l.payload-iterator ≡ length (into_iter_items l.payload-iterator);
}
