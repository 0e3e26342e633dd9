use Rattle.std.proofs.Common.{◌≡◌, ◌++◌, length, map}
use Rattle.std.specs.Vec.Iter.{into_iter_items, into_iter_len}
use Rattle.mt_interactions.specs.mt_runs.Datagrams.{sent_at}
use Rattle.mt_whole.proofs.sending.all_sent.Given as goal

-- the messages so far and those of the datagrams to come are those of all
abbrev pub invariant-loop-bytes : goal.invariant-loop-bytes
invariant-loop-bytes l = record {
  so_far : l.sent.items ++ map (sent_at l.ms l.session l.peer) (into_iter_items l.bytes-iterator) ≡ map (sent_at l.ms l.session l.peer) l.fn.datagrams.items;
  counted : into_iter_len l.bytes-iterator ≡ length (into_iter_items l.bytes-iterator);
}
