use Rattle.std.proofs.Common.{◌≡◌, ◌++◌, [], Option, sym, ap, ◌∙◌, map, append-nil}
use Rattle.std.proofs.lemmas.List.{nil_from_length}
use Rattle.std.specs.Vec.Iter.{into_iter_items}
use Rattle.mt_outside.specs.declared.network.Peer.{Peer}
use Rattle.mt_shared.specs.mt_runs.Datagrams.{all_sent, sent_at}
use Rattle.mt_layer.proofs.sending.all_sent.Goals as goal

pub returns : goal.returns
returns c =
    let at = c.loop-bytes in
    let ms = c.args.ms in
    let id = c.args.session in
    let peer = c.in-Some.peer in
    let steps = c.in-None.ensures.steps in
    let none : into_iter_items at.bytes-iterator ≡ [] = nil_from_length _ (sym at.invariant.counted ∙ steps.0) in
    c.from_vec.ensures
    ∙ sym (append-nil at.sent.items)
    ∙ ap (λ rest. at.sent.items ++ map (sent_at ms id peer) rest) (sym none)
    ∙ at.invariant.so_far
    ∙ ap (λ (o : Option Peer). all_sent ms id o c.args.datagrams.items) (sym c.in-Some.is)
