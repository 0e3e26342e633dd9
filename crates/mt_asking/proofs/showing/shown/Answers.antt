use Rattle.std.proofs.Common.{◌≤◌, length, arith}
use Rattle.std.proofs.lemmas.List.Elements.{All-filter}
use Rattle.mt_ctl.specs.Showing.{is_sealed_to}
use Rattle.mt_model.specs.declared.texts.recording.Sent.{Sent}
use Rattle.mt_asking.proofs.showing.shown.Goals as goal

-- a datagram that was read is short
pub show-requires-clause-short : goal.show-requires-clause-short
show-requires-clause-short c = λ k d lt.
    let short = All-filter (λ (message : Sent). is_sealed_to message.to) (λ (message : Sent). length message.bytes ≤ 1280) c.in-Ok.sent c.in-Ok.ensures.short k d lt in
    omega (arith, short)
