use Rattle.std.proofs.Common.{◌≡◌, ◌++◌, drop, map, take}
use Rattle.mt_model.specs.declared.messages.message.Payload.{Payload}
use Rattle.mt_interactions.proofs.sessions.all_dated.Given as goal

-- those so far carry it
abbrev pub invariant-loop-payload : goal.invariant-loop-payload
invariant-loop-payload l = l.payload-items ≡ map (λ (payload : Payload). record payload { deadline = l.until }) (take l.payload-index l.fn.payloads.items) ++ drop l.payload-index l.fn.payloads.items
