-- A step is sealed: there is a counter, and its payload is short.
use Rattle.std.proofs.Common.{◌≡◌, [], ◌∷◌, ◌++◌, None, subst, ◌∙◌}
use Rattle.mt_model.specs.declared.texts.recording.Event.TheVariants.{Datagram}
use Rattle.mt_session.specs.Datagrams.{datagram}
use Rattle.mt_session.specs.Sessions.{Message, StandsFor, next_counter, refusal}
use Rattle.mt_ctl.specs.Asking.{controller}
use Rattle.mt_ctl.proofs.Askings.{memory_alone, not_refused}
use Rattle.mt_ctl.proofs.asking.sealed_step.Goals as goal

pub unreachable-requires : goal.unreachable-requires
unreachable-requires c =
    let given = c.requires.counted in
    let none : refusal given.0 given.1 c.header_of-header.result c.as_slice.result.now ≡ None =
    (λ i. refusal given.0 given.1 (c.header_of-header.ensures.value i) (c.as_slice.ensures i))
    ∙ not_refused given.0 given.1 c.args.next c.args.step.now given.2.1 c.requires.short in
    let memory = memory_alone _ c.seal.result c.in-Err-Exhausted.field-0 none (c.seal.ensures.memory given.0 [] given.1 given.2.0) c.in-Err-Exhausted.is in
    let told = c.in-Err-Exhausted.field-0-is in
    cc

pub unreachable-requires-in-Err-TooLong : goal.unreachable-requires-in-Err-TooLong
unreachable-requires-in-Err-TooLong c =
    let given = c.requires.counted in
    let none : refusal given.0 given.1 c.header_of-header.result c.as_slice.result.now ≡ None =
    (λ i. refusal given.0 given.1 (c.header_of-header.ensures.value i) (c.as_slice.ensures i))
    ∙ not_refused given.0 given.1 c.args.next c.args.step.now given.2.1 c.requires.short in
    let memory = memory_alone _ c.seal.result c.in-Err-TooLong.field-0 none (c.seal.ensures.memory given.0 [] given.1 given.2.0) c.in-Err-TooLong.is in
    let told = c.in-Err-TooLong.field-0-is in
    cc

pub returns-in-Ok-clause-event : goal.returns-in-Ok-clause-event
returns-in-Ok-clause-event c = λ row messages s.
    let is = c.in-Ok.ensures.datagram row [] messages s
    ∙ (λ i. datagram row (next_counter row messages) (c.header_of-header.ensures.value i) (c.as_slice.ensures i)) in
    λ i. Datagram c.args.step.now.ms controller (is i)

pub returns-in-Ok-clause-stands : goal.returns-in-Ok-clause-stands
returns-in-Ok-clause-stands c = λ row messages s.
    let P : Message → Type 0 = λ message. StandsFor c.seal.new.self row [] (messages ++ message ∷ []) in
    subst P (λ i. record { header = c.header_of-header.ensures.value i; payload = c.as_slice.ensures i }) (c.in-Ok.ensures.stands row [] messages s)
