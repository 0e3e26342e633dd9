use Rattle.std.proofs.Common.{◌≡◌, ◌∙◌, ap, sym, length}
use Rattle.mt_files.specs.Event.{at_time, line_size}
use Rattle.mt_files.specs.Field.{payload_text}
use Rattle.mt_model.specs.declared.texts.recording.Event.{Event}
use Rattle.mt_files.proofs.Sizes.{size-ask, size-datagram}
use Rattle.mt_files.proofs.size.line_size.Goals as goal

pub returns-in-Ask : goal.returns-in-Ask
returns-in-Ask c =
    let it = c.in-Ask in
    size-ask c.args.ms it.fabric it.node it.cats it.opcode it.payload c.decimal_size.result c.decimal_size-in-Ask.result c.subject_size.result c.payload_size.result c.decimal_size.ensures.size c.decimal_size-in-Ask.ensures.size (c.subject_size.ensures.size it.node)
    (c.payload_size.ensures.size ∙ ap (λ bytes. length (payload_text bytes)) c.as_slice.ensures)
    ∙ ap (λ (event : Event). line_size (at_time c.args.ms event)) (sym it.is)

pub returns-in-Datagram : goal.returns-in-Datagram
returns-in-Datagram c =
    let it = c.in-Datagram in
    size-datagram c.args.ms it.peer it.bytes c.decimal_size.result c.peer_size.result c.payload_size-in-Datagram.result c.decimal_size.ensures.size c.peer_size.ensures.size
    (c.payload_size-in-Datagram.ensures.size ∙ ap (λ bytes. length (payload_text bytes)) c.as_slice-in-Datagram.ensures)
    ∙ ap (λ (event : Event). line_size (at_time c.args.ms event)) (sym it.is)
