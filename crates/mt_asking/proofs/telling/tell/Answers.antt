use Rattle.std.proofs.Common.{◌≡◌, Option, Some, None, refl, sym, subst, rules}
use Rattle.mt_model.specs.declared.limits.TheConstants.{RECORDING_BYTES}
use Rattle.mt_model.specs.declared.texts.config.SessionRow.{SessionRow}
use Rattle.mt_model.specs.texts.Contents.{contents_of}
use Rattle.mt_outside.specs.Stream.{TookLess}
use Rattle.mt_endings.specs.declared.fault.Fault.TheVariants.{NoSession, WriteFault}
use Rattle.mt_endings.specs.Endings.{in_hand_of, nothing_but}
use Rattle.mt_endings.specs.Moments.{HasRead, in_hand, input, moment}
use Rattle.mt_endings.specs.Run.{Ends}
use Rattle.mt_asking.specs.Asked.{on_session}
use Rattle.mt_asking.specs.Made.{told}
use Rattle.mt_asking.specs.Rows.{row_of}
use Rattle.mt_asking.proofs.Stops.{is_no_fault, long_text, not_read, stops_playing}
use Rattle.mt_asking.proofs.telling.tell.Goals as goal

-- no row has the id
pub returns-in_default : goal.returns-in_default
returns-in_default g c = λ second.
    let left = g.A.Source.left in
    let reads = g.A.Source.faults in
    let written = g.W.Sink.written in
    let faults = g.W.Sink.faults in
    let first = input (left c.args.first.now) (reads c.args.first.now) in
    let none : row_of c.args.session (contents_of c.args.config.now) ≡ None = sym {b = row_of c.args.session (contents_of c.args.config.now)} c.in_default.ensures.found in
    subst
    (λ (found : Option SessionRow). Ends c.finish.result (Some (in_hand_of (on_session (told c.args.word) found)))
    (moment in_hand first second (written c.args.out.now) (faults c.args.out.now)) (moment in_hand first second (written c.finish.new.out) (faults c.finish.new.out)))
    (sym none)
    (c.endings_add_up.ensures.unmade (nothing_but NoSession) NoSession c.finish.result first second (written c.args.out.now) (written c.args.out.now) (written c.finish.new.out)
    (faults c.args.out.now) (faults c.args.out.now) (faults c.finish.new.out) (refl, c.writings_add_up.ensures.nothing (written c.args.out.now)) (λ quiet. refl) c.finish.ensures)

-- the text was not read
pub returns-in-Err : goal.returns-in-Err
returns-in-Err g c = λ second.
    let left = g.A.Source.left in
    let reads = g.A.Source.faults in
    let written = g.W.Sink.written in
    let faults = g.W.Sink.faults in
    let old = input (left c.args.first.now) (reads c.args.first.now) in
    let now = input (left c.read_text.new.source) (reads c.read_text.new.source) in
    let row = c.in-Some.row.now in
    let named : row_of c.args.session (contents_of c.args.config.now) ≡ Some row = sym {b = row_of c.args.session (contents_of c.args.config.now)} c.in-Some.ensures.found in
    subst
    (λ (found : Option SessionRow). Ends c.finish-in-Err.result (Some (in_hand_of (on_session (told c.args.word) found)))
    (moment in_hand old second (written c.args.out.now) (faults c.args.out.now)) (moment in_hand now second (written c.finish-in-Err.new.out) (faults c.finish-in-Err.new.out)))
    (sym named)
    (c.endings_add_up.ensures.text_unread (told c.args.word row) c.in-Err.fault c.finish-in-Err.result old now second (written c.args.out.now) (written c.finish-in-Err.new.out)
    (faults c.args.out.now) (faults c.finish-in-Err.new.out) (λ bytes more. long_text c.args.word row bytes more)
    c.in-Err.ensures.err (λ quiet. c.read_text.ensures.calm (not_read c.read_text.result c.in-Err.fault c.in-Err.is quiet)) c.finish-in-Err.ensures)

-- it comes to a fault, or there was no memory
pub returns-in-Err-made : goal.returns-in-Err-made
returns-in-Err-made g c = λ second.
    let left = g.A.Source.left in
    let reads = g.A.Source.faults in
    let written = g.W.Sink.written in
    let faults = g.W.Sink.faults in
    let old = input (left c.args.first.now) (reads c.args.first.now) in
    let now = input (left c.read_text.new.source) (reads c.read_text.new.source) in
    let row = c.in-Some.row.now in
    let bytes = c.deref.result.now in
    let named : row_of c.args.session (contents_of c.args.config.now) ≡ Some row = sym {b = row_of c.args.session (contents_of c.args.config.now)} c.in-Some.ensures.found in
    let read = subst (HasRead RECORDING_BYTES old now) (sym c.deref.ensures.value) c.in-Ok.ensures.ok in
    subst
    (λ (found : Option SessionRow). Ends c.finish-in-Err-made.result (Some (in_hand_of (on_session (told c.args.word) found)))
    (moment in_hand old second (written c.args.out.now) (faults c.args.out.now)) (moment in_hand now second (written c.finish-in-Err-made.new.out) (faults c.finish-in-Err-made.new.out)))
    (sym named)
    (c.endings_add_up.ensures.text_stopped (told c.args.word row) bytes c.in-Err-made.fault c.finish-in-Err-made.result old now second
    (written c.args.out.now) (written c.args.out.now) (written c.finish-in-Err-made.new.out) (faults c.args.out.now) (faults c.args.out.now) (faults c.finish-in-Err-made.new.out)
    read (c.read_text.ensures.calm (is_no_fault c.read_text.result c.in-Ok.is))
    (stops_playing c.writings_add_up.ensures c.in-Err-made.fault (told c.args.word row bytes) (written c.args.out.now) (faults c.args.out.now) c.in-Err-made.ensures.stops) (λ quiet. refl) c.finish-in-Err-made.ensures)

-- the sink failed
pub returns : goal.returns
returns g c = λ second.
    let left = g.A.Source.left in
    let reads = g.A.Source.faults in
    let written = g.W.Sink.written in
    let faults = g.W.Sink.faults in
    let old = input (left c.args.first.now) (reads c.args.first.now) in
    let now = input (left c.read_text.new.source) (reads c.read_text.new.source) in
    let row = c.in-Some.row.now in
    let bytes = c.deref.result.now in
    let named : row_of c.args.session (contents_of c.args.config.now) ≡ Some row = sym {b = row_of c.args.session (contents_of c.args.config.now)} c.in-Some.ensures.found in
    let read = subst (HasRead RECORDING_BYTES old now) (sym c.deref.ensures.value) c.in-Ok.ensures.ok in
    let less : TookLess (written c.args.out.now) (written c.write_all.new.sink) c.in-Ok-made.lines.items = search rules in
    subst
    (λ (found : Option SessionRow). Ends c.finish-in-Err-write_all.result (Some (in_hand_of (on_session (told c.args.word) found)))
    (moment in_hand old second (written c.args.out.now) (faults c.args.out.now)) (moment in_hand now second (written c.finish-in-Err-write_all.new.out) (faults c.finish-in-Err-write_all.new.out)))
    (sym named)
    (c.endings_add_up.ensures.text_stopped (told c.args.word row) bytes WriteFault c.finish-in-Err-write_all.result old now second
    (written c.args.out.now) (written c.write_all.new.sink) (written c.finish-in-Err-write_all.new.out) (faults c.args.out.now) (faults c.write_all.new.sink) (faults c.finish-in-Err-write_all.new.out)
    read (c.read_text.ensures.calm (is_no_fault c.read_text.result c.in-Ok.is))
    (c.write_all.ensures.cause.rose (search rules), subst (TookLess (written c.args.out.now) (written c.write_all.new.sink)) c.in-Ok-made.ensures.made.1 less)
    (λ quiet. absurd (cc)) c.finish-in-Err-write_all.ensures)
