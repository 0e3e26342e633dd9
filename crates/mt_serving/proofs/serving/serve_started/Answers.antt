use Rattle.std.proofs.Common.{rules, ◌≡◌, ◌∙◌, sym, ap, subst, ℕ, List, true}
use Rattle.std.specs.Prelude.{All, Ok, Some, length}
use Rattle.mt_crew.specs.Ready.{HaveSessions}
use Rattle.mt_crew.specs.mt_legal.Laws.{IsServable}
use Rattle.mt_model.specs.texts.Config.{are_sessions}
use Rattle.mt_model.specs.declared.texts.config.SessionRow.{SessionRow}
use Rattle.mt_starting.specs.mt_interactions.Configured.{ConfiguredInteractions}
use Rattle.mt_starting.specs.mt_keeping.States.{told_map}
use Rattle.mt_starting.specs.mt_shared.Entry.{Entry}
use Rattle.mt_starting.specs.mt_shared.Shared.{SharedView}
use Rattle.mt_serving.specs.Ending.{TellsEnd}
use Rattle.mt_serving.specs.Serves.{ran}
use Rattle.mt_files.specs.Recording.{recording_of}
use Rattle.mt_files.specs.Form.{IsEvent}
use Rattle.mt_starting.specs.mt_shared.Book.{AreFormed, lines_in, stop_in}
use Rattle.mt_starting.specs.mt_shared.Stop.{Stop}
use Rattle.mt_serving.specs.Record.{record_of}
use Rattle.mt_serving.proofs.Causes.{causes}
use Rattle.mt_serving.proofs.Courses.{causes_of, keeps_the_end, same_course, serves, serves_all}
use Rattle.mt_serving.proofs.serving.serve_started.Goals as goal

pub record_is_read-requires-clause-formed : goal.record_is_read-requires-clause-formed
record_is_read-requires-clause-formed g c = subst (λ (b : List Entry). ∥ AreFormed b ∥₁) (sym c.deref.ensures.value) c.into_parts-status.result.1.formed

pub returns-clause-ran : goal.returns-clause-ran
returns-clause-ran g c =
    let written = g.W.Sink.written in
    let faults = g.W.Sink.faults in
    let ended = c.run-ended.result in
    let book : List Entry = ended.held.book.items in
    let shared : SharedView = c.in-Ok-new.both.0 in
    let origin : ConfiguredInteractions = shared.origin in
    let began : origin ≡ c.args.started.node = c.in-Ok-new.ensures.first.0 ∙ ap (λ it. it.0) c.into_parts-node.ensures.parts in
    let boots : c.state.result.now.boot ≡ origin.state.node.boot = ap (λ s. s.boot) c.state.ensures.same ∙ ap (λ (n : ConfiguredInteractions). n.state.node.boot) (sym c.in-Ok-new.ensures.first.0) in
    let rows : c.args.config.now.sessions ≡ origin.config.sessions = ap (λ it. it.sessions) (sym c.requires.configured) ∙ ap (λ (n : ConfiguredInteractions). n.config.sessions) (sym began) in
    let workers : c.len-workers.result ≡ length c.args.outlets.items = search rules in
    let have : HaveSessions origin.state.node.boot (length c.args.outlets.items) origin.config.sessions c.in-Ok.places =
    subst (λ (b : ℕ). HaveSessions b (length c.args.outlets.items) origin.config.sessions c.in-Ok.places) boots
    (subst (λ (n : ℕ). HaveSessions c.state.result.now.boot n origin.config.sessions c.in-Ok.places) workers
    (subst (λ (all : List SessionRow). HaveSessions c.state.result.now.boot c.len-workers.result all c.in-Ok.places) (c.as_slice.ensures ∙ rows) c.in-Ok.ensures.sessions)) in
    let its = c.run-ended.ensures.crew origin.state.node.boot origin.config.sessions have in
    let servable : IsServable origin = subst IsServable (sym began) (record { rules = c.args.started.serves.rules; valid = c.args.started.serves.valid }) in
    let fit : are_sessions origin.config.sessions ≡ true = ap are_sessions (sym rows) ∙ c.args.config.now.sessions_are_valid in
    let books : c.deref.result.now ≡ book = c.deref.ensures.value ∙ ap (λ it. it.1.book.items) c.into_parts-status.ensures in
    let written_book : c.deref-2.result.now ≡ book = c.deref-2.ensures.value ∙ ap (λ it. it.1.book.items) c.into_parts-status.ensures in
    let read : recording_of (record_of book) ≡ Ok (lines_in book) = subst (λ (b : List Entry). recording_of (record_of b) ≡ Ok (lines_in b)) books c.record_is_read.ensures.read in
    let there = serves g.I.Intake.held g.I.Intake.clock g.I.Intake.faults g.O.Outlet.given g.O.Outlet.faults c.crews_serve.ensures shared c.args.limit c.args.outlets.items ended.outlets.items c.args.intake ended.intake ended.received book ended.status
    servable fit c.run-ended.ensures.in_time c.run-ended.ensures.timed c.requires.several.0 its read in
    let all = serves_all g.I.Intake.held g.I.Intake.clock g.I.Intake.faults g.O.Outlet.given g.O.Outlet.faults c.crews_serve.ensures shared c.args.limit c.args.outlets.items ended.outlets.items c.args.intake ended.intake ended.received book ended.status
    servable fit c.run-ended.ensures.in_time c.run-ended.ensures.timed c.requires.several.0 its read c.crews_make_few_lines.ensures in
    let keeper : c.into_keeper.result ≡ ended.held.keeper = c.into_keeper.ensures ∙ ap (λ it. it.1.keeper) c.into_parts-status.ensures in
    let end = keeps_the_end g.D.Disk.contents g.D.Disk.images origin ended.held.node book c.into_keeper.result c.into_disk-2.result c.into_disk-2.ensures.safe c.into_disk-2.ensures.disk
    (ap (λ s. s.store.journal.failed) keeper ∙ c.run-ended.ensures.failed) (λ runs. ap (λ s. Some (told_map s)) keeper ∙ c.run-ended.ensures.kept runs)
    (λ stop is. rw keeper (c.run-ended.ensures.between stop is)) c.run-ended.ensures.node in
    let typed = subst (λ (b : List Entry). All (λ (entry : Entry). IsEvent entry.call.event) b) books c.record_is_read.ensures.typed in
    let disk : c.into_disk-2.result ≡ ended.held.keeper.store.journal.disk = c.into_disk-2.ensures.disk ∙ ap (λ s. s.store.journal.disk) keeper in
    let counted : (stop : Stop) → stop_in book ≡ Some stop → g.D.Disk.faults c.into_disk-2.result ≡ stop.after = λ stop is. ap g.D.Disk.faults disk ∙ c.run-ended.ensures.counted stop is in
    let why = causes_of g.I.Intake.held g.I.Intake.clock g.I.Intake.faults g.O.Outlet.given g.O.Outlet.faults c.crews_serve.ensures shared c.args.limit c.args.outlets.items ended.outlets.items c.args.intake ended.intake ended.received book ended.status
    servable fit c.run-ended.ensures.in_time c.run-ended.ensures.timed c.requires.several.0 its read (g.D.Disk.faults c.into_disk-2.result)
    (causes g.I.Intake.held g.I.Intake.clock g.I.Intake.faults g.O.Outlet.given g.O.Outlet.faults shared c.args.limit c.args.outlets.items ended.outlets.items c.args.intake ended.intake ended.received book ended.status its
    c.lines_are_short.ensures c.crews_make_few_lines.ensures fit c.requires.several.0 c.run-ended.ensures.in_time ended.held.formed typed (g.D.Disk.faults c.into_disk-2.result) counted (λ stop is. (c.run-ended.ensures.halted stop is).rose)) in
    let stopped : c.into_parts-status.result.0 ≡ ended.status = ap (λ it. it.0) c.into_parts-status.ensures in
    let told : TellsEnd book ended.status c.tell_end-status.result (written c.args.out.now) (written c.tell_end-status.new.out) (faults c.args.out.now) (faults c.tell_end-status.new.out) =
    subst (λ (b : List Entry). TellsEnd b ended.status c.tell_end-status.result (written c.args.out.now) (written c.tell_end-status.new.out) (faults c.args.out.now) (faults c.tell_end-status.new.out)) written_book
    (subst (λ (n : ℕ). TellsEnd c.deref-2.result.now n c.tell_end-status.result (written c.args.out.now) (written c.tell_end-status.new.out) (faults c.args.out.now) (faults c.tell_end-status.new.out)) stopped c.tell_end-status.ensures) in
    same_course g.I.Intake.held g.I.Intake.clock g.I.Intake.faults g.O.Outlet.given g.O.Outlet.faults g.D.Disk.contents g.D.Disk.images g.D.Disk.faults c.args.limit c.args.outlets.items c.args.intake (written c.args.out.now) (written c.tell_end-status.new.out) (faults c.args.out.now) (faults c.tell_end-status.new.out)
    origin c.args.started.node ended.outlets.items c.new-2.result.outlets.items ended.intake c.new-2.result.intake c.into_disk-2.result c.new-2.result.disk c.tell_end-status.result c.new-2.result.status
    began (sym (ap (λ v. v.items) c.new-2.ensures.outlets ∙ ap (λ it. it.3.items) c.into_parts-status.ensures)) (sym (c.new-2.ensures.intake ∙ ap (λ it. it.2) c.into_parts-status.ensures)) (sym c.new-2.ensures.disk) (sym c.new-2.ensures.status)
    (ran book ended.status there why all end told)
