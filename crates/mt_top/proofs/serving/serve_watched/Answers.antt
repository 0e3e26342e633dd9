use Rattle.std.proofs.Common.{◌≡◌, ◌∙◌, sym, ap, subst, ℕ, Some}
use Rattle.std.specs.Option.{option_map}
use Rattle.std.specs.Result.{result_ok}
use Rattle.mt_endings.specs.Parts.{Finishes}
use Rattle.mt_serving.specs.Serves.{Course, IsServed}
use Rattle.mt_words.specs.Words.{serve_words, words_of}
use Rattle.mt_words.specs.declared.serve.Serve.{Serve}
use Rattle.mt_words.specs.declared.serve.ServeWords.{ServeWords}
use Rattle.mt_top.specs.Serving.{read, unread}
use Rattle.mt_top.proofs.Found.{HasFound, found_asks, has_found}
use Rattle.mt_top.proofs.serving.serve_watched.Goals as goal

pub returns-in-Ok-read_configuration-clause-served : goal.returns-in-Ok-read_configuration-clause-served
returns-in-Ok-read_configuration-clause-served g c = λ ended.
    let asked : Serve = c.in-Ok.asked in
    let exact : Some asked ≡ option_map (λ (found : ServeWords). found.asked) (serve_words (words_of c.args.words.now)) = ap result_ok (sym c.in-Ok.is) ∙ c.serve_of.ensures.exact in
    let its : HasFound (serve_words (words_of c.args.words.now)) asked = has_found (serve_words (words_of c.args.words.now)) asked exact in
    let result = c.serve_with.result in
    record {
      found = its.found;
      words_are = its.is;
      config = c.in-Ok-read_configuration.config;
      configured = c.in-Ok-read_configuration.ensures.ok;
      served =
          subst (λ (one : Serve). IsServed g.I.Intake.held g.I.Intake.clock g.O.Outlet.given c.in-Ok-read_configuration.config (g.D.Disk.contents c.args.disk) one.datagrams c.args.outlets.items result.outlets.items c.args.intake result.intake
          (g.W.Sink.written c.args.out.now) (g.W.Sink.written c.serve_with.new.out))
          (sym its.asks) (c.serve_with.ensures.served ended);
    }

pub returns-in-Ok-read_configuration-clause-course : goal.returns-in-Ok-read_configuration-clause-course
returns-in-Ok-read_configuration-clause-course g c = λ found is.
    let asked : Serve = c.in-Ok.asked in
    let exact : Some asked ≡ option_map (λ (one : ServeWords). one.asked) (serve_words (words_of c.args.words.now)) = ap result_ok (sym c.in-Ok.is) ∙ c.serve_of.ensures.exact in
    let asks : asked ≡ found.asked = found_asks (serve_words (words_of c.args.words.now)) asked found exact is in
    let result = c.serve_with.result in
    read c.in-Ok-read_configuration.config c.in-Ok-read_configuration.ensures.ok
    (subst (λ (one : Serve). Course g.I.Intake.held g.I.Intake.clock g.I.Intake.faults g.O.Outlet.given g.O.Outlet.faults g.D.Disk.contents g.D.Disk.images g.D.Disk.faults c.in-Ok-read_configuration.config one.datagrams c.args.outlets.items result.outlets.items
    c.args.intake result.intake c.args.disk result.disk result.status (g.W.Sink.written c.args.out.now) (g.W.Sink.written c.serve_with.new.out) (g.W.Sink.faults c.args.out.now) (g.W.Sink.faults c.serve_with.new.out))
    asks c.serve_with.ensures.course)

pub returns-in-Err-clause-course : goal.returns-in-Err-clause-course
returns-in-Err-clause-course g c = λ found is.
    let ended = c.not_served-in-Err.ensures in
    unread c.in-Err.fault c.in-Err.ensures.err (ap (λ outlets. outlets.items) ended.outlets) ended.intake ended.disk
    (subst (λ (status : ℕ). Finishes c.in-Err.fault status (g.W.Sink.written c.args.out.now) (g.W.Sink.written c.finish.new.out) (g.W.Sink.faults c.args.out.now) (g.W.Sink.faults c.finish.new.out)) (sym ended.status) c.finish.ensures)
