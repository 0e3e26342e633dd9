use Rattle.std.proofs.Common.{◌≡◌, IfOk, option_map, subst, sym}
use Rattle.mt_exchange.specs.Parts.{outgoing_in}
use Rattle.mt_exchange.specs.Runs.{Run}
use Rattle.mt_exchange.specs.Shown.{report_outgoing}
use Rattle.mt_talk.proofs.Standing.{run_is}
use Rattle.mt_talk.proofs.talk.Talk.report_outgoing.Goals as goal

pub returns : goal.returns
returns c = λ row t s.
    subst (λ (r : Run). IfOk c.report_outgoing.result (λ message. option_map outgoing_in message ≡ report_outgoing r c.args.payloads))
    (sym (run_is c.shown_runs.ensures.arrivals c.shown_runs.ensures.messages c.args.self.now row t s)) (c.report_outgoing.ensures row s.happenings s.exchanges)
