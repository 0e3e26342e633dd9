use Rattle.std.proofs.Common.{Option, append-nil, sym, ap, ◌∙◌}
use Rattle.mt_interactions.specs.mt_runs.Datagrams.{behind_answer}
use Rattle.mt_whole.specs.Plan.{answer_as}
use Rattle.mt_whole.specs.declared.datagrams.Answering.{Answering}
use Rattle.mt_whole.proofs.noting.sent_with.Goals as goal

pub returns-in-None : goal.returns-in-None
returns-in-None c row t is = append-nil t.shown ∙ ap (λ (answer : Option Answering). (behind_answer row c.args.ms t (answer_as answer)).shown) (sym c.in-None.is)
