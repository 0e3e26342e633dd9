use Rattle.std.proofs.Common.{◌≡◌, Option, IfOk, OnOk, sym, subst}
use Rattle.mt_model.specs.declared.texts.config.SessionRow.{SessionRow}
use Rattle.mt_talk.specs.Talks.{IsTalkOf, Talk}
use Rattle.mt_interactions.specs.mt_runs.Datagrams.{behind_answer, datagram_of}
use Rattle.mt_whole.specs.declared.datagrams.Answering.{Answering}
use Rattle.mt_whole.specs.Plan.{answer_as}
use Rattle.mt_whole.proofs.datagrams.datagram_of.Goals as goal

pub returns-in-Some-clause-sent : goal.returns-in-Some-clause-sent
returns-in-Some-clause-sent c =
    subst (λ (o : Option Answering). (row : SessionRow) (t : Talk) → IsTalkOf c.args.talk.now row t → IfOk c.answer.result (λ sent. sent ≡ datagram_of row t (answer_as o))) (sym c.in-Some.is) c.answer.ensures.sent

pub returns-in-Some-clause-stands : goal.returns-in-Some-clause-stands
returns-in-Some-clause-stands c =
    subst (λ (o : Option Answering). (row : SessionRow) (t : Talk) → IsTalkOf c.args.talk.now row t → OnOk c.answer.result (IsTalkOf c.answer.new.self row (behind_answer row c.args.ms t (answer_as o)))) (sym c.in-Some.is) c.answer.ensures.stands
