use Rattle.std.proofs.Common.{List, Option, is_some, sym, ap, subst, ◌∙◌}
use Rattle.mt_model.specs.declared.messages.message.Payload.{Payload}
use Rattle.mt_talk.specs.Talks.{after_answer, answer_in, refusal_in}
use Rattle.mt_whole.specs.Noting.{IsShownBehind}
use Rattle.mt_whole.proofs.Noted.{answer_refused, answer_sent}
use Rattle.mt_marks.specs.declared.shown.Shown.{Shown}
use Rattle.mt_whole.proofs.noting.answer_sent.Goals as goal

pub returns-then-is_some : goal.returns-then-is_some
returns-then-is_some c row t is =
    let answer = c.args.answer in
    let refusal = c.in_ok-refusal.ensures row t is ∙ ap (λ (x : List Payload). refusal_in (answer_in row t answer.key answer.acknowledge x)) c.in_ok-copy.ensures in
    answer_refused row t answer.key answer.acknowledge answer.payloads c.args.ms (ap is_some (sym refusal) ∙ sym c.is_some.ensures ∙ c.if-is_some.true)

pub returns : goal.returns
returns c row t is =
    let answer = c.args.answer in
    let refusal = c.in_ok-refusal.ensures row t is ∙ ap (λ (x : List Payload). refusal_in (answer_in row t answer.key answer.acknowledge x)) c.in_ok-copy.ensures in
    let sealed = ap is_some (sym refusal) ∙ sym c.is_some.ensures ∙ c.if-is_some.false in
    subst (λ (went : Option Shown). IsShownBehind went t (after_answer row answer.key answer.acknowledge answer.payloads c.args.ms t)) (sym c.sent_if_any.ensures)
    (answer_sent row t answer.key answer.acknowledge answer.payloads c.args.ms c.in_ok-outgoing.outgoing sealed (c.in_ok-outgoing.ensures row t is))
