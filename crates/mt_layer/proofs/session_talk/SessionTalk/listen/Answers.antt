use Rattle.std.proofs.Common.{◌≡◌, ℕ, ◌∙◌, true, Option, Result, Ok, Err, IfOk, OnErr, OnOk, ap}
use Rattle.mt_model.specs.declared.messages.message.Reply.{Reply}
use Rattle.mt_talk.specs.Hearing.{Said, said, said_by}
use Rattle.mt_shared.specs.mt_interactions.Deed.{Deed}
use Rattle.mt_layer.specs.Answering.{answer_by, answered_with}
use Rattle.mt_layer.specs.Deeds.{deed_heard, deed_said}
use Rattle.mt_layer.specs.Keeping.{IsKeptOf, IsListenedInPart}
use Rattle.mt_layer.specs.Saying.{heard_as_live}
use Rattle.mt_layer.specs.declared.answering.Answering.{Answering}
use Rattle.mt_layer.specs.declared.session_talk.SessionTalk.{SessionTalk}
use Rattle.mt_layer.proofs.session_talk.SessionTalk.listen.Goals as goal

if_ok : {T E : Type 0} (result : Result T E) (P Q : T → Type 0) → ((x : T) → P x → Q x) → IfOk result P → IfOk result Q
if_ok (Ok x) P Q weaker p = weaker x p
if_ok (Err e) P Q weaker p = tt

on_ok : {T E : Type 0} (result : Result T E) (P : Type 0) → P → OnOk result P
on_ok (Ok x) P p = p
on_ok (Err e) P p = tt

pub returns-clause-deed : goal.returns-clause-deed
returns-clause-deed c row t kept =
    let x : Said = said_by c.in_ok-hearing.hearing.heard in
    let says : x ≡ said row t true c.args.datagram.now = c.in_ok-hearing.ensures.heard row t kept.talk in
    if_ok c.planned.result (λ (both : Deed × Option Answering). both.0 ≡ deed_said c.args.self.now.session x) (λ both. both.0 ≡ deed_heard row c.args.datagram.now t)
    (λ both is. is ∙ (λ i. deed_said (kept.id i) (says i))) c.planned.ensures.deed

pub returns-clause-answer : goal.returns-clause-answer
returns-clause-answer c row t kept =
    let x : Said = said_by c.in_ok-hearing.hearing.heard in
    let says : x ≡ said row t true c.args.datagram.now = c.in_ok-hearing.ensures.heard row t kept.talk in
    if_ok c.planned.result (λ (both : Deed × Option Answering). (ms : ℕ) (reply : Reply) → answer_by ms reply both.1 ≡ answered_with ms reply x)
    (λ both. (ms : ℕ) (reply : Reply) → answer_by ms reply both.1 ≡ answered_with ms reply (said row t true c.args.datagram.now))
    (λ both is ms reply. is ms reply ∙ ap (answered_with ms reply) says) c.planned.ensures.answer

pub returns-clause-stands : goal.returns-clause-stands
returns-clause-stands c row t kept =
    let now : SessionTalk = record { alloc = c.args.self.now.alloc; session = c.args.self.now.session; talk = c.hear.new.self } in
    on_ok c.planned.result (IsKeptOf now row (heard_as_live row c.args.from c.args.datagram.now t)) (record { id = kept.id; talk = c.in_ok-hearing.ensures.stands row t kept.talk })

on_err : {T E : Type 0} (result : Result T E) (P : Type 0) → P → OnErr result P
on_err (Ok x) P p = tt
on_err (Err e) P p = p

pub returns-in_err-hearing-clause-counts : goal.returns-in_err-hearing-clause-counts
returns-in_err-hearing-clause-counts c row t kept =
    let now : SessionTalk = record { alloc = c.args.self.now.alloc; session = c.args.self.now.session; talk = c.hear.new.self } in
    let part = c.in_err-hearing.ensures.counts row t kept.talk in
    on_err c.from_residual.result (IsListenedInPart now row c.args.from c.args.datagram.now t) (record { taken = part.taken; stands = record { id = kept.id; talk = part.stands } })

pub returns-clause-counts : goal.returns-clause-counts
returns-clause-counts c row t kept =
    let now : SessionTalk = record { alloc = c.args.self.now.alloc; session = c.args.self.now.session; talk = c.hear.new.self } in
    on_err c.planned.result (IsListenedInPart now row c.args.from c.args.datagram.now t)
    (record { taken = true; stands = record { id = kept.id; talk = c.in_ok-hearing.ensures.stands row t kept.talk } })
