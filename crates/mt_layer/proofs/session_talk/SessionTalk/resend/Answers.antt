use Rattle.std.proofs.Common.{◌≡◌, ℕ, ◌∙◌, true, [], inl, inr, OnErr, Option, Some, None, Result, Ok, Err, ap, is_some, not, refl, subst, sym}
use Rattle.mt_talk.specs.Talks.{IsTalkOf, Talk, after_drop, after_resend, resent_in}
use Rattle.mt_talk.specs.declared.talk.Talk as code
use Rattle.mt_shared.specs.mt_runs.Datagrams.{all_sent}
use Rattle.mt_layer.specs.Keeping.{IsKeptOf, IsResentInPart}
use Rattle.mt_layer.specs.declared.session_talk.SessionTalk.{SessionTalk}
use Rattle.mt_layer.specs.Saying.{if_live, unless_closed}
use Rattle.mt_layer.proofs.session_talk.SessionTalk.resend.Goals as goal

living : {A : Type 0} (fabric : Option ℕ) (a b : A) → is_some fabric ≡ true → if_live fabric a b ≡ a
living None a b live = absurd (cc)
living (Some fabric) a b live = refl

pub returns-clause-sent : goal.returns-clause-sent
returns-clause-sent c row t kept =
    let ms = c.args.ms in
    let fabric : Option ℕ = c.args.answer.now.fabric in
    let live : is_some fabric ≡ true = c.is_none.ensures ∙ ap not c.if-is_none.false in
    c.in_ok-sent.ensures
    ∙ (λ i. all_sent ms (kept.id i) ((c.latest-peer.ensures ∙ kept.talk.latest) i) ((c.into_vec.ensures ∙ c.in_ok-datagrams.ensures.datagrams row t kept.talk) i))
    ∙ sym (living fabric (all_sent ms row.session t.latest (resent_in row ms t)) [] live)

pub returns-clause-stands : goal.returns-clause-stands
returns-clause-stands c row t kept =
    let ms = c.args.ms in
    let fabric : Option ℕ = c.args.answer.now.fabric in
    let live : is_some fabric ≡ true = c.is_none.ensures ∙ ap not c.if-is_none.false in
    let closed = c.args.answer.now.closed in
    let behind : IsKeptOf c.drop_if_closed.new.self row (unless_closed c.as_slice.result.now row.session (after_resend ms t)) =
    c.drop_if_closed.ensures row (after_resend ms t) (record { id = kept.id; talk = c.in_ok-datagrams.ensures.stands row t kept.talk }) in
    subst (λ (x : Talk). IsKeptOf c.drop_if_closed.new.self row x)
    ((λ i. unless_closed (c.as_slice.ensures i) row.session (after_resend ms t)) ∙ sym (living fabric (unless_closed closed row.session (after_resend ms t)) (after_drop t) live)) behind

on_err : {T E : Type 0} (result : Result T E) (P : Type 0) → P → OnErr result P
on_err (Ok x) P p = tt
on_err (Err e) P p = p

pub returns-in_err-datagrams-clause-part : goal.returns-in_err-datagrams-clause-part
returns-in_err-datagrams-clause-part c row t kept =
    let now : SessionTalk = record c.args.self.now { talk = c.resend.new.self } in
    on_err c.from_residual.result (IsResentInPart now row c.args.ms t)
    (inl (record { id = kept.id; talk = subst (λ (talk : code.Talk). IsTalkOf talk row t) (sym c.in_err-datagrams.ensures.kept) kept.talk }))

pub returns-in_err-sent-clause-part : goal.returns-in_err-sent-clause-part
returns-in_err-sent-clause-part c row t kept =
    let now : SessionTalk = record c.args.self.now { talk = c.resend.new.self } in
    on_err c.from_residual-in_err-sent.result (IsResentInPart now row c.args.ms t)
    (inr (record { id = kept.id; talk = c.in_ok-datagrams.ensures.stands row t kept.talk }))
