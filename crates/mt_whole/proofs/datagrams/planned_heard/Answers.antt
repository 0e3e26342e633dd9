use Rattle.std.proofs.Common.{◌≡◌, ℕ, Bool, List, Option, is_some, sym, ap, subst, ◌∙◌}
use Rattle.mt_talk.specs.Hearing.{Said, after_datagram, fresh_by, received_in, said, said_by}
use Rattle.mt_talk.specs.Talks.{IsTalkOf}
use Rattle.mt_talk.specs.declared.talk.Talk as code
use Rattle.mt_interactions.specs.mt_machine.Step.{session_actor}
use Rattle.mt_interactions.specs.mt_runs.Datagrams.{Answer, behind_answer, datagram_of, heard, its_answer, said_to}
use Rattle.mt_interactions.specs.mt_runs.Whole.{is_live}
use Rattle.mt_whole.specs.Plan.{IsAnswered, answer_as, given_to}
use Rattle.mt_whole.proofs.Planned.{sent_as_heard}
use Rattle.mt_whole.proofs.datagrams.planned_heard.Goals as goal

pub returns-clause-heard : goal.returns-clause-heard
returns-clause-heard g c t at =
    let verdicts = c.args.verdicts.now in
    let whole = c.args.whole.now in
    let given = given_to whole (g.V.Verdicts.roots verdicts) (g.V.Verdicts.csrs verdicts) (g.V.Verdicts.joins verdicts) in
    let s = whole.interactions.state in
    let l = whole.interactions.ledger in
    let ms = c.args.ms in
    let from = c.args.from in
    let bytes = c.args.bytes.now in
    let row = t.row in
    let copied : IsTalkOf c.in_ok-talk.talk row t.talk = subst (λ (talk : code.Talk). IsTalkOf talk row t.talk) (sym c.in_ok-talk.ensures) at.talk in
    let live : c.is_some-live.result ≡ is_live s.node row.session = c.is_some-live.ensures ∙ ap is_some c.actor.ensures ∙ ap (λ (n : ℕ). is_some (session_actor s.node n)) at.id in
    let read_as : c.deref_mut.result.now ≡ bytes = c.deref_mut.ensures.value ∙ c.into_vec-datagram.ensures ∙ c.in_ok-copy.ensures in
    let says : said_by c.in_ok-hearing.hearing.heard ≡ said_to s.node bytes t =
    c.in_ok-hearing.ensures.heard row t.talk copied
    ∙ ap (λ (b : Bool). said row t.talk b c.deref_mut.result.now) live
    ∙ ap (λ (d : List ℕ). said row t.talk (is_live s.node row.session) d) read_as in
    let stands : IsTalkOf c.hear.new.self row (heard s.node from bytes t) =
    subst (λ (d : List ℕ). IsTalkOf c.hear.new.self row (after_datagram row (is_live s.node row.session) from d t.talk)) read_as
    (subst (λ (b : Bool). IsTalkOf c.hear.new.self row (after_datagram row b from c.deref_mut.result.now t.talk)) live (c.in_ok-hearing.ensures.stands row t.talk copied)) in
    let answers : IsAnswered given s l row.session ms (said_to s.node bytes t) (c.in_ok-answer.answer, c.in_ok-answer.interactions) =
    subst (λ (n : ℕ). IsAnswered given s l n ms (said_to s.node bytes t) (c.in_ok-answer.answer, c.in_ok-answer.interactions)) at.id
    (subst (λ (x : Said). IsAnswered given s l c.args.talk.now.id ms x (c.in_ok-answer.answer, c.in_ok-answer.interactions)) says c.in_ok-answer.ensures) in
    let answer : answer_as c.in_ok-answer.answer ≡ its_answer given s.node l ms bytes t = answers.answer in
    record {
      sent = c.in_ok-sent.ensures
          ∙ sent_as_heard given s l ms from bytes t c.args.talk.now.id c.latest-peer.result c.in_ok-datagram.datagram at.id (c.latest-peer.ensures ∙ stands.latest)
          (c.in_ok-datagram.ensures.sent row (heard s.node from bytes t) stands ∙ ap (datagram_of row (heard s.node from bytes t)) answer);
      fresh = c.in_ok-fresh.ensures ∙ c.in_ok-hearing.ensures.fresh row t.talk copied ∙ ap (λ (d : List ℕ). fresh_by (received_in row t.talk d)) read_as;
      state = answers.state;
      ledger = answers.ledger;
      talk = (
        at.id,
        subst (λ (o : Option Answer). IsTalkOf c.datagram_of.new.talk row (behind_answer row ms (heard s.node from bytes t) o)) answer
            (c.in_ok-datagram.ensures.stands row (heard s.node from bytes t) stands),
      );
    }
