use Rattle.std.proofs.Common.{◌≡◌, ℕ, Bool, List, Option, is_some, option_map, sym, ap, subst, ◌∙◌}
use Rattle.mt_exchange.specs.Shown as showing
use Rattle.mt_talk.specs.Hearing.{Said, after_datagram, fresh_as, fresh_by, received_in, said, said_by}
use Rattle.mt_talk.specs.Talks.{IsTalkOf}
use Rattle.mt_talk.specs.declared.talk.Talk as code
use Rattle.mt_interactions.specs.mt_machine.Step.{session_actor}
use Rattle.mt_interactions.specs.mt_runs.Datagrams.{Answer, behind_answer, heard, its_answer, said_to}
use Rattle.mt_interactions.specs.mt_runs.Whole.{is_live}
use Rattle.mt_marks.specs.Noted.{shown_in}
use Rattle.mt_whole.specs.Plan.{IsAnswered, answer_as, given_to}
use Rattle.mt_whole.proofs.Noted.{both_shown, heard_list}
use Rattle.mt_whole.proofs.noting.noted_heard.Goals as goal

pub returns : goal.returns
returns g c t at =
    let verdicts = c.args.verdicts.now in
    let whole = c.args.whole.now in
    let given = given_to whole (g.V.Verdicts.roots verdicts) (g.V.Verdicts.csrs verdicts) (g.V.Verdicts.joins verdicts) in
    let s = whole.interactions.state in
    let l = whole.interactions.ledger in
    let ms = c.args.ms in
    let from = c.args.from in
    let bytes = c.args.bytes.now in
    let row = t.row in
    let hearing = c.in_ok-hearing.hearing in
    let copied : IsTalkOf c.in_ok-heard.heard row t.talk = subst (λ (talk : code.Talk). IsTalkOf talk row t.talk) (sym c.in_ok-heard.ensures) at.talk in
    let live : c.is_some-live.result ≡ is_live s.node row.session = c.is_some-live.ensures ∙ ap is_some c.actor.ensures ∙ ap (λ (n : ℕ). is_some (session_actor s.node n)) at.id in
    let read_as : c.deref_mut.result.now ≡ bytes = c.deref_mut.ensures.value ∙ c.into_vec-datagram.ensures ∙ c.in_ok-copy.ensures in
    let says : said_by hearing.heard ≡ said_to s.node bytes t =
    c.in_ok-hearing.ensures.heard row t.talk copied
    ∙ ap (λ (b : Bool). said row t.talk b c.deref_mut.result.now) live
    ∙ ap (λ (d : List ℕ). said row t.talk (is_live s.node row.session) d) read_as in
    let stands : IsTalkOf c.hear.new.self row (heard s.node from bytes t) =
    subst (λ (d : List ℕ). IsTalkOf c.hear.new.self row (after_datagram row (is_live s.node row.session) from d t.talk)) read_as
    (subst (λ (b : Bool). IsTalkOf c.hear.new.self row (after_datagram row b from c.deref_mut.result.now t.talk)) live (c.in_ok-hearing.ensures.stands row t.talk copied)) in
    let answers : IsAnswered given s l row.session ms (said_to s.node bytes t) (c.in_ok-answer.answer, c.in_ok-answer.field-0-1) =
    subst (λ (n : ℕ). IsAnswered given s l n ms (said_to s.node bytes t) (c.in_ok-answer.answer, c.in_ok-answer.field-0-1)) at.id
    (subst (λ (x : Said). IsAnswered given s l c.args.talk.now.id ms x (c.in_ok-answer.answer, c.in_ok-answer.field-0-1)) says c.in_ok-answer.ensures) in
    let answer : answer_as c.in_ok-answer.answer ≡ its_answer given s.node l ms bytes t = answers.answer in
    let fresh : option_map shown_in c.in_ok-came.came ≡ option_map (showing.heard (is_live s.node row.session)) (fresh_by (received_in row t.talk bytes)) =
    c.in_ok-came.ensures
    ∙ ap (λ (b : Bool). option_map (showing.heard b) (fresh_as hearing.fresh)) live
    ∙ ap (option_map (showing.heard (is_live s.node row.session))) (c.in_ok-hearing.ensures.fresh row t.talk copied ∙ ap (λ (d : List ℕ). fresh_by (received_in row t.talk d)) read_as) in
    let talk = heard s.node from bytes t in (
      at.id,
      both_shown t.talk talk (behind_answer row ms talk (its_answer given s.node l ms bytes t)) c.in_ok-came.came c.in_ok-went.went c.in_ok-all_listed.field-0 c.in_ok-all_listed.ensures
          (heard_list (is_live s.node row.session) from (received_in row t.talk bytes) t.talk c.in_ok-came.came fresh)
          (c.in_ok-went.ensures row talk stands ∙ ap (λ (a : Option Answer). (behind_answer row ms talk a).shown) answer),
    )
