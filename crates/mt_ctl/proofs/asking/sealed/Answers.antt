use Rattle.std.proofs.Common.{◌≡◌, ◌+◌, List, [], ◌∷◌, ◌++◌, ap, arith}
use Rattle.std.proofs.lemmas.List.{length-append}
use Rattle.mt_model.specs.declared.texts.config.SessionRow.{SessionRow}
use Rattle.mt_session.specs.Datagrams.{mirror}
use Rattle.mt_session.specs.Sessions.{Message, next_counter}
use Rattle.mt_ctl.specs.Steps.{message_of}
use Rattle.mt_ctl.proofs.Askings.{events_more, messages_more, spelled_all, spelled_more}
use Rattle.mt_ctl.proofs.asking.sealed.Goals as goal

pub sealed_step-requires-clause-counted : goal.sealed_step-requires-clause-counted
sealed_step-requires-clause-counted c =
    let so_far = c.loop-step.invariant.stands in
    let count = so_far.1.1 in
    (mirror c.args.row.now, so_far.0, (so_far.1.0, omega arith))

pub loop-step-preserved : goal.loop-step-preserved
loop-step-preserved c =
    let l = c.loop-step in
    let row : SessionRow = mirror c.args.row.now in
    let messages : List Message = l.invariant.stands.0 in
    let message : Message = message_of l.next c.step-item.result in
    let stands = l.invariant.stands.1.0 in
    let count = l.invariant.stands.1.1 in
    let counted : next_counter row messages ≡ c.args.row.now.counter_in + l.step-index = ap (λ n. c.args.row.now.counter_in + n) count in record {
      stands = (
        messages ++ message ∷ [],
        (
          c.in_ok-sealed_step.ensures.stands row messages stands,
          omega (arith, length-append messages (message ∷ [])),
          messages_more l.step-index l.next c.next_behind-next.result c.args.steps.now c.step-item.result messages _
              c.loop-step-test.true c.step-item.is c.next_behind-next.ensures l.invariant.stands.1.2,
          spelled_more messages message l.invariant.stands.1.3 c.sealed_step.ensures.spelled,
        ),
      );
      told =
          events_more row c.args.row.now.counter_in l.step-index (next_counter row messages) l.next c.next_behind-next.result c.args.steps.now c.step-item.result
          l.events.items c.push.new.self.items _ c.in_ok-sealed_step.field-0 c.loop-step-test.true c.step-item.is counted
          (c.in_ok-sealed_step.ensures.event row messages stands) c.next_behind-next.ensures c.in_ok-push.ensures.items l.invariant.told;
    }

pub returns-clause-spelled : goal.returns-clause-spelled
returns-clause-spelled c =
    let l = c.loop-step in
    spelled_all l.step-index l.next c.args.steps.now l.invariant.stands.0 _ (omega arith) l.invariant.stands.1.2 l.invariant.stands.1.3
