use Rattle.std.proofs.Common.{◌++◌, ◌+◌, ◌≤◌, length, drop, [], ap, refl, sym, ◌∙◌, append_assoc, subst, arith, rules}
use Rattle.mt_outside.specs.Stream.{Took, TookLess, one_more}
use Rattle.std.proofs.lemmas.List.{map-append}
use Rattle.std.specs.Prelude.{map}
use Rattle.mt_files.specs.Output.{sent_line}
use Rattle.mt_top.specs.Begun.{behind, sent_by}
use Rattle.mt_top.proofs.Plays.{sent_of, sent-step, sent-end, took-all, took-less, took-more}
use Rattle.mt_top.proofs.replaying.play.Goals as goal

pub loop-event-init : goal.loop-event-init
loop-event-init g c = record {
  so_far = λ begun stands. record {
    told = [];
    at = begun;
    stands = stands;
    took = c.writings_add_up.ensures.nothing (g.W.Sink.written c.args.out.now);
    sent = ap (sent_of begun) (sym c.as_slice-event-items.ensures);
  };
  journal = c.requires;
  calm = refl;
}

pub returns-in_default-clause-err : goal.returns-in_default-clause-err
returns-in_default-clause-err g c = λ begun stands.
    let l = c.loop-event in
    let i = l.invariant.so_far begun stands in
    let rest = sent_of i.at (drop l.event-index c.as_slice-event-items.result.now) in
    (map sent_line i.told, map sent_line rest, ap (map sent_line) i.sent ∙ map-append sent_line i.told rest, i.took)

pub returns-in_default-write_all-clause-err : goal.returns-in_default-write_all-clause-err
returns-in_default-write_all-clause-err g c = λ begun stands.
    let written = g.W.Sink.written in
    let l = c.loop-event in
    let i = l.invariant.so_far begun stands in
    let all = c.as_slice-event-items.result.now in
    let event = c.event-item.result in
    let text = c.in-Ok.text.items in
    let steps = c.in-Ok.ensures.steps i.at i.stands in
    let less : TookLess (written l.out) (written c.write_all.new.sink) text = subst (TookLess (written l.out) (written c.write_all.new.sink)) c.deref.ensures.value c.in_default-write_all.ensures.less in
    let k = c.write_all.ensures in (
      k.cause.rose (search rules) ∙ ap one_more l.invariant.calm,
      took-less c.writings_add_up.ensures (written c.args.out.now) (written l.out) (written c.write_all.new.sink) i.told (sent_by i.at event) (sent_of (behind i.at event) (drop (l.event-index + 1) all)) (sent_of begun c.args.events.now) text i.took steps.0 less
          (i.sent ∙ ap (λ w. i.told ++ w) (sent-step i.at all l.event-index event c.loop-event-test.true c.event-item.is)),
    )

pub loop-event-preserved : goal.loop-event-preserved
loop-event-preserved g c =
    let written = g.W.Sink.written in
    let l = c.loop-event in
    let all = c.as_slice-event-items.result.now in
    let event = c.event-item.result in
    let text = c.in-Ok.text.items in
    let took : Took (written l.out) (written c.write_all.new.sink) text = subst (Took (written l.out) (written c.write_all.new.sink)) c.deref.ensures.value c.in-Ok-write_all.ensures.took in
    let k = c.write_all.ensures in
    record {
      so_far = λ begun stands.
          let i = l.invariant.so_far begun stands in
          let steps = c.in-Ok.ensures.steps i.at i.stands in
          record {
            told = i.told ++ sent_by i.at event;
            at = behind i.at event;
            stands = steps.1;
            took = took-more c.writings_add_up.ensures (written c.args.out.now) (written l.out) (written c.write_all.new.sink) i.told (sent_by i.at event) text i.took steps.0 took;
            sent = i.sent ∙ ap (λ w. i.told ++ w) (sent-step i.at all l.event-index event c.loop-event-test.true c.event-item.is) ∙ sym (append_assoc i.told (sent_by i.at event) (sent_of (behind i.at event) (drop (l.event-index + 1) all)));
          };
      journal = c.in-Ok.ensures.journal;
      calm = k.cause.stays (search rules) ∙ l.invariant.calm;
    }

pub returns-clause-ok : goal.returns-clause-ok
returns-clause-ok g c = λ begun stands.
    let l = c.loop-event in
    let i = l.invariant.so_far begun stands in
    let le : length c.as_slice-event-items.result.now ≤ l.event-index = omega arith in
    (refl, took-all (g.W.Sink.written c.args.out.now) (g.W.Sink.written l.out) i.told (sent_of i.at (drop l.event-index c.as_slice-event-items.result.now)) (sent_of begun c.args.events.now) i.took i.sent (sent-end i.at c.as_slice-event-items.result.now l.event-index le))
