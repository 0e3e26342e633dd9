use Rattle.std.proofs.Common.{◌≡◌, ◌∙◌, ap, subst, ℕ, List, rules}
use Rattle.mt_layer.specs.Answering.{answered_with}
use Rattle.mt_layer.specs.Deeds.{deed_heard, said_as_live}
use Rattle.mt_layer.specs.Keeping.{IsKeptOf}
use Rattle.mt_layer.specs.Saying.{heard_as_live}
use Rattle.mt_model.specs.declared.texts.recording.Event.TheVariants.{Datagram}
use Rattle.mt_worker.proofs.seat.Seat.listen.Goals as goal

pub returns-clause-call : goal.returns-clause-call
returns-clause-call c a is =
    let same : c.deref_mut.result.now ≡ c.args.bytes = search rules in
    λ i. record {
      event = Datagram c.args.now c.args.from c.args.bytes;
      deed = (c.in_ok-deed.ensures.deed a.row a.talk is.talk ∙ ap (λ (bytes : List ℕ). deed_heard a.row bytes a.talk) same) i;
    }

pub returns-clause-answer : goal.returns-clause-answer
returns-clause-answer c a is ms reply =
    let same : c.deref_mut.result.now ≡ c.args.bytes = search rules in
    c.in_ok-deed.ensures.answer a.row a.talk is.talk ms reply ∙ ap (λ (bytes : List ℕ). answered_with ms reply (said_as_live a.row bytes a.talk)) same

pub returns-clause-stands : goal.returns-clause-stands
returns-clause-stands c a is =
    let same : c.deref_mut.result.now ≡ c.args.bytes = search rules in
    record {
      session = is.session;
      talk = subst (λ (bytes : List ℕ). IsKeptOf c.listen.new.self a.row (heard_as_live a.row c.args.from bytes a.talk)) same (c.in_ok-deed.ensures.stands a.row a.talk is.talk);
      subscriptions = is.subscriptions;
    }
