use Rattle.std.proofs.Common.{Some, refl, subst, rules}
use Rattle.mt_outside.specs.Stream.{Took, TookLess}
use Rattle.mt_model.specs.texts.Contents.{contents_of}
use Rattle.mt_endings.specs.Endings.{in_hand_of}
use Rattle.mt_endings.specs.Moments.{in_hand, moment}
use Rattle.mt_endings.specs.declared.fault.Fault.TheVariants.{WriteFault}
use Rattle.mt_top.specs.Asked.{soaked, summarized}
use Rattle.mt_top.proofs.soaking.soak_with.Goals as goal

pub returns-in_default : goal.returns-in_default
returns-in_default g c = λ first second.
    let written = g.W.Sink.written in
    let faults = g.W.Sink.faults in
    rw c.tell_memory.ensures.status (c.endings_add_up.ensures.no_memory (Some (in_hand_of (soaked c.args.begin c.args.count (contents_of c.args.config.now))))
    (moment in_hand first second (written c.args.out.now) (faults c.args.out.now))
    (written c.tell_memory.new.out) (faults c.tell_memory.new.out) c.tell_memory.ensures.tells)

pub returns-in-Ok-write_all : goal.returns-in-Ok-write_all
returns-in-Ok-write_all g c = λ first second.
    let written = g.W.Sink.written in
    let faults = g.W.Sink.faults in
    let took : Took (written c.args.out.now) (written c.write_all.new.sink) c.in-Ok.summary.items = search rules in
    c.endings_add_up.ensures.made (summarized c.args.begin c.args.count (contents_of c.args.config.now)) first second
    (written c.args.out.now) (written c.write_all.new.sink) (faults c.args.out.now) (faults c.write_all.new.sink)
    (refl, subst (Took (written c.args.out.now) (written c.write_all.new.sink)) c.in-Ok.ensures took) (c.write_all.ensures.cause.stays (search rules))

pub returns : goal.returns
returns g c = λ first second.
    let written = g.W.Sink.written in
    let faults = g.W.Sink.faults in
    let less : TookLess (written c.args.out.now) (written c.write_all.new.sink) c.in-Ok.summary.items = search rules in
    c.endings_add_up.ensures.unmade (summarized c.args.begin c.args.count (contents_of c.args.config.now)) WriteFault c.finish.result first second
    (written c.args.out.now) (written c.write_all.new.sink) (written c.finish.new.out) (faults c.args.out.now) (faults c.write_all.new.sink) (faults c.finish.new.out)
    (c.write_all.ensures.cause.rose (search rules), subst (TookLess (written c.args.out.now) (written c.write_all.new.sink)) c.in-Ok.ensures less)
    (λ quiet. absurd (cc)) c.finish.ensures
