use Rattle.std.proofs.Common.{refl, subst, ap₂, rules}
use Rattle.mt_outside.specs.Stream.{Took, TookLess}
use Rattle.mt_model.specs.texts.Contents.{contents_of}
use Rattle.mt_endings.specs.Moments.{input}
use Rattle.mt_endings.specs.declared.fault.Fault.TheVariants.{WriteFault}
use Rattle.mt_settle.specs.Settled.{settled}
use Rattle.mt_settle.proofs.Stops.{stopped}
use Rattle.mt_settle.proofs.settling.settle_with.Goals as goal

pub returns-in-Err-clause-ends : goal.returns-in-Err-clause-ends
returns-in-Err-clause-ends g c = λ first second.
    let written = g.W.Sink.written in
    let faults = g.W.Sink.faults in
    let told = g.D.Disk.contents in
    let failed = g.D.Disk.faults in
    stopped c.endings_on_disk_add_up.ensures c.writings_add_up.ensures (contents_of c.args.config.now) (told c.args.disk.now) (told c.text_on.new.disk) c.text_on.ensures.only_read.kept (failed c.args.disk.now) (failed c.text_on.new.disk)
    c.finish.result first second (written c.args.out.now) (written c.finish.new.out) (faults c.args.out.now) (faults c.finish.new.out) c.in-Err.fault c.in-Err.ensures.err c.finish.ensures

pub returns-in-Ok-write_all-clause-ends : goal.returns-in-Ok-write_all-clause-ends
returns-in-Ok-write_all-clause-ends g c = λ first second.
    let written = g.W.Sink.written in
    let faults = g.W.Sink.faults in
    let told = g.D.Disk.contents in
    let failed = g.D.Disk.faults in
    let took : Took (written c.args.out.now) (written c.write_all.new.sink) c.in-Ok.text.items = search rules in
    c.endings_on_disk_add_up.ensures.made (settled (contents_of c.args.config.now)) first second (input (told c.args.disk.now) (failed c.args.disk.now)) (input (told c.text_on.new.disk) (failed c.text_on.new.disk))
    (written c.args.out.now) (written c.write_all.new.sink) (faults c.args.out.now) (faults c.write_all.new.sink)
    (ap₂ input c.text_on.ensures.only_read.kept c.in-Ok.ensures.calm)
    (λ journal is. (c.in-Ok.ensures.whole journal is, subst (Took (written c.args.out.now) (written c.write_all.new.sink)) (c.in-Ok.ensures.text journal is) took)) (c.write_all.ensures.cause.stays (search rules))

pub returns-clause-ends : goal.returns-clause-ends
returns-clause-ends g c = λ first second.
    let written = g.W.Sink.written in
    let faults = g.W.Sink.faults in
    let told = g.D.Disk.contents in
    let failed = g.D.Disk.faults in
    let less : TookLess (written c.args.out.now) (written c.write_all.new.sink) c.in-Ok.text.items = search rules in
    c.endings_on_disk_add_up.ensures.unmade (settled (contents_of c.args.config.now)) WriteFault c.finish-in-Err-write_all.result first second (input (told c.args.disk.now) (failed c.args.disk.now)) (input (told c.text_on.new.disk) (failed c.text_on.new.disk))
    (written c.args.out.now) (written c.write_all.new.sink) (written c.finish-in-Err-write_all.new.out) (faults c.args.out.now) (faults c.write_all.new.sink) (faults c.finish-in-Err-write_all.new.out)
    (ap₂ input c.text_on.ensures.only_read.kept c.in-Ok.ensures.calm) refl
    (λ journal is. (c.write_all.ensures.cause.rose (search rules), subst (TookLess (written c.args.out.now) (written c.write_all.new.sink)) (c.in-Ok.ensures.text journal is) less))
    (λ quiet. absurd (cc)) c.finish-in-Err-write_all.ensures
