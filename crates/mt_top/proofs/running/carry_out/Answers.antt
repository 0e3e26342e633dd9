use Rattle.std.proofs.Common.{ap, leb-true, refl, subst, sym, ◌∙◌}
use Rattle.mt_model.specs.texts.Contents.{contents_of}
use Rattle.mt_words.specs.declared.asked.Asked.{Asked}
use Rattle.mt_endings.specs.Moments.{in_hand, input, moment}
use Rattle.mt_top.specs.Asked.{CarriesOut, is_within}
use Rattle.mt_top.proofs.running.carry_out.Goals as goal

pub soak_with-requires : goal.soak_with-requires
soak_with-requires g c = leb-true c.in-Soak.count 100000 (sym (ap is_within c.in-Soak.is) ∙ c.requires)

pub returns-in-Soak-clause-ends : goal.returns-in-Soak-clause-ends
returns-in-Soak-clause-ends g c =
    let written = g.W.Sink.written in
    let faults = g.W.Sink.faults in
    let first = input (g.A.Source.left c.args.first.now) (g.A.Source.faults c.args.first.now) in
    let second = input (g.B.Source.left c.args.second.now) (g.B.Source.faults c.args.second.now) in
    let disk = input (g.D.Disk.contents c.args.disk.now) (g.D.Disk.faults c.args.disk.now) in
    subst (λ (wanted : Asked). CarriesOut c.soak_with.result wanted (contents_of c.args.config.now) disk disk (moment in_hand first second (written c.args.out.now) (faults c.args.out.now)) (moment in_hand first second (written c.soak_with.new.out) (faults c.soak_with.new.out)))
    (sym c.in-Soak.is) (c.soak_with.ensures first second, refl)

pub returns-in-Replay-clause-ends : goal.returns-in-Replay-clause-ends
returns-in-Replay-clause-ends g c =
    let left = g.A.Source.left in
    let reads = g.A.Source.faults in
    let written = g.W.Sink.written in
    let faults = g.W.Sink.faults in
    let second = input (g.B.Source.left c.args.second.now) (g.B.Source.faults c.args.second.now) in
    let disk = input (g.D.Disk.contents c.args.disk.now) (g.D.Disk.faults c.args.disk.now) in
    subst (λ (wanted : Asked). CarriesOut c.replay_with.result wanted (contents_of c.args.config.now) disk disk
    (moment in_hand (input (left c.args.first.now) (reads c.args.first.now)) second (written c.args.out.now) (faults c.args.out.now))
    (moment in_hand (input (left c.replay_with.new.first) (reads c.replay_with.new.first)) second (written c.replay_with.new.out) (faults c.replay_with.new.out)))
    (sym c.in-Replay.is) (c.replay_with.ensures.ends second, refl)

pub returns-in-Compare-clause-ends : goal.returns-in-Compare-clause-ends
returns-in-Compare-clause-ends g c =
    let left = g.A.Source.left in
    let reads = g.A.Source.faults in
    let written = g.W.Sink.written in
    let faults = g.W.Sink.faults in
    let disk = input (g.D.Disk.contents c.args.disk.now) (g.D.Disk.faults c.args.disk.now) in
    subst (λ (wanted : Asked). CarriesOut c.compare_with.result wanted (contents_of c.args.config.now) disk disk
    (moment in_hand (input (left c.args.first.now) (reads c.args.first.now)) (input (g.B.Source.left c.args.second.now) (g.B.Source.faults c.args.second.now)) (written c.args.out.now) (faults c.args.out.now))
    (moment in_hand (input (left c.compare_with.new.first) (reads c.compare_with.new.first)) (input (g.B.Source.left c.compare_with.new.second) (g.B.Source.faults c.compare_with.new.second)) (written c.compare_with.new.out) (faults c.compare_with.new.out)))
    (sym c.in-Compare.is) (c.compare_with.ensures, refl)

pub returns-in-Settle-clause-ends : goal.returns-in-Settle-clause-ends
returns-in-Settle-clause-ends g c =
    let written = g.W.Sink.written in
    let faults = g.W.Sink.faults in
    let told = g.D.Disk.contents in
    let failed = g.D.Disk.faults in
    let first = input (g.A.Source.left c.args.first.now) (g.A.Source.faults c.args.first.now) in
    let second = input (g.B.Source.left c.args.second.now) (g.B.Source.faults c.args.second.now) in
    subst (λ (wanted : Asked). CarriesOut c.settle_with.result wanted (contents_of c.args.config.now) (input (told c.args.disk.now) (failed c.args.disk.now)) (input (told c.settle_with.new.disk) (failed c.settle_with.new.disk))
    (moment in_hand first second (written c.args.out.now) (faults c.args.out.now)) (moment in_hand first second (written c.settle_with.new.out) (faults c.settle_with.new.out)))
    (sym c.in-Settle.is) (c.settle_with.ensures.ends first second, refl, refl)

pub returns-in-Ask-clause-ends : goal.returns-in-Ask-clause-ends
returns-in-Ask-clause-ends g c =
    let left = g.A.Source.left in
    let reads = g.A.Source.faults in
    let written = g.W.Sink.written in
    let faults = g.W.Sink.faults in
    let second = input (g.B.Source.left c.args.second.now) (g.B.Source.faults c.args.second.now) in
    let disk = input (g.D.Disk.contents c.args.disk.now) (g.D.Disk.faults c.args.disk.now) in
    subst (λ (wanted : Asked). CarriesOut c.ask_with.result wanted (contents_of c.args.config.now) disk disk
    (moment in_hand (input (left c.args.first.now) (reads c.args.first.now)) second (written c.args.out.now) (faults c.args.out.now))
    (moment in_hand (input (left c.ask_with.new.first) (reads c.ask_with.new.first)) second (written c.ask_with.new.out) (faults c.ask_with.new.out)))
    (sym c.in-Ask.is) (c.ask_with.ensures.ends second, refl)

pub returns-in-Show-clause-ends : goal.returns-in-Show-clause-ends
returns-in-Show-clause-ends g c =
    let left = g.A.Source.left in
    let reads = g.A.Source.faults in
    let written = g.W.Sink.written in
    let faults = g.W.Sink.faults in
    let second = input (g.B.Source.left c.args.second.now) (g.B.Source.faults c.args.second.now) in
    let disk = input (g.D.Disk.contents c.args.disk.now) (g.D.Disk.faults c.args.disk.now) in
    subst (λ (wanted : Asked). CarriesOut c.show_with.result wanted (contents_of c.args.config.now) disk disk
    (moment in_hand (input (left c.args.first.now) (reads c.args.first.now)) second (written c.args.out.now) (faults c.args.out.now))
    (moment in_hand (input (left c.show_with.new.first) (reads c.show_with.new.first)) second (written c.show_with.new.out) (faults c.show_with.new.out)))
    (sym c.in-Show.is) (c.show_with.ensures.ends second, refl)
