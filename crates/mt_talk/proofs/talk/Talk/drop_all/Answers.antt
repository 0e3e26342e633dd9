use Rattle.std.proofs.Common.{refl}
use Rattle.mt_talk.specs.declared.talk.Talk as code
use Rattle.mt_talk.proofs.Standing.{dropped_behind}
use Rattle.mt_talk.proofs.talk.Talk.drop_all.Goals as goal

pub returns : goal.returns
returns c = λ row t s.
    let law = c.shown_runs.ensures in
    let later : code.Talk = record c.args.self.now { exchanges = c.drop_all.new.self } in
    dropped_behind law.arrivals law.messages law.more law.run_more c.args.self.now later row t s refl refl (c.drop_all.ensures row s.happenings s.exchanges)
