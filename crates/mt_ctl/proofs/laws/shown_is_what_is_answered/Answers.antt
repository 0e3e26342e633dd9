use Rattle.std.proofs.Common.{[]}
use Rattle.mt_session.specs.Datagrams.{mirror}
use Rattle.mt_ctl.specs.Showing.{datagrams_in}
use Rattle.mt_ctl.proofs.Ends.{shown-answered}
use Rattle.mt_ctl.proofs.laws.shown_is_what_is_answered.Goals as goal

pub returns : goal.returns
returns c = λ row sent. shown-answered (mirror row) [] (datagrams_in sent)
