use Rattle.mt_windows.proofs.Refusals.{basic_opens_exact, opens_exact, revokes_exact}
use Rattle.mt_windows.proofs.laws.refusals_of_windows_are_exact.Goals as goal

pub returns : goal.returns
returns c = record { opens = opens_exact; basic = basic_opens_exact; revokes = revokes_exact }
