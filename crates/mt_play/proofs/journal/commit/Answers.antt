use Rattle.std.specs.Prelude.{Some}
use Rattle.mt_keeping.specs.States.{told_map}
use Rattle.mt_play.proofs.Committing.{still_committed}
use Rattle.mt_play.proofs.journal.commit.Goals as goal

pub returns-clause-part : goal.returns-clause-part
returns-clause-part c =
    still_committed c.compact_if_long.result c.args.change.now (Some (told_map c.args.store.now)) (told_map c.commit_behind.new.store) (told_map c.compact_if_long.new.store) c.in_ok-commit_behind.ensures.committed c.compact_if_long.ensures.told
