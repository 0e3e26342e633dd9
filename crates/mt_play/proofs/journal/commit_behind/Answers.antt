use Rattle.std.proofs.Common.{◌≡◌, ◌∙◌, ap, sym, List}
use Rattle.std.specs.Prelude.{Option, None, unwrap_or}
use Rattle.mt_durable.specs.declared.durable.Entry.{Entry}
use Rattle.mt_grammar.specs.Grammar.{is_in_grammar}
use Rattle.mt_journal.specs.Standing.{switch_calls}
use Rattle.mt_outside.specs.MemoryDisk.{DiskState, forgotten, held}
use Rattle.mt_keeping.specs.States.{told_map}
use Rattle.mt_play.proofs.Disks.{goes_on, kept_held, some_same}
use Rattle.mt_play.proofs.journal.commit_behind.Goals as goal

pub returns-clause-keeps : goal.returns-clause-keeps
returns-clause-keeps c entries is up whole says =
    let old = c.args.store.now in
    let new = c.commit.new.self in
    let journal = new.store.journal in
    let disk = c.forget.new.self in
    let now = c.restart.new.self in
    let calls = switch_calls old.store.journal.place in
    let committed = c.in-Ok.ensures.committed in
    let lent = c.disk_mut-disk.ensures.value in
    let stop = ap (λ (d : DiskState). d.stop) (c.forget.ensures.forgotten ∙ ap forgotten lent) ∙ c.in-Ok.ensures.lasts.0 in
    let still : now ≡ record disk { stop = None } = goes_on calls old.store.journal.disk.stop disk now c.in-Ok.ensures.lasts.1 stop c.restart.ensures.restarted in
    let told : told_map new ≡ new.store.image = ap (λ (rolled : Option (List Entry)). unwrap_or rolled new.store.image) c.in-Ok.ensures.in_use in
    record {
      is = record {
        keeps = kept_held journal.disk now journal.place new.store.image (ap held still ∙ c.forget.ensures.held ∙ ap held lent) (c.in-Ok.ensures.kept is.keeps);
        ready = c.in-Ok.ensures.failed;
      };
      runs = ap (λ (d : DiskState). d.stop) still;
      image =
          sym told
          ∙ some_same (told_map new) committed.0 committed.2
          ∙ c.states_may_be_committed.ensures.one entries (told_map old) committed.0 c.args.change.now up whole says committed.1;
      in_use = c.in-Ok.ensures.in_use;
    }

pub returns-clause-admitted : goal.returns-clause-admitted
returns-clause-admitted c =
    let old = c.args.store.now in
    let new = c.commit.new.self in
    let committed = c.in-Ok.ensures.committed in
    let told : told_map new ≡ new.store.image = ap (λ (rolled : Option (List Entry)). unwrap_or rolled new.store.image) c.in-Ok.ensures.in_use in
    let after : new.store.image ≡ committed.0 = sym told ∙ some_same (told_map new) committed.0 committed.2 in
    ap is_in_grammar after ∙ c.requires.admitted committed.0 committed.1
