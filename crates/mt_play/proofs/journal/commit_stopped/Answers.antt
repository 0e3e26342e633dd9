use Rattle.std.proofs.Common.{◌≡◌, ◌∙◌, ap, sym, List, true}
use Rattle.std.specs.Prelude.{Option, Some, unwrap_or}
use Rattle.mt_durable.specs.Reading.{said}
use Rattle.mt_durable.specs.Setting.{with_all}
use Rattle.mt_durable.specs.declared.durable.Entry.{Entry}
use Rattle.mt_journal.specs.Standing.{switch_calls}
use Rattle.mt_outside.specs.MemoryDisk.{DiskState, held, restarted}
use Rattle.mt_outside.specs.Stops.{has_stopped}
use Rattle.mt_outside.specs.declared.stop.Stop.{Stop}
use Rattle.mt_keeping.specs.States.{told_map}
use Rattle.mt_play.proofs.Disks.{holds_left, kept_held, runs_again, said_is, set_to_stop}
use Rattle.mt_play.proofs.journal.commit_stopped.Goals as goal

pub returns : goal.returns
returns c entries map keeps some says =
    let old = c.args.store.now in
    let journal = old.store.journal in
    let bytes = c.args.change.now in
    let set = c.stop_at.new.self in
    let left = c.commit.new.self.store.journal.disk in
    let now = c.restart.new.self in
    let stop : Stop = record { calls = c.args.calls; fate = c.args.fate } in
    let lent = c.disk_mut-disk.ensures.value in
    let is : set ≡ record journal.disk { stop = Some stop } = set_to_stop journal.disk c.disk_mut.result.now set stop c.disk_mut.ensures.value keeps.runs c.stop_at.ensures.set in
    let holds = c.in-Err.ensures.left (kept_held journal.disk set journal.place old.store.image (ap held is) keeps.is.keeps) keeps.is.ready in
    let told : told_map old ≡ map = ap (λ (rolled : Option (List Entry)). unwrap_or rolled old.store.image) keeps.in_use ∙ keeps.image in
    let changed : with_all (said bytes) (told_map old) ≡ with_all entries map =
    ap (λ (change : List Entry). with_all change (told_map old)) (said_is c.bytes_of_a_change_are_read.ensures.read entries bytes says) ∙ ap (with_all entries) told in
    let stopped : has_stopped left.stop ≡ true = sym (ap (λ (d : DiskState). has_stopped d.stop) lent) ∙ sym c.stopped.ensures ∙ c.if-not-stopped.false in
    let again : now ≡ restarted left = c.restart.ensures.restarted ∙ ap restarted lent in
    let four = c.kept_maps_take_four_calls.ensures journal.disk journal.place old.store.image keeps.is.keeps (λ empty. some (sym keeps.image ∙ empty)) in
    record {
      runs = runs_again left now again;
      recovers = holds_left c.journals_are_recovered.ensures.stopped (switch_calls journal.place) old.store.image (with_all (said bytes) (told_map old)) map (with_all entries map)
          set.stop stop left now holds four keeps.image changed (ap (λ (d : DiskState). d.stop) is) stopped again;
    }
