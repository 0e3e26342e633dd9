use Rattle.mt_endings.proofs.DiskEndings.{configured, failed, made, unmade, untouched}
use Rattle.mt_endings.proofs.laws.endings_on_disk_add_up.Goals as goal

pub returns : goal.returns
returns c =
    let laws = c.endings_add_up.ensures in
    record {
      untouched = λ comes_to status disk old new h. untouched comes_to status disk old new h;
      configured = λ comes_to contents bytes old now first second disk_old disk_new before after old_faults new_faults status is read calm h. configured laws comes_to contents bytes old now first second disk_old disk_new before after old_faults new_faults status is read calm h;
      made = λ all first second disk_old disk_new before after old_faults new_faults same h calm. made laws all first second disk_old disk_new before after old_faults new_faults same h calm;
      unmade = λ all fault status first second disk_old disk_new before between after old_faults faults new_faults same known h calm end. unmade laws all fault status first second disk_old disk_new before between after old_faults faults new_faults same known h calm end;
      failed = λ comes_to status first second disk_old disk_new before after old_faults new_faults rose kept end. failed comes_to status first second disk_old disk_new before after old_faults new_faults rose kept end;
    }
