-- A mark of a run says all that the mark as data has.
use Rattle.std.proofs.Common.{◌≡◌, List, [], ◌∷◌, refl, sym, ap, ◌∙◌, map}
use Rattle.mt_model.specs.declared.texts.recording.Event.{Event}
use Rattle.mt_runs.specs.mt_machine.Isolation as machine
use Rattle.mt_runs.specs.Isolation.{PublicPart}
use Rattle.mt_runs.specs.Marks.{Mark, born, gone, reopened, seen}
use Rattle.mt_marks.specs.Seen.{descriptor_in, public_in, seen_in}
use Rattle.mt_marks.specs.declared.mark.Descriptor.{Descriptor}
use Rattle.mt_marks.specs.declared.mark.Mark as code

descriptor_back : machine.Descriptor → Descriptor
descriptor_back d = record { index = d.index; root_key = d.root_key; vendor = d.vendor; fabric_id = d.fabric_id; node_id = d.node_id; label = d.label }

map-back : (ds : List Descriptor) → map descriptor_back (map descriptor_in ds) ≡ ds
unfolding descriptor_back
map-back [] = refl
map-back (d ∷ ds) = ap (λ (l : List Descriptor). d ∷ l) (map-back ds)

event_of : Event → Mark → Event
event_of none (seen event part) = event
event_of none (reopened line part left) = none
event_of none (born own) = none
event_of none gone = none

part_of : PublicPart → Mark → PublicPart
part_of none (seen event part) = part
part_of none (reopened line part left) = none
part_of none (born own) = none
part_of none gone = none

same_event : (one other : code.Mark) → seen_in one ≡ seen_in other → one.event ≡ other.event
unfolding event_of
same_event one other e = ap (event_of one.event) e

same_part : (one other : code.Mark) → seen_in one ≡ seen_in other → public_in one ≡ public_in other
unfolding part_of
same_part one other e = ap (part_of (public_in one)) e

pub same_back : (one other : code.Mark) → seen_in one ≡ seen_in other → one ≡ other
same_back one other e =
    let event = same_event one other e in
    let part = same_part one other e in
    let fabrics : one.fabrics ≡ other.fabrics = sym (map-back one.fabrics) ∙ ap (λ (p : PublicPart). map descriptor_back p.node.fabrics) part ∙ map-back other.fabrics in
    λ i. record {
      event = event i;
      rows = (part i).node.rows;
      owners = (part i).node.owners;
      fabrics = fabrics i;
      roots = (part i).node.roots;
      networks = (part i).node.networks;
      failsafe = (part i).node.armed;
      versions = (part i).node.versions;
      changes = (part i).node.changes;
      events = (part i).events.shared;
      next = (part i).events.next;
      boot = (part i).node.boot;
      now = (part i).node.clock;
    }
