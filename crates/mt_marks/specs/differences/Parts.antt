-- The parts of two marks, in their order, and which of them are the same. That is told by the codes that stand for values one to one.
use Rattle.std.specs.Prelude.{◌≡◌, ◌==◌, ◌&&◌, not, Bool, true, Option}
use Rattle.std.specs.List.{find}
use Rattle.mt_model.specs.declared.texts.recording.Event.{Event}
use Rattle.mt_runs.specs.Isolation.{PublicPart}
use Rattle.mt_marks.specs.Parts.{all_parts}
use Rattle.mt_marks.specs.declared.difference.Part.{Part}
use Rattle.mt_marks.specs.declared.difference.Part.TheVariants as parts
use Rattle.mt_marks.specs.differences.Codes.{are_same, of_changes, of_events, of_fabrics, of_failsafe, of_happened, of_networks, of_owners, of_roots, of_rows, of_versions}

-- Two events that are seen, each with what is public just before it.

-- the part is the same in both
abbrev pub IsSameSeen : Part → Event → PublicPart → Event → PublicPart → Type 0
IsSameSeen parts.Event event p other q = event ≡ other
IsSameSeen parts.Born event p other q = Unit {0}
IsSameSeen parts.Rows event p other q = (p.node.rows ≡ q.node.rows) × (p.node.owners ≡ q.node.owners)
IsSameSeen parts.Fabrics event p other q = p.node.fabrics ≡ q.node.fabrics
IsSameSeen parts.Roots event p other q = p.node.roots ≡ q.node.roots
IsSameSeen parts.Networks event p other q = p.node.networks ≡ q.node.networks
IsSameSeen parts.Failsafe event p other q = p.node.armed ≡ q.node.armed
IsSameSeen parts.Versions event p other q = (p.node.versions ≡ q.node.versions) × (p.node.changes ≡ q.node.changes)
IsSameSeen parts.Events event p other q = p.events.shared ≡ q.events.shared
IsSameSeen parts.Numbers event p other q = p.events.next ≡ q.events.next
IsSameSeen parts.Boot event p other q = p.node.boot ≡ q.node.boot
IsSameSeen parts.Now event p other q = p.node.clock ≡ q.node.clock

-- whether it is
abbrev pub is_same_seen : Part → Event → PublicPart → Event → PublicPart → Bool
is_same_seen parts.Event event p other q = are_same of_events event other
is_same_seen parts.Born event p other q = true
is_same_seen parts.Rows event p other q = are_same of_rows p.node.rows q.node.rows && are_same of_owners p.node.owners q.node.owners
is_same_seen parts.Fabrics event p other q = are_same of_fabrics p.node.fabrics q.node.fabrics
is_same_seen parts.Roots event p other q = are_same of_roots p.node.roots q.node.roots
is_same_seen parts.Networks event p other q = are_same of_networks p.node.networks q.node.networks
is_same_seen parts.Failsafe event p other q = are_same of_failsafe p.node.armed q.node.armed
is_same_seen parts.Versions event p other q = are_same of_versions p.node.versions q.node.versions && are_same of_changes p.node.changes q.node.changes
is_same_seen parts.Events event p other q = are_same of_happened p.events.shared q.events.shared
is_same_seen parts.Numbers event p other q = p.events.next == q.events.next
is_same_seen parts.Boot event p other q = p.node.boot == q.node.boot
is_same_seen parts.Now event p other q = p.node.clock == q.node.clock

-- the first part in which two events that are seen differ, if any
abbrev pub seen_part : Event → PublicPart → Event → PublicPart → Option Part
seen_part event p other q = find (λ (part : Part). not (is_same_seen part event p other q)) all_parts
