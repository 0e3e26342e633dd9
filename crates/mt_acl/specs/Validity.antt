-- Which rule on access control entries an entry breaks first (Matter Core Specification, section 9.10,
-- Access Control Cluster).
use Rattle.std.specs.Prelude.{nat_le, not, ◌&&◌, if◌then◌else◌, Bool, Option, Some, None, length}
use Rattle.std.specs.List.{list_all}
use Rattle.mt_model.specs.texts.Config.{is_pase, is_target, may_be_granted, may_be_subject}
use Rattle.mt_model.specs.declared.tables.access.AclEntry.{AclEntry}
use Rattle.mt_model.specs.declared.limits.TheConstants.{SUBJECTS, TARGETS}
use Rattle.mt_acl.specs.declared.validity.EntryFault.{EntryFault}
use Rattle.mt_acl.specs.declared.validity.EntryFault.TheVariants.{Mode, GroupAdmin, Subject, Target, TooMany}

-- the entry has no more subjects and targets than one may have
abbrev pub has_room : AclEntry → Bool
has_room entry = nat_le (length entry.subjects) SUBJECTS && nat_le (length entry.targets) TARGETS

-- the first rule that the entry breaks, in the order of their numbers
abbrev pub first_fault : AclEntry → Option EntryFault
first_fault entry = if is_pase entry.auth then Some Mode
    else if not (may_be_granted entry.auth entry.privilege) then Some GroupAdmin
    else if not (list_all (may_be_subject entry.auth) entry.subjects) then Some Subject
    else if not (list_all is_target entry.targets) then Some Target
    else if not (has_room entry) then Some TooMany
    else None
