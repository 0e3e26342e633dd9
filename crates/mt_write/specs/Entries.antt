-- The access control entry that a written item is (Matter Core Specification, section 9.10, Access Control Cluster). Whose it
-- says that it is plays no part. Numbers have the widths that an entry has for them.
use Rattle.std.specs.Prelude.{ℕ, Option, Some, None, if◌then◌else◌}
use Rattle.mt_tlv.specs.Tree.{Tree, structure}
use Rattle.mt_model.specs.texts.Config.{is_entry}
use Rattle.mt_model.specs.tables.Entries.{entry_of}
use Rattle.mt_meta.specs.Targets.{target_in}
use Rattle.mt_model.specs.declared.tables.access.AclEntry.{AclEntry}

-- an entry that keeps the rules on entries
abbrev pub valid_entry : Option AclEntry → Option AclEntry
valid_entry None = None
valid_entry (Some entry) = if is_entry entry then Some entry else None

-- The entry of this fabric that an item is kept as; None where it breaks a rule.
abbrev pub kept_entry : ℕ → Tree → Option AclEntry
kept_entry fabric (structure es) = valid_entry (entry_of target_in (Some fabric) es)
kept_entry fabric tree = None
