-- Rows of the table, of which specs/clusters/ makes those of each cluster.
use Rattle.std.specs.Prelude.{ℕ, true, false, Some, None}
use Rattle.mt_model.specs.declared.tables.access.Privilege.{Privilege}
use Rattle.mt_model.specs.declared.tables.access.Privilege.TheVariants.{View}
use Rattle.mt_meta.specs.declared.meta.Kind.{Kind}
use Rattle.mt_meta.specs.declared.rows.AttributeRow.{AttributeRow}
use Rattle.mt_meta.specs.declared.rows.CommandRow.{CommandRow}
use Rattle.mt_meta.specs.declared.rows.EventRow.{EventRow}
use Rattle.mt_meta.specs.declared.rows.FirstValue.{FirstValue}
use Rattle.mt_meta.specs.declared.rows.Origin.TheVariants.{Computed, Stored, StoredItems}
use Rattle.mt_meta.specs.declared.rows.Field.{Field}
use Rattle.mt_meta.specs.declared.rows.Form.{Form}
use Rattle.mt_meta.specs.declared.rows.Form.TheVariants.{FabricIndex, Octets, Text, Uint}
use Rattle.mt_meta.specs.declared.rows.Sensitive.{Sensitive}
use Rattle.mt_meta.specs.declared.rows.Sensitive.TheVariants.{Nothing}
use Rattle.mt_meta.specs.declared.rows.Takes.TheVariants as takes

-- Attributes. Most are plain: everyone may read them, nobody may write them, they are not kept over a restart, they are
-- computed, and they have no items of which something is sensitive.

abbrev pub plain : ℕ → Kind → AttributeRow
plain number kind = record {
  number = number;
  meta = record { kind = kind; read = View; write = None; scoped = false; timed = false; kept = false; least = 0; limit = 0 };
  takes = takes.Nothing;
  origin = Computed;
  sensitive = Nothing;
}

abbrev pub read_by : Privilege → AttributeRow → AttributeRow
read_by privilege row = record row { meta = record row.meta { read = privilege } }

-- with the most bytes or items, where it is a text or a list, and 0 where it is not
abbrev pub written_by : Privilege → ℕ → AttributeRow → AttributeRow
written_by privilege limit row = record row { meta = record row.meta { write = Some privilege; limit = limit } }

-- with the least bytes of a text
abbrev pub at_least : ℕ → AttributeRow → AttributeRow
at_least least row = record row { meta = record row.meta { least = least } }

-- with the most items of one fabric, where nobody may write it
abbrev pub limited : ℕ → AttributeRow → AttributeRow
limited limit row = record row { meta = record row.meta { limit = limit } }

-- a value of this form
abbrev pub taking : Form → AttributeRow → AttributeRow
taking form row = record row { takes = takes.Value form }

-- items, structures with the fields of its kind
abbrev pub taking_items : AttributeRow → AttributeRow
taking_items row = record row { takes = takes.Items }

abbrev pub scoped : AttributeRow → AttributeRow
scoped row = record row { meta = record row.meta { scoped = true } }

abbrev pub timed : AttributeRow → AttributeRow
timed row = record row { meta = record row.meta { timed = true } }

abbrev pub kept : AttributeRow → AttributeRow
kept row = record row { meta = record row.meta { kept = true } }

-- stored, with the value with which it begins
abbrev pub stored : FirstValue → AttributeRow → AttributeRow
stored value row = record row { origin = Stored value }

-- stored, a row for each item
abbrev pub stored_items : AttributeRow → AttributeRow
stored_items row = record row { origin = StoredItems }

-- with the sensitive fields of an item
abbrev pub hiding : Sensitive → AttributeRow → AttributeRow
hiding fields row = record row { sensitive = fields }

-- Fields of items and of commands.

abbrev pub needed : ℕ → Form → Field
needed number form = record { number = number; needed = true; form = form }

abbrev pub optional : ℕ → Form → Field
optional number form = record { number = number; needed = false; form = form }

-- which fabric's it is: any number, which may be missing
abbrev pub fabric_field : Field
fabric_field = optional 254 FabricIndex

-- forms of fields of commands whose sizes are their command's own matter

abbrev pub any_number : Form
any_number = Uint 0xffffffffffffffff

abbrev pub any_text : Form
any_text = Text 0 0xffff

abbrev pub any_octets : Form
any_octets = Octets 0 0xffff

-- Commands, and events.

abbrev pub invoked_by : Privilege → ℕ → CommandRow
invoked_by privilege number = record { number = number; meta = record { invoke = privilege; scoped = false; timed = false } }

abbrev pub scoped_command : CommandRow → CommandRow
scoped_command row = record row { meta = record row.meta { scoped = true } }

abbrev pub timed_command : CommandRow → CommandRow
timed_command row = record row { meta = record row.meta { timed = true } }

abbrev pub event : ℕ → Privilege → ℕ → EventRow
event number privilege priority = record { number = number; meta = record { read = privilege; priority = priority } }
