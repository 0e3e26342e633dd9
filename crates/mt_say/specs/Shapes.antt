-- The names of a structure's fields.
use Rattle.std.specs.Prelude.{List, map}
use Rattle.mt_meta.specs.declared.meta.Kind.TheVariants.{Acl}
use Rattle.mt_names.specs.Columns.{Name, entry}
use Rattle.mt_names.specs.Names.{item_fields}
use Rattle.mt_say.specs.declared.shapes.Shape.{Shape}
use Rattle.mt_say.specs.declared.shapes.Shape.TheVariants.{Entry, Fields, KeySet}

-- the names of the fields of such a structure, with their numbers
abbrev pub names_of : Shape → List Name
names_of (Fields names) = map entry names.now
names_of Entry = item_fields Acl
names_of (KeySet names) = map entry names.now
