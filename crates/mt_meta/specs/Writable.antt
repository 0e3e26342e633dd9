-- What attributes take when they are written, as the table says.
use Rattle.std.specs.Prelude.{ℕ, ◌==◌, ◌&&◌, nat_le, not, Bool, true, false, Option, Some, None, Result, Ok, Err, is_none, is_some}
use Rattle.std.specs.Option.{option_map}
use Rattle.mt_model.specs.declared.limits.TheConstants.{ENTRIES}
use Rattle.mt_model.specs.declared.rows.place.Place.{Place}
use Rattle.mt_model.specs.declared.messages.status.Status.{Status}
use Rattle.mt_meta.specs.declared.meta.Kind.{Kind}
use Rattle.mt_meta.specs.declared.meta.Kind.TheVariants as kinds
use Rattle.mt_meta.specs.declared.meta.Meta.{Meta}
use Rattle.mt_meta.specs.declared.rows.AttributeRow.{AttributeRow}
use Rattle.mt_meta.specs.declared.rows.Form.{Form}
use Rattle.mt_meta.specs.declared.rows.Form.TheVariants as forms
use Rattle.mt_meta.specs.declared.rows.Takes.{Takes}
use Rattle.mt_meta.specs.declared.rows.Takes.TheVariants as takes
use Rattle.mt_meta.specs.Finding.{find_of}
use Rattle.mt_meta.specs.Stored.{is_stored, row_in}
use Rattle.mt_meta.specs.Table.{all_attributes_of}

-- what the attribute of a place takes
abbrev pub takes_of : Place → Option Takes
takes_of place = option_map (λ (row : AttributeRow). row.takes) (row_in (all_attributes_of place.cluster) place.leaf)

-- Law of the whole.

-- a form that gives values of the kind, within its limits
abbrev pub fits_form : Kind → ℕ → ℕ → Form → Bool
fits_form kinds.Bool least limit forms.Bool = true
fits_form kinds.Uint least limit (forms.Uint greatest) = nat_le greatest 0xffffffffffffffff
fits_form kinds.Uint32 least limit (forms.Uint greatest) = nat_le greatest 0xffffffff
fits_form kinds.Text least limit (forms.Text fewest most) = nat_le least fewest && nat_le most limit
fits_form kind least limit form = false

-- lists whose items are written: that of labels is one row, and the others have a row for each item
abbrev pub fits_list : Bool → Bool → ℕ → Kind → Bool
fits_list is_stored scoped limit kinds.Labels = is_stored && not scoped
fits_list is_stored scoped limit kinds.Binding = is_stored && scoped
fits_list is_stored scoped limit kinds.Bench = is_stored && scoped
fits_list is_stored scoped limit kinds.GroupKeyMap = is_stored && scoped
fits_list is_stored scoped limit kinds.Acl = scoped && limit == ENTRIES
fits_list is_stored scoped limit kind = false

abbrev pub fits_meta : Bool → Meta → Takes → Bool
fits_meta is_stored meta takes.Nothing = is_none meta.write
fits_meta is_stored meta (takes.Value form) = is_some meta.write && (is_stored && (not meta.scoped && fits_form meta.kind meta.least meta.limit form))
fits_meta is_stored meta takes.Items = is_some meta.write && fits_list is_stored meta.scoped meta.limit meta.kind

abbrev pub fits_found : Bool → Result Meta Status → Option Takes → Bool
fits_found is_stored (Err status) taken = false
fits_found is_stored (Ok meta) None = false
fits_found is_stored (Ok meta) (Some taken) = fits_meta is_stored meta taken

-- An attribute takes something exactly where it has a privilege to write it, and then what fits its kind. It is stored, but for the
-- access control list.
abbrev pub takes_rightly : Place → Bool
takes_rightly place = fits_found (is_stored place) (find_of place) (takes_of place)
