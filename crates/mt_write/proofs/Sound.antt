-- What the steps of a write set is such as a state keeps.
use Rattle.std.proofs.Common.{◌≡◌, ◌∙◌, ◌==◌, ◌&&◌, ◌||◌, ◌^◌, ◌≤◌, ℕ, nat_le, nat_lt, not, is_none, is_some, is_ok, Bool, true, false, List, [], ◌∷◌, Option, Some, None, Result, Ok, Err, length, unwrap_or, refl, sym, ap, subst, arith, if◌then◌else◌}
use Rattle.std.specs.List.{list_all}
use Rattle.std.specs.Option.{option_or}
use Rattle.std.proofs.lemmas.Bool.{eqb-true, eq-eqb, leb-true, le-leb}
use Rattle.mt_tlv.specs.Tree.{Tree, int, uint, bool, text, octets, null, bits32, bits64, structure, array, list}
use Rattle.mt_tlv.specs.View.{tree, value_of}
use Rattle.mt_tlv.specs.declared.value.Value.{Value}
use Rattle.mt_model.specs.texts.Config.{is_entry}
use Rattle.mt_model.specs.tables.Entries.{entry_of, entry_with}
use Rattle.mt_model.specs.rows.Seen.{Seen}
use Rattle.mt_model.specs.rows.Sight.{same_place}
use Rattle.mt_model.specs.declared.tables.access.AclEntry.{AclEntry}
use Rattle.mt_model.specs.declared.tables.access.Actor.{Actor}
use Rattle.mt_model.specs.declared.tables.access.Auth.{Auth}
use Rattle.mt_model.specs.declared.tables.access.Privilege.{Privilege}
use Rattle.mt_model.specs.declared.tables.access.Target.{Target}
use Rattle.mt_model.specs.declared.node.action.NodeStep.{NodeStep}
use Rattle.mt_model.specs.declared.node.action.NodeStep.TheVariants.{SetRow, SetEntries, PutNetwork, RemoveNetwork, ConnectNetwork, MoveNetwork, Arm, Renew, Expire, Complete, AddRoot, Csr, AddFabric, UpdateFabric, RemoveFabric, Label, Emit}
use Rattle.mt_model.specs.declared.messages.message.Index.{Index}
use Rattle.mt_model.specs.declared.messages.message.WriteItem.{WriteItem}
use Rattle.mt_model.specs.declared.rows.place.Place.{Place}
use Rattle.mt_model.specs.declared.messages.status.Status.{Status}
use Rattle.mt_model.specs.declared.messages.status.Status.TheVariants.{InvalidDataType, ConstraintError}
use Rattle.mt_meta.specs.Finding.{find_data_of, find_of}
use Rattle.mt_meta.specs.Forms.{has_form, is_label_item, is_of_kind}
use Rattle.mt_meta.specs.Stored.{is_stored}
use Rattle.mt_meta.specs.Table.{fields_of}
use Rattle.mt_meta.specs.Writable.{fits_form, fits_found, fits_list, takes_of, takes_rightly}
use Rattle.mt_meta.specs.declared.meta.Kind.{Kind}
use Rattle.mt_meta.specs.declared.meta.Kind.TheVariants as kinds
use Rattle.mt_meta.specs.declared.meta.Meta.{Meta}
use Rattle.mt_meta.specs.declared.rows.Form.{Form}
use Rattle.mt_meta.specs.declared.rows.Takes.{Takes}
use Rattle.mt_meta.specs.declared.rows.Takes.TheVariants as takes
use Rattle.mt_meta.specs.Targets.{target_in}
use Rattle.mt_write.specs.Entries.{kept_entry, valid_entry}
use Rattle.mt_meta.specs.Fields.{has_type, is_item, is_within}
use Rattle.mt_write.specs.Items.{is_append, kept_item}
use Rattle.mt_write.specs.Latest.{entries_now, entries_set, latest, row_set, rows_now}
use Rattle.mt_write.specs.Laws.{IsSoundSight, LeavesSound, are_as_many, are_entries_of, is_entry_of, is_sound_row, is_sound_step}
use Rattle.mt_write.specs.Writing.{array_with, entries_step, entries_written, fabric_of, is_entry_list, list_with, members_of, new_rows, own_values, row_step, rows_with, rows_written, staying, written_at}
use Rattle.mt_write.proofs.KeptForms.{and-both, and-true, bench-item, map-item, choose-false, choose-true, binding-item, impossible, label-item, value-form}
use Rattle.mt_write.proofs.KeptLists.{labels-form, list-all, members-form}
use Rattle.mt_write.proofs.Steps.{Passes, each_passes}

if-true : {A : Type 0} (b : Bool) (x y z : A) → b ≡ true → (if b then x else y) ≡ z → x ≡ z
if-true true x y z e h = h
if-true false x y z e h = impossible e

if-false : {A : Type 0} (b : Bool) (x y z : A) → b ≡ false → (if b then x else y) ≡ z → y ≡ z
if-false true x y z e h = impossible (sym e)
if-false false x y z e h = h

not-true : (b : Bool) → not b ≡ true → b ≡ false
not-true true e = impossible e
not-true false e = refl

-- Rows.

as-many-scoped : (meta : Meta) (xs : List Value) → meta.scoped ≡ true → nat_le (length xs) meta.limit ≡ true → are_as_many meta xs ≡ true
as-many-scoped meta xs is few = choose-true meta.scoped (nat_le (length xs) meta.limit) (length xs == 1) is few

as-many-single : (meta : Meta) (xs : List Value) → meta.scoped ≡ false → (length xs == 1) ≡ true → are_as_many meta xs ≡ true
as-many-single meta xs is one = choose-false meta.scoped (nat_le (length xs) meta.limit) (length xs == 1) is one

sound : (stored : Bool) (meta : Meta) (fabric : ℕ) (xs : List Value) → stored ≡ true → list_all (has_form meta fabric) xs ≡ true → are_as_many meta xs ≡ true → is_sound_row stored fabric xs (Ok meta) ≡ true
sound stored meta fabric xs kept form many = and-true stored (list_all (has_form meta fabric) xs && are_as_many meta xs) kept (and-true (list_all (has_form meta fabric) xs) (are_as_many meta xs) form many)

scoped-sound : (stored : Bool) (meta : Meta) (fabric : ℕ) (index : Index) (value : Value) (there xs : List Value)
    → ((t : Tree) (x : Value) → is_item (fields_of meta.kind) t ≡ true → kept_item (fields_of meta.kind) fabric t ≡ Some x → has_form meta fabric x ≡ true)
    → (stored && meta.scoped) ≡ true → list_all (has_form meta fabric) there ≡ true → (meta.scoped ≡ true → nat_le (length there) meta.limit ≡ true)
    → rows_with meta fabric index value there ≡ Ok xs → is_sound_row stored fabric xs (Ok meta) ≡ true
scoped-sound stored meta fabric index value there xs each fits all few h =
    let keep = kept_item (fields_of meta.kind) fabric in
    let both = and-both stored meta.scoped fits in
    let listed : list_with keep meta index value there ≡ Ok xs = if-true meta.scoped (list_with keep meta index value there) (array_with keep meta index value (members_of there)) (Ok xs) both.1 h in
    let held = list-all keep meta (has_form meta fabric) each index value there xs all listed in
    sound stored meta fabric xs both.0 held.0 (as-many-scoped meta xs both.1 (le-leb (length xs) meta.limit (held.1 (leb-true (length there) meta.limit (few both.1)))))

-- By the law that the tree of a tree's value is the tree.
module _ (tree_value : (t : Tree) → tree (value_of t) ≡ t) where
  labels-sound : (stored : Bool) (meta : Meta) (fabric : ℕ) (index : Index) (value : Value) (there xs : List Value) → meta.kind ≡ kinds.Labels → (meta.scoped ≡ false → fabric ≡ 0)
      → (stored && not meta.scoped) ≡ true → list_all (has_form meta fabric) there ≡ true → rows_with meta fabric index value there ≡ Ok xs → is_sound_row stored fabric xs (Ok meta) ≡ true
  labels-sound stored meta fabric index value there xs kind nobodys fits all h =
      let keep = kept_item (fields_of meta.kind) fabric in
      let both = and-both stored (not meta.scoped) fits in
      let single = not-true meta.scoped both.1 in
      let arrayed : array_with keep meta index value (members_of there) ≡ Ok xs = if-false meta.scoped (list_with keep meta index value there) (array_with keep meta index value (members_of there)) (Ok xs) single h in
      let of_nobody : (t : Tree) (x : Value) → is_item (fields_of kinds.Labels) t ≡ true → kept_item (fields_of kinds.Labels) fabric t ≡ Some x → is_label_item (tree x) ≡ true =
      subst (λ (n : ℕ). (t : Tree) (x : Value) → is_item (fields_of kinds.Labels) t ≡ true → kept_item (fields_of kinds.Labels) n t ≡ Some x → is_label_item (tree x) ≡ true) (sym (nobodys single)) (label-item tree_value) in
      let each : (t : Tree) (x : Value) → is_item (fields_of meta.kind) t ≡ true → kept_item (fields_of meta.kind) fabric t ≡ Some x → is_label_item (tree x) ≡ true =
      subst (λ (k : Kind). (t : Tree) (x : Value) → is_item (fields_of k) t ≡ true → kept_item (fields_of k) fabric t ≡ Some x → is_label_item (tree x) ≡ true) (sym kind) of_nobody in
      let members = members-form meta.least meta.limit fabric there (subst (λ k. list_all (is_of_kind k meta.least meta.limit fabric) there ≡ true) kind all) in
      let form = labels-form fabric keep meta each index value (members_of there) xs members.0 members.1 arrayed in
      sound stored meta fabric xs both.0 (subst (λ k. list_all (is_of_kind k meta.least meta.limit fabric) xs ≡ true) (sym kind) form.0) (as-many-single meta xs single form.1)

  rows-with-sound : (stored : Bool) (meta : Meta) (kind : Kind) (fabric : ℕ) (index : Index) (value : Value) (there xs : List Value) → meta.kind ≡ kind → fits_list stored meta.scoped meta.limit kind ≡ true → is_entry_list kind ≡ false
      → (meta.scoped ≡ false → fabric ≡ 0) → list_all (has_form meta fabric) there ≡ true → (meta.scoped ≡ true → nat_le (length there) meta.limit ≡ true) → rows_with meta fabric index value there ≡ Ok xs → is_sound_row stored fabric xs (Ok meta) ≡ true
  rows-with-sound stored meta kinds.Bool fabric index value there xs kind fits other nobodys all few h = impossible fits
  rows-with-sound stored meta kinds.Uint fabric index value there xs kind fits other nobodys all few h = impossible fits
  rows-with-sound stored meta kinds.Uint32 fabric index value there xs kind fits other nobodys all few h = impossible fits
  rows-with-sound stored meta kinds.NullableUint fabric index value there xs kind fits other nobodys all few h = impossible fits
  rows-with-sound stored meta kinds.NullableOctets fabric index value there xs kind fits other nobodys all few h = impossible fits
  rows-with-sound stored meta kinds.Null fabric index value there xs kind fits other nobodys all few h = impossible fits
  rows-with-sound stored meta kinds.Text fabric index value there xs kind fits other nobodys all few h = impossible fits
  rows-with-sound stored meta kinds.Numbers fabric index value there xs kind fits other nobodys all few h = impossible fits
  rows-with-sound stored meta kinds.Structure fabric index value there xs kind fits other nobodys all few h = impossible fits
  rows-with-sound stored meta kinds.DeviceTypes fabric index value there xs kind fits other nobodys all few h = impossible fits
  rows-with-sound stored meta kinds.Binding fabric index value there xs kind fits other nobodys all few h =
      scoped-sound stored meta fabric index value there xs
      (subst (λ (k : Kind). (t : Tree) (x : Value) → is_item (fields_of k) t ≡ true → kept_item (fields_of k) fabric t ≡ Some x → is_of_kind k meta.least meta.limit fabric x ≡ true) (sym kind) (binding-item tree_value meta.least meta.limit fabric))
      fits all few h
  rows-with-sound stored meta kinds.Acl fabric index value there xs kind fits other nobodys all few h = impossible (sym other)
  rows-with-sound stored meta kinds.Networks fabric index value there xs kind fits other nobodys all few h = impossible fits
  rows-with-sound stored meta kinds.Nocs fabric index value there xs kind fits other nobodys all few h = impossible fits
  rows-with-sound stored meta kinds.Fabrics fabric index value there xs kind fits other nobodys all few h = impossible fits
  rows-with-sound stored meta kinds.Roots fabric index value there xs kind fits other nobodys all few h = impossible fits
  rows-with-sound stored meta kinds.Labels fabric index value there xs kind fits other nobodys all few h = labels-sound stored meta fabric index value there xs kind nobodys fits all h
  rows-with-sound stored meta kinds.Bench fabric index value there xs kind fits other nobodys all few h =
      scoped-sound stored meta fabric index value there xs
      (subst (λ (k : Kind). (t : Tree) (x : Value) → is_item (fields_of k) t ≡ true → kept_item (fields_of k) fabric t ≡ Some x → is_of_kind k meta.least meta.limit fabric x ≡ true) (sym kind) (bench-item tree_value meta.least meta.limit fabric))
      fits all few h
  rows-with-sound stored meta kinds.GroupKeyMap fabric index value there xs kind fits other nobodys all few h =
      scoped-sound stored meta fabric index value there xs
      (subst (λ (k : Kind). (t : Tree) (x : Value) → is_item (fields_of k) t ≡ true → kept_item (fields_of k) fabric t ≡ Some x → is_of_kind k meta.least meta.limit fabric x ≡ true) (sym kind) (map-item tree_value meta.least meta.limit fabric))
      fits all few h
  rows-with-sound stored meta kinds.GroupTable fabric index value there xs kind fits other nobodys all few h = impossible fits
  rows-with-sound stored meta kinds.KeySets fabric index value there xs kind fits other nobodys all few h = impossible fits

  value-step : (a t w : Bool) (v : Value) (xs : List Value) → ◌≡◌ {A = Result (List Value) Status} (if a || not t then Err InvalidDataType else if not w then Err ConstraintError else Ok (v ∷ [])) (Ok xs) → (t ≡ true) × (w ≡ true) × (v ∷ [] ≡ xs)
  value-step true t w v xs h = absurd cc
  value-step false false w v xs h = absurd cc
  value-step false true false v xs h = absurd cc
  value-step false true true v xs h = (refl, refl, cc)

  staying-step : (p : Value → Bool) (b : Bool) (there : List Value) → list_all p there ≡ true → list_all p (if b then there else []) ≡ true
  staying-step p true there all = all
  staying-step p false there all = refl

  staying-few : (limit : ℕ) (b : Bool) (there : List Value) → nat_le (length there) limit ≡ true → nat_le (length (if b then there else [])) limit ≡ true
  staying-few limit true there few = few
  staying-few limit false there few = le-leb 0 limit (omega arith)

  new-rows-sound : (stored : Bool) (meta : Meta) (taken : Option Takes) (fabric : ℕ) (index : Index) (value : Value) (before xs : List Value) → fits_found stored (Ok meta) taken ≡ true → is_entry_list meta.kind ≡ false
      → (meta.scoped ≡ false → fabric ≡ 0) → list_all (has_form meta fabric) before ≡ true → (meta.scoped ≡ true → nat_le (length before) meta.limit ≡ true) → new_rows meta taken fabric index value before ≡ Ok xs → is_sound_row stored fabric xs (Ok meta) ≡ true
  new-rows-sound stored meta None fabric index value before xs fits other nobodys all few h = impossible fits
  new-rows-sound stored meta (Some takes.Nothing) fabric index value before xs fits other nobodys all few h = absurd cc
  new-rows-sound stored meta (Some (takes.Value form)) fabric index value before xs fits other nobodys all few h =
      let first = and-both (is_some meta.write) (stored && (not meta.scoped && fits_form meta.kind meta.least meta.limit form)) fits in
      let second = and-both stored (not meta.scoped && fits_form meta.kind meta.least meta.limit form) first.1 in
      let third = and-both (not meta.scoped) (fits_form meta.kind meta.least meta.limit form) second.1 in
      let parts = value-step (is_append index) (has_type form (tree value)) (is_within form (tree value)) value xs h in
      let form_of = value-form meta.kind meta.least meta.limit fabric form value third.1 parts.0 parts.1 in
      sound stored meta fabric xs second.0
      (subst (λ zs. list_all (has_form meta fabric) zs ≡ true) parts.2 (and-true (has_form meta fabric value) true form_of refl))
      (as-many-single meta xs (not-true meta.scoped third.0) (subst (λ (zs : List Value). (length zs == 1) ≡ true) parts.2 refl))
  new-rows-sound stored meta (Some takes.Items) fabric index value before xs fits other nobodys all few h =
      let both = and-both (is_some meta.write) (fits_list stored meta.scoped meta.limit meta.kind) fits in
      rows-with-sound stored meta meta.kind fabric index value (staying index before) xs refl both.1 other nobodys (staying-step (has_form meta fabric) (is_append index) before all)
      (λ is. staying-few meta.limit (is_append index) before (few is)) h

-- Entries.

some-same : {A : Type 0} (x y : A) → Some x ≡ Some y → x ≡ y
some-same x y h = cc

entry-fabric : (a : Option Privilege) (b : Option Auth) (c : Option (List ℕ)) (d : Option (List Target)) (fabric : ℕ) (entry : AclEntry) → entry_with a b c d (Some fabric) ≡ Some entry → entry.fabric ≡ fabric
entry-fabric None b c d fabric entry h = absurd cc
entry-fabric (Some a) None c d fabric entry h = absurd cc
entry-fabric (Some a) (Some b) None d fabric entry h = absurd cc
entry-fabric (Some a) (Some b) (Some c) None fabric entry h = absurd cc
entry-fabric (Some a) (Some b) (Some c) (Some d) fabric entry h = sym (ap (λ (x : AclEntry). x.fabric) (some-same _ entry h))

valid-step : (b : Bool) (entry x : AclEntry) → is_entry entry ≡ b → (if b then Some entry else None) ≡ Some x → (is_entry x ≡ true) × (Some entry ≡ Some x)
valid-step true entry x is h = let e : entry ≡ x = cc in (subst (λ y. is_entry y ≡ true) e is, h)
valid-step false entry x is h = absurd cc

valid-ok : (o : Option AclEntry) (x : AclEntry) → valid_entry o ≡ Some x → (is_entry x ≡ true) × (o ≡ Some x)
valid-ok None x h = absurd cc
valid-ok (Some entry) x h = valid-step (is_entry entry) entry x refl h

entry-kept : (fabric : ℕ) (t : Tree) (x : AclEntry) → kept_entry fabric t ≡ Some x → is_entry_of fabric x ≡ true
entry-kept fabric (int z) x h = absurd cc
entry-kept fabric (uint n) x h = absurd cc
entry-kept fabric (bool b) x h = absurd cc
entry-kept fabric (text s) x h = absurd cc
entry-kept fabric (octets s) x h = absurd cc
entry-kept fabric null x h = absurd cc
entry-kept fabric (bits32 n) x h = absurd cc
entry-kept fabric (bits64 n) x h = absurd cc
entry-kept fabric (structure es) x h =
    let parts = valid-ok (entry_of target_in (Some fabric) es) x h in
    and-true (is_entry x) (x.fabric == fabric) parts.0 (eq-eqb x.fabric fabric (entry-fabric _ _ _ _ fabric x parts.1))
entry-kept fabric (array es) x h = absurd cc
entry-kept fabric (list es) x h = absurd cc

entries-sound : (meta : Meta) (fabric : ℕ) (index : Index) (value : Value) (there xs : List AclEntry) → (meta.limit == 4) ≡ true → are_entries_of fabric there ≡ true
    → list_with (kept_entry fabric) meta index value there ≡ Ok xs → are_entries_of fabric xs ≡ true
entries-sound meta fabric index value there xs four sound-there h =
    let limit : meta.limit ≡ 4 = eqb-true meta.limit 4 four in
    let both = and-both (list_all (is_entry_of fabric) there) (nat_le (length there) 4) sound-there in
    let all = list-all (kept_entry fabric) meta (is_entry_of fabric) (λ t x typed found. entry-kept fabric t x found) index value there xs both.0 h in
    let most : length there ≤ 4 = leb-true (length there) 4 both.1 in
    let fits : length there ≤ meta.limit = omega arith in
    let count : length xs ≤ meta.limit = all.1 fits in
    let few : length xs ≤ 4 = omega arith in
    and-true (list_all (is_entry_of fabric) xs) (nat_le (length xs) 4) all.0 (le-leb (length xs) 4 few)

staying-entries : (fabric : ℕ) (b : Bool) (there : List AclEntry) → are_entries_of fabric there ≡ true → are_entries_of fabric (if b then there else []) ≡ true
staying-entries fabric true there all = all
staying-entries fabric false there all = refl

-- What the table says of them.

acl-no-form : (kind : Kind) (least limit : ℕ) (form : Form) → is_entry_list kind ≡ true → fits_form kind least limit form ≡ true → false ≡ true
acl-no-form kinds.Bool least limit form acl fits = acl
acl-no-form kinds.Uint least limit form acl fits = acl
acl-no-form kinds.Uint32 least limit form acl fits = acl
acl-no-form kinds.NullableUint least limit form acl fits = acl
acl-no-form kinds.NullableOctets least limit form acl fits = acl
acl-no-form kinds.Null least limit form acl fits = acl
acl-no-form kinds.Text least limit form acl fits = acl
acl-no-form kinds.Numbers least limit form acl fits = acl
acl-no-form kinds.Structure least limit form acl fits = acl
acl-no-form kinds.DeviceTypes least limit form acl fits = acl
acl-no-form kinds.Binding least limit form acl fits = acl
acl-no-form kinds.Acl least limit form acl fits = fits
acl-no-form kinds.Networks least limit form acl fits = acl
acl-no-form kinds.Nocs least limit form acl fits = acl
acl-no-form kinds.Fabrics least limit form acl fits = acl
acl-no-form kinds.Roots least limit form acl fits = acl
acl-no-form kinds.Labels least limit form acl fits = acl
acl-no-form kinds.Bench least limit form acl fits = acl
acl-no-form kinds.GroupKeyMap least limit form acl fits = acl
acl-no-form kinds.GroupTable least limit form acl fits = acl
acl-no-form kinds.KeySets least limit form acl fits = acl

acl-list : (stored scoped : Bool) (limit : ℕ) (kind : Kind) → is_entry_list kind ≡ true → fits_list stored scoped limit kind ≡ true → (scoped && limit == 4) ≡ true
acl-list stored scoped limit kinds.Bool acl fits = impossible acl
acl-list stored scoped limit kinds.Uint acl fits = impossible acl
acl-list stored scoped limit kinds.Uint32 acl fits = impossible acl
acl-list stored scoped limit kinds.NullableUint acl fits = impossible acl
acl-list stored scoped limit kinds.NullableOctets acl fits = impossible acl
acl-list stored scoped limit kinds.Null acl fits = impossible acl
acl-list stored scoped limit kinds.Text acl fits = impossible acl
acl-list stored scoped limit kinds.Numbers acl fits = impossible acl
acl-list stored scoped limit kinds.Structure acl fits = impossible acl
acl-list stored scoped limit kinds.DeviceTypes acl fits = impossible acl
acl-list stored scoped limit kinds.Binding acl fits = impossible acl
acl-list stored scoped limit kinds.Acl acl fits = fits
acl-list stored scoped limit kinds.Networks acl fits = impossible acl
acl-list stored scoped limit kinds.Nocs acl fits = impossible acl
acl-list stored scoped limit kinds.Fabrics acl fits = impossible acl
acl-list stored scoped limit kinds.Roots acl fits = impossible acl
acl-list stored scoped limit kinds.Labels acl fits = impossible acl
acl-list stored scoped limit kinds.Bench acl fits = impossible acl
acl-list stored scoped limit kinds.GroupKeyMap acl fits = impossible acl
acl-list stored scoped limit kinds.GroupTable acl fits = impossible acl
acl-list stored scoped limit kinds.KeySets acl fits = impossible acl

list-stored : (stored scoped : Bool) (limit : ℕ) (kind : Kind) → is_entry_list kind ≡ false → fits_list stored scoped limit kind ≡ true → stored ≡ true
list-stored stored scoped limit kinds.Bool other fits = impossible fits
list-stored stored scoped limit kinds.Uint other fits = impossible fits
list-stored stored scoped limit kinds.Uint32 other fits = impossible fits
list-stored stored scoped limit kinds.NullableUint other fits = impossible fits
list-stored stored scoped limit kinds.NullableOctets other fits = impossible fits
list-stored stored scoped limit kinds.Null other fits = impossible fits
list-stored stored scoped limit kinds.Text other fits = impossible fits
list-stored stored scoped limit kinds.Numbers other fits = impossible fits
list-stored stored scoped limit kinds.Structure other fits = impossible fits
list-stored stored scoped limit kinds.DeviceTypes other fits = impossible fits
list-stored stored scoped limit kinds.Binding other fits = (and-both stored scoped fits).0
list-stored stored scoped limit kinds.Acl other fits = impossible (sym other)
list-stored stored scoped limit kinds.Networks other fits = impossible fits
list-stored stored scoped limit kinds.Nocs other fits = impossible fits
list-stored stored scoped limit kinds.Fabrics other fits = impossible fits
list-stored stored scoped limit kinds.Roots other fits = impossible fits
list-stored stored scoped limit kinds.Labels other fits = (and-both stored (not scoped) fits).0
list-stored stored scoped limit kinds.Bench other fits = (and-both stored scoped fits).0
list-stored stored scoped limit kinds.GroupKeyMap other fits = (and-both stored scoped fits).0
list-stored stored scoped limit kinds.GroupTable other fits = impossible fits
list-stored stored scoped limit kinds.KeySets other fits = impossible fits

pub entry-list : (stored : Bool) (meta : Meta) (taken : Option Takes) → is_entry_list meta.kind ≡ true → is_none meta.write ≡ false → fits_found stored (Ok meta) taken ≡ true → (meta.scoped && meta.limit == 4) ≡ true
entry-list stored meta None acl writable fits = impossible fits
entry-list stored meta (Some takes.Nothing) acl writable fits = impossible (sym writable ∙ fits)
entry-list stored meta (Some (takes.Value form)) acl writable fits =
    let first = and-both (is_some meta.write) (stored && (not meta.scoped && fits_form meta.kind meta.least meta.limit form)) fits in
    let second = and-both stored (not meta.scoped && fits_form meta.kind meta.least meta.limit form) first.1 in
    let third = and-both (not meta.scoped) (fits_form meta.kind meta.least meta.limit form) second.1 in
    impossible (acl-no-form meta.kind meta.least meta.limit form acl third.1)
entry-list stored meta (Some takes.Items) acl writable fits =
    let both = and-both (is_some meta.write) (fits_list stored meta.scoped meta.limit meta.kind) fits in
    acl-list stored meta.scoped meta.limit meta.kind acl both.1

rows-stored : (stored : Bool) (meta : Meta) (taken : Option Takes) → is_entry_list meta.kind ≡ false → is_none meta.write ≡ false → fits_found stored (Ok meta) taken ≡ true → stored ≡ true
rows-stored stored meta None other writable fits = impossible fits
rows-stored stored meta (Some takes.Nothing) other writable fits = impossible (sym writable ∙ fits)
rows-stored stored meta (Some (takes.Value form)) other writable fits =
    let first = and-both (is_some meta.write) (stored && (not meta.scoped && fits_form meta.kind meta.least meta.limit form)) fits in
    (and-both stored (not meta.scoped && fits_form meta.kind meta.least meta.limit form) first.1).0
rows-stored stored meta (Some takes.Items) other writable fits =
    let both = and-both (is_some meta.write) (fits_list stored meta.scoped meta.limit meta.kind) fits in
    list-stored stored meta.scoped meta.limit meta.kind other both.1

-- What the steps before an item leave.

place-same : (p q : Place) → same_place p q ≡ true → p ≡ q
place-same p q same =
    let outer = and-both (p.endpoint == q.endpoint) (p.cluster == q.cluster && p.leaf == q.leaf) same in
    let inner = and-both (p.cluster == q.cluster) (p.leaf == q.leaf) outer.1 in
    let endpoint = eqb-true p.endpoint q.endpoint outer.0 in
    let cluster = eqb-true p.cluster q.cluster inner.0 in
    let leaf = eqb-true p.leaf q.leaf inner.1 in
    λ i. record { endpoint = endpoint i; cluster = cluster i; leaf = leaf i }

set-step : {X : Type 0} (fine : X → Type 0) (b : Bool) (set stored : X) (found : Option X) → (b ≡ true → fine set) → fine (unwrap_or found stored) → fine (unwrap_or (option_or (if b then Some set else None) found) stored)
set-step fine true set stored found here before = here refl
set-step fine false set stored found here before = before

module _ (place : Place) (meta : Meta) (there : find_data_of place ≡ Ok meta) (fabric : ℕ) (stored : List Value) where
  record Fine (values : List Value) : Type 0 where
    form : list_all (has_form meta fabric) values ≡ true
    few : meta.scoped ≡ true → nat_le (length values) meta.limit ≡ true

  row-fine : (at : Place) (whose : ℕ) (values : List Value) → same_place at place ≡ true → (whose == fabric) ≡ true → is_sound_row (is_stored at) whose values (find_data_of at) ≡ true → Fine values
  row-fine at whose values same own is =
      let here : is_sound_row (is_stored place) whose values (find_data_of place) ≡ true = subst (λ p. is_sound_row (is_stored p) whose values (find_data_of p) ≡ true) (place-same at place same) is in
      let found : is_sound_row (is_stored place) whose values (Ok meta) ≡ true = subst (λ r. is_sound_row (is_stored place) whose values r ≡ true) there here in
      let its : is_sound_row (is_stored place) fabric values (Ok meta) ≡ true = subst (λ n. is_sound_row (is_stored place) n values (Ok meta) ≡ true) (eqb-true whose fabric own) found in
      let both = and-both (is_stored place) (list_all (has_form meta fabric) values && are_as_many meta values) its in
      let parts = and-both (list_all (has_form meta fabric) values) (are_as_many meta values) both.1 in
      record { form = parts.0; few = λ scoped. if-true meta.scoped (nat_le (length values) meta.limit) (length values == 1) true scoped parts.1 }

  newer-row : (step : NodeStep) (found : Option (List Value)) → is_sound_step step ≡ true → Fine (unwrap_or found stored) → Fine (unwrap_or (option_or (row_set place fabric step) found) stored)
  newer-row (SetRow at whose values) found is before =
      set-step Fine (same_place at place && whose == fabric) values stored found (λ b. let both = and-both (same_place at place) (whose == fabric) b in row-fine at whose values both.0 both.1 is) before
  newer-row (SetEntries whose entries) found is before = before
  newer-row (PutNetwork id secret) found is before = before
  newer-row (RemoveNetwork id) found is before = before
  newer-row (ConnectNetwork id) found is before = before
  newer-row (MoveNetwork id index) found is before = before
  newer-row (Arm owner seconds) found is before = before
  newer-row (Renew seconds) found is before = before
  newer-row Expire found is before = before
  newer-row Complete found is before = before
  newer-row (AddRoot cert) found is before = before
  newer-row (Csr nonce update) found is before = before
  newer-row (AddFabric joins) found is before = before
  newer-row (UpdateFabric index given) found is before = before
  newer-row (RemoveFabric index) found is before = before
  newer-row (Label index label) found is before = before
  newer-row (Emit place priority fabric value) found is before = before

  latest-row : (found : Option (List Value)) (steps : List NodeStep) → list_all is_sound_step steps ≡ true → Fine (unwrap_or found stored) → Fine (unwrap_or (latest (row_set place fabric) found steps) stored)
  latest-row found [] all before = before
  latest-row found (step ∷ steps) all before =
      let both = and-both (is_sound_step step) (list_all is_sound_step steps) all in
      latest-row (option_or (row_set place fabric step) found) steps both.1 (newer-row step found both.0 before)

  rows-now : (steps : List NodeStep) → list_all is_sound_step steps ≡ true → Fine stored → Fine (rows_now place fabric steps stored)
  rows-now steps all before = latest-row None steps all before

module _ (fabric : ℕ) (stored : List AclEntry) where
  fine-entries : List AclEntry → Type 0
  fine-entries entries = are_entries_of fabric entries ≡ true

  entries-fine : (whose : ℕ) (entries : List AclEntry) → (whose == fabric) ≡ true → are_entries_of whose entries ≡ true → fine-entries entries
  unfolding fine-entries
  entries-fine whose entries same is = subst (λ f. are_entries_of f entries ≡ true) (eqb-true whose fabric same) is

  newer-entries : (step : NodeStep) (found : Option (List AclEntry)) → is_sound_step step ≡ true → fine-entries (unwrap_or found stored) → fine-entries (unwrap_or (option_or (entries_set fabric step) found) stored)
  newer-entries (SetRow at whose values) found is before = before
  newer-entries (SetEntries whose entries) found is before = set-step fine-entries (whose == fabric) entries stored found (λ b. entries-fine whose entries b is) before
  newer-entries (PutNetwork id secret) found is before = before
  newer-entries (RemoveNetwork id) found is before = before
  newer-entries (ConnectNetwork id) found is before = before
  newer-entries (MoveNetwork id index) found is before = before
  newer-entries (Arm owner seconds) found is before = before
  newer-entries (Renew seconds) found is before = before
  newer-entries Expire found is before = before
  newer-entries Complete found is before = before
  newer-entries (AddRoot cert) found is before = before
  newer-entries (Csr nonce update) found is before = before
  newer-entries (AddFabric joins) found is before = before
  newer-entries (UpdateFabric index given) found is before = before
  newer-entries (RemoveFabric index) found is before = before
  newer-entries (Label index label) found is before = before
  newer-entries (Emit place priority fabric value) found is before = before

  latest-entries : (found : Option (List AclEntry)) (steps : List NodeStep) → list_all is_sound_step steps ≡ true → fine-entries (unwrap_or found stored) → fine-entries (unwrap_or (latest (entries_set fabric) found steps) stored)
  latest-entries found [] all before = before
  latest-entries found (step ∷ steps) all before =
      let both = and-both (is_sound_step step) (list_all is_sound_step steps) all in
      latest-entries (option_or (entries_set fabric step) found) steps both.1 (newer-entries step found both.0 before)

  entries-now : (steps : List NodeStep) → list_all is_sound_step steps ≡ true → are_entries_of fabric stored ≡ true → are_entries_of fabric (entries_now fabric steps stored) ≡ true
  unfolding fine-entries
  entries-now steps all before = latest-entries None steps all before

-- Items.

entries-step-sound : (fabric : ℕ) (r : Result (List AclEntry) Status) → ((xs : List AclEntry) → r ≡ Ok xs → are_entries_of fabric xs ≡ true) → Passes is_sound_step (entries_step fabric r)
entries-step-sound fabric (Err status) each = record { is = refl }
entries-step-sound fabric (Ok xs) each = record { is = each xs refl }

row-step-sound : (place : Place) (fabric : ℕ) (r : Result (List Value) Status) → ((xs : List Value) → r ≡ Ok xs → is_sound_row (is_stored place) fabric xs (find_data_of place) ≡ true) → Passes is_sound_step (row_step place fabric r)
row-step-sound place fabric (Err status) each = record { is = refl }
row-step-sound place fabric (Ok xs) each = record { is = each xs refl }

either : (b : Bool) (x y : Result NodeStep Status) → (b ≡ true → Passes is_sound_step x) → (b ≡ false → Passes is_sound_step y) → Passes is_sound_step (if b then x else y)
either true x y one other = one refl
either false x y one other = other refl

-- what is not scoped is nobody's
nobodys : (b : Bool) (fabric : ℕ) → b ≡ false → (if b then fabric else 0) ≡ 0
nobodys true fabric is = impossible (sym is)
nobodys false fabric is = refl

module _ (law : (place : Place) → is_ok (find_of place) ≡ true → takes_rightly place ≡ true) (known : (place : Place) (meta : Meta) → find_of place ≡ Ok meta → find_data_of place ≡ Ok meta) (tree_value : (t : Tree) → tree (value_of t) ≡ t) (seen : Seen) (actor : Actor) (sight : IsSoundSight seen actor) (steps : List NodeStep) (before : list_all is_sound_step steps ≡ true) (item : WriteItem) (place : Place) where
  fits : (meta : Meta) → find_of place ≡ Ok meta → fits_found (is_stored place) (Ok meta) (takes_of place) ≡ true
  fits meta there = subst (λ r. fits_found (is_stored place) r (takes_of place) ≡ true) there (law place (ap is_ok there))

  entries-case : (meta : Meta) → find_of place ≡ Ok meta → is_none meta.write ≡ false → is_entry_list meta.kind ≡ true → Passes is_sound_step (entries_written item meta actor.fabric (entries_now actor.fabric steps seen.entries))
  entries-case meta there writable acl =
      let now = entries_now actor.fabric steps seen.entries in
      let now-sound : are_entries_of actor.fabric now ≡ true = entries-now actor.fabric seen.entries steps before sight.entries in
      entries-step-sound actor.fabric _ (λ xs h. entries-sound meta actor.fabric item.path.index item.value (staying item.path.index now) xs
      (and-both meta.scoped (meta.limit == 4) (entry-list (is_stored place) meta (takes_of place) acl writable (fits meta there))).1
      (staying-entries actor.fabric (is_append item.path.index) now now-sound) h)

  rows-case : (meta : Meta) → find_of place ≡ Ok meta → is_none meta.write ≡ false → is_entry_list meta.kind ≡ false
      → Passes is_sound_step (rows_written item place meta (fabric_of actor meta) (rows_now place (fabric_of actor meta) steps (own_values (fabric_of actor meta) (seen.rows_at place))))
  rows-case meta there writable other =
      let own = fabric_of actor meta in
      let kept = rows-stored (is_stored place) meta (takes_of place) other writable (fits meta there) in
      let stored = own_values own (seen.rows_at place) in
      let data_there = known place meta there in
      let now = rows-now place meta data_there own stored steps before (record { form = sight.rows place meta data_there kept; few = sight.few place meta data_there kept }) in
      row-step-sound place own _ (λ xs h. subst (λ r. is_sound_row (is_stored place) own xs r ≡ true) (sym data_there)
      (new-rows-sound tree_value (is_stored place) meta (takes_of place) own item.path.index item.value (rows_now place own steps stored) xs (fits meta there) other (nobodys meta.scoped actor.fabric) now.form now.few h))

  found-sound : (meta : Meta) → find_of place ≡ Ok meta → is_none meta.write ≡ false → Passes is_sound_step (written_at seen actor steps item place (Ok meta))
  found-sound meta there writable =
      either (is_entry_list meta.kind) (entries_written item meta actor.fabric (entries_now actor.fabric steps seen.entries))
      (rows_written item place meta (fabric_of actor meta) (rows_now place (fabric_of actor meta) steps (own_values (fabric_of actor meta) (seen.rows_at place))))
      (entries-case meta there writable) (rows-case meta there writable)

pub leaves_sound : ((place : Place) → is_ok (find_of place) ≡ true → takes_rightly place ≡ true) → ((place : Place) (meta : Meta) → find_of place ≡ Ok meta → find_data_of place ≡ Ok meta) → ((t : Tree) → tree (value_of t) ≡ t) → LeavesSound
leaves_sound law known tree_value seen actor items timed sight =
    each_passes is_sound_step seen actor timed (λ steps before item place meta there may writable. found-sound law known tree_value seen actor sight steps before item place meta there writable) items
