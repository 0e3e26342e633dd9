-- What is read under a key has its form.
use Rattle.std.proofs.Common.{◌≡◌, refl, sym, ap, subst, ℕ, inl, inr, ◌&&◌, ◌==◌, nat_le, Bool, true, List, [], ◌∷◌, Option, Some, None, length}
use Rattle.std.proofs.lemmas.Bool.{and_from, cases_Bool, eq-eqb}
use Rattle.std.specs.Prelude.{option_and_then}
use Rattle.std.specs.List.{list_all}
use Rattle.mt_tlv.specs.Tree.{Tree, int, uint, bool, text, octets, null, bits32, bits64, structure, array, list, Elements, none, more}
use Rattle.mt_tlv.specs.declared.value.Value.TheVariants as values
use Rattle.mt_model.specs.rows.Order.{row_at}
use Rattle.mt_model.specs.rows.Setting.{is_at, is_entry_of}
use Rattle.mt_model.specs.rows.Sight.{same_place}
use Rattle.mt_model.specs.Trees.{field_in}
use Rattle.mt_model.specs.tables.Entries.{each_in, entry_with, one_more}
use Rattle.mt_model.specs.declared.limits.TheConstants.{FABRICS}
use Rattle.mt_model.specs.declared.rows.place.Place.{Place}
use Rattle.mt_model.specs.declared.rows.place.Row.{Row}
use Rattle.mt_model.specs.declared.tables.access.AclEntry.{AclEntry}
use Rattle.mt_model.specs.declared.tables.access.Auth.{Auth}
use Rattle.mt_model.specs.declared.tables.access.Privilege.{Privilege}
use Rattle.mt_model.specs.declared.tables.access.Target.{Target}
use Rattle.mt_model.specs.declared.tables.fabric.Credentials.{Credentials}
use Rattle.mt_model.specs.declared.tables.fabric.Fabric.{Fabric}
use Rattle.mt_model.specs.declared.tables.network.Armed.{Armed}
use Rattle.mt_model.specs.declared.tables.network.Network.{Network}
use Rattle.mt_meta.specs.Forms.{has_form}
use Rattle.mt_meta.specs.declared.meta.Meta.{Meta}
use Rattle.mt_grammar.specs.Fields.{array_in, fields_in, if_some, number_at, number_in, some_in}
use Rattle.mt_grammar.specs.Values.{armed_in, armed_of, armed_with, entries_in, entry_in, entry_of, fabric_in, fabric_of, fabric_with, if_few, is_of, item_in, items_in}
use Rattle.mt_lasting.specs.Contents.{kept_failsafe}
use Rattle.mt_lasting.specs.Values.{has_index}

pub some_same : {X : Type 0} (a b : X) → Some a ≡ Some b → a ≡ b
some_same a b same = cc

pub no_value : {X : Type 0} {Y : Type 0} (x : X) → None ≡ Some x → Y
no_value x is = absurd cc

pub place-itself : (place : Place) → same_place place place ≡ true
place-itself place = and_from _ _ (eq-eqb place.endpoint place.endpoint refl) (and_from _ _ (eq-eqb place.cluster place.cluster refl) (eq-eqb place.leaf place.leaf refl))

-- Lists.

module _ {X : Type 0} (of : Tree → Option X) (good : X → Bool) (each : (t : Tree) (x : X) → of t ≡ Some x → good x ≡ true) where
  one_more_formed : (first : Option X) (rest : Option (List X)) → ((x : X) → first ≡ Some x → good x ≡ true) → ((xs : List X) → rest ≡ Some xs → list_all good xs ≡ true)
      → (xs : List X) → one_more first rest ≡ Some xs → list_all good xs ≡ true
  one_more_formed (Some x) (Some ys) one all xs is = subst (λ (l : List X). list_all good l ≡ true) (some_same (x ∷ ys) xs is) (and_from _ _ (one x refl) (all ys refl))
  one_more_formed (Some x) None one all xs is = no_value xs is
  one_more_formed None rest one all xs is = no_value xs is

  each_formed : (es : Elements) (xs : List X) → each_in of es ≡ Some xs → list_all good xs ≡ true
  each_formed none xs is = subst (λ (l : List X). list_all good l ≡ true) (some_same [] xs is) refl
  each_formed (more tag v es) xs is = one_more_formed (of v) (each_in of es) (each v) (each_formed es) xs is

  if_some_formed : (read : Option (List X)) → ((ys : List X) → read ≡ Some ys → list_all good ys ≡ true) → (xs : List X) → if_some read ≡ Some xs → list_all good xs ≡ true
  if_some_formed None all xs is = no_value xs is
  if_some_formed (Some ys) all xs is = elim (cases_Bool (nat_le 1 (length ys))) [
    | inl any ↦
        let same : Some ys ≡ Some xs = rw any at is in
        subst (λ (l : List X). list_all good l ≡ true) (some_same ys xs same) (all ys refl)
    | inr nothing ↦
        let wrong : None ≡ Some xs = rw nothing at is in
        absurd cc
  ]

  of_members : (members : Option Elements) (xs : List X) → if_some (option_and_then (each_in of) members) ≡ Some xs → list_all good xs ≡ true
  of_members None xs is = no_value xs is
  of_members (Some es) xs is = if_some_formed (each_in of es) (each_formed es) xs is

  pub some_formed : (t : Tree) (xs : List X) → some_in of t ≡ Some xs → list_all good xs ≡ true
  some_formed t xs is = of_members (array_in t) xs is

-- Items.

module _ (place : Place) (fabric : ℕ) (meta : Meta) where
  abbrev pub is_formed : Row → Bool
  is_formed row = is_at place fabric row && has_form meta fabric row.value

  item_formed : (t : Tree) (row : Row) → item_in place fabric meta t ≡ Some row → is_formed row ≡ true
  item_formed (int z) row is = no_value row is
  item_formed (uint n) row is = no_value row is
  item_formed (bool b) row is = no_value row is
  item_formed (text s) row is = no_value row is
  item_formed (octets s) row is = no_value row is
  item_formed null row is = no_value row is
  item_formed (bits32 n) row is = no_value row is
  item_formed (bits64 n) row is = no_value row is
  item_formed (array es) row is = no_value row is
  item_formed (list es) row is = no_value row is
  item_formed (structure es) row is = elim (cases_Bool (has_form meta fabric (values.Struct es))) [
    | inl form ↦
        let same : Some (row_at place fabric (values.Struct es)) ≡ Some row = rw form at is in
        let here : is_at place fabric (row_at place fabric (values.Struct es)) ≡ true = and_from _ _ (place-itself place) (eq-eqb fabric fabric refl) in
        subst (λ (r : Row). is_formed r ≡ true) (some_same (row_at place fabric (values.Struct es)) row same) (and_from _ _ here form)
    | inr other ↦
        let wrong : None ≡ Some row = rw other at is in
        absurd cc
  ]

  few_formed : (read : Option (List Row)) → ((ys : List Row) → read ≡ Some ys → list_all is_formed ys ≡ true) → (rows : List Row) → if_few meta.limit read ≡ Some rows
      → (list_all is_formed rows ≡ true) × (nat_le (length rows) meta.limit ≡ true)
  few_formed None all rows is = no_value rows is
  few_formed (Some ys) all rows is = elim (cases_Bool (nat_le (length ys) meta.limit)) [
    | inl few ↦
        let same : Some ys ≡ Some rows = rw few at is in
        subst (λ (l : List Row). (list_all is_formed l ≡ true) × (nat_le (length l) meta.limit ≡ true)) (some_same ys rows same) (all ys refl, few)
    | inr many ↦
        let wrong : None ≡ Some rows = rw many at is in
        absurd cc
  ]

  pub items_formed : (t : Tree) (rows : List Row) → items_in place fabric meta t ≡ Some rows → (list_all is_formed rows ≡ true) × (nat_le (length rows) meta.limit ≡ true)
  items_formed t rows is = few_formed (some_in (item_in place fabric meta) t) (some_formed (item_in place fabric meta) is_formed item_formed t) rows is

-- Entries.

entry_its : (privilege : Option Privilege) (auth : Option Auth) (subjects : Option (List ℕ)) (targets : Option (List Target)) (fabric : ℕ) (entry : AclEntry)
    → entry_with privilege auth subjects targets (Some fabric) ≡ Some entry → (entry.fabric == fabric) ≡ true
entry_its (Some privilege) (Some auth) (Some subjects) (Some targets) fabric entry is =
    let same = some_same (record { privilege = privilege; auth = auth; subjects = subjects; targets = targets; fabric = fabric }) entry is in
    eq-eqb entry.fabric fabric (ap (λ (e : AclEntry). e.fabric) (sym same))
entry_its None auth subjects targets fabric entry is = no_value entry is
entry_its (Some privilege) None subjects targets fabric entry is = no_value entry is
entry_its (Some privilege) (Some auth) None targets fabric entry is = no_value entry is
entry_its (Some privilege) (Some auth) (Some subjects) None fabric entry is = no_value entry is

entry_of_its : (fabric : ℕ) (es : Elements) (entry : AclEntry) → entry_of fabric es ≡ Some entry → (entry.fabric == fabric) ≡ true
entry_of_its fabric es entry is = elim (cases_Bool (is_of fabric es)) [
  | inl its ↦ entry_its _ _ _ _ fabric entry (rw its at is)
  | inr other ↦
      let wrong : None ≡ Some entry = rw other at is in
      absurd cc
]

entry_fields : (fabric : ℕ) (fields : Option Elements) (entry : AclEntry) → option_and_then (entry_of fabric) fields ≡ Some entry → (entry.fabric == fabric) ≡ true
entry_fields fabric None entry is = no_value entry is
entry_fields fabric (Some es) entry is = entry_of_its fabric es entry is

pub entries_formed : (fabric : ℕ) (t : Tree) (entries : List AclEntry) → entries_in fabric t ≡ Some entries → list_all (is_entry_of fabric) entries ≡ true
entries_formed fabric t entries is = some_formed (entry_in fabric) (is_entry_of fabric) (λ v entry read. entry_fields fabric (fields_in (1 ∷ 2 ∷ 3 ∷ 4 ∷ 254 ∷ []) v) entry read) t entries is

-- Fabrics.

fabric_its : (index : ℕ) (credentials : Option Credentials) (vendor : Option ℕ) (label : Option (List ℕ)) (fabric : Fabric) → fabric_with index credentials vendor label ≡ Some fabric → has_index index fabric ≡ true
fabric_its index (Some credentials) (Some vendor) (Some label) fabric is =
    let same = some_same (record { index = index; credentials = credentials; vendor = vendor; label = label }) fabric is in
    eq-eqb fabric.index index (ap (λ (f : Fabric). f.index) (sym same))
fabric_its index None vendor label fabric is = no_value fabric is
fabric_its index (Some credentials) None label fabric is = no_value fabric is
fabric_its index (Some credentials) (Some vendor) None fabric is = no_value fabric is

fabric_fields : (index : ℕ) (fields : Option Elements) (fabric : Fabric) → option_and_then (fabric_of index) fields ≡ Some fabric → has_index index fabric ≡ true
fabric_fields index None fabric is = no_value fabric is
fabric_fields index (Some es) fabric is = fabric_its index _ _ _ fabric is

pub fabric_formed : (index : ℕ) (t : Tree) (fabric : Fabric) → fabric_in index t ≡ Some fabric → has_index index fabric ≡ true
fabric_formed index t fabric is = fabric_fields index (fields_in (0 ∷ 1 ∷ 2 ∷ 3 ∷ 4 ∷ 5 ∷ 6 ∷ 7 ∷ 8 ∷ []) t) fabric is

-- Numbers, and the fail-safe.

pub number_fits : (greatest : ℕ) (t : Tree) (n : ℕ) → number_in greatest t ≡ Some n → nat_le n greatest ≡ true
number_fits greatest (uint m) n is = elim (cases_Bool (nat_le m greatest)) [
  | inl fits ↦
      let same : Some m ≡ Some n = rw fits at is in
      subst (λ (k : ℕ). nat_le k greatest ≡ true) (some_same m n same) fits
  | inr above ↦
      let wrong : None ≡ Some n = rw above at is in
      absurd cc
]
number_fits greatest (int z) n is = no_value n is
number_fits greatest (bool b) n is = no_value n is
number_fits greatest (text s) n is = no_value n is
number_fits greatest (octets s) n is = no_value n is
number_fits greatest null n is = no_value n is
number_fits greatest (bits32 m) n is = no_value n is
number_fits greatest (bits64 m) n is = no_value n is
number_fits greatest (structure es) n is = no_value n is
number_fits greatest (array es) n is = no_value n is
number_fits greatest (list es) n is = no_value n is

field_fits : (greatest : ℕ) (field : Option Tree) (n : ℕ) → option_and_then (number_in greatest) field ≡ Some n → nat_le n greatest ≡ true
field_fits greatest None n is = no_value n is
field_fits greatest (Some t) n is = number_fits greatest t n is

-- its owner is an index or 0, and what is not kept is not there
abbrev pub IsPlain : Option Armed → Type 0
IsPlain None = true ≡ true
IsPlain (Some armed) = (nat_le armed.owner FABRICS ≡ true) × (kept_failsafe armed ≡ armed)

armed_plain : (owner context : Option ℕ) (added updated : Option Bool) (credentials : Option (Option Credentials)) (networks : Option (List Network)) → ((n : ℕ) → owner ≡ Some n → nat_le n FABRICS ≡ true)
    → (armed : Armed) → armed_with owner context added updated credentials networks ≡ Some armed → IsPlain (Some armed)
armed_plain (Some owner) (Some context) (Some added) (Some updated) (Some credentials) (Some networks) fits armed is =
    subst (λ (a : Armed). IsPlain (Some a)) (some_same _ armed is) (fits owner refl, refl)
armed_plain None context added updated credentials networks fits armed is = no_value armed is
armed_plain (Some owner) None added updated credentials networks fits armed is = no_value armed is
armed_plain (Some owner) (Some context) None updated credentials networks fits armed is = no_value armed is
armed_plain (Some owner) (Some context) (Some added) None credentials networks fits armed is = no_value armed is
armed_plain (Some owner) (Some context) (Some added) (Some updated) None networks fits armed is = no_value armed is
armed_plain (Some owner) (Some context) (Some added) (Some updated) (Some credentials) None fits armed is = no_value armed is

armed_fields : (fields : Option Elements) (armed : Armed) → option_and_then armed_of fields ≡ Some armed → IsPlain (Some armed)
armed_fields None armed is = no_value armed is
armed_fields (Some es) armed is = armed_plain (number_at FABRICS 0 es) _ _ _ _ _ (field_fits FABRICS (field_in 0 es)) armed is

pub armed_formed : (t : Tree) (armed : Armed) → armed_in t ≡ Some armed → IsPlain (Some armed)
armed_formed t armed is = armed_fields (fields_in (0 ∷ 1 ∷ 2 ∷ 3 ∷ 4 ∷ 5 ∷ []) t) armed is
