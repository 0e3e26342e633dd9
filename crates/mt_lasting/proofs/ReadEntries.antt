-- A fabric's entries are read as they were written.
use Rattle.std.proofs.Common.{◌≡◌, refl, sym, ℕ, suc, ◌^◌, ◌<◌, ◌&&◌, nat_le, Bool, true, List, [], ◌∷◌, Option, Some, None, length, arith}
use Rattle.std.proofs.lemmas.Bool.{and_parts, eqb-true, le-leb, ltb-true}
use Rattle.std.specs.List.{list_all}
use Rattle.mt_tlv.specs.Scalars.{unsigned_in}
use Rattle.mt_tlv.specs.Tree.{uint}
use Rattle.mt_tlv.specs.View.{tree}
use Rattle.mt_model.specs.Trees.{array_of, nullable}
use Rattle.mt_model.specs.rows.Setting.{is_entry_of}
use Rattle.mt_model.specs.tables.Entries.{entry_with, mode_number, mode_numbered, privilege_number, privilege_numbered, subjects_tree, target_tree, target_with, targets_tree}
use Rattle.mt_model.specs.texts.Config.{has_bits, has_widths, is_entry, is_target, may_be_granted, may_be_subject}
use Rattle.mt_model.specs.declared.limits.TheConstants.{SUBJECTS, TARGETS}
use Rattle.mt_model.specs.declared.tables.access.AclEntry.{AclEntry}
use Rattle.mt_model.specs.declared.tables.access.Auth.{Auth}
use Rattle.mt_model.specs.declared.tables.access.Auth.TheVariants.{Pase, Case, Group}
use Rattle.mt_model.specs.declared.tables.access.Privilege.{Privilege}
use Rattle.mt_model.specs.declared.tables.access.Privilege.TheVariants.{View, ProxyView, Operate, Manage, Administer}
use Rattle.mt_model.specs.declared.tables.access.Target.{Target}
use Rattle.mt_meta.specs.Targets.{nullable_in}
use Rattle.mt_grammar.specs.Values.{entries_in, entry_in, subjects_in, targets_in, whole_target_in}
use Rattle.mt_lasting.specs.Values.{entry_tree}
use Rattle.mt_lasting.proofs.ReadLists.{filled_read, some_read}

privilege_again : (privilege : Privilege) → privilege_numbered (privilege_number privilege) ≡ Some privilege
privilege_again View = refl
privilege_again ProxyView = refl
privilege_again Operate = refl
privilege_again Manage = refl
privilege_again Administer = refl

mode_again : (auth : Auth) → mode_numbered (mode_number auth) ≡ Some auth
mode_again Pase = refl
mode_again Case = refl
mode_again Group = refl

subjects_again : (subjects : List ℕ) → subjects_in (subjects_tree subjects) ≡ Some subjects
subjects_again [] = refl
subjects_again (subject ∷ subjects) = filled_read unsigned_in uint (λ one. refl) subject subjects

nullable_again : (bits greatest : ℕ) (number : Option ℕ) → 2 ^ bits ≡ suc greatest → has_bits bits number ≡ true → nullable_in greatest (nullable number) ≡ Some number
nullable_again bits greatest None is fits = refl
nullable_again bits greatest (Some number) is fits =
    let below : number < 2 ^ bits = ltb-true number (2 ^ bits) fits in
    let most : nat_le number greatest ≡ true = le-leb number greatest (omega (arith, below, is)) in
    rw most refl

target_again : (target : Target) → is_target target ≡ true → whole_target_in (target_tree target) ≡ Some target
target_again target is =
    let widths : has_widths target ≡ true = (and_parts _ (has_widths target) is).1 in
    let outer = and_parts (has_bits 32 target.cluster && has_bits 16 target.endpoint) (has_bits 32 target.device) widths in
    let inner = and_parts (has_bits 32 target.cluster) (has_bits 16 target.endpoint) outer.0 in
    let cluster = nullable_again 32 0xffffffff target.cluster refl inner.0 in
    let endpoint = nullable_again 16 0xffff target.endpoint refl inner.1 in
    let device = nullable_again 32 0xffffffff target.device refl outer.1 in
    λ i. target_with (cluster i) (endpoint i) (device i)

targets_again : (targets : List Target) → list_all is_target targets ≡ true → targets_in (targets_tree targets) ≡ Some targets
targets_again [] all = refl
targets_again (target ∷ targets) all = some_read whole_target_in target_tree is_target target_again target targets all

-- an entry of a fabric, of the form of an entry
abbrev pub is_formed_of : ℕ → AclEntry → Bool
is_formed_of fabric entry = is_entry_of fabric entry && is_entry entry

entry_again : (fabric : ℕ) (entry : AclEntry) → is_formed_of fabric entry ≡ true → entry_in fabric (entry_tree entry) ≡ Some entry
entry_again fabric entry is =
    let parts = and_parts (is_entry_of fabric entry) (is_entry entry) is in
    let its : entry.fabric ≡ fabric = eqb-true entry.fabric fabric parts.0 in
    let few = and_parts (may_be_granted entry.auth entry.privilege && list_all (may_be_subject entry.auth) entry.subjects && list_all is_target entry.targets && nat_le (length entry.subjects) SUBJECTS) (nat_le (length entry.targets) TARGETS) parts.1 in
    let fewer = and_parts (may_be_granted entry.auth entry.privilege && list_all (may_be_subject entry.auth) entry.subjects && list_all is_target entry.targets) (nat_le (length entry.subjects) SUBJECTS) few.0 in
    let targets = (and_parts (may_be_granted entry.auth entry.privilege && list_all (may_be_subject entry.auth) entry.subjects) (list_all is_target entry.targets) fewer.0).1 in
    rw parts.0 (λ i. entry_with (privilege_again entry.privilege i) (mode_again entry.auth i) (subjects_again entry.subjects i) (targets_again entry.targets targets i) (Some (sym its i)))

pub entries_read : (fabric : ℕ) (entry : AclEntry) (entries : List AclEntry) → list_all (is_formed_of fabric) (entry ∷ entries) ≡ true → entries_in fabric (tree (array_of entry_tree (entry ∷ entries))) ≡ Some (entry ∷ entries)
entries_read fabric entry entries all = some_read (entry_in fabric) entry_tree (is_formed_of fabric) (entry_again fabric) entry entries all
