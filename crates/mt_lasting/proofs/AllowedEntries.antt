-- A fabric's access control entries may stand in an element.
use Rattle.std.proofs.Common.{◌≡◌, refl, sym, subst, inl, inr, ℕ, suc, ◌+◌, ◌*◌, ◌/◌, ◌%◌, ◌<◌, ◌≤◌, ◌^◌, ◌==◌, ◌&&◌, not, nat_le, true, List, [], ◌∷◌, filter, length, arith}
use Rattle.std.proofs.lemmas.Bool.{and_parts, eqb-true, ltb-true, or_cases}
use Rattle.std.proofs.Math.Nat.{lt-mul-div-succ}
use Rattle.std.specs.Prelude.{Option, Some, None}
use Rattle.std.specs.List.{list_all}
use Rattle.mt_tlv.specs.Limits.{IsAllowed}
use Rattle.mt_tlv.specs.Tree.{uint}
use Rattle.mt_model.specs.Trees.{nullable}
use Rattle.mt_model.specs.rows.Setting.{is_entry_of}
use Rattle.mt_model.specs.tables.Entries.{mode_number, privilege_number, subjects_tree, target_tree, targets_tree}
use Rattle.mt_model.specs.texts.Config.{has_bits, has_widths, is_cat, is_entry, is_operational, is_target, may_be_granted, may_be_subject}
use Rattle.mt_model.specs.declared.limits.TheConstants.{LAST_GROUP, LAST_OPERATIONAL_NODE, SUBJECTS, TARGETS}
use Rattle.mt_model.specs.declared.node.state.NodeState.{NodeState}
use Rattle.mt_model.specs.declared.tables.access.AclEntry.{AclEntry}
use Rattle.mt_model.specs.declared.tables.access.Auth.{Auth}
use Rattle.mt_model.specs.declared.tables.access.Auth.TheVariants.{Pase, Case, Group}
use Rattle.mt_model.specs.declared.tables.access.Privilege.{Privilege}
use Rattle.mt_model.specs.declared.tables.access.Privilege.TheVariants.{View, ProxyView, Operate, Manage, Administer}
use Rattle.mt_model.specs.declared.tables.access.Target.{Target}
use Rattle.mt_machine.specs.State.{IsValid}
use Rattle.mt_lasting.specs.Keys.{acl_place}
use Rattle.mt_lasting.specs.Values.{entry_tree, items_value}
use Rattle.mt_lasting.proofs.AllowedTrees.{IsAllowedIf, all_allowed, array_allowed, field, number_allowed}
use Rattle.mt_lasting.proofs.ReadEntries.{is_formed_of}
use Rattle.mt_lasting.proofs.Valid.{entries_formed}

privilege_allowed : (privilege : Privilege) → privilege_number privilege < 2 ^ 64
privilege_allowed View = omega arith
privilege_allowed ProxyView = omega arith
privilege_allowed Operate = omega arith
privilege_allowed Manage = omega arith
privilege_allowed Administer = omega arith

mode_allowed : (auth : Auth) → mode_number auth < 2 ^ 64
mode_allowed Pase = omega arith
mode_allowed Case = omega arith
mode_allowed Group = omega arith

-- Subjects.

operational_allowed : (node : ℕ) → is_operational node ≡ true → node < 2 ^ 64
operational_allowed node is = number_allowed LAST_OPERATIONAL_NODE node (omega arith) (and_parts (nat_le 1 node) (nat_le node LAST_OPERATIONAL_NODE) is).1

cat_allowed : (subject : ℕ) → is_cat subject ≡ true → subject < 2 ^ 64
cat_allowed subject is =
    let identifier = eqb-true (subject / 2 ^ 32) 0xfffffffd (and_parts (subject / 2 ^ 32 == 0xfffffffd) (not (subject % 2 ^ 16 == 0)) is).0 in
    let within : subject < 2 ^ 32 * (subject / 2 ^ 32 + 1) = lt-mul-div-succ subject (omega arith) in
    let below : subject < 2 ^ 32 * (0xfffffffd + 1) = subst (λ (k : ℕ). subject < 2 ^ 32 * (k + 1)) identifier within in
    omega (arith, below)

subject_allowed : (auth : Auth) (subject : ℕ) → may_be_subject auth subject ≡ true → subject < 2 ^ 64
subject_allowed Pase subject may = absurd cc
subject_allowed Case subject may = elim (or_cases (is_operational subject) (is_cat subject) may) [
  | inl node ↦ operational_allowed subject node
  | inr cat ↦ cat_allowed subject cat
]
subject_allowed Group subject may = number_allowed LAST_GROUP subject (omega arith) (and_parts (nat_le 1 subject) (nat_le subject LAST_GROUP) may).1

module _ (room : ℕ) where
  subjects_allowed : (auth : Auth) (subjects : List ℕ) → list_all (may_be_subject auth) subjects ≡ true → IsAllowed (subjects_tree subjects) (suc room)
  subjects_allowed auth [] all = tt
  subjects_allowed auth (subject ∷ subjects) all = all_allowed uint (may_be_subject auth) room (subject_allowed auth) (subject ∷ subjects) [] all

  -- Targets.

  nullable_allowed : (bits : ℕ) (number : Option ℕ) → 2 ^ bits ≤ 2 ^ 64 → has_bits bits number ≡ true → IsAllowed (nullable number) room
  nullable_allowed bits None low fits = tt
  nullable_allowed bits (Some number) low fits = omega (arith, low, ltb-true number (2 ^ bits) fits)

  target_allowed : (target : Target) → is_target target ≡ true → IsAllowed (target_tree target) (suc room)
  target_allowed target is =
      let widths : has_widths target ≡ true = (and_parts _ (has_widths target) is).1 in
      let outer = and_parts (has_bits 32 target.cluster && has_bits 16 target.endpoint) (has_bits 32 target.device) widths in
      let inner = and_parts (has_bits 32 target.cluster) (has_bits 16 target.endpoint) outer.0 in
      let cluster = nullable_allowed 32 target.cluster (omega arith) inner.0 in
      let endpoint = nullable_allowed 16 target.endpoint (omega arith) inner.1 in
      let device = nullable_allowed 32 target.device (omega arith) outer.1 in
      field 0 refl cluster (field 1 refl endpoint (field 2 refl device tt))

  targets_allowed : (targets : List Target) → list_all is_target targets ≡ true → IsAllowed (targets_tree targets) (suc (suc room))
  targets_allowed [] all = tt
  targets_allowed (target ∷ targets) all = all_allowed target_tree is_target (suc room) target_allowed (target ∷ targets) [] all

-- Entries.

entry_allowed : (fabric : ℕ) → fabric < 2 ^ 64 → (entry : AclEntry) → is_formed_of fabric entry ≡ true → IsAllowed (entry_tree entry) 13
entry_allowed fabric fits entry is =
    let parts = and_parts (is_entry_of fabric entry) (is_entry entry) is in
    let its : entry.fabric < 2 ^ 64 = subst (λ (k : ℕ). k < 2 ^ 64) (sym (eqb-true entry.fabric fabric parts.0)) fits in
    let few = and_parts (may_be_granted entry.auth entry.privilege && list_all (may_be_subject entry.auth) entry.subjects && list_all is_target entry.targets && nat_le (length entry.subjects) SUBJECTS) (nat_le (length entry.targets) TARGETS) parts.1 in
    let fewer = and_parts (may_be_granted entry.auth entry.privilege && list_all (may_be_subject entry.auth) entry.subjects && list_all is_target entry.targets) (nat_le (length entry.subjects) SUBJECTS) few.0 in
    let targets = and_parts (may_be_granted entry.auth entry.privilege && list_all (may_be_subject entry.auth) entry.subjects) (list_all is_target entry.targets) fewer.0 in
    let subjects = and_parts (may_be_granted entry.auth entry.privilege) (list_all (may_be_subject entry.auth) entry.subjects) targets.0 in
    field 1 refl (privilege_allowed entry.privilege)
    (field 2 refl (mode_allowed entry.auth)
    (field 3 refl (subjects_allowed 11 entry.auth entry.subjects subjects.1)
    (field 4 refl (targets_allowed 10 entry.targets targets.1)
    (field 254 refl its tt))))

pub entries_allowed : (s : NodeState) → IsValid s → (fabric : ℕ) → fabric < 2 ^ 64 → IsAllowedIf (items_value fabric acl_place s) 14
entries_allowed s valid fabric fits =
    array_allowed entry_tree (is_formed_of fabric) 13 (entry_allowed fabric fits) (filter (is_entry_of fabric) s.entries) (entries_formed s valid fabric)
