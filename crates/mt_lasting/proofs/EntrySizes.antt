-- How many bytes a fabric's access control entries take at most.
use Rattle.std.proofs.Common.{◌≡◌, ◌∙◌, ap, sym, subst, inl, inr, ℕ, ◌≤◌, ◌<◌, ◌^◌, ◌==◌, ◌&&◌, nat_le, true, false, List, [], ◌∷◌, filter, length, count_by, arith}
use Rattle.std.proofs.lemmas.Bool.{and_parts, cases_Bool, eqb-true, leb-true, ltb-true, or_cases, or_parts}
use Rattle.std.proofs.lemmas.List.Sums.{length-filter}
use Rattle.std.specs.Prelude.{Option, Some, None}
use Rattle.std.specs.List.{list_all, list_any}
use Rattle.mt_tlv.specs.Tree.{uint}
use Rattle.mt_model.specs.Trees.{nullable}
use Rattle.mt_model.specs.rows.Setting.{is_entry_of}
use Rattle.mt_model.specs.tables.Entries.{mode_number, privilege_number, subjects_tree, target_tree, targets_tree}
use Rattle.mt_model.specs.tables.Holding.{is_owned}
use Rattle.mt_model.specs.texts.Config.{has_bits, has_widths, is_entry, is_of, is_target, may_be_granted, may_be_subject}
use Rattle.mt_model.specs.declared.limits.TheConstants.{ENTRIES, SUBJECTS, TARGETS}
use Rattle.mt_model.specs.declared.node.state.NodeState.{NodeState}
use Rattle.mt_model.specs.declared.tables.access.AclEntry.{AclEntry}
use Rattle.mt_model.specs.declared.tables.access.Auth.{Auth}
use Rattle.mt_model.specs.declared.tables.access.Auth.TheVariants.{Pase, Case, Group}
use Rattle.mt_model.specs.declared.tables.access.Privilege.{Privilege}
use Rattle.mt_model.specs.declared.tables.access.Privilege.TheVariants.{View, ProxyView, Operate, Manage, Administer}
use Rattle.mt_model.specs.declared.tables.access.Target.{Target}
use Rattle.mt_model.specs.declared.tables.fabric.Fabric.{Fabric}
use Rattle.mt_machine.specs.State.{IsValid, has_entries_up_to}
use Rattle.mt_lasting.specs.Keys.{acl_place}
use Rattle.mt_lasting.specs.Values.{entry_tree, items_value}
use Rattle.mt_lasting.proofs.Lists.{none_kept}
use Rattle.mt_lasting.proofs.NumberSizes.{all_sizes, array_size, in_eight, in_four, in_one, in_two}
use Rattle.mt_lasting.proofs.ReadEntries.{is_formed_of}
use Rattle.mt_lasting.proofs.TreeSizes.{number_size, size, value_size}
use Rattle.mt_lasting.proofs.Valid.{entries_formed}

privilege_below : (privilege : Privilege) → privilege_number privilege < 2 ^ 8
privilege_below View = omega arith
privilege_below ProxyView = omega arith
privilege_below Operate = omega arith
privilege_below Manage = omega arith
privilege_below Administer = omega arith

mode_below : (auth : Auth) → mode_number auth < 2 ^ 8
mode_below Pase = omega arith
mode_below Case = omega arith
mode_below Group = omega arith

subjects_size : (auth : Auth) (subjects : List ℕ) → length subjects ≤ 4 → list_all (may_be_subject auth) subjects ≡ true → size (subjects_tree subjects) ≤ 37
subjects_size auth [] few all = omega arith
subjects_size auth (subject ∷ subjects) few all = omega (arith, all_sizes uint (may_be_subject auth) 8 (λ one may. in_eight one) 4 (subject ∷ subjects) few all)

wide_size : (number : Option ℕ) → has_bits 32 number ≡ true → size (nullable number) ≤ 4
wide_size None fits = omega arith
wide_size (Some number) fits = in_four number (ltb-true number (2 ^ 32) fits)

narrow_size : (number : Option ℕ) → has_bits 16 number ≡ true → size (nullable number) ≤ 2
narrow_size None fits = omega arith
narrow_size (Some number) fits = in_two number (ltb-true number (2 ^ 16) fits)

target_size : (target : Target) → is_target target ≡ true → size (target_tree target) ≤ 17
target_size target is =
    let widths : has_widths target ≡ true = (and_parts _ (has_widths target) is).1 in
    let outer = and_parts (has_bits 32 target.cluster && has_bits 16 target.endpoint) (has_bits 32 target.device) widths in
    let inner = and_parts (has_bits 32 target.cluster) (has_bits 16 target.endpoint) outer.0 in
    omega (arith, wide_size target.cluster inner.0, narrow_size target.endpoint inner.1, wide_size target.device outer.1)

targets_size : (targets : List Target) → length targets ≤ 3 → list_all is_target targets ≡ true → size (targets_tree targets) ≤ 55
targets_size [] few all = omega arith
targets_size (target ∷ targets) few all = omega (arith, all_sizes target_tree is_target 17 target_size 3 (target ∷ targets) few all)

entry_size : (fabric : ℕ) → number_size fabric ≤ 1 → (entry : AclEntry) → is_formed_of fabric entry ≡ true → size (entry_tree entry) ≤ 106
entry_size fabric small entry is =
    let parts = and_parts (is_entry_of fabric entry) (is_entry entry) is in
    let its : number_size entry.fabric ≤ 1 = subst (λ (k : ℕ). number_size k ≤ 1) (sym (eqb-true entry.fabric fabric parts.0)) small in
    let few = and_parts (may_be_granted entry.auth entry.privilege && list_all (may_be_subject entry.auth) entry.subjects && list_all is_target entry.targets && nat_le (length entry.subjects) SUBJECTS) (nat_le (length entry.targets) TARGETS) parts.1 in
    let fewer = and_parts (may_be_granted entry.auth entry.privilege && list_all (may_be_subject entry.auth) entry.subjects && list_all is_target entry.targets) (nat_le (length entry.subjects) SUBJECTS) few.0 in
    let targets = and_parts (may_be_granted entry.auth entry.privilege && list_all (may_be_subject entry.auth) entry.subjects) (list_all is_target entry.targets) fewer.0 in
    let subjects = and_parts (may_be_granted entry.auth entry.privilege) (list_all (may_be_subject entry.auth) entry.subjects) targets.0 in
    omega (
      arith,
      its,
      in_one (privilege_number entry.privilege) (privilege_below entry.privilege),
      in_one (mode_number entry.auth) (mode_below entry.auth),
      subjects_size entry.auth entry.subjects (leb-true _ _ fewer.1) subjects.1,
      targets_size entry.targets (leb-true _ _ few.1) targets.1,
    )

-- Of a fabric that is not in the table there is none, and of one that is no more than it may have.

not_its : (fabric : ℕ) (fabrics : List Fabric) (entry : AclEntry) → list_any (λ (f : Fabric). f.index == fabric) fabrics ≡ false → is_owned fabrics entry ≡ true → is_entry_of fabric entry ≡ false
not_its fabric [] entry none owned = absurd cc
not_its fabric (f ∷ fabrics) entry none owned =
    let apart = or_parts (f.index == fabric) (list_any (λ (f : Fabric). f.index == fabric) fabrics) none in
    elim (or_cases (is_of f entry) (list_any (λ (f : Fabric). is_of f entry) fabrics) owned) [
      | inl here ↦ ap (λ (k : ℕ). k == fabric) (eqb-true entry.fabric f.index here) ∙ apart.0
      | inr later ↦ not_its fabric fabrics entry apart.1 later
    ]

its_few : (fabric : ℕ) (entries : List AclEntry) (fabrics : List Fabric) → list_any (λ (f : Fabric). f.index == fabric) fabrics ≡ true → list_all (has_entries_up_to ENTRIES entries) fabrics ≡ true
    → length (filter (is_entry_of fabric) entries) ≤ ENTRIES
its_few fabric entries [] among counts = absurd cc
its_few fabric entries (f ∷ fabrics) among counts =
    let both = and_parts (has_entries_up_to ENTRIES entries f) (list_all (has_entries_up_to ENTRIES entries) fabrics) counts in
    elim (or_cases (f.index == fabric) (list_any (λ (f : Fabric). f.index == fabric) fabrics) among) [
      | inl here ↦
          let few : count_by (is_entry_of f.index) entries ≤ ENTRIES = leb-true _ _ both.0 in
          let count : length (filter (is_entry_of f.index) entries) ≡ count_by (is_entry_of f.index) entries = length-filter (is_entry_of f.index) entries in
          let all : length (filter (is_entry_of f.index) entries) ≤ ENTRIES = omega (arith, few, count) in
          subst (λ (k : ℕ). length (filter (is_entry_of k) entries) ≤ ENTRIES) (eqb-true f.index fabric here) all
      | inr later ↦ its_few fabric entries fabrics later both.1
    ]

few_entries : (s : NodeState) → IsValid s → (fabric : ℕ) → length (filter (is_entry_of fabric) s.entries) ≤ ENTRIES
few_entries s valid fabric = elim (cases_Bool (list_any (λ (f : Fabric). f.index == fabric) s.fabrics)) [
  | inl among ↦ its_few fabric s.entries s.fabrics among valid.entry_counts
  | inr none ↦
      let empty : filter (is_entry_of fabric) s.entries ≡ [] = none_kept (is_owned s.fabrics) (is_entry_of fabric) (λ entry owned. not_its fabric s.fabrics entry none owned) s.entries valid.entries_owned in
      omega (arith, ap length empty)
]

pub entries_size : (s : NodeState) → IsValid s → (fabric : ℕ) → number_size fabric ≤ 1 → value_size (items_value fabric acl_place s) ≤ 431
entries_size s valid fabric small =
    array_size entry_tree (is_formed_of fabric) 106 (entry_size fabric small) 4 (filter (is_entry_of fabric) s.entries) (few_entries s valid fabric) (entries_formed s valid fabric)
