-- The fail-safe's value is read as what is kept of the fail-safe.
use Rattle.std.proofs.Common.{◌≡◌, ◌∙◌, ◌==◌, ◌&&◌, ◌||◌, ℕ, nat_le, is_some, true, inl, inr, List, [], ◌∷◌, Option, Some, None, refl, ap, subst, arith}
use Rattle.std.specs.List.{list_all}
use Rattle.std.proofs.lemmas.Bool.{and_parts, eqb-true, le-leb, or_cases}
use Rattle.mt_tlv.specs.View.{tree}
use Rattle.mt_fabrics.specs.Table.{has_index, has_index_up_to}
use Rattle.mt_model.specs.declared.limits.TheConstants.{FABRICS}
use Rattle.mt_model.specs.declared.tables.fabric.Credentials.{Credentials}
use Rattle.mt_model.specs.declared.tables.fabric.Fabric.{Fabric}
use Rattle.mt_model.specs.declared.tables.network.Armed.{Armed}
use Rattle.mt_model.specs.tables.Holding.{saves_identity}
use Rattle.mt_grammar.specs.Fields.{number_in}
use Rattle.mt_grammar.specs.Values.{armed_in, armed_with, if_so, saved_in}
use Rattle.mt_tlv.specs.Tree.{uint}
use Rattle.mt_machine.specs.State.{is_added, is_among, is_updated, keeps_facts, names_rightly}
use Rattle.mt_lasting.specs.Contents.{kept_failsafe}
use Rattle.mt_lasting.specs.Values.{failsafe_value, saved_tree}
use Rattle.mt_lasting.proofs.ReadLists.{saved_networks_read}

-- Owner and context are no greater than the index of a fabric may be.

among_up_to : (most index : ℕ) (fabrics : List Fabric) → list_all (has_index_up_to most) fabrics ≡ true → is_among fabrics index ≡ true → nat_le index most ≡ true
among_up_to most index [] all among = absurd cc
among_up_to most index (fabric ∷ fabrics) all among =
    let both = and_parts (has_index_up_to most fabric) (list_all (has_index_up_to most) fabrics) all in
    elim (or_cases (has_index index fabric) (is_among fabrics index) among) [
      | inl here ↦ subst (λ n. nat_le n most ≡ true) (eqb-true fabric.index index here) both.0
      | inr later ↦ among_up_to most index fabrics both.1 later
    ]

pub none_or_among : (most index : ℕ) (fabrics : List Fabric) → list_all (has_index_up_to most) fabrics ≡ true → (index == 0 || is_among fabrics index) ≡ true → nat_le index most ≡ true
none_or_among most index fabrics all known = elim (or_cases (index == 0) (is_among fabrics index) known) [
  | inl none ↦ let zero : index ≡ 0 = eqb-true index 0 none in le-leb index most (omega arith)
  | inr among ↦ among_up_to most index fabrics all among
]

number_read : (most number : ℕ) → nat_le number most ≡ true → number_in most (uint number) ≡ Some number
number_read most number fits = rw fits refl

saved_read : (saved : Option Credentials) → saved_in (saved_tree saved) ≡ Some saved
saved_read None = refl
saved_read (Some saved) = refl

-- What was added is the context, and so is what was updated.

added_read : (fabrics : List Fabric) (armed : Armed) (added : Option ℕ) → is_added fabrics armed added ≡ true → if_so (is_some added) armed.context ≡ added
added_read fabrics armed None holds = refl
added_read fabrics armed (Some fabric) holds =
    let both = and_parts (armed.context == fabric) (is_among fabrics fabric) holds in
    ap Some (eqb-true armed.context fabric both.0)

updated_read : (fabrics : List Fabric) (armed : Armed) (added updated : Option ℕ) → is_updated fabrics armed added updated ≡ true → if_so (is_some updated) armed.context ≡ updated
updated_read fabrics armed added None holds = refl
updated_read fabrics armed None (Some fabric) holds =
    let outer = and_parts (armed.owner == fabric) (armed.context == fabric && saves_identity fabrics fabric armed.saved_credentials) holds in
    let inner = and_parts (armed.context == fabric) (saves_identity fabrics fabric armed.saved_credentials) outer.1 in
    ap Some (eqb-true armed.context fabric inner.0)
updated_read fabrics armed (Some added) (Some fabric) holds = absurd cc

pub failsafe_read : (fabrics : List Fabric) (armed : Armed) → list_all (has_index_up_to FABRICS) fabrics ≡ true → keeps_facts fabrics (Some armed) ≡ true → names_rightly fabrics (Some armed) ≡ true
    → armed_in (tree (failsafe_value armed)) ≡ Some (kept_failsafe armed)
failsafe_read fabrics armed indexes facts names =
    let fact = and_parts (is_added fabrics armed armed.added) (is_updated fabrics armed armed.added armed.updated) facts in
    let name = and_parts (nat_le armed.owner FABRICS) (armed.context == 0 || is_among fabrics armed.context) names in
    let owner = number_read FABRICS armed.owner name.0 in
    let context = number_read FABRICS armed.context (none_or_among FABRICS armed.context fabrics indexes name.1) in
    let added = added_read fabrics armed armed.added fact.0 in
    let updated = updated_read fabrics armed armed.added armed.updated fact.1 in
    let fields : armed_in (tree (failsafe_value armed)) ≡ armed_with (Some armed.owner) (Some armed.context) (Some (is_some armed.added)) (Some (is_some armed.updated)) (Some armed.saved_credentials) (Some armed.saved_networks)
    = λ i. armed_with (owner i) (context i) (Some (is_some armed.added)) (Some (is_some armed.updated)) (saved_read armed.saved_credentials i) (saved_networks_read armed.saved_networks i) in
    fields ∙ (λ i. Some (record (kept_failsafe armed) { added = added i; updated = updated i }))
