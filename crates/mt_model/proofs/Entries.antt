-- An entry's value is read as the entry.
use Rattle.std.proofs.Common.{◌≡◌, ℕ, List, [], ◌∷◌, Option, Some, None, refl, ap}
use Rattle.mt_tlv.specs.Scalars.{unsigned_in}
use Rattle.mt_tlv.specs.Tree.{uint}
use Rattle.mt_model.specs.tables.Entries.{each_in, entry_in, entry_value, entry_with, list_in, mode_number, mode_numbered, one_more, optional_in, privilege_number, privilege_numbered, subjects_tree, target_in, target_tree, target_with, targets_tree}
use Rattle.mt_model.specs.Trees.{nullable, untagged}
use Rattle.mt_model.specs.declared.tables.access.AclEntry.{AclEntry}
use Rattle.mt_model.specs.declared.tables.access.Auth.{Auth}
use Rattle.mt_model.specs.declared.tables.access.Auth.TheVariants.{Pase, Case, Group}
use Rattle.mt_model.specs.declared.tables.access.Privilege.{Privilege}
use Rattle.mt_model.specs.declared.tables.access.Privilege.TheVariants.{View, ProxyView, Operate, Manage, Administer}
use Rattle.mt_model.specs.declared.tables.access.Target.{Target}

privilege_again : (p : Privilege) → privilege_numbered (privilege_number p) ≡ Some p
privilege_again View = refl
privilege_again ProxyView = refl
privilege_again Operate = refl
privilege_again Manage = refl
privilege_again Administer = refl

mode_again : (m : Auth) → mode_numbered (mode_number m) ≡ Some m
mode_again Pase = refl
mode_again Case = refl
mode_again Group = refl

numbers_again : (ns : List ℕ) → each_in unsigned_in (untagged uint ns) ≡ Some ns
numbers_again [] = refl
numbers_again (n ∷ ns) = ap (one_more (Some n)) (numbers_again ns)

subjects_again : (ns : List ℕ) → list_in unsigned_in (subjects_tree ns) ≡ Some ns
subjects_again [] = refl
subjects_again (n ∷ ns) = numbers_again (n ∷ ns)

optional_again : (o : Option ℕ) → optional_in (nullable o) ≡ Some o
optional_again None = refl
optional_again (Some n) = refl

target_again : (t : Target) → target_in (target_tree t) ≡ Some t
target_again t = λ i. target_with (optional_again t.cluster i) (optional_again t.endpoint i) (optional_again t.device i)

each_target : (ts : List Target) → each_in target_in (untagged target_tree ts) ≡ Some ts
each_target [] = refl
each_target (t ∷ ts) = λ i. one_more (target_again t i) (each_target ts i)

targets_again : (ts : List Target) → list_in target_in (targets_tree ts) ≡ Some ts
targets_again [] = refl
targets_again (t ∷ ts) = each_target (t ∷ ts)

pub read_again : (entry : AclEntry) → entry_in (entry_value entry) ≡ Some entry
read_again entry = λ i. entry_with (privilege_again entry.privilege i) (mode_again entry.auth i) (subjects_again entry.subjects i) (targets_again entry.targets i) (Some entry.fabric)
