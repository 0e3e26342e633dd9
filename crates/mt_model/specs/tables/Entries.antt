-- An access control entry as a value (Matter Core Specification, section 9.10, Access Control Cluster), and
-- the entry that a value is.
use Rattle.std.specs.Prelude.{ℕ, ◌==◌, if◌then◌else◌, List, [], ◌∷◌, Option, Some, None, option_and_then}
use Rattle.mt_tlv.specs.Scalars.{unsigned_in}
use Rattle.mt_tlv.specs.Tree.{Tree, uint, null, structure, array, Elements, none, more}
use Rattle.mt_tlv.specs.declared.value.Tag.TheVariants.{Context}
use Rattle.mt_tlv.specs.declared.value.Value.{Value}
use Rattle.mt_tlv.specs.declared.value.Value.TheVariants as values
use Rattle.mt_model.specs.Trees.{field_in, nullable, untagged}
use Rattle.mt_model.specs.declared.tables.access.AclEntry.{AclEntry}
use Rattle.mt_model.specs.declared.tables.access.Auth.{Auth}
use Rattle.mt_model.specs.declared.tables.access.Auth.TheVariants.{Pase, Case, Group}
use Rattle.mt_model.specs.declared.tables.access.Privilege.{Privilege}
use Rattle.mt_model.specs.declared.tables.access.Privilege.TheVariants.{View, ProxyView, Operate, Manage, Administer}
use Rattle.mt_model.specs.declared.tables.access.Target.{Target}

-- Numbers of privileges and modes, and back.

abbrev pub privilege_number : Privilege → ℕ
privilege_number View = 1
privilege_number ProxyView = 2
privilege_number Operate = 3
privilege_number Manage = 4
privilege_number Administer = 5

abbrev pub mode_number : Auth → ℕ
mode_number Pase = 1
mode_number Case = 2
mode_number Group = 3

abbrev pub privilege_numbered : ℕ → Option Privilege
privilege_numbered n = if n == 1 then Some View
    else if n == 2 then Some ProxyView
    else if n == 3 then Some Operate
    else if n == 4 then Some Manage
    else if n == 5 then Some Administer
    else None

abbrev pub mode_numbered : ℕ → Option Auth
mode_numbered n = if n == 1 then Some Pase
    else if n == 2 then Some Case
    else if n == 3 then Some Group
    else None

-- An entry as it is written.

-- no subjects are null
abbrev pub subjects_tree : List ℕ → Tree
subjects_tree [] = null
subjects_tree (subject ∷ subjects) = array (untagged uint (subject ∷ subjects))

-- AccessControlTargetStruct: 0 cluster, 1 endpoint, 2 device type
abbrev pub target_tree : Target → Tree
target_tree target = structure (more (Context 0) (nullable target.cluster) (more (Context 1) (nullable target.endpoint) (more (Context 2) (nullable target.device) none)))

-- no targets are null
abbrev pub targets_tree : List Target → Tree
targets_tree [] = null
targets_tree (target ∷ targets) = array (untagged target_tree (target ∷ targets))

-- AccessControlEntryStruct: 1 privilege, 2 mode, 3 subjects, 4 targets, 254 fabric index
abbrev pub entry_value : AclEntry → Value
entry_value entry = values.Struct (more (Context 1) (uint (privilege_number entry.privilege)) (more (Context 2) (uint (mode_number entry.auth)) (more (Context 3) (subjects_tree entry.subjects) (more (Context 4) (targets_tree entry.targets) (more (Context 254) (uint entry.fabric) none)))))

-- The entry that a value is, None where it is none. Fields that are not named are passed over.

-- a number, or null
abbrev pub optional_in : Tree → Option (Option ℕ)
optional_in null = Some None
optional_in (uint n) = Some (Some n)
optional_in tree = None

-- a field that is missing is read as null
abbrev pub optional_field : Option Tree → Option (Option ℕ)
optional_field None = Some None
optional_field (Some tree) = optional_in tree

abbrev pub one_more : {X : Type 0} → Option X → Option (List X) → Option (List X)
one_more (Some x) (Some xs) = Some (x ∷ xs)
one_more _ _ = None

-- what each element of an array is, None where one is none
abbrev pub each_in : {X : Type 0} → (Tree → Option X) → Elements → Option (List X)
each_in of none = Some []
each_in of (more tag v es) = one_more (of v) (each_in of es)

-- null is no elements
abbrev pub list_in : {X : Type 0} → (Tree → Option X) → Tree → Option (List X)
list_in of null = Some []
list_in of (array es) = each_in of es
list_in of tree = None

abbrev pub target_with : Option (Option ℕ) → Option (Option ℕ) → Option (Option ℕ) → Option Target
target_with (Some cluster) (Some endpoint) (Some device) = Some (record { cluster = cluster; endpoint = endpoint; device = device })
target_with _ _ _ = None

abbrev pub target_in : Tree → Option Target
target_in (structure es) = target_with (optional_field (field_in 0 es)) (optional_field (field_in 1 es)) (optional_field (field_in 2 es))
target_in tree = None

abbrev pub entry_with : Option Privilege → Option Auth → Option (List ℕ) → Option (List Target) → Option ℕ → Option AclEntry
entry_with (Some privilege) (Some auth) (Some subjects) (Some targets) (Some fabric) = Some (record { privilege = privilege; auth = auth; subjects = subjects; targets = targets; fabric = fabric })
entry_with _ _ _ _ _ = None

-- the entry of this fabric that fields are, whose targets are read so: 1 privilege, 2 mode, 3 subjects, 4 targets
abbrev pub entry_of : (Tree → Option Target) → Option ℕ → Elements → Option AclEntry
entry_of target fabric es = entry_with
    (option_and_then privilege_numbered (option_and_then unsigned_in (field_in 1 es)))
    (option_and_then mode_numbered (option_and_then unsigned_in (field_in 2 es)))
    (option_and_then (list_in unsigned_in) (field_in 3 es))
    (option_and_then (list_in target) (field_in 4 es))
    fabric

-- 254 fabric index
abbrev pub entry_in : Value → Option AclEntry
entry_in (values.Struct es) = entry_of target_in (option_and_then unsigned_in (field_in 254 es)) es
entry_in value = None
