-- The configuration: a JSON object with six lists, each of which may be missing. Fields that are not
-- named are passed over.
use Rattle.std.specs.Prelude.{◌≡◌, ℕ, nat_lt, if◌then◌else◌, List, length, codes, Option, Some, None, Result, Ok, Err, is_some, option_and_then}
use Rattle.std.specs.Str.{is_utf8}
use Rattle.serde_json.specs.Data.{Data}
use Rattle.serde_json.specs.Find.{as_object}
use Rattle.serde_json.specs.Read as json
use Rattle.mt_model.specs.texts.Contents.{Contents, contents_of}
use Rattle.mt_model.specs.declared.texts.config.Config.{Config}
use Rattle.mt_model.specs.declared.limits.TheConstants.{CONFIGURATION_BYTES}
use Rattle.mt_config.specs.Lists.{fabrics, sessions, roots, csrs, joins, reachable}
use Rattle.mt_config.specs.declared.configuration.ConfigFault.{ConfigFault}
use Rattle.mt_config.specs.declared.configuration.ConfigFault.TheVariants as faults
use Rattle.mt_config.specs.declared.configuration.ConfigField.{ConfigField}
use Rattle.mt_config.specs.declared.configuration.ConfigField.TheVariants.{Size, Json, Fabrics, Sessions, Roots, Csrs, Joins, Reachable}

infixl 10 ◌>>=◌
abbrev pub ◌>>=◌ : {A B : Type 0} → Result A ConfigField → (A → Result B ConfigField) → Result B ConfigField
(Ok x) >>= f = f x
(Err e) >>= f = Err e

-- the list, or that it is not as it must be
abbrev pub in_field : {X : Type 0} → ConfigField → Option X → Result X ConfigField
in_field place (Some x) = Ok x
in_field place None = Err place

abbrev pub if_object : Data → Option Data
if_object d = if is_some (as_object d) then Some d else None

-- the object that the bytes are as JSON, nested at most 127 deep
unfoldable pub object : List ℕ → Option Data
object bytes = if is_utf8 bytes then option_and_then if_object (json.read bytes) else None

unfoldable pub contents : Data → Result Contents ConfigField
contents d = do
  table ← in_field Fabrics (fabrics d)
  sessions ← in_field Sessions (sessions d)
  roots ← in_field Roots (roots d)
  csrs ← in_field Csrs (csrs d)
  joins ← in_field Joins (joins d)
  reachable ← in_field Reachable (reachable d)
  Ok (record { fabrics = table.fabrics; entries = table.entries; sessions = sessions; roots = roots; csrs = csrs; joins = joins; reachable = reachable })

-- What a configuration's bytes have, or the first field that is not as it must be.
unfoldable pub configuration : List ℕ → Result Contents ConfigField
configuration bytes = if nat_lt CONFIGURATION_BYTES (length bytes) then Err Size else (do
  d ← in_field Json (object bytes)
  contents d)

-- the bytes are a text of this configuration
abbrev pub IsConfiguration : List ℕ → Config → Type 0
IsConfiguration bytes config = configuration bytes ≡ Ok (contents_of config)

-- the fault names the field that reading answers; nothing is said where memory was wanting
abbrev pub IsFaultOf : Result Contents ConfigField → ConfigFault → Type 0
IsFaultOf read (faults.Field place) = read ≡ Err place
IsFaultOf read faults.Memory = Unit {0}

-- the fault names the first field of these bytes that is not as it must be
abbrev pub IsFirstFault : List ℕ → ConfigFault → Type 0
IsFirstFault bytes fault = IsFaultOf (configuration bytes) fault

-- what was read is the same configuration; nothing is said where memory was wanting
abbrev pub IsReadAs : Config → Result Config ConfigFault → Type 0
IsReadAs wanted (Ok read) = contents_of read ≡ contents_of wanted
IsReadAs wanted (Err fault) = fault ≡ faults.Memory

-- how a field is called
abbrev pub name_of : ConfigField → List ℕ
name_of Size = codes "size"
name_of Json = codes "json"
name_of Fabrics = codes "fabrics"
name_of Sessions = codes "sessions"
name_of Roots = codes "roots"
name_of Csrs = codes "csrs"
name_of Joins = codes "joins"
name_of Reachable = codes "reachable"
