-- How much a request may ask for, and which requests can be encoded.
use Rattle.std.specs.Prelude.{◌≡◌, ℕ, ◌+◌, ◌^◌, ◌<◌, ◌≤◌, List, length, take, IfSome, All, ⊤}
use Rattle.mt_tlv.specs.declared.value.Tag.TheVariants.{Anonymous}
use Rattle.mt_tlv.specs.Tree.{Tree}
use Rattle.mt_tlv.specs.View.{tree}
use Rattle.mt_tlv.specs.Narrow.{narrow}
use Rattle.mt_tlv.specs.Limits.{IsAllowed, IsElement, longest}
use Rattle.mt_model.specs.declared.limits.TheConstants.{PATHS, WRITE_ITEMS}
use Rattle.mt_model.specs.declared.messages.message.Index.{Index}
use Rattle.mt_model.specs.declared.messages.message.Index.TheVariants.{Whole, Append, At}
use Rattle.mt_model.specs.declared.messages.message.Path.{Path}
use Rattle.mt_model.specs.declared.messages.message.Request.{Request}
use Rattle.mt_model.specs.declared.messages.message.Request.TheVariants as requests
use Rattle.mt_model.specs.declared.messages.message.WriteItem.{WriteItem}
use Rattle.mt_model.specs.declared.rows.place.Place.{Place}
use Rattle.mt_model.specs.declared.node.state.Version.{Version}
use Rattle.mt_im.specs.Requests.{request_tree}
use Rattle.mt_im.specs.Spelling.{IsConcrete, RequestSpells}

-- There are at most 16 attribute and event paths together, and at most 16 write items.
abbrev pub IsWithinLimits : Request → Type 0
IsWithinLimits (requests.Status code) = ⊤
IsWithinLimits (requests.Read paths events minimum filtered versions) = length paths + length events ≤ PATHS
IsWithinLimits (requests.Subscribe keep floor ceiling paths events minimum filtered versions) = length paths + length events ≤ PATHS
IsWithinLimits (requests.Write suppress timed items) = length items ≤ WRITE_ITEMS
IsWithinLimits (requests.Invoke suppress timed command fields) = ⊤
IsWithinLimits (requests.Timed ms) = ⊤

-- IsRequestIn opcode request bytes: an element in front of the bytes spells the request, within all limits.
pub record IsRequestIn (opcode : ℕ) (request : Request) (bytes : List ℕ) : Type 0 where
  pub len : ℕ
  pub tree_in_front : Tree
  pub whole : len ≤ length bytes
  pub element : IsElement Anonymous tree_in_front (take len bytes)
  pub spelled : RequestSpells opcode request tree_in_front
  pub within : IsWithinLimits request

-- ---- requests that can be encoded: their numbers fit their fields, and their values fit in beside what is
-- ---- written round them

abbrev pub IsIndex : Index → Type 0
IsIndex Whole = ⊤
IsIndex Append = ⊤
IsIndex (At n) = n < 2 ^ 16

-- A path whose numbers fit.
pub record IsPath (path : Path) : Type 0 where
  pub endpoint : IfSome path.endpoint (λ n. n < 2 ^ 16)
  pub cluster : IfSome path.cluster (λ n. n < 2 ^ 32)
  pub leaf : IfSome path.leaf (λ n. n < 2 ^ 32)
  pub index : IsIndex path.index

-- An event's path has no list index.
pub record IsEventPath (path : Path) : Type 0 where
  pub fits : IsPath path
  pub index : path.index ≡ Whole

pub record IsVersion (known : Version) : Type 0 where
  pub endpoint : known.endpoint < 2 ^ 16
  pub cluster : known.cluster < 2 ^ 32
  pub version : known.version < 2 ^ 32

-- how many containers may open inside a value of a request, which stands in a structure, an array and the
-- message
abbrev pub room_inside : ℕ
room_inside = 13

pub record IsWriteItem (item : WriteItem) : Type 0 where
  pub fits : IsPath item.path
  pub concrete : IsConcrete item.path
  pub version : IfSome item.version (λ n. n < 2 ^ 32)
  pub value : IsAllowed (tree item.value) room_inside

pub record IsCommand (command : Place) : Type 0 where
  pub endpoint : command.endpoint < 2 ^ 16
  pub cluster : command.cluster < 2 ^ 32
  pub leaf : command.leaf < 2 ^ 32

-- what a read and a subscription ask for
pub record IsSelection (paths events : List Path) (minimum : ℕ) (versions : List Version) : Type 0 where
  pub are_paths : All IsPath paths
  pub are_events : All IsEventPath events
  pub minimum_fits : minimum < 2 ^ 64
  pub are_versions : All IsVersion versions

-- Its numbers and values fit.
abbrev pub Fits : Request → Type 0
Fits (requests.Status code) = code < 2 ^ 8
Fits (requests.Read paths events minimum filtered versions) = IsSelection paths events minimum versions
Fits (requests.Subscribe keep floor ceiling paths events minimum filtered versions) =
    (floor < 2 ^ 16) × (ceiling < 2 ^ 16) × IsSelection paths events minimum versions
Fits (requests.Write suppress timed items) = All IsWriteItem items
Fits (requests.Invoke suppress timed command fields) = IsCommand command × IsAllowed (tree fields) room_inside
Fits (requests.Timed ms) = ms < 2 ^ 16

-- A request that can be encoded.
pub record IsRequest (request : Request) : Type 0 where
  pub fits : Fits request
  pub within : IsWithinLimits request
  pub short : length (narrow Anonymous (request_tree request)) ≤ longest
