-- Reading a request from its fields, with the first fault: fields that are missing come before fields that are
-- malformed, each by ascending tag, and then the number of paths or items.
use Rattle.std.specs.Prelude.{◌≡◌, ◌≢◌, ℕ, ◌+◌, ◌==◌, nat_le, List, [], ◌∷◌, length, Option, Some, None, is_some, Result, Ok, Err, if◌then◌else◌}
use Rattle.mt_tlv.specs.Scalars.{truth_in, unsigned_in}
use Rattle.mt_tlv.specs.declared.fault.TlvFault.{TlvFault}
use Rattle.mt_tlv.specs.declared.value.Tag.{Tag}
use Rattle.mt_tlv.specs.Limits.{is_anonymous}
use Rattle.mt_tlv.specs.Reading.{element_at}
use Rattle.mt_tlv.specs.Tree.{Tree, Elements}
use Rattle.mt_model.specs.declared.limits.TheConstants.{PATHS, WRITE_ITEMS}
use Rattle.mt_model.specs.declared.messages.message.Request.{Request}
use Rattle.mt_model.specs.declared.messages.message.Request.TheVariants as requests
use Rattle.mt_model.specs.declared.messages.opcode.TheConstants.{STATUS_RESPONSE, READ_REQUEST, SUBSCRIBE_REQUEST, WRITE_REQUEST, INVOKE_REQUEST, TIMED_REQUEST}
use Rattle.mt_im.specs.declared.fault.ImFault.{ImFault}
use Rattle.mt_im.specs.declared.fault.ImFault.TheVariants.{Tlv, Missing, Form, Opcode, TooManyPaths, Memory}
use Rattle.mt_im.specs.declared.messages.Kind.{Kind}
use Rattle.mt_im.specs.declared.messages.Kind.TheVariants as kinds
use Rattle.mt_im.specs.declared.messages.Selection.{Selection}
use Rattle.mt_im.specs.Fields.{greatest}
use Rattle.mt_im.specs.Blocks.{number_in, required_at, optional_truth_at, not_true, blocks_in, optional_blocks_at, attribute_path_in, event_path_in, event_filter_in, version_filter_in, write_item_in, command_in}
use Rattle.mt_model.specs.Trees.{field_in, structure_in}

infixl 10 ◌>>=◌
abbrev pub ◌>>=◌ : {A B : Type 0} → Result A ImFault → (A → Result B ImFault) → Result B ImFault
(Ok x) >>= f = f x
(Err e) >>= f = Err e

-- What a function returned is what reading gives, unless memory ran out.
abbrev pub Gives : {X Y : Type 0} → (X → Y) → Result X ImFault → Result Y ImFault → Type 0
Gives view (Ok x) read = read ≡ Ok (view x)
Gives view (Err e) read = e ≢ Memory → read ≡ Err e

-- what is wrong inside a field is its form
abbrev pub form : {A : Type 0} → ℕ → Option A → Result A ImFault
form n None = Err (Form n)
form n (Some x) = Ok x

-- the first of these fields that is missing
unfoldable pub require : List ℕ → Elements → Result (Unit {0}) ImFault
require [] es = Ok tt
require (n ∷ ns) es = if is_some (field_in n es) then require ns es else Err (Missing n)

-- a field that is there
abbrev pub field_at : {X : Type 0} → (Tree → Option X) → ℕ → Elements → Result X ImFault
field_at read n es = form n (required_at read n es)

-- the revision, any unsigned number
abbrev pub revision_at : Elements → Result ℕ ImFault
revision_at es = field_at unsigned_in 255 es

-- at most so many paths or items
abbrev pub within : ℕ → ℕ → Request → Result Request ImFault
within count most request = if nat_le count most then Ok request else Err TooManyPaths

-- an array of blocks that may be missing
abbrev pub blocks_at : {X : Type 0} → (Tree → Option X) → ℕ → Elements → Result (List X) ImFault
blocks_at read n es = form n (optional_blocks_at read n es)

-- the greatest of the minimums that were read
abbrev pub minimum_of : Result (List ℕ) ImFault → Result ℕ ImFault
minimum_of minimums = minimums >>= λ ns. Ok (greatest ns)

-- the greatest minimum of the event filters
abbrev pub minimum_at : ℕ → Elements → Result ℕ ImFault
minimum_at n es = minimum_of (blocks_at event_filter_in n es)

-- what is asked for: the paths are three fields from the first on, and the versions come after `filtered`
unfoldable pub selection_at : ℕ → ℕ → Elements → Result Selection ImFault
selection_at first filtered_tag es =
    blocks_at attribute_path_in first es >>= λ paths.
    blocks_at event_path_in (first + 1) es >>= λ events.
    minimum_at (first + 2) es >>= λ minimum.
    field_at truth_in filtered_tag es >>= λ filtered.
    blocks_at version_filter_in (filtered_tag + 1) es >>= λ versions.
    Ok (record { paths = paths; events = events; minimum = minimum; filtered = filtered; versions = versions })

-- StatusResponse
unfoldable pub status_at : Elements → Result Request ImFault
status_at es =
    require (0 ∷ 255 ∷ []) es >>= λ _.
    field_at (number_in 8) 0 es >>= λ code.
    revision_at es >>= λ _.
    Ok (requests.Status code)

-- ReadRequest
unfoldable pub read_at : Elements → Result Request ImFault
read_at es =
    require (3 ∷ 255 ∷ []) es >>= λ _.
    selection_at 0 3 es >>= λ s.
    revision_at es >>= λ _.
    within (length s.paths + length s.events) PATHS (requests.Read s.paths s.events s.minimum s.filtered s.versions)

-- SubscribeRequest
unfoldable pub subscribe_at : Elements → Result Request ImFault
subscribe_at es =
    require (0 ∷ 1 ∷ 2 ∷ 7 ∷ 255 ∷ []) es >>= λ _.
    field_at truth_in 0 es >>= λ keep.
    field_at (number_in 16) 1 es >>= λ floor.
    field_at (number_in 16) 2 es >>= λ ceiling.
    selection_at 3 7 es >>= λ s.
    revision_at es >>= λ _.
    within (length s.paths + length s.events) PATHS (requests.Subscribe keep floor ceiling s.paths s.events s.minimum s.filtered s.versions)

-- WriteRequest
unfoldable pub write_at : Elements → Result Request ImFault
write_at es =
    require (1 ∷ 2 ∷ 255 ∷ []) es >>= λ _.
    form 0 (optional_truth_at 0 es) >>= λ suppress.
    field_at truth_in 1 es >>= λ timed.
    field_at (blocks_in write_item_in) 2 es >>= λ items.
    form 3 (not_true (optional_truth_at 3 es)) >>= λ _.
    revision_at es >>= λ _.
    within (length items) WRITE_ITEMS (requests.Write suppress timed items)

-- InvokeRequest
unfoldable pub invoke_at : Elements → Result Request ImFault
invoke_at es =
    require (0 ∷ 1 ∷ 2 ∷ 255 ∷ []) es >>= λ _.
    field_at truth_in 0 es >>= λ suppress.
    field_at truth_in 1 es >>= λ timed.
    field_at command_in 2 es >>= λ command.
    revision_at es >>= λ _.
    Ok (requests.Invoke suppress timed command.0 command.1)

-- TimedRequest
unfoldable pub timed_at : Elements → Result Request ImFault
timed_at es =
    require (0 ∷ 255 ∷ []) es >>= λ _.
    field_at (number_in 16) 0 es >>= λ ms.
    revision_at es >>= λ _.
    Ok (requests.Timed ms)

-- the kind of request that an opcode announces
unfoldable pub kind_of : ℕ → Result Kind ImFault
kind_of opcode =
    if opcode == STATUS_RESPONSE then Ok kinds.Status
    else if opcode == READ_REQUEST then Ok kinds.Read
    else if opcode == SUBSCRIBE_REQUEST then Ok kinds.Subscribe
    else if opcode == WRITE_REQUEST then Ok kinds.Write
    else if opcode == INVOKE_REQUEST then Ok kinds.Invoke
    else if opcode == TIMED_REQUEST then Ok kinds.Timed
    else Err Opcode

-- the request of this kind that stands in the fields
abbrev pub fields_at : Kind → Elements → Result Request ImFault
fields_at kinds.Status es = status_at es
fields_at kinds.Read es = read_at es
fields_at kinds.Subscribe es = subscribe_at es
fields_at kinds.Write es = write_at es
fields_at kinds.Invoke es = invoke_at es
fields_at kinds.Timed es = timed_at es

-- the request that a tree spells under this opcode, or the first fault
unfoldable pub request_at : ℕ → Tree → Result Request ImFault
request_at opcode v = kind_of opcode >>= λ kind. form 255 (structure_in v) >>= fields_at kind

-- the first element
abbrev pub message_in : Result ((Tag × Tree) × List ℕ) TlvFault → Result Elements ImFault
message_in (Err fault) = Err (Tlv fault)
message_in (Ok x) = if is_anonymous x.0.0 then form 255 (structure_in x.0.1) else Err (Form 255)

-- the request that stands in front of the bytes, whatever follows it, or the first fault
abbrev pub request_in : ℕ → List ℕ → Result Request ImFault
request_in opcode bytes = kind_of opcode >>= λ kind. message_in (element_at bytes) >>= fields_at kind
