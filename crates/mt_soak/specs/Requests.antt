-- What is asked: of each turn the request, by the number of its event.
use Rattle.std.specs.Prelude.{ℕ, Bool, true, false, [], ◌∷◌, ◌++◌, Some, None, codes}
use Rattle.std.specs.Fmt.{decimal}
use Rattle.std.specs.Int.{w64, to_be_bytes}
use Rattle.mt_tlv.specs.Tree.{text, octets, structure, none, more}
use Rattle.mt_tlv.specs.declared.value.Tag.TheVariants.{Anonymous, Context}
use Rattle.mt_tlv.specs.declared.value.Value.{Value}
use Rattle.mt_tlv.specs.declared.value.Value.TheVariants as values
use Rattle.mt_model.specs.declared.messages.message.Index.TheVariants.{Whole}
use Rattle.mt_model.specs.declared.messages.message.Path.{Path}
use Rattle.mt_model.specs.declared.messages.message.Request.{Request}
use Rattle.mt_model.specs.declared.messages.message.Request.TheVariants as requests
use Rattle.mt_model.specs.declared.rows.place.Place.{Place}

-- an attribute as a whole
abbrev pub attribute : ℕ → ℕ → ℕ → Path
attribute endpoint cluster leaf = record { endpoint = Some endpoint; cluster = Some cluster; leaf = Some leaf; index = Whole }

-- OnOff of the cluster On/Off on endpoint 1
abbrev pub on_off : Path
on_off = attribute 1 0x6 0

-- NodeLabel of Basic Information
abbrev pub node_label : Path
node_label = attribute 0 0x28 5

-- the list of the cluster Bench
abbrev pub bench_list : Path
bench_list = attribute 1 0xfff1fc00 0

-- the access control list
abbrev pub access_list : Path
access_list = attribute 0 0x1f 0

-- all attributes of endpoint 1
abbrev pub endpoint_one : Path
endpoint_one = record { endpoint = Some 1; cluster = None; leaf = None; index = Whole }

-- Toggle of On/Off on endpoint 1
abbrev pub toggle : Place
toggle = record { endpoint = 1; cluster = 0x6; leaf = 2 }

-- the label that the event of this number writes: `n` and the number
unfoldable pub label : ℕ → Value
label i = values.Text (codes "n" ++ decimal i)

-- the list that it writes, of one item: 1 the name, 2 the secret, which is the number in 8 bytes, the highest first
unfoldable pub bench_items : ℕ → Value
bench_items i = values.Array (more Anonymous (structure (more (Context 1) (text (codes "k")) (more (Context 2) (octets (to_be_bytes w64 i)) none))) none)

-- a read of one path, without events
abbrev pub read_of : Path → Bool → Request
read_of path filtered = requests.Read (path ∷ []) [] 0 filtered []

-- a write of one attribute, whatever its version is
abbrev pub write_of : Path → Value → Request
write_of path value = requests.Write false false (record { path = path; version = None; value = value } ∷ [])

-- Toggle has no fields
abbrev pub toggle_request : Request
toggle_request = requests.Invoke false false toggle (values.Struct none)

-- a subscription to one path, beside those that stand: at once, and at the latest after 60 seconds
abbrev pub subscription_to : Path → Request
subscription_to path = requests.Subscribe true 0 60 (path ∷ []) [] 0 true []
