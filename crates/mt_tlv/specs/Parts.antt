-- The parts of an element, one after the other, and the place of a cursor among them.
use Rattle.std.specs.Prelude.{◌≡◌, ℕ, ◌<◌, Bool, true, false, List, [], ◌∷◌, length, Option, Some, None, option_map, is_none, ◌&&◌, Result, Ok, Err, nat_lt, if◌then◌else◌}
use Rattle.mt_tlv.specs.declared.value.Tag.{Tag}
use Rattle.mt_tlv.specs.declared.fault.TlvFault.{TlvFault}
use Rattle.mt_tlv.specs.declared.fault.TlvFault.TheVariants.{TooDeep, TagForm}
use Rattle.mt_tlv.specs.declared.reading.Kind.{Kind}
use Rattle.mt_tlv.specs.declared.reading.Kind.TheVariants as kinds
use Rattle.mt_tlv.specs.declared.cursor.Part.{Part}
use Rattle.mt_tlv.specs.declared.cursor.Part.TheVariants as parts
use Rattle.mt_tlv.specs.Tree.{Tree}
use Rattle.mt_tlv.specs.View.{tree}
use Rattle.mt_tlv.specs.Limits.{deepest, is_anonymous}
use Rattle.mt_tlv.specs.Reading.{◌>>=◌, Reads, head_at, is_end, piece_at, is_scalar_type, scalar_at, text_at, string_at, kind_of}

-- a part: an element that is no container, the front of a container by its element type, or its end
pub data Piece : Type 0 where
  scalar : Tag → Tree → Piece
  text : Tag → List ℕ → Piece
  octets : Tag → List ℕ → Piece
  enter : Tag → ℕ → Piece
  leave : Piece

-- where a cursor is: the length of all bytes, those in front of it, the kinds of the open containers with the
-- innermost first, whether a part was read, and the fault that it met
pub record Place : Type 0 where
  pub whole : ℕ
  pub rest : List ℕ
  pub open_kinds : List Kind
  pub begun : Bool
  pub fault : Option TlvFault

-- whether a tag may stand in the innermost container; no other tags are known
abbrev pub fits : Option Kind → Tag → Result (Unit {0}) TlvFault
fits None tag = Ok tt
fits (Some kinds.Struct) tag = if is_anonymous tag then Err TagForm else Ok tt
fits (Some kinds.Array) tag = if is_anonymous tag then Ok tt else Err TagForm
fits (Some kinds.List) tag = Ok tt

abbrev pub enter_at : ℕ → ℕ → ℕ → Tag → Reads Piece
enter_at whole depth type tag bytes = if nat_lt depth deepest then (piece_at whole 0 bytes >>= λ x. Ok (enter tag type, x.1)) else Err TooDeep

-- the part behind a tag, where this many containers are open
unfoldable pub part_at : ℕ → ℕ → ℕ → Tag → Reads Piece
part_at whole depth type tag bytes =
    if is_scalar_type type then (scalar_at whole type bytes >>= λ x. Ok (scalar tag x.0, x.1))
    else if nat_lt type 16 then (text_at whole type bytes >>= λ x. Ok (text tag x.0, x.1))
    else if nat_lt type 20 then (string_at whole type bytes >>= λ x. Ok (octets tag x.0, x.1))
    else enter_at whole depth type tag bytes

abbrev pub ends : Option Kind → List ℕ → Bool
ends None bytes = false
ends (Some kind) bytes = is_end bytes

-- the next part of an element that has not ended
unfoldable pub piece_in : ℕ → Option Kind → ℕ → Reads Piece
piece_in whole innermost depth bytes =
    if ends innermost bytes then (piece_at whole 1 bytes >>= λ x. Ok (leave, x.1))
    else (head_at bytes >>= λ h. fits innermost h.0.1 >>= λ _. part_at whole depth h.0.0 h.0.1 h.1)

abbrev pub innermost : List Kind → Option Kind
innermost [] = None
innermost (kind ∷ kinds) = Some kind

-- the open containers behind a part
abbrev pub kinds_after : Piece → List Kind → List Kind
kinds_after (scalar tag v) kinds = kinds
kinds_after (text tag s) kinds = kinds
kinds_after (octets tag s) kinds = kinds
kinds_after (enter tag type) kinds = kind_of type ∷ kinds
kinds_after leave [] = []
kinds_after leave (kind ∷ kinds) = kinds

abbrev pub moved : Place → Result (Piece × List ℕ) TlvFault → Result (Option Piece × Place) TlvFault
moved p (Err f) = Err f
moved p (Ok x) = Ok (Some x.0, record { whole = p.whole; rest = x.1; open_kinds = kinds_after x.0 p.open_kinds; begun = true; fault = None })

abbrev pub unless_fault : Option TlvFault → Result (Option Piece × Place) TlvFault → Result (Option Piece × Place) TlvFault
unless_fault (Some f) r = Err f
unless_fault None r = r

-- the next part and the place behind it; no part where the element has ended, and the fault again behind one
unfoldable pub next_at : Place → Result (Option Piece × Place) TlvFault
next_at p = unless_fault p.fault (if p.begun && is_none (innermost p.open_kinds) then Ok (None, p) else moved p (piece_in p.whole (innermost p.open_kinds) (length p.open_kinds) p.rest))

-- in front of the first part of these bytes
abbrev pub start : List ℕ → Place
start bytes = record { whole = length bytes; rest = bytes; open_kinds = []; begun = false; fault = None }

-- a part as the code has it
abbrev pub piece : Part → Piece
piece (parts.Scalar tag v) = scalar tag (tree v)
piece (parts.Text tag s) = text tag s.now
piece (parts.Octets tag s) = octets tag s.now
piece (parts.Enter tag type) = enter tag type
piece parts.Leave = leave

-- A part that can be stepped behind, where this many containers are open.
abbrev pub CanStep : Piece → ℕ → Type 0
CanStep (scalar tag v) depth = Unit {0}
CanStep (text tag s) depth = Unit {0}
CanStep (octets tag s) depth = Unit {0}
CanStep (enter tag type) depth = depth < deepest
CanStep leave depth = 0 < depth

-- What a step of a cursor answers and leaves.
abbrev pub GivesNext : Result (Option Part) TlvFault → Place → Place → Type 0
GivesNext (Ok o) old new = next_at old ≡ Ok (option_map piece o, new)
GivesNext (Err f) old new = (next_at old ≡ Err f) × (new ≡ record { whole = old.whole; rest = old.rest; open_kinds = old.open_kinds; begun = old.begun; fault = Some f })
