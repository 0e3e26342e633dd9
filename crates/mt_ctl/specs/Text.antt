-- The lines of what is shown.
use Rattle.std.specs.Prelude.{ℕ, ◌==◌, ◌&&◌, Bool, List, [], ◌∷◌, map, Option, Some, None, is_none, if◌then◌else◌, codes}
use Rattle.std.specs.Fmt.{decimal}
use Rattle.hex.specs.Hex.{encode_lower}
use Rattle.mt_files.specs.Field.{payload_text}
use Rattle.mt_files.specs.Lines.{line_of, text_of}
use Rattle.mt_frame.specs.declared.header.ProtocolHeader.{ProtocolHeader}
use Rattle.mt_ctl.specs.declared.showing.Shown.{Shown}
use Rattle.mt_ctl.specs.declared.showing.Shown.TheVariants.{Opened, Closed}

-- who began the exchange of a message that the node sent: the node where its message has the I flag
abbrev pub side_text : ProtocolHeader → List ℕ
side_text header = if header.initiator then codes "node" else codes "ours"

-- whether the message acknowledges and says nothing else: opcode 16 of the secure channel, protocol 0 of the standard
abbrev pub is_standalone : ProtocolHeader → Bool
is_standalone header = is_none header.vendor && (header.protocol == 0) && (header.opcode == 16)

abbrev pub opcode_text : ProtocolHeader → List ℕ
opcode_text header = if is_standalone header then codes "ack" else encode_lower (header.opcode ∷ [])

-- a counter that is acknowledged, or `-` where none is
abbrev pub ack_text : Option ℕ → List ℕ
ack_text None = codes "-"
ack_text (Some counter) = decimal counter

-- the word of a kind, of which there are six
abbrev pub kind_text : ℕ → List ℕ
kind_text kind =
    if kind == 1 then codes "frame"
    else if kind == 2 then codes "other"
    else if kind == 3 then codes "sealed"
    else if kind == 4 then codes "duplicate"
    else if kind == 5 then codes "old"
    else codes "source"

-- `V ms exchange side opcode ack payload`: a message that was opened; `N ms kind`: a datagram that was not
abbrev pub shown_fields : Shown → List (List ℕ)
shown_fields (Opened ms header payload) =
    codes "V" ∷ decimal ms ∷ decimal header.exchange ∷ side_text header ∷ opcode_text header ∷ ack_text header.acknowledged ∷ payload_text payload ∷ []
shown_fields (Closed ms kind) = codes "N" ∷ decimal ms ∷ kind_text kind ∷ []

-- the line of an item, without its end
abbrev pub shown_line : Shown → List ℕ
shown_line item = line_of (shown_fields item)

-- a line for each item
abbrev pub shown_text : List Shown → List ℕ
shown_text items = text_of (map shown_line items)
