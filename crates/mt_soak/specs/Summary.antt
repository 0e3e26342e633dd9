-- What a run came to: how much was sent, which statuses it told of, and the digest of its text.
use Rattle.std.specs.Prelude.{◌≡◌, ℕ, ◌<◌, ◌==◌, min, List, [], ◌∷◌, ◌++◌, length, Result, Ok, Err, codes, slice_index, if◌then◌else◌}
use Rattle.std.specs.Fmt.{decimal}
use Rattle.std.specs.List.{flat_map, range_with_len}
use Rattle.hex.specs.Hex.{encode_lower}
use Rattle.sha2.specs.Hashers.{Holds256}
use Rattle.sha2.specs.Sha256.{sha256}
use Rattle.mt_tlv.specs.declared.fault.TlvFault.{TlvFault}
use Rattle.mt_tlv.specs.declared.value.Tag.{Tag}
use Rattle.mt_tlv.specs.Tree.{Tree}
use Rattle.mt_tlv.specs.Reading.{element_at}
use Rattle.mt_model.specs.declared.texts.recording.Sent.{Sent}
use Rattle.mt_model.specs.declared.texts.recording.To.{To}
use Rattle.mt_model.specs.declared.texts.recording.To.TheVariants.{Plain, Session}
use Rattle.mt_soak.specs.Codes.{codes_of, most, occurrences}
use Rattle.mt_files.specs.Lines.{text_of}
use Rattle.mt_files.specs.Output.{output_text}
use Rattle.mt_soak.specs.declared.tally.Tally.{Tally}

-- STATUSES

-- the status codes of the element in front, if one is there
abbrev pub codes_read : ℕ → Result ((Tag × Tree) × List ℕ) TlvFault → List ℕ
codes_read opcode (Ok read) = codes_of opcode read.0.1
codes_read opcode (Err fault) = []

-- the status codes of a payload, whatever its bytes are
abbrev pub codes_in : ℕ → List ℕ → List ℕ
codes_in opcode payload = codes_read opcode (element_at payload)

-- a datagram is sealed, and tells of none
abbrev pub codes_to : To → List ℕ → List ℕ
codes_to (Plain fabric opcode) payload = codes_in opcode payload
codes_to (Session session peer) bytes = []

abbrev pub message_codes : Sent → List ℕ
message_codes message = codes_to message.to message.bytes

-- the status codes of messages, in their order
abbrev pub codes_sent : List Sent → List ℕ
codes_sent messages = flat_map message_codes messages

-- COUNTS

-- what a count of so many is; it stays at the end of its type
abbrev pub counted : ℕ → ℕ
counted n = min n most

-- The counts, by the code, are those of these status codes.
abbrev pub AreCountsOf : List ℕ → List ℕ → Type 0
AreCountsOf statuses counts = (code : ℕ) → code < 256 → slice_index counts code ≡ counted (occurrences code statuses)

-- THE SUMMARY

-- `status HH N`: how often a code occurs
abbrev pub status_line : ℕ → ℕ → List ℕ
status_line code count = codes "status " ++ (encode_lower (code ∷ []) ++ (codes " " ++ decimal count))

-- no line where it does not
abbrev pub line_where_counted : ℕ → ℕ → List (List ℕ)
line_where_counted code count = if count == 0 then [] else status_line code count ∷ []

abbrev pub lines_of_code : List ℕ → ℕ → List (List ℕ)
lines_of_code statuses code = line_where_counted code (counted (occurrences code statuses))

-- every code of a byte, ascending
unfoldable pub all_codes : List ℕ
all_codes = range_with_len 0 256

abbrev pub status_lines : List ℕ → List (List ℕ)
status_lines statuses = flat_map (lines_of_code statuses) all_codes

-- `events N`
abbrev pub events_line : ℕ → List ℕ
events_line events = codes "events " ++ decimal events

-- `sent N`: how many messages were sent
abbrev pub sent_line : ℕ → List ℕ
sent_line sent = codes "sent " ++ decimal (counted sent)

-- `sha256 D`: the digest of a text
abbrev pub digest_line : List ℕ → List ℕ
digest_line text = codes "sha256 " ++ encode_lower (sha256 text)

-- the lines that tell of so many events and of the messages that were sent for them
abbrev pub summary_lines : ℕ → List Sent → List (List ℕ)
summary_lines events messages =
    events_line events
    ∷ sent_line (length messages)
    ∷ (status_lines (codes_sent messages) ++ digest_line (output_text messages) ∷ [])

abbrev pub summary_text : ℕ → List Sent → List ℕ
summary_text events messages = text_of (summary_lines events messages)

-- The tally is that of these messages.
pub record IsTallyOf (tally : Tally) (messages : List Sent) : Type 0 where
  pub text : Holds256 tally.hasher (output_text messages)
  pub sent : tally.sent ≡ counted (length messages)
  pub counts : AreCountsOf (codes_sent messages) tally.counts
