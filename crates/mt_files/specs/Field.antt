-- What a single field tells, and how it is written.
use Rattle.std.specs.Prelude.{ℕ, ◌+◌, ◌*◌, ◌-◌, ◌==◌, nat_le, ◌&&◌, List, [], ◌∷◌, ◌++◌, length, take, drop, Option, Some, None, Result, Ok, Err, if◌then◌else◌, codes}
use Rattle.std.specs.Int.{w16, from_be_bytes, to_be_bytes}
use Rattle.std.specs.Option.{option_and_then, option_map}
use Rattle.hex.specs.Hex.{decode_of, decode_sized, encode_lower}
use Rattle.hex.specs.declared.error.FromHexError.{FromHexError}
use Rattle.mt_outside.specs.Fates.{fate_text}
use Rattle.mt_outside.specs.declared.fate.Fate.{Fate}
use Rattle.mt_outside.specs.declared.fate.Fate.TheVariants.{Kept, Lost, Torn}
use Rattle.mt_outside.specs.declared.network.Peer.{Peer}
use Rattle.mt_files.specs.Lines.{text_is}

-- Decimal numbers.

-- the number whose further digits these are
abbrev pub digits_from : ℕ → List ℕ → Option ℕ
digits_from number [] = Some number
digits_from number (digit ∷ digits) = if nat_le 48 digit && nat_le digit 57 then digits_from (number * 10 + (digit - 48)) digits else None

-- decimal digits with no sign and no leading zero
abbrev pub number_of : List ℕ → Option ℕ
number_of [] = None
number_of (digit ∷ []) = digits_from 0 (digit ∷ [])
number_of (digit ∷ second ∷ digits) = if digit == 48 then None else digits_from 0 (digit ∷ second ∷ digits)

abbrev pub up_to : ℕ → Option ℕ → Option ℕ
up_to most found = option_and_then (λ number. if nat_le number most then Some number else None) found

abbrev pub at_least : ℕ → Option ℕ → Option ℕ
at_least least found = option_and_then (λ number. if nat_le least number then Some number else None) found

-- a decimal number of a range
abbrev pub number_between : ℕ → ℕ → List ℕ → Option ℕ
number_between least most text = at_least least (up_to most (number_of text))

-- Bytes in hex.

abbrev pub ok_of : Result (List ℕ) FromHexError → Option (List ℕ)
ok_of (Ok bytes) = Some bytes
ok_of (Err e) = None

-- so many bytes, in two hex digits each
abbrev pub bytes_in : ℕ → List ℕ → Option (List ℕ)
bytes_in size text = ok_of (decode_sized text size)

-- bytes up to a number of them, in two hex digits each, or `-` for no bytes
abbrev pub payload_in : ℕ → List ℕ → Option (List ℕ)
payload_in most text =
    if length text == 0 then None
    else if text_is text (codes "-") then Some []
    else if nat_le (length text) (2 * most) then ok_of (decode_of text)
    else None

abbrev pub payload_text : List ℕ → List ℕ
payload_text [] = codes "-"
payload_text (byte ∷ bytes) = encode_lower (byte ∷ bytes)

abbrev pub first_byte : List ℕ → Option ℕ
first_byte [] = None
first_byte (byte ∷ bytes) = Some byte

abbrev pub opcode_in : List ℕ → Option ℕ
opcode_in text = option_and_then first_byte (bytes_in 1 text)

-- A peer: its address of 16 bytes, then its port.

abbrev pub port_in : List ℕ → Option ℕ
port_in text = option_map (from_be_bytes w16) (bytes_in 2 text)

abbrev pub peer_of : Option (List ℕ) → Option ℕ → Option Peer
peer_of (Some ip) (Some port) = Some (record { ip = ip; port = port })
peer_of _ _ = None

abbrev pub peer_in : List ℕ → Option Peer
peer_in text = if length text == 36 then peer_of (bytes_in 16 (take 32 text)) (port_in (drop 32 text)) else None

abbrev pub peer_text : Peer → List ℕ
peer_text peer = encode_lower peer.ip ++ encode_lower (to_be_bytes w16 peer.port)

-- The fate of a disk that stops.

abbrev pub fate_in : List ℕ → Option Fate
fate_in text =
    if text_is text (fate_text Kept) then Some Kept
    else if text_is text (fate_text Lost) then Some Lost
    else if text_is text (fate_text Torn) then Some Torn
    else None
