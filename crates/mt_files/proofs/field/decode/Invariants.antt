use Rattle.std.proofs.Common.{◌≡◌, ◌≤◌, ◌<◌, ◌*◌, None, take, drop}
use Rattle.hex.specs.Hex.{decode_of, decode_pairs}
use Rattle.hex.proofs.Pairs.{prepend}
use Rattle.mt_files.specs.Field.{ok_of}
use Rattle.mt_files.proofs.field.decode.Given as goal

-- what the text is read as: the bytes so far, and those of the digits to come; nothing once one was none
abbrev pub invariant-bytes : goal.invariant-bytes
invariant-bytes l = (l.worst ≤ 15 → decode_pairs 0 l.text ≡ prepend (take l.i l.bytes) (decode_pairs (2 * l.i) (drop (2 * l.i) l.text)))
    × (15 < l.worst → ok_of (decode_of l.text) ≡ None)
