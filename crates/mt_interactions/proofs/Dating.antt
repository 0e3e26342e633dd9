-- Payloads that are dated one after the other, in place.
use Rattle.std.proofs.Common.{◌≡◌, ℕ, ◌+◌, ◌<◌, ◌++◌, arith, drop, get_or, length, map, take, List, Option, ap, ◌∙◌}
use Rattle.std.proofs.Math.ListN.{set}
use Rattle.std.proofs.lemmas.List.{get_or_default}
use Rattle.std.proofs.lemmas.List.Edits.{map_over_more}
use Rattle.mt_model.specs.declared.messages.message.Payload.{Payload}

abbrev pub dated_one : Option ℕ → Payload → Payload
dated_one until payload = record payload { deadline = until }

pub one_more_dated : (until : Option ℕ) (xs ys : List Payload) (i : ℕ) (d r : Payload) → i < length xs → length ys ≡ length xs
    → ys ≡ map (dated_one until) (take i xs) ++ drop i xs → r ≡ dated_one until (get_or ys i d) → set ys i r ≡ map (dated_one until) (take (i + 1) xs) ++ drop (i + 1) xs
one_more_dated until xs ys i d r lt long is made =
    ap (set ys i) made ∙ map_over_more (dated_one until) xs ys i (get_or ys i d) lt is (get_or_default ys i d (get_or ys i d) (omega arith))
