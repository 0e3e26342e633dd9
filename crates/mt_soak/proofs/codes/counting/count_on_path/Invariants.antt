use Rattle.std.proofs.Common.{◌≡◌, ◌≤◌, ◌<◌, ℕ, ◌+◌, List, Ok, None, length, min}
use Rattle.std.specs.Prelude.{slice_index}
use Rattle.mt_tlv.specs.Parts.{Piece, Place, start, next_at}
use Rattle.mt_tlv.specs.Runs.{Comes}
use Rattle.mt_soak.specs.Codes.{occurrences, most}
use Rattle.mt_soak.specs.Scan.{all_told, outermost}
use Rattle.mt_soak.proofs.codes.counting.count_on_path.Given as goal

abbrev pub invariant-loop : goal.invariant-loop
invariant-loop l = record {
  ahead : (xs : List Piece) (end : Place) → Comes (start l.payload) xs end → next_at end ≡ Ok (None, end) → length xs ≤ length l.payload
      → (ys : List Piece) × Comes l.cursor ys end × (l.counter + length ys ≤ length l.payload)
      × ((code : ℕ) → code < 256 → min (slice_index l.counts code + occurrences code (all_told l.path l.at ys)) most ≡ min (slice_index l.initial.counts code + occurrences code (all_told l.path outermost xs)) most);
  fits : (code : ℕ) → code < 256 → slice_index l.counts code ≤ most;
  risen : (code : ℕ) → code < 256 → slice_index l.initial.counts code ≤ slice_index l.counts code;
  room : l.at.passed_over ≤ l.counter;
}
