use Rattle.std.proofs.Common.{◌≡◌, ℕ, List, length, drop, get_or, ap, ◌∙◌, arith}
use Rattle.std.proofs.lemmas.List.{get_or-drop, get_or-take, length-drop, length-take}
use Rattle.mt_journal.specs.Layout.{is_open}
use Rattle.mt_journal.proofs.reading.read_gate.Goals as goal

pub returns-in-len1-up-clause-read : goal.returns-in-len1-up-clause-read
returns-in-len1-up-clause-read g c = λ file told whole.
    (let is = c.as_slice.ensures.value ∙ c.in_ok-bytes.ensures.read file told in
    let gate = c.args.gate in
    let byte : get_or c.as_slice.result.now 0 0 ≡ get_or file gate 0 =
    ap (λ (l : List ℕ). get_or l 0 0) is ∙ get_or-take 1 (drop gate file) 0 0 (omega arith) ∙ get_or-drop gate file 0 0 ∙ ap (λ (k : ℕ). get_or file k 0) (omega arith) in
    ap is_open byte)

pub returns-clause-refused : goal.returns-clause-refused
returns-clause-refused g c = λ file told whole.
    (let is = c.as_slice.ensures.value ∙ c.in_ok-bytes.ensures.read file told in
    (whole, omega (arith, ap length is, length-take 1 (drop c.args.gate file), length-drop c.args.gate file, c.in-empty.len_below)))
