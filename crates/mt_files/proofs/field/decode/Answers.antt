use Rattle.std.proofs.Common.{ℕ, ◌+◌, ◌*◌, ◌%◌, inl, inr, slice_index, Bool, List, Option, Some, None, Ok, if◌then◌else◌, sym, ap, ◌∙◌, arith}
use Rattle.std.proofs.lemmas.Bool.Decides.{leb_tells}
use Rattle.hex.proofs.HexLemmas.{decode_of-even}
use Rattle.hex.proofs.Pairs.{decode_done, decode_err, decode_start, decode_step}
use Rattle.mt_files.specs.Field.{ok_of}
use Rattle.mt_files.proofs.HexPairs.{pair-high, pair-low, pair-ok}
use Rattle.mt_files.proofs.field.decode.Goals as goal

pub bytes-init : goal.bytes-init
bytes-init c = (λ h. decode_start c.args.text.now c.args.bytes.now, λ h. absurd (omega arith))

pub bytes-preserved : goal.bytes-preserved
bytes-preserved c =
    let text = c.args.text.now in
    let bytes = c.bytes.bytes in
    let i = c.bytes.i in
    let a : ℕ = slice_index text (2 * i) in
    let b : ℕ = slice_index text (2 * i + 1) in
    let high = c.digit-high.result in
    let low = c.digit-low.result in
    let of_high = c.digit-high.ensures in
    let of_low = c.digit-low.ensures in
    let same = decode_of-even text (omega arith) in (
      λ fine.
          let parts = c.greatest-worst.ensures.0 fine in
          decode_step text bytes i (high % 16 * 16 + low % 16) (omega arith) (omega arith)
          (pair-ok a b high low (2 * i) of_high of_low parts.1 parts.2 ∙ ap Ok (omega (arith, parts.1, parts.2)))
          (c.bytes.invariant.0 parts.0),
      λ bad. elim (leb_tells c.bytes.worst 15) [
        | inr before ↦ c.bytes.invariant.1 before.1
        | inl before ↦
            let so_far = c.bytes.invariant.0 before.1 in
            elim (leb_tells high 15) [
              | inr h ↦ ap ok_of (same ∙ decode_err text bytes i _ (omega arith) (pair-high a b high (2 * i) of_high h.1) so_far)
              | inl h ↦ elim (leb_tells low 15) [
                | inr l ↦ ap ok_of (same ∙ decode_err text bytes i _ (omega arith) (pair-low a b high low (2 * i) of_high of_low h.1 l.1) so_far)
                | inl l ↦ absurd (omega (arith, bad, c.greatest-worst.ensures.1 (before.1, h.1, l.1)))
              ]
            ]
      ],
    )

pub returns : goal.returns
returns c =
    let text = c.args.text.now in
    let bytes : List ℕ = c.bytes.bytes in
    let answer : Bool → Option (List ℕ) = λ fine. if fine then Some bytes else None in
    elim (leb_tells c.bytes.worst 15) [
      | inl fine ↦ ap ok_of (decode_of-even text (omega arith) ∙ decode_done text bytes c.bytes.i (omega arith) (omega arith) (c.bytes.invariant.0 fine.1)) ∙ sym (ap answer fine.0)
      | inr bad ↦ c.bytes.invariant.1 bad.1 ∙ sym (ap answer bad.0)
    ]
