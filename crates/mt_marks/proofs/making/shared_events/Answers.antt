use Rattle.std.proofs.Common.{◌≡◌, ◌+◌, ◌++◌, ◌∷◌, [], Some, None, sym, ap, ◌∙◌, rules, vec_len, slice_get}
use Rattle.std.specs.Option.{option_copied}
use Rattle.mt_events.specs.Rings.{ring_of}
use Rattle.mt_marks.proofs.Kept.{all_kept, next_kept}
use Rattle.mt_marks.proofs.making.shared_events.Goals as goal

pub events-preserved : goal.events-preserved
events-preserved c =
    let ring = ring_of 0 c.args.rings.now in
    let n = vec_len c.events.shared in
    let event = c.in-Some.event.now in
    let got : slice_get ring n ≡ Some event = ap (slice_get ring) (sym c.len.ensures) ∙ sym c.shared_at.ensures ∙ ap option_copied c.in-Some.is in
    let items : c.push.new.self.items ≡ c.events.shared.items ++ event ∷ [] = search rules in
    let count : vec_len c.push.new.self ≡ n + 1 = search rules in
    rw (items, count) (next_kept ring c.events.shared.items n event got c.events.invariant)

pub returns : goal.returns
returns c =
    let ring = ring_of 0 c.args.rings.now in
    let n = vec_len c.events.shared in
    let got : slice_get ring n ≡ None = ap (slice_get ring) (sym c.len.ensures) ∙ sym c.shared_at.ensures ∙ ap option_copied c.in_default.is in
    c.from_vec.ensures ∙ all_kept ring c.events.shared.items n got c.events.invariant
