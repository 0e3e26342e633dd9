use Rattle.std.proofs.Common.{◌≡◌, ◌++◌, [], sym, ap, ◌∙◌, filter, drop}
use Rattle.std.proofs.lemmas.List.{append-nil, drop_all}
use Rattle.mt_tlv.specs.View.{elements}
use Rattle.mt_model.specs.rows.Sight.{bare_elements}
use Rattle.mt_model.proofs.Bare.{bare-filter, is_kept}
use Rattle.mt_model.proofs.rows.sight.bare_members.Goals as goal

pub returns : goal.returns
returns c =
    let all = c.as_slice-all.result.now in
    let place = c.args.place.now in
    let l = c.loop-tag in
    let none : drop l.tag-index all ≡ [] = drop_all l.tag-index all c.loop-tag-test.false in
    let kept : l.kept.items ≡ filter (is_kept place) all = sym (append-nil l.kept.items) ∙ ap (λ rest. l.kept.items ++ filter (is_kept place) rest) (sym none) ∙ l.invariant in
    c.from_vec.ensures ∙ ap elements kept ∙ bare-filter place all ∙ ap (bare_elements place) c.as_slice-all.ensures
