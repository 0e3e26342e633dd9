use Rattle.std.proofs.Common.{sym, ap, ◌∙◌}
use Rattle.mt_model.specs.rows.Seen.{own_entries}
use Rattle.mt_marks.proofs.own.node.are_entries_same.Goals as goal

pub returns : goal.returns
returns c =
    let of = own_entries c.args.fabric in (
      λ yes. ap of (sym c.as_slice.ensures) ∙ c.are_own_same.ensures.0 yes ∙ ap of c.as_slice-2.ensures,
      λ same. c.are_own_same.ensures.1 (ap of c.as_slice.ensures ∙ same ∙ ap of (sym c.as_slice-2.ensures)),
    )
