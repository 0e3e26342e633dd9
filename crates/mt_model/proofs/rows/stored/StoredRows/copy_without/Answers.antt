use Rattle.std.proofs.Common.{◌∙◌, Bool, ap, filter}
use Rattle.mt_model.specs.declared.rows.place.Row.{Row}
use Rattle.mt_model.specs.tables.Leaving.{stays}
use Rattle.mt_model.proofs.Copied.{all_copied, copied_rows, copy_kept, next_copied}
use Rattle.mt_model.proofs.rows.stored.StoredRows.copy_without.Goals as goal

pub loop-place-preserved-in_ok-insert : goal.loop-place-preserved-in_ok-insert
loop-place-preserved-in_ok-insert c =
    let p : Row → Bool = λ row. stays c.args.gone row.fabric in
    record {
      ordered = c.in_ok-insert.ensures.ordered;
      copied = next_copied p c.loop-place.places.entries c.insert.new.self.entries c.loop-place.place-iterator c.next.new.self c.self.inside.places.entries (c.in-Some.place.now, c.in-Some.rows.now) c.in_ok-copies.field-0
          c.self.invariant.ordered c.loop-place.invariant.copied c.in-Some.ensures.steps (c.in_ok-copies.ensures ∙ ap (filter p) c.deref.ensures.value) c.in_ok-insert.ensures.entries;
    }

pub loop-place-preserved : goal.loop-place-preserved
loop-place-preserved c =
    let p : Row → Bool = λ row. stays c.args.gone row.fabric in
    record {
      ordered = c.in_ok-insert.ensures.ordered;
      copied = next_copied p c.loop-place.places.entries c.insert.new.self.entries c.loop-place.place-iterator c.next.new.self c.self.inside.places.entries (c.in-Some.place.now, c.in-Some.rows.now) c.in_ok-copies.field-0
          c.self.invariant.ordered c.loop-place.invariant.copied c.in-Some.ensures.steps (c.in_ok-copies.ensures ∙ ap (filter p) c.deref.ensures.value) c.in_ok-insert.ensures.entries;
    }

pub invariant_of-result : goal.invariant_of-result
invariant_of-result c =
    let p : Row → Bool = λ row. stays c.args.gone row.fabric in
    copy_kept p c.self.inside.places c.loop-place.places c.self.invariant c.loop-place.invariant.ordered
    (all_copied p c.loop-place.places.entries c.loop-place.place-iterator c.self.inside.places.entries c.loop-place.invariant.copied c.in-None.ensures.steps.0)

pub returns : goal.returns
returns c =
    let p : Row → Bool = λ row. stays c.args.gone row.fabric in
    copied_rows p c.self.inside.places c.loop-place.places c.self.invariant c.loop-place.invariant.ordered
    (all_copied p c.loop-place.places.entries c.loop-place.place-iterator c.self.inside.places.entries c.loop-place.invariant.copied c.in-None.ensures.steps.0)
    ∙ ap (filter p) c.self.view_is
