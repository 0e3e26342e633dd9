use Rattle.std.proofs.Common.{◌≡◌, ◌∙◌, ◌<◌, List, true, sym, ap, length, take, subst, arith}
use Rattle.std.specs.List.{list_all}
use Rattle.std.proofs.lemmas.List.{take_all, take_more}
use Rattle.mt_model.specs.rows.Order.{are_ascending}
use Rattle.mt_model.specs.rows.Stored.{has_place}
use Rattle.mt_model.proofs.Stored.{has_none, none_inserted, none_listed, none_stand, one_more, Kept}
use Rattle.mt_model.proofs.rows.stored.StoredRows.new.Goals as goal

pub loop-place-preserved : goal.loop-place-preserved
loop-place-preserved c =
    let all = c.stored_places-place-items.result.now in
    let i = c.loop-place.place-index in
    let m = c.loop-place.places in
    let n = c.insert.new.self in
    let within : i < length all = omega arith in
    record {
      ordered = c.in_ok-insert.ensures.ordered;
      empty = subst (λ (es : List Kept). list_all has_none es ≡ true) (sym c.in_ok-insert.ensures.entries) (none_inserted _ c.new.result c.new.ensures.items m.entries c.loop-place.invariant.empty);
      there = ap (list_all (has_place n)) (take_more all i (record { endpoint = 0; cluster = 0; leaf = 0 }) within) ∙ one_more m n _ c.new.result c.in_ok-insert.ensures.updates (take i all) c.loop-place.invariant.there;
    }

pub invariant_of-result : goal.invariant_of-result
invariant_of-result c =
    let all = c.stored_places-place-items.result.now in
    let m = c.loop-place.places in
    record {
      ordered = c.loop-place.invariant.ordered;
      rows_stand = none_stand m.entries c.loop-place.invariant.empty;
      rows_ascend = ap are_ascending (none_listed m.entries c.loop-place.invariant.empty);
      all_there = ap (list_all (has_place m)) (sym (take_all c.loop-place.place-index all (omega arith) ∙ c.stored_places-place-items.ensures)) ∙ c.loop-place.invariant.there;
    }

pub returns : goal.returns
returns c = none_listed c.loop-place.places.entries c.loop-place.invariant.empty
