use Rattle.std.proofs.Common.{◌≡◌, ◌+◌, List, ℕ, ◌++◌, ap, sym, ◌∙◌, append-nil}
use Rattle.mt_files.specs.Lines.{text_of}
use Rattle.mt_soak.specs.Summary.{line_where_counted, lines_of_code}
use Rattle.mt_soak.proofs.Totals.{rest-end, rest-step, rest_of}
use Rattle.mt_soak.proofs.tally.push_statuses.Goals as goal

pub each-preserved : goal.each-preserved
each-preserved c = λ statuses are.
    let told : c.push_status.new.out.items ≡ c.each.out.items ++ text_of (lines_of_code statuses c.each.code) =
    c.in_ok-push_status.ensures ∙ ap (λ (n : ℕ). c.each.out.items ++ text_of (line_where_counted c.each.code n)) (are c.each.code c.each-test.true) in
    ap (λ (w : List ℕ). w ++ rest_of statuses (c.each.code + 1)) told
    ∙ rest-step statuses c.each.out.items c.each.code c.each-test.true
    ∙ c.each.invariant statuses are

pub returns : goal.returns
returns c = λ statuses are.
    sym (append-nil c.each.out.items)
    ∙ ap (λ (w : List ℕ). c.each.out.items ++ w) (sym (rest-end statuses c.each.code c.each-test.false))
    ∙ c.each.invariant statuses are
