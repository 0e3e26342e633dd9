use Rattle.std.proofs.Common.{◌≡◌, List, ℕ, ap, arith, sym, ◌∙◌, ◌++◌, ◌+◌, drop}
use Rattle.mt_machine.specs.Step.{closed_between}
use Rattle.mt_node.proofs.Closed.{ended, goes_on, none_left, one_more}
use Rattle.mt_node.proofs.between.closed_between.Goals.{then-i-behind+then-is_over+in_ok-push, else-i-behind, else-i-behind-via-then-i-behind+else-is_over, else-i-behind-via-else-i-behind}
use Rattle.mt_node.proofs.between.closed_between.Goals as goal

pub loop-i-preserved : goal.loop-i-preserved
loop-i-preserved c =
    let xs = c.args.sessions.now in
    let ys = c.args.behind.now in
    let i = c.loop-i.i in
    let x = c.index-sessions-i.result in
    let rest = closed_between (drop (i + 1) xs) (drop (i + 1) ys) in
    let here = closed_between (drop i xs) (drop i ys) in
    let stays : (closed : List ℕ) → closed ≡ c.loop-i.closed → here ≡ rest → closed ++ rest ≡ closed_between xs ys = λ closed is same.
    ap (λ (l : List ℕ). l ++ rest) is ∙ ap (λ (l : List ℕ). c.loop-i.closed ++ l) (sym same) ∙ c.loop-i.invariant in
    elim c.if-i-behind.branch [
      | then-i-behind+then-is_over+in_ok-push w ↦
          one_more c.loop-i.closed c.if-i-behind.closed x.session rest here (closed_between xs ys) (w.closed-is ∙ w.in_ok-push.ensures.ok)
          (ended i xs ys x w.index-behind-i.result c.loop-i-test.true w.if-i-behind.true c.index-sessions-i.is w.index-behind-i.is (sym w.is_over.ensures ∙ w.if-is_over.true)) c.loop-i.invariant
      | else-i-behind w ↦ elim w.else-i-behind.branch [
        | else-i-behind-via-then-i-behind+else-is_over w' ↦
            stays c.if-i-behind.closed w.closed-is
            (goes_on i xs ys x w'.index-behind-i.result c.loop-i-test.true w'.if-i-behind.true c.index-sessions-i.is w'.index-behind-i.is (sym w'.is_over.ensures ∙ w'.if-is_over.false))
        | else-i-behind-via-else-i-behind w' ↦ stays c.if-i-behind.closed w.closed-is (none_left i xs ys (omega (arith, w'.if-i-behind.false)))
      ]
    ]
