-- The marks that stand at events are those of the run.
use Rattle.std.proofs.Common.{◌≡◌, ℕ, List, [], ◌∷◌, ◌++◌, refl, sym, ap, ap₂, ◌∙◌, append_assoc}
use Rattle.mt_model.specs.declared.texts.config.SessionRow.{SessionRow}
use Rattle.mt_model.specs.declared.texts.recording.Event.{Event}
use Rattle.mt_runs.specs.mt_machine.Environment.{Environment}
use Rattle.mt_runs.specs.Course.{Course, Going, course, goes, stepped, stops}
use Rattle.mt_runs.specs.Lines.{next}
use Rattle.mt_runs.specs.Marks.{Mark, if_seen, marks, marks_in as marks_behind}
use Rattle.mt_runs.specs.Whole.{Whole}
use Rattle.mt_marks.specs.differences.Marked.{Marked, all_at, if_changed, marked, marked_behind, marks_in}

in_append : (ones others : List Marked) → marks_in (ones ++ others) ≡ marks_in ones ++ marks_in others
in_append [] others = refl
in_append (one ∷ ones) others = ap (λ (rest : List Mark). one.mark ∷ rest) (in_append ones others)

in_all_at : (event : Event) (some : List Mark) → marks_in (all_at event some) ≡ some
in_all_at event [] = refl
in_all_at event (mark ∷ some) = ap (λ (rest : List Mark). mark ∷ rest) (in_all_at event some)

-- behind what is seen of a line, by its course
in_behind : (given : Environment) (sessions : List SessionRow) (fabric : ℕ) (w : Whole) (event : Event) (way : Course)
    → marks_in (marked_behind given sessions fabric w event way) ≡ marks_behind given sessions fabric w event way
in_behind given sessions fabric w event (goes stop) = in_all_at event (if_changed fabric w event (next given w event))
in_behind given sessions fabric w event (stops line survived) = in_all_at line (marks_behind given sessions fabric w event (stops line survived))

pub marks_of_marked : (given : Environment) (sessions : List SessionRow) (fabric : ℕ) (g : Going) (events : List Event) → marks_in (marked given sessions fabric g events) ≡ marks given sessions fabric g events
marks_of_marked given sessions fabric g [] = refl
marks_of_marked given sessions fabric g (event ∷ events) =
    let way = course given g event in
    let after = stepped given sessions g event in
    let see = if_seen fabric g.whole event in
    let change = marked_behind given sessions fabric g.whole event way in
    let rest = marked given sessions fabric after events in
    in_append (all_at event see) (change ++ rest)
    ∙ ap₂ (λ (a b : List Mark). a ++ b) (in_all_at event see)
    (in_append change rest ∙ ap₂ (λ (a b : List Mark). a ++ b) (in_behind given sessions fabric g.whole event way) (marks_of_marked given sessions fabric after events))
    ∙ sym (append_assoc see (marks_behind given sessions fabric g.whole event way) (marks given sessions fabric after events))
