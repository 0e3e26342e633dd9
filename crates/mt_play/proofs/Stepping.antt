-- What is shown behind a line, kept beside the node.
use Rattle.std.proofs.Common.{◌≡◌, ◌==◌, ℕ, Bool, true, false, true≢false, List, [], ◌∷◌, refl, sym, ap, ◌∙◌, map, if◌then◌else◌}
use Rattle.std.specs.Prelude.{Option, Some, None, IfSome, is_some, not}
use Rattle.std.specs.List.{list_any}
use Rattle.mt_model.specs.declared.texts.recording.Event.{Event}
use Rattle.mt_model.specs.declared.texts.recording.Event.TheVariants as events
use Rattle.mt_whole.specs.mt_machine.Environment.{Environment}
use Rattle.mt_whole.specs.mt_runs.Laws.{StopsLeaveAll}
use Rattle.mt_whole.specs.mt_runs.Lines.{is_stop, next, talks_behind}
use Rattle.mt_whole.specs.mt_runs.Whole.{SessionTalk, Whole, without_ended}
use Rattle.mt_whole.specs.mt_marks.Noted.{noted_if}
use Rattle.mt_whole.specs.mt_marks.Remembered.{ToldTalk, remembered, told_without_ended}
use Rattle.mt_whole.specs.mt_marks.Note.{Note}
use Rattle.mt_whole.specs.Laws.{TalksLetGoWhatCloses}
use Rattle.mt_whole.specs.Plan.{IsPlan, IsPlanned}
use Rattle.mt_whole.specs.declared.outcome.WholeOutcome.{WholeOutcome}
use Rattle.mt_play.specs.Remembers.{dropped}

-- Of a session that ends the drop is remembered, of another nothing.

if_within : {A B : Type 0} (f : A → B) (b : Bool) (x y : A) → (if b then f x else f y) ≡ f (if b then x else y)
if_within f true x y = refl
if_within f false x y = refl

drop_told : (ended : List ℕ) (t : SessionTalk) → told_without_ended ended (remembered t) ≡ remembered (without_ended ended t)
drop_told ended t = if_within remembered (list_any (λ (other : ℕ). other == t.row.session) ended) _ t

drops_told : (ended : List ℕ) (ts : List SessionTalk) → map (told_without_ended ended) (map remembered ts) ≡ map remembered (map (without_ended ended) ts)
drops_told ended [] = refl
drops_told ended (t ∷ ts) =
    let first = drop_told ended t in
    let rest = drops_told ended ts in
    λ i. first i ∷ rest i

-- Over no session anything is said in a line that stops the disk.

talks_of_stop : (given : Environment) (w : Whole) (event : Event) → is_stop event ≡ true → talks_behind given w event ≡ w.talks
talks_of_stop given w (events.Stop calls fate) stop = refl
talks_of_stop given w event stop = absurd (true≢false (sym stop))

is_one : (stop : Bool) → false ≡ not stop → stop ≡ true
is_one true none = refl
is_one false none = none

-- Behind a line that is carried out is shown what was, what the line adds, and that those sessions end which end with it.

module _ (lets_go : TalksLetGoWhatCloses) (leave : StopsLeaveAll) (given : Environment) (w : Whole) (event : Event) where
  stopped : is_stop event ≡ true → map remembered (talks_behind given w event) ≡ map remembered (next given w event).talks
  stopped stop = ap (map remembered) (talks_of_stop given w event stop ∙ sym (ap (λ (v : Whole). v.talks) (leave given w event stop)))

  pub told_behind : (outcome : Option WholeOutcome) → is_some outcome ≡ not (is_stop event) → IfSome outcome (IsPlanned w.state w.ledger) → IfSome outcome (IsPlan given w event)
      → (note : Option Note) (told : List ToldTalk) → told ≡ map remembered w.talks → noted_if note (map remembered w.talks) ≡ map remembered (talks_behind given w event)
      → dropped outcome (noted_if note told) ≡ map remembered (next given w event).talks
  told_behind None has planned plan note told is adds = ap (noted_if note) is ∙ adds ∙ stopped (is_one (is_stop event) has)
  told_behind (Some outcome) has planned plan note told is adds =
      let closed = outcome.interactions.node.closed in
      ap (λ (said : List ToldTalk). map (told_without_ended closed) said) (ap (noted_if note) is ∙ adds)
      ∙ drops_told closed (talks_behind given w event)
      ∙ ap (map remembered) (sym (lets_go given w event outcome planned plan.brings))
