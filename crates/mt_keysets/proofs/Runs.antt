-- The group key sets of a fabric through a run, by induction over its lines.
use Rattle.std.proofs.Common.{◌≡◌, ◌≢◌, ℕ, ◌+◌, ◌≤◌, ◌^◌, true, List, [], ◌∷◌, arith, length, refl, ap, ◌∙◌, suc}
use Rattle.mt_tlv.specs.declared.value.Value.{Value}
use Rattle.mt_model.specs.texts.Config.{are_sessions}
use Rattle.mt_model.specs.declared.texts.config.SessionRow.{SessionRow}
use Rattle.mt_model.specs.declared.texts.recording.Event.{Event}
use Rattle.mt_opcreds.specs.Laws.{KeepsRules}
use Rattle.mt_machine.specs.Environment.{Environment}
use Rattle.mt_machine.specs.Laws.{LinesAskOnTheVeil}
use Rattle.mt_runs.specs.Course.{Course, Going, behind_course, course, goes, stepped, stops, surviving}
use Rattle.mt_runs.specs.Isolation.{IsValidWhole}
use Rattle.mt_runs.specs.Laws.{HasRoom}
use Rattle.mt_runs.specs.Lines.{fabric_of, next}
use Rattle.mt_runs.specs.Marks.{is_in}
use Rattle.mt_runs.specs.Messages.{behind}
use Rattle.mt_runs.specs.Whole.{Whole}
use Rattle.mt_keysets.specs.Runs.{sets_behind}
use Rattle.mt_keysets.specs.Sets.{sets_of}
use Rattle.mt_keysets.proofs.Lines.{Known, course_follows, course_valid, others_leave, surviving_boot}

-- Room for the boots that may come.

room_here : (boot n : ℕ) → boot + suc n ≤ 2 ^ 31 → boot + 1 ≤ 2 ^ 31
room_here boot n room = omega arith

room_later : (boot later n : ℕ) → boot + suc n ≤ 2 ^ 31 → later ≤ boot + 1 → later + n ≤ 2 ^ 31
room_later boot later n room rises = omega arith

same_boot : (boot later : ℕ) → later ≡ boot → later ≤ boot + 1
same_boot boot later same = omega arith

next_boot : (boot later : ℕ) → later ≡ boot → later + 1 ≤ boot + 1
next_boot boot later same = omega arith

module _ (given : Environment) (sessions : List SessionRow) (k : Known) (rules : KeepsRules given.judged) (rows : are_sessions sessions ≡ true) (fabric : ℕ) (some : fabric ≢ 0) where
  course_boot : (w : Whole) (e : Event) (c : Course) → (behind_course given sessions w e c).whole.state.node.boot ≤ w.state.node.boot + 1
  course_boot w e (goes stop) = same_boot w.state.node.boot (next given w e).state.node.boot (surviving_boot given k rules w e true)
  course_boot w e (stops line survived) = next_boot w.state.node.boot (surviving given w e survived).state.node.boot (surviving_boot given k rules w e survived)

  pub run_follows : (es : List Event) (g : Going) → IsValidWhole g.whole → HasRoom g es → sets_of fabric (behind given sessions g es).whole.state.node ≡ sets_behind given sessions fabric g es (sets_of fabric g.whole.state.node)
  run_follows [] g valid room = refl
  run_follows (e ∷ es) g valid room =
      let boot = g.whole.state.node.boot in
      let here = room_here boot (length es) room in
      let now = stepped given sessions g e in
      run_follows es now (course_valid given k rules sessions rows g.whole e (course given g e) valid here)
      (room_later boot now.whole.state.node.boot (length es) room (course_boot g.whole e (course given g e)))
      ∙ ap (λ (sets : List Value). sets_behind given sessions fabric now es sets) (course_follows given k rules fabric some sessions rows g.whole e (course given g e) valid here)

  pub others_step : LinesAskOnTheVeil → (g : Going) (e : Event) → IsValidWhole g.whole → HasRoom g (e ∷ []) → is_in fabric g.whole ≡ true → is_in fabric (stepped given sessions g e).whole ≡ true → fabric_of g.whole.state.node e ≢ fabric
      → sets_of fabric (stepped given sessions g e).whole.state.node ≡ sets_of fabric g.whole.state.node
  others_step asks_there g e valid room = others_leave given k rules fabric some asks_there sessions rows g.whole e (course given g e) valid (room_here g.whole.state.node.boot 0 room)
