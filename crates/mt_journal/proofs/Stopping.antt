-- What a commit leaves on a disk that stops in it.
use Rattle.std.proofs.Common.{◌≡◌, ℕ, zero, suc, ◌+◌, ◌-◌, ◌≤◌, ◌<◌, Bool, true, false, List, [], ◌∷◌, length, Some, None, refl, sym, ap, subst, ◌∙◌, arith}
use Rattle.std.specs.Prelude.{Ok, Option, nat_lt, ◌&&◌, if◌then◌else◌}
use Rattle.std.proofs.lemmas.Bool.Decides.{nat_tests}
use Rattle.mt_outside.specs.Disk.{CutShort, LeavesContents, overwritten}
use Rattle.mt_outside.specs.Logs.{DiskLog, StopsAreCrashes, StoppedIn, done_until, fewer, held_of}
use Rattle.mt_outside.specs.MemoryDisk.{DiskEvent, Held, Leaves, half_torn, held_after, held_after_one, left_by}
use Rattle.mt_outside.specs.MemoryDisk.DiskEvent.{wrote, synced}
use Rattle.mt_outside.specs.Stops.{has_stopped}
use Rattle.mt_outside.specs.declared.fate.Fate.{Fate}
use Rattle.mt_outside.specs.declared.fate.Fate.TheVariants.{Kept, Lost, Torn}
use Rattle.mt_outside.specs.declared.stop.Stop.{Stop}
use Rattle.mt_journal.specs.Committing.{StepCommits, calls_of, laid_out, list_with}
use Rattle.mt_journal.specs.Layout.{MayFollow, journal_at}
use Rattle.mt_journal.specs.Standing.{switch_calls}
use Rattle.mt_journal.specs.Stopping.{LogLeaves, Outlasts, StopKeeps, StopLeaves, head_calls, is_kept, list_left, survives}
use Rattle.mt_journal.specs.declared.position.Position.{Position}
use Rattle.mt_journal.specs.declared.position.Position.TheVariants.{Fresh, Begun, Log, InUse}
use Rattle.mt_journal.specs.declared.planning.Kind.{Kind}
use Rattle.mt_journal.specs.declared.planning.Step.{Step}
use Rattle.mt_journal.proofs.Logging.{if_logged}

-- a disk that is at rest leaves its file, whatever its fate
pub rests_on : {D : Type 0} (log : D → Option DiskLog) (images : D → List ℕ → Type 0) → ((disk : D) (was : DiskLog) (image : List ℕ) → log disk ≡ Some was → Leaves (held_of was) image → images disk image) → StopsAreCrashes
    → (disk : D) (file : List ℕ) → LeavesContents (Some file) (images disk) → (was : DiskLog) → log disk ≡ Some was → (fate : Fate) → left_by fate (held_of was) ≡ file
rests_on log images leaves crashes disk file safe was is fate = safe (left_by fate (held_of was)) (leaves disk was (left_by fate (held_of was)) is (crashes was fate))

module _ (crashes : StopsAreCrashes) (is_image : List ℕ → Bool) (may_follow : MayFollow) (list : List (List ℕ)) (file : List ℕ) where
  abbrev Has : List (List ℕ) → List ℕ → Type 0
  Has some image = journal_at is_image may_follow image ≡ Ok some

  module _ (at : ℕ) (bytes : List ℕ) (cut : (image : List ℕ) → CutShort at (length bytes) file image → Has list image) (here : Held) (rests : (fate : Fate) → left_by fate here ≡ file) where
    abbrev written : DiskLog
    written = record { first = file; events = wrote at bytes ∷ [] }

    same : (fate : Fate) → left_by fate (held_after_one here (wrote at bytes)) ≡ left_by fate (held_of written)
    same Kept = ap (λ (f : List ℕ). overwritten at bytes f) (rests Kept)
    same Lost = rests Lost
    same Torn = ap (λ (f : List ℕ). overwritten at (half_torn bytes) f) (rests Torn)

    -- after the first write
    pub one_left : (fate : Fate) → Has list (left_by fate (held_after_one here (wrote at bytes)))
    one_left fate =
        let left = crashes written fate in
        subst (λ (f : List ℕ). Has list f) (sym (same fate)) (cut (left_by fate (held_of written)) (subst (λ (f : List ℕ). CutShort at (length bytes) f (left_by fate (held_of written))) left.1 left.2))

    -- before it
    pub itself_left : (fate : Fate) → Has list (left_by fate here)
    itself_left fate = subst (λ (f : List ℕ). Has list f) (rests Lost ∙ sym (rests fate)) (one_left Lost)

    pub early_left : (fate : Fate) (count : ℕ) (more : List DiskEvent) → count ≤ 2 → Has list (left_by fate (held_after here (done_until count (wrote at bytes ∷ synced ∷ more))))
    early_left fate zero more early = itself_left fate
    early_left fate (suc zero) more early = one_left fate
    early_left fate (suc (suc zero)) more early = one_left fate
    early_left fate (suc (suc (suc count))) more early = absurd (omega (arith, early))

  module _ (kind : Kind) (piece : List ℕ) (step : Step) (commits : StepCommits is_image may_follow kind piece list step file) (here : Held) (rests : (fate : Fate) → left_by fate here ≡ file) where
    abbrev other : List (List ℕ)
    other = list_with kind piece list

    abbrev laid : List ℕ
    laid = laid_out step.front piece

    -- after the second write, which the last byte is
    late_left : (fate : Fate) → Has (if is_kept fate then other else list) (left_by fate (held_after here (wrote step.at laid ∷ synced ∷ wrote step.last_at (step.last ∷ []) ∷ [])))
    late_left Kept = subst (λ (f : List ℕ). Has other (overwritten step.last_at (step.last ∷ []) (overwritten step.at laid f))) (sym (rests Kept)) commits.has
    late_left Lost = one_left step.at laid commits.first here rests Kept
    late_left Torn = subst (λ (f : List ℕ). Has list (overwritten step.last_at (0xa5 ∷ []) (overwritten step.at laid f))) (sym (rests Kept)) commits.torn

    abbrev Left : Fate → ℕ → Type 0
    Left fate count = Has (list_left 4 (record { calls = count; fate = fate }) list other) (left_by fate (held_after here (done_until count (calls_of step piece))))

    early : (fate : Fate) (count : ℕ) → count ≤ 2 → Left fate count
    early fate count le =
        let none : survives 4 (record { calls = count; fate = fate }) ≡ false = not_yet fate count le in
        subst (λ (b : Bool). Has (if b then other else list) (left_by fate (held_after here (done_until count (calls_of step piece))))) (sym none) (early_left step.at laid commits.first here rests fate count (wrote step.last_at (step.last ∷ []) ∷ synced ∷ []) le)
      where
        not_yet : (fate : Fate) (count : ℕ) → count ≤ 2 → survives 4 (record { calls = count; fate = fate }) ≡ false
        not_yet Kept count le = grind (arith, nat_tests, le)
        not_yet Lost count le = refl
        not_yet Torn count le = refl

    late : (fate : Fate) (count : ℕ) → nat_lt 4 (count + 2) ≡ true → done_until count (calls_of step piece) ≡ wrote step.at laid ∷ synced ∷ wrote step.last_at (step.last ∷ []) ∷ [] → Left fate count
    late Kept count lt is = subst (λ (b : Bool). Has (if b then other else list) (left_by Kept (held_after here (done_until count (calls_of step piece))))) (sym lt) (subst (λ (es : List DiskEvent). Has other (left_by Kept (held_after here es))) (sym is) (late_left Kept))
    late Lost count lt is = subst (λ (es : List DiskEvent). Has list (left_by Lost (held_after here es))) (sym is) (late_left Lost)
    late Torn count lt is = subst (λ (es : List DiskEvent). Has list (left_by Torn (held_after here es))) (sym is) (late_left Torn)

    pub step_left : (fate : Fate) (count : ℕ) → count ≤ 4 → Left fate count
    step_left fate zero le = early fate 0 (omega arith)
    step_left fate (suc zero) le = early fate 1 (omega arith)
    step_left fate (suc (suc zero)) le = early fate 2 (omega arith)
    step_left fate (suc (suc (suc zero))) le = late fate 3 refl refl
    step_left fate (suc (suc (suc (suc zero)))) le = late fate 4 refl refl
    step_left fate (suc (suc (suc (suc (suc count))))) le = absurd (omega (arith, le))

-- The calls of a whole commit.

pub calls_are : (place : Position) → switch_calls place ≡ length (head_calls place) + 4
calls_are Fresh = refl
calls_are Begun = refl
calls_are (Log gate) = refl
calls_are (InUse base p0 p1 gate) = refl

-- a stop counted from the first call, and from the step's
survives_then : (count : ℕ) (stop : Stop) → (has_stopped (fewer count (Some stop)) ≡ true → count ≡ 0) → survives 4 (record stop { calls = stop.calls - count }) ≡ survives (count + 4) stop
survives_then count stop goes = ap (λ (b : Bool). is_kept stop.fate && b) (cases (has_stopped (fewer count (Some stop))) refl)
  where
    cases : (b : Bool) → has_stopped (fewer count (Some stop)) ≡ b → nat_lt 4 (stop.calls - count + 2) ≡ nat_lt (count + 4) (stop.calls + 2)
    cases true is = let none : count ≡ 0 = goes is in subst (λ (n : ℕ). nat_lt 4 (stop.calls - n + 2) ≡ nat_lt (n + 4) (stop.calls + 2)) (sym none) (let same : stop.calls - 0 ≡ stop.calls = omega arith in ap (λ (c : ℕ). nat_lt 4 (c + 2)) same)
    cases false is = let past : count < stop.calls = grind (arith, nat_tests, is) in grind (arith, nat_tests, past)

module _ (crashes : StopsAreCrashes) (is_image : List ℕ → Bool) (may_follow : MayFollow) (list : List (List ℕ)) (file : List ℕ) where
  -- a stop while the head is written
  pub head_left : (at : ℕ) (bytes : List ℕ) → ((image : List ℕ) → CutShort at (length bytes) file image → journal_at is_image may_follow image ≡ Ok list)
      → (before after : Option DiskLog) → ((was : DiskLog) → before ≡ Some was → (fate : Fate) → left_by fate (held_of was) ≡ file)
      → (allowed now : Option Stop) → (has_stopped now ≡ true → StoppedIn (wrote at bytes ∷ synced ∷ []) before after allowed now) → StopKeeps is_image may_follow 2 list allowed now after
  head_left at bytes cut before after rests None now stopped = tt
  head_left at bytes cut before after rests (Some stop) now stopped = λ halts.
      (let there = stopped halts in (
        there.0,
        there.2,
        if_logged (λ (f : List ℕ). journal_at is_image may_follow f ≡ Ok list) stop.fate (done_until stop.calls (wrote at bytes ∷ synced ∷ [])) before after there.1
            (λ was is. early_left crashes is_image may_follow list file at bytes cut (held_of was) (rests was is) stop.fate stop.calls [] there.0),
      ))

  -- a stop while the step is carried out, which so many calls were before
  pub step_stops : (kind : Kind) (piece : List ℕ) (step : Step) → StepCommits is_image may_follow kind piece list step file → (count : ℕ)
      → (before after : Option DiskLog) → ((was : DiskLog) → before ≡ Some was → (fate : Fate) → left_by fate (held_of was) ≡ file)
      → (allowed between now : Option Stop) → between ≡ fewer count allowed → (has_stopped between ≡ true → count ≡ 0)
      → (has_stopped now ≡ true → StoppedIn (calls_of step piece) before after between now) → StopLeaves is_image may_follow (count + 4) list (list_with kind piece list) allowed now after
  step_stops kind piece step commits count before after rests None between now is goes stopped = tt
  step_stops kind piece step commits count before after rests (Some stop) between now is goes stopped = λ halts.
      (let there = subst (λ (s : Option Stop). StoppedIn (calls_of step piece) before after s now) is (stopped halts) in
      let goes_on : has_stopped (fewer count (Some stop)) ≡ true → count ≡ 0 = subst (λ (s : Option Stop). has_stopped s ≡ true → count ≡ 0) is goes in
      let left = stop.calls - count in
      let other = list_with kind piece list in (
        there.2,
        subst (λ (b : Bool). LogLeaves is_image may_follow stop.fate (if b then other else list) after) (survives_then count stop goes_on)
            (if_logged (λ (f : List ℕ). journal_at is_image may_follow f ≡ Ok (list_left 4 (record stop { calls = left }) list other)) stop.fate (done_until left (calls_of step piece)) before after there.1
            (λ was known. step_left crashes is_image may_follow list file kind piece step commits (held_of was) (rests was known) stop.fate left there.0)),
      ))

  -- a stop while the head is written leaves what a commit that stops there leaves
  pub keeps_leaves : (calls : ℕ) (other : List (List ℕ)) (allowed now : Option Stop) (after : Option DiskLog) → 4 ≤ calls → StopKeeps is_image may_follow 2 list allowed now after → StopLeaves is_image may_follow calls list other allowed now after
  keeps_leaves calls other None now after le keeps = tt
  keeps_leaves calls other (Some stop) now after le keeps = λ halts.
      (let there = keeps halts in
      let none : survives calls stop ≡ false = not_yet stop.fate stop.calls there.0 in (
        there.1,
        subst (λ (b : Bool). LogLeaves is_image may_follow stop.fate (if b then other else list) after) (sym none) there.2,
      ))
    where
      not_yet : (fate : Fate) (count : ℕ) → count ≤ 2 → survives calls (record { calls = count; fate = fate }) ≡ false
      not_yet Kept count early = grind (arith, nat_tests, early, le)
      not_yet Lost count early = refl
      not_yet Torn count early = refl

-- how many calls are left after all of them
pub outlasts : (calls : ℕ) (allowed now : Option Stop) → now ≡ fewer calls allowed → (has_stopped now ≡ true → calls ≡ 0) → 1 ≤ calls → Outlasts calls allowed
outlasts calls None now is goes some = tt
outlasts calls (Some stop) now is goes some = cases (has_stopped (fewer calls (Some stop))) refl
  where
    cases : (b : Bool) → has_stopped (fewer calls (Some stop)) ≡ b → calls < stop.calls
    cases true halts = absurd (let none : calls ≡ 0 = goes (ap has_stopped is ∙ halts) in omega (arith, none, some))
    cases false on = grind (arith, nat_tests, on)
