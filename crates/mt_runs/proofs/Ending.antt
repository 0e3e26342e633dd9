-- The own parts with which lives end, as the marks of one line tell them.
use Rattle.std.proofs.Common.{◌≡◌, ℕ, ◌+◌, Bool, true, false, List, [], ◌∷◌, ◌++◌, Option, Some, None, refl, ap, append-nil, unwrap_or, if◌then◌else◌}
use Rattle.mt_model.specs.declared.texts.config.SessionRow.{SessionRow}
use Rattle.mt_model.specs.declared.texts.recording.Event.{Event}
use Rattle.mt_machine.specs.Environment.{Environment}
use Rattle.mt_runs.specs.Isolation.{OwnPart, PublicPart}
use Rattle.mt_runs.specs.Marks.{Unanswered}
use Rattle.mt_runs.specs.Replay.{ends_by, held_again, held_seen, held_survived, if_ends}
use Rattle.mt_runs.proofs.Marking.{held_until, marks_of_line, marks_of_stop}

-- what stays ends nothing

pub stays_on : (o : Option OwnPart) (now : OwnPart) → if_ends o (Some now) ≡ []
stays_on None now = refl
stays_on (Some own) now = refl

same_on : (o : Option OwnPart) → if_ends o o ≡ []
same_on None = refl
same_on (Some own) = refl

-- a life ends once: with what was held before, or with what is held on the way
pub ends_once : (own : OwnPart) (until : Option OwnPart) → if_ends (Some own) until ++ if_ends until None ≡ unwrap_or until own ∷ []
ends_once own None = refl
ends_once own (Some until) = refl

-- where it holds this, and leaves the table then or not; and where it held another before
abbrev pub if_lost_then : Option OwnPart → Bool → List OwnPart
if_lost_then o lost = if lost then if_ends o None else []

pub none_lost : (lost : Bool) → if_lost_then None lost ≡ []
none_lost true = refl
none_lost false = refl

abbrev pub ends_through : Option OwnPart → Option OwnPart → Bool → List OwnPart
ends_through o until lost = if_ends o until ++ if_lost_then until lost

module _ (given : Environment) (sessions : List SessionRow) (fabric : ℕ) where
  -- A line that is carried out: of one that was in the table before it,

  pub ends_of_line : (e : Event) (public : PublicPart) (own : OwnPart) (sees leaves : Bool) (o : Option OwnPart)
      → ends_by given sessions fabric o (marks_of_line e public own sees false leaves)
      ≡ (if sees then ends_through o (held_seen given fabric e public o) leaves else if_lost_then o leaves)
  ends_of_line e public own true true o =
      let now = held_seen given fabric e public o in
      ap (λ (rest : List OwnPart). if_ends o now ++ rest) (append-nil (if_ends now None))
  ends_of_line e public own true false o = refl
  ends_of_line e public own false true o = append-nil (if_ends o None)
  ends_of_line e public own false false o = refl

  -- and of one that was not

  pub none_of_line : (e : Event) (public : PublicPart) (own : OwnPart) (sees comes : Bool) → ends_by given sessions fabric None (marks_of_line e public own sees comes false) ≡ []
  none_of_line e public own true true = refl
  none_of_line e public own true false = refl
  none_of_line e public own false true = refl
  none_of_line e public own false false = refl

  -- A line in which the disk stops: what is reopened was held before, and is held behind it.

  abbrev again : ℕ → Option OwnPart → Option OwnPart
  again boot o = held_again sessions boot fabric o

  again_on : (boot : ℕ) (o : Option OwnPart) → if_ends o (again boot o) ≡ []
  again_on boot None = refl
  again_on boot (Some own) = refl

  as_again : (boot : ℕ) (o until : Option OwnPart) → if_ends o until ≡ if_ends o (again boot until)
  as_again boot None until = refl
  as_again boot (Some own) None = refl
  as_again boot (Some own) (Some until) = refl

  pub ends_of_stop : (e line : Event) (public : PublicPart) (unanswered : Option Unanswered) (sees lost : Bool) (o : Option OwnPart)
      → ends_by given sessions fabric o (marks_of_stop e line public unanswered sees lost)
      ≡ ends_through o (again (public.node.boot + 1) (held_until given fabric e public unanswered sees o)) lost
  ends_of_stop e line public None true true o =
      let boot = public.node.boot + 1 in
      let until = held_seen given fabric e public o in
      λ i. as_again boot o until i ++ (again_on boot until i ++ append-nil (if_ends (again boot until) None) i)
  ends_of_stop e line public None true false o =
      let boot = public.node.boot + 1 in
      let until = held_seen given fabric e public o in
      λ i. as_again boot o until i ++ (again_on boot until i ++ [])
  ends_of_stop e line public None false true o =
      let now = again (public.node.boot + 1) o in
      ap (λ (rest : List OwnPart). if_ends o now ++ rest) (append-nil (if_ends now None))
  ends_of_stop e line public None false false o = refl
  ends_of_stop e line public (Some unanswered) true true o =
      let now = again (public.node.boot + 1) (held_survived given fabric public (Some unanswered) o) in
      λ i. same_on o i ++ (if_ends o now ++ append-nil (if_ends now None) i)
  ends_of_stop e line public (Some unanswered) true false o =
      let now = again (public.node.boot + 1) (held_survived given fabric public (Some unanswered) o) in
      λ i. same_on o i ++ (if_ends o now ++ [])
  ends_of_stop e line public (Some unanswered) false true o =
      let now = again (public.node.boot + 1) (held_survived given fabric public (Some unanswered) o) in
      ap (λ (rest : List OwnPart). if_ends o now ++ rest) (append-nil (if_ends now None))
  ends_of_stop e line public (Some unanswered) false false o = refl
