-- Lists of marks: what is made of some and of others behind them, of those of a line that is carried out, and of those of a line in which the
-- disk stops.
use Rattle.std.proofs.Common.{◌≡◌, ℕ, ◌+◌, ◌&&◌, ◌||◌, not, Bool, true, false, List, [], ◌∷◌, ◌++◌, Option, Some, None, refl, sym, ap, ◌∙◌, append-nil, append_assoc, if◌then◌else◌}
use Rattle.std.proofs.lemmas.Bool.{or_parts}
use Rattle.mt_model.specs.declared.texts.config.SessionRow.{SessionRow}
use Rattle.mt_model.specs.declared.texts.recording.Event.{Event}
use Rattle.mt_machine.specs.Environment.{Environment}
use Rattle.mt_machine.specs.Lines.{is_tick}
use Rattle.mt_runs.specs.Course.{Course, Going, course, goes, stepped, stops, surviving}
use Rattle.mt_runs.specs.Isolation.{OwnPart, PublicPart, own_part, public_part}
use Rattle.mt_runs.specs.Lines.{is_stop, next}
use Rattle.mt_runs.specs.Marks.{Mark, Unanswered, born, gone, if_seen, is_in, is_of, is_seen, left_unanswered, marks, marks_at, marks_in, reopened, seen}
use Rattle.mt_runs.specs.Messages.{Message}
use Rattle.mt_runs.specs.Reopening as reopenings
use Rattle.mt_runs.specs.Replay.{ends_by, held_after, held_again, held_before, held_behind, held_seen, held_survived, if_ends, is_left, leaves_unanswered, replayed, sent_at, sent_before, sent_seen}
use Rattle.mt_runs.specs.Whole.{Whole}

-- of a line that is carried out: it is seen, the fabric enters the table, it leaves it
abbrev pub marks_of_line : Event → PublicPart → OwnPart → Bool → Bool → Bool → List Mark
marks_of_line e public own sees comes leaves = (if sees then seen e public ∷ [] else []) ++ ((if comes then born own ∷ [] else []) ++ (if leaves then gone ∷ [] else []))

-- of a line in which the disk stops: it is seen, the node is reopened, the fabric is lost
abbrev pub marks_of_stop : Event → Event → PublicPart → Option Unanswered → Bool → Bool → List Mark
marks_of_stop e line public unanswered sees lost = (if sees then seen e public ∷ [] else []) ++ (reopened line public unanswered ∷ (if lost then gone ∷ [] else []))

-- What is held behind the one, and as the node is reopened in the other.

abbrev pub held_line : Environment → ℕ → Event → PublicPart → OwnPart → Bool → Bool → Bool → Option OwnPart → Option OwnPart
held_line given fabric e public own sees comes leaves o = if leaves then None else (if comes then Some own else (if sees then held_seen given fabric e public o else o))

abbrev pub held_until : Environment → ℕ → Event → PublicPart → Option Unanswered → Bool → Option OwnPart → Option OwnPart
held_until given fabric e public None sees o = if sees then held_seen given fabric e public o else o
held_until given fabric e public (Some unanswered) sees o = held_survived given fabric public (Some unanswered) o

-- who holds nothing before it holds nothing then

none_survived : (given : Environment) (fabric : ℕ) (e : Event) (public : PublicPart) (survived : Bool) → (if survived then held_seen given fabric e public None else None) ≡ None
none_survived given fabric e public true = refl
none_survived given fabric e public false = refl

pub none_until : (given : Environment) (fabric : ℕ) (e : Event) (public : PublicPart) (unanswered : Option Unanswered) (sees : Bool) → held_until given fabric e public unanswered sees None ≡ None
none_until given fabric e public None sees = none_survived given fabric e public sees
none_until given fabric e public (Some unanswered) sees = none_survived given fabric unanswered.event public unanswered.survived

-- which event is left unanswered, where it is the fabric's own
abbrev pub left_if : Event → Bool → Bool → Option Unanswered
left_if e survived its = if its then Some (record { event = e; survived = survived }) else None

-- Of these none begins with a mark that leaves an event unanswered: the fabric's own events are seen.

line_not_left : (e : Event) (public : PublicPart) (own : OwnPart) (sees comes leaves : Bool) → is_left (marks_of_line e public own sees comes leaves) ≡ false
line_not_left e public own true comes leaves = refl
line_not_left e public own false true leaves = refl
line_not_left e public own false false true = refl
line_not_left e public own false false false = refl

stop_not_left : (e line : Event) (public : PublicPart) (unanswered : Option Unanswered) (sees lost : Bool) → (sees ≡ false → unanswered ≡ None) → is_left (marks_of_stop e line public unanswered sees lost) ≡ false
stop_not_left e line public unanswered true lost none = refl
stop_not_left e line public unanswered false lost none = ap (λ (left : Option Unanswered). leaves_unanswered (reopened line public left)) (none refl)

-- an event that is not seen is not left unanswered either
hidden_not_left : (fabric : ℕ) (w : Whole) (e : Event) (survived : Bool) → is_seen fabric w e ≡ false → left_unanswered fabric w e survived ≡ None
hidden_not_left fabric w e survived hidden = ap (left_if e survived) (or_parts (is_of fabric w e) (is_tick e || is_stop e) hidden).0

left_append : (some others : List Mark) → is_left others ≡ false → is_left (some ++ others) ≡ is_left some
left_append [] others none = none
left_append (mark ∷ some) others none = refl

module _ (given : Environment) (sessions : List SessionRow) (fabric : ℕ) where
  course_not_left : (w : Whole) (e : Event) (c : Course) → is_left (if_seen fabric w e ++ marks_in given sessions fabric w e c) ≡ false
  course_not_left w e (goes stop) =
      let now = next given w e in
      line_not_left e (public_part fabric w) (own_part fabric now) (is_seen fabric w e) (not (is_in fabric w) && is_in fabric now) (is_in fabric w && (not (is_in fabric now) && not (is_of fabric w e)))
  course_not_left w e (stops line survived) =
      let now = reopenings.reopened sessions (surviving given w e survived) in
      stop_not_left e line (public_part fabric w) (left_unanswered fabric w e survived) (is_seen fabric w e) (is_in fabric w && not (is_in fabric now)) (hidden_not_left fabric w e survived)

  -- so no run begins with such a mark
  pub not_left : (es : List Event) (g : Going) → is_left (marks given sessions fabric g es) ≡ false
  not_left [] g = refl
  not_left (e ∷ es) g =
      let now = stepped given sessions g e in
      left_append (marks_at given sessions fabric g e) (marks given sessions fabric now es) (not_left es now) ∙ course_not_left g.whole e (course given g e)

  -- SOME MARKS, AND OTHERS BEHIND THEM that don't begin with such a one.

  pub held_append : (some others : List Mark) → is_left others ≡ false → (o : Option OwnPart)
      → held_after given sessions fabric o (some ++ others) ≡ held_after given sessions fabric (held_after given sessions fabric o some) others
  held_append [] others none o = refl
  held_append (mark ∷ some) others none o =
      ap (λ (left : Bool). held_after given sessions fabric (if left then o else held_behind given sessions fabric o mark) (some ++ others)) (left_append some others none)
      ∙ held_append some others none (held_before given sessions fabric o mark some)

  pub replayed_append : (some others : List Mark) → is_left others ≡ false → (o : Option OwnPart)
      → replayed given sessions fabric o (some ++ others) ≡ replayed given sessions fabric o some ++ replayed given sessions fabric (held_after given sessions fabric o some) others
  replayed_append [] others none o = refl
  replayed_append (mark ∷ some) others none o =
      let behind = held_before given sessions fabric o mark some in
      let first = sent_before given fabric o mark some in
      ap (λ (left : Bool). (if left then [] else sent_at given fabric o mark) ++ replayed given sessions fabric (if left then o else held_behind given sessions fabric o mark) (some ++ others)) (left_append some others none)
      ∙ ap (λ (rest : List Message). first ++ rest) (replayed_append some others none behind)
      ∙ sym (append_assoc first (replayed given sessions fabric behind some) (replayed given sessions fabric (held_after given sessions fabric behind some) others))

  pub ends_append : (some others : List Mark) → is_left others ≡ false → (o : Option OwnPart)
      → ends_by given sessions fabric o (some ++ others) ≡ ends_by given sessions fabric o some ++ ends_by given sessions fabric (held_after given sessions fabric o some) others
  ends_append [] others none o = refl
  ends_append (mark ∷ some) others none o =
      let behind = held_before given sessions fabric o mark some in
      ap (λ (left : Bool). if_ends o (if left then o else held_behind given sessions fabric o mark) ++ ends_by given sessions fabric (if left then o else held_behind given sessions fabric o mark) (some ++ others)) (left_append some others none)
      ∙ ap (λ (rest : List OwnPart). if_ends o behind ++ rest) (ends_append some others none behind)
      ∙ sym (append_assoc (if_ends o behind) (ends_by given sessions fabric behind some) (ends_by given sessions fabric (held_after given sessions fabric behind some) others))

  -- A LINE THAT IS CARRIED OUT.

  pub held_of_line : (e : Event) (public : PublicPart) (own : OwnPart) (sees comes leaves : Bool) (o : Option OwnPart)
      → held_after given sessions fabric o (marks_of_line e public own sees comes leaves) ≡ held_line given fabric e public own sees comes leaves o
  held_of_line e public own true true true o = refl
  held_of_line e public own true true false o = refl
  held_of_line e public own true false true o = refl
  held_of_line e public own true false false o = refl
  held_of_line e public own false true true o = refl
  held_of_line e public own false true false o = refl
  held_of_line e public own false false true o = refl
  held_of_line e public own false false false o = refl

  pub sent_of_line : (e : Event) (public : PublicPart) (own : OwnPart) (sees comes leaves : Bool) (o : Option OwnPart)
      → replayed given sessions fabric o (marks_of_line e public own sees comes leaves) ≡ (if sees then sent_seen given fabric e public o else [])
  sent_of_line e public own true true true o = append-nil (sent_seen given fabric e public o)
  sent_of_line e public own true true false o = append-nil (sent_seen given fabric e public o)
  sent_of_line e public own true false true o = append-nil (sent_seen given fabric e public o)
  sent_of_line e public own true false false o = append-nil (sent_seen given fabric e public o)
  sent_of_line e public own false true true o = refl
  sent_of_line e public own false true false o = refl
  sent_of_line e public own false false true o = refl
  sent_of_line e public own false false false o = refl

  -- A LINE IN WHICH THE DISK STOPS.

  pub held_of_stop : (e line : Event) (public : PublicPart) (unanswered : Option Unanswered) (sees lost : Bool) (o : Option OwnPart)
      → held_after given sessions fabric o (marks_of_stop e line public unanswered sees lost) ≡ (if lost then None else held_again sessions (public.node.boot + 1) fabric (held_until given fabric e public unanswered sees o))
  held_of_stop e line public None true true o = refl
  held_of_stop e line public None true false o = refl
  held_of_stop e line public None false true o = refl
  held_of_stop e line public None false false o = refl
  held_of_stop e line public (Some unanswered) true true o = refl
  held_of_stop e line public (Some unanswered) true false o = refl
  held_of_stop e line public (Some unanswered) false true o = refl
  held_of_stop e line public (Some unanswered) false false o = refl

  -- an event of its own sends nothing, and another's nothing but what it sends as it is seen

  pub own_unsent : (e line : Event) (public : PublicPart) (unanswered : Unanswered) (sees lost : Bool) (o : Option OwnPart) → replayed given sessions fabric o (marks_of_stop e line public (Some unanswered) sees lost) ≡ []
  own_unsent e line public unanswered true true o = refl
  own_unsent e line public unanswered true false o = refl
  own_unsent e line public unanswered false true o = refl
  own_unsent e line public unanswered false false o = refl

  pub other_unsent : (e line : Event) (public : PublicPart) (sees lost : Bool) (o : Option OwnPart) → (sees ≡ true → sent_seen given fabric e public o ≡ [])
      → replayed given sessions fabric o (marks_of_stop e line public None sees lost) ≡ []
  other_unsent e line public true true o quiet = append-nil (sent_seen given fabric e public o) ∙ quiet refl
  other_unsent e line public true false o quiet = append-nil (sent_seen given fabric e public o) ∙ quiet refl
  other_unsent e line public false true o quiet = refl
  other_unsent e line public false false o quiet = refl
