-- How the marks that are left grow fewer, event by event.
use Rattle.std.proofs.Common.{◌≡◌, ℕ, Bool, true, false, List, [], ◌∷◌, ◌++◌, Option, Some, None, length, arith, refl, sym, ap, ap₂, subst, ◌∙◌, if◌then◌else◌}
use Rattle.std.specs.Borrow.{Bor}
use Rattle.mt_model.specs.declared.texts.config.SessionRow.{SessionRow}
use Rattle.mt_model.specs.declared.texts.recording.Event.{Event}
use Rattle.mt_play.specs.mt_machine.Environment.{Environment}
use Rattle.mt_play.specs.mt_runs.Course.{Going, course, stepped}
use Rattle.mt_play.specs.mt_runs.Isolation.{public_part}
use Rattle.mt_play.specs.mt_runs.Marks.{Mark, gone, if_seen, is_seen, seen}
use Rattle.mt_play.specs.mt_marks.Marked.{Marked, all_at, marked, marked_at, marked_behind}
use Rattle.mt_play.specs.Remembers.{IsRemembering}
use Rattle.mt_compare.specs.Sides.{GoesTo, HasLooked, HasPassed, Looks, if_lost_at, left, left_of, line_in, mark_in, unseen}
use Rattle.mt_play.specs.declared.remembering.Remembering.{Remembering}
use Rattle.mt_compare.specs.declared.side.LineOf.{LineOf}
use Rattle.mt_compare.specs.declared.side.Side.{Side}

-- Of an event at the head.

module _ (given : Environment) (sessions : List SessionRow) (fabric : ℕ) (g : Going) (event : Event) (behind : List Event) where
  abbrev further : List Mark → List Marked
  further marks = all_at event marks ++ unseen given sessions fabric g (event ∷ behind)

  sees : (s : Bool) → is_seen fabric g.whole event ≡ s → if_seen fabric g.whole event ≡ (if s then seen event (public_part fabric g.whole) ∷ [] else [])
  sees s is = ap (λ (b : Bool). if b then seen event (public_part fabric g.whole) ∷ [] else []) is

  -- it is seen
  pub seen_head : is_seen fabric g.whole event ≡ true → marked given sessions fabric g (event ∷ behind) ≡ marked_at event (seen event (public_part fabric g.whole)) ∷ unseen given sessions fabric g (event ∷ behind)
  seen_head is = ap further (sees true is)

  -- it is not
  pub unseen_head : is_seen fabric g.whole event ≡ false → marked given sessions fabric g (event ∷ behind) ≡ unseen given sessions fabric g (event ∷ behind)
  unseen_head is = ap further (sees false is)

  -- behind it stand these marks
  pub passed_head : (marks : List Marked) → marked_behind given sessions fabric g.whole event (course given g event) ≡ marks → unseen given sessions fabric g (event ∷ behind) ≡ marks ++ marked given sessions fabric (stepped given sessions g event) behind
  passed_head marks same = ap (λ (some : List Marked). some ++ marked given sessions fabric (stepped given sessions g event) behind) same

-- A side has gone so far: its node stands for a run on its way, no end is still to be told, and the same marks are left.
pub record HasGone (given : Environment) (sessions : List SessionRow) (fabric : ℕ) (g : Going) (old new : Side) : Type 0 where
  pub now : Going
  pub stands : IsRemembering new.node given sessions now
  pub told : new.lost ≡ None
  pub left : left_of given sessions fabric g old ≡ left_of given sessions fabric now new

module _ (given : Environment) (sessions : List SessionRow) (fabric : ℕ) (g : Going) where
  nothing_left : (told : Bool) → left given sessions fabric g told [] ≡ []
  nothing_left true = refl
  nothing_left false = refl

  -- no end is still to be told
  none_lost : (side : Side) → side.lost ≡ None → left_of given sessions fabric g side ≡ left given sessions fabric g side.is_seen side.rest.now
  none_lost side told = ap (λ (lost : Option LineOf). if_lost_at lost ++ left given sessions fabric g side.is_seen side.rest.now) told

  -- one is, and is the next mark
  pub lost_head : (side : Side) (line : LineOf) → side.lost ≡ Some line → left_of given sessions fabric g side ≡ marked_at (line_in line) gone ∷ left given sessions fabric g side.is_seen side.rest.now
  lost_head side line is = ap (λ (lost : Option LineOf). if_lost_at lost ++ left given sessions fabric g side.is_seen side.rest.now) is

no_events : (events : List Event) → length events ≡ 0 → events ≡ []
no_events [] none = refl
no_events (event ∷ events) none = absurd (omega (arith, none))

module _ (given : Environment) (sessions : List SessionRow) (fabric : ℕ) (g : Going) (old here : Side) (go : HasGone given sessions fabric g old here) where
  left_of_here : left_of given sessions fabric g old ≡ left given sessions fabric go.now here.is_seen here.rest.now
  left_of_here = go.left ∙ none_lost given sessions fabric go.now here go.told

  -- no event is left
  pub ends : length here.rest.now ≡ 0 → left_of given sessions fabric g old ≡ []
  ends none = left_of_here ∙ ap (left given sessions fabric go.now here.is_seen) (no_events here.rest.now none) ∙ nothing_left given sessions fabric go.now here.is_seen

  module _ (event : Bor Event) (behind : Bor (List Event)) (first : here.rest.now ≡ event.now ∷ behind.now) where
    left_here : (told : Bool) → here.is_seen ≡ told → left_of given sessions fabric g old ≡ left given sessions fabric go.now told (event.now ∷ behind.now)
    left_here told is = left_of_here ∙ (λ i. left given sessions fabric go.now (is i) (first i))

    left_behind : (new : Side) → Looks here new → left_of given sessions fabric go.now new ≡ unseen given sessions fabric go.now (event.now ∷ behind.now)
    left_behind new looks =
        let same = ap (λ (r : Bor (List Event)). r.now) looks.rest ∙ first in
        none_lost given sessions fabric go.now new (looks.lost ∙ go.told) ∙ (λ i. left given sessions fabric go.now (looks.told i) (same i))

    -- the event itself is its next mark
    pub goes_to_event : (new : Side) → HasLooked fabric go.now event here new true → GoesTo given sessions fabric g old new
    goes_to_event new h =
        let looks = h.1.1 in record {
          now = go.now;
          line = event.now;
          stands = subst (λ (r : Remembering). IsRemembering r given sessions go.now) (sym looks.node) go.stands;
          at = h.1.3;
          left =
              left_here false h.0
              ∙ seen_head given sessions fabric go.now event.now behind.now h.1.0
              ∙ ap₂ (λ (mark : Mark) (rest : List Marked). marked_at event.now mark ∷ rest) (sym h.1.2) (sym (left_behind new looks));
        }

    -- the event was told, or the fabric does not see it
    by_told : (told : Bool) → here.is_seen ≡ told → (here.is_seen ≡ false → is_seen fabric go.now.whole event.now ≡ false) → left_of given sessions fabric g old ≡ unseen given sessions fabric go.now (event.now ∷ behind.now)
    by_told true is passes = left_here true is
    by_told false is passes = left_here false is ∙ unseen_head given sessions fabric go.now event.now behind.now (passes is)

    looked : (told : Side) → HasLooked fabric go.now event here told false → left_of given sessions fabric g old ≡ unseen given sessions fabric go.now (event.now ∷ behind.now)
    looked told h = by_told here.is_seen refl h.1

    pub stands_still : (told : Side) → HasLooked fabric go.now event here told false → IsRemembering told.node given sessions go.now
    stands_still told h = subst (λ (r : Remembering). IsRemembering r given sessions go.now) (sym h.0.node) go.stands

    abbrev behind_it : Going
    behind_it = stepped given sessions go.now event.now

    left_now : (new : Side) (lost : Option LineOf) → new.lost ≡ lost → new.is_seen ≡ false → new.rest.now ≡ behind.now
        → left_of given sessions fabric behind_it new ≡ if_lost_at lost ++ marked given sessions fabric behind_it behind.now
    left_now new lost is told rest = λ i. if_lost_at (is i) ++ left given sessions fabric behind_it (told i) (rest i)

    -- a birth, an end or a reopening is its next mark
    pub goes_to_change : (told new : Side) → HasLooked fabric go.now event here told false → HasPassed given sessions fabric go.now event behind new true → GoesTo given sessions fabric g old new
    goes_to_change told new h p =
        let line = p.marks.0 in
        let mark = mark_in fabric behind_it new.here in record {
          now = behind_it;
          line = line;
          stands = p.stands;
          at = p.marks.1;
          left =
              looked told h
              ∙ passed_head given sessions fabric go.now event.now behind.now (marked_at line mark ∷ if_lost_at new.lost) p.marks.2
              ∙ ap (λ (rest : List Marked). marked_at line mark ∷ rest) (sym (left_now new new.lost refl p.unseen p.rest));
        }

    -- there is none here
    pub goes_further : (told new : Side) → HasLooked fabric go.now event here told false → HasPassed given sessions fabric go.now event behind new false → HasGone given sessions fabric g old new
    goes_further told new h p = record {
      now = behind_it;
      stands = p.stands;
      told = p.marks.1;
      left = looked told h ∙ passed_head given sessions fabric go.now event.now behind.now [] p.marks.0 ∙ sym (left_now new None p.marks.1 p.unseen p.rest);
    }
