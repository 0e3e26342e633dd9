-- What is remembered of a session: all that is shown of it.
use Rattle.std.specs.Prelude.{ℕ, ◌==◌, Bool, List, [], ◌∷◌, ◌++◌, filter, if◌then◌else◌}
use Rattle.std.specs.List.{list_any}
use Rattle.mt_model.specs.declared.node.state.NodeSession.{NodeSession}
use Rattle.mt_model.specs.declared.texts.config.SessionRow.{SessionRow}
use Rattle.mt_exchange.specs.Shown.{Shown, closed}
use Rattle.mt_runs.specs.Whole.{SessionTalk}

-- a session's row, and what is shown of the session
pub record ToldTalk : Type 0 where
  pub row : SessionRow
  pub shown : List Shown

-- of what is said over a session, without what stands over it
abbrev pub remembered : SessionTalk → ToldTalk
remembered t = record { row = t.row; shown = t.talk.shown }

-- that of one of these sessions
abbrev pub is_told_among : List NodeSession → ToldTalk → Bool
is_told_among sessions t = list_any (λ (session : NodeSession). session.session == t.row.session) sessions

-- those of these sessions
abbrev pub told_among : List NodeSession → List ToldTalk → List ToldTalk
told_among sessions talks = filter (is_told_among sessions) talks

-- where the session is among those that have ended, its exchanges are dropped
abbrev pub told_without_ended : List ℕ → ToldTalk → ToldTalk
told_without_ended ended t = if list_any (λ (other : ℕ). other == t.row.session) ended then record t { shown = t.shown ++ closed ∷ [] } else t
