-- What is remembered of the live sessions of a fabric, by what the code has of it.
use Rattle.std.proofs.Common.{◌≡◌, ℕ, inl, inr, List, [], ◌∷◌, refl, ap, ◌∙◌, filter, map}
use Rattle.std.proofs.lemmas.Bool.{cases_Bool}
use Rattle.mt_model.specs.declared.node.state.NodeSession.{NodeSession}
use Rattle.mt_model.specs.declared.texts.config.SessionRow.{SessionRow}
use Rattle.mt_subs.specs.Leaving.{is_live_as}
use Rattle.mt_whole.specs.mt_machine.Environment.{Environment}
use Rattle.mt_whole.specs.mt_machine.State.{State}
use Rattle.mt_whole.specs.mt_marks.Remembered.{ToldTalk, remembered, told_among}
use Rattle.mt_whole.specs.mt_runs.Course.{Going}
use Rattle.mt_whole.specs.mt_runs.Isolation.{is_talk_among, own_part, talks_among}
use Rattle.mt_whole.specs.mt_runs.Whole.{SessionTalk}
use Rattle.mt_play.specs.Remembers.{IsRemembering}
use Rattle.mt_play.specs.declared.remembering.Remembering.{Remembering}

-- the sessions that are live for a fabric
abbrev pub live : ℕ → State → List NodeSession
live fabric s = filter (λ (session : NodeSession). is_live_as fabric session.standing) s.node.sessions

-- what is remembered of some is what is remembered of their talks
among_remembered : (sessions : List NodeSession) (ts : List SessionTalk) → told_among sessions (map remembered ts) ≡ map remembered (talks_among sessions ts)
among_remembered sessions [] = refl
among_remembered sessions (t ∷ ts) = elim (cases_Bool (is_talk_among sessions t)) [
  | inl among ↦ rw among (ap (λ (rest : List ToldTalk). remembered t ∷ rest) (among_remembered sessions ts))
  | inr other ↦ rw other (among_remembered sessions ts)
]

pub own_told : (fabric : ℕ) (one : Remembering) (given : Environment) (sessions : List SessionRow) (g : Going) → IsRemembering one given sessions g
    → told_among (live fabric one.playing.whole.interactions.state) one.told ≡ map remembered (own_part fabric g.whole).talks
own_told fabric one given sessions g is =
    let written : told_among (live fabric one.playing.whole.interactions.state) one.told ≡ told_among (live fabric g.whole.state) (map remembered g.whole.talks) = λ i. told_among (live fabric (is.playing.whole.state i)) (is.told i) in
    written ∙ among_remembered (live fabric g.whole.state) g.whole.talks
