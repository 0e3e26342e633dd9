-- For which talks those of the code stand.
use Rattle.std.specs.Prelude.{◌≡◌, ℕ, ◌==◌, Bool, List, [], ◌∷◌, Option, Some, None, ⊤, if◌then◌else◌}
use Rattle.mt_talk.specs.Talks.{IsTalkOf}
use Rattle.mt_interactions.specs.mt_runs.Whole.{SessionTalk, Whole}
use Rattle.mt_whole.specs.declared.talks.SessionTalk as code
use Rattle.mt_whole.specs.declared.whole.Whole as whole

-- one talk, over the session of a row
pub record IsTalkAt (one : code.SessionTalk) (t : SessionTalk) : Type 0 where
  pub id : one.id ≡ t.row.session
  pub talk : IsTalkOf one.talk t.row t.talk

abbrev pub AreTalks : List code.SessionTalk → List SessionTalk → Type 0
AreTalks [] [] = ⊤
AreTalks [] (t ∷ ts) = ⊥
AreTalks (talk ∷ talks) [] = ⊥
AreTalks (talk ∷ talks) (t ∷ ts) = IsTalkAt talk t × AreTalks talks ts

-- the talk of the session of this id
abbrev pub is_code_of : ℕ → code.SessionTalk → Bool
is_code_of id talk = talk.id == id

-- the talk that is found stands for the one that is
abbrev pub IsFoundAs : Option code.SessionTalk → Option SessionTalk → Type 0
IsFoundAs None None = ⊤
IsFoundAs None (Some t) = ⊥
IsFoundAs (Some talk) None = ⊥
IsFoundAs (Some talk) (Some t) = IsTalkAt talk t

-- a talk in the place of that of its session, where there is one
abbrev pub put : Option code.SessionTalk → List code.SessionTalk → List code.SessionTalk
put None talks = talks
put (Some new) [] = []
put (Some new) (talk ∷ talks) = if talk.id == new.id then new ∷ talks else talk ∷ put (Some new) talks

-- THE WHOLE THAT THE CODE STANDS FOR: its node, its deadlines, its events and subscriptions, and lists of what was said, which nothing stores.
pub record IsWholeOf (one : whole.Whole) (w : Whole) : Type 0 where
  pub state : one.interactions.state ≡ w.state
  pub ledger : one.interactions.ledger ≡ w.ledger
  pub talks : AreTalks one.talks.items w.talks
