-- For which talk that of a worker stands.
use Rattle.std.specs.Prelude.{◌≡◌, ◌⊎◌, ℕ, Bool, List}
use Rattle.mt_model.specs.declared.texts.config.SessionRow.{SessionRow}
use Rattle.mt_outside.specs.declared.network.Peer.{Peer}
use Rattle.mt_talk.specs.Hearing.{after_datagram}
use Rattle.mt_talk.specs.Talks.{IsTalkOf, Talk, after_resend}
use Rattle.mt_layer.specs.declared.session_talk.SessionTalk.{SessionTalk}

-- A worker's talk as the code has it stands for this one, over the session of this row.
pub record IsKeptOf (one : SessionTalk) (row : SessionRow) (t : Talk) : Type 0 where
  pub id : one.session ≡ row.session
  pub talk : IsTalkOf one.talk row t

-- A datagram was listened to, and there was no memory for the deed: the message counts, and its exchange has taken it or is as it was.
pub record IsListenedInPart (one : SessionTalk) (row : SessionRow) (from : Peer) (bytes : List ℕ) (t : Talk) : Type 0 where
  pub taken : Bool
  pub stands : IsKeptOf one row (after_datagram row taken from bytes t)

-- There was no memory in a resend step: the talk is as it was, or what is due counts as sent again.
abbrev pub IsResentInPart : SessionTalk → SessionRow → ℕ → Talk → Type 0
IsResentInPart one row ms t = IsKeptOf one row t ⊎ IsKeptOf one row (after_resend ms t)
