-- The deeds that a worker asks of the shared node, for what is heard over a session and for its resend steps. They name the session and no state.
use Rattle.std.specs.Prelude.{ℕ, true, List, [], ◌∷◌, Option, Some, None, Result, Ok, Err}
use Rattle.mt_exchange.specs.Resending.{end_times}
use Rattle.mt_im.specs.Reading.{request_in}
use Rattle.mt_im.specs.declared.fault.ImFault.{ImFault}
use Rattle.mt_model.specs.declared.messages.message.Request.{Request}
use Rattle.mt_model.specs.declared.texts.config.SessionRow.{SessionRow}
use Rattle.mt_talk.specs.Hearing.{Said, answers, asks, confirms, ends, nothing, said}
use Rattle.mt_talk.specs.Talks.{Talk}
use Rattle.mt_shared.specs.mt_interactions.Deed.{Deed}
use Rattle.mt_shared.specs.mt_interactions.TheVariants.{Ask, Confirm, Ends, Nothing}

-- what is no request asks nothing
abbrev pub deed_asked : ℕ → Option ℕ → Result Request ImFault → Deed
deed_asked id timed (Ok request) = Ask id request timed
deed_asked id timed (Err fault) = Nothing id

-- a subscription whose report is not confirmed ends at once
abbrev pub deed_ended : ℕ → Option ℕ → Deed
deed_ended id None = Nothing id
deed_ended id (Some subscription) = Ends id (record { subscription = subscription; ms = 0 } ∷ [])

-- WHAT IS DONE for what is said over the session of this id
abbrev pub deed_said : ℕ → Said → Deed
deed_said id nothing = Nothing id
deed_said id (asks key acknowledge opcode payload timed) = deed_asked id timed (request_in opcode payload)
deed_said id (confirms key acknowledge subscription) = Confirm id subscription
deed_said id (ends key acknowledge subscription) = deed_ended id subscription
deed_said id (answers key acknowledge payloads) = Nothing id

-- The shared node alone knows whether a session is live, so a datagram is heard as if it were.
abbrev pub said_as_live : SessionRow → List ℕ → Talk → Said
said_as_live row bytes t = said row t true bytes

abbrev pub deed_heard : SessionRow → List ℕ → Talk → Deed
deed_heard row bytes t = deed_said row.session (said_as_live row bytes t)

-- in a resend step: the subscriptions end whose reports were sent in vain by the time at which it is done
abbrev pub deed_again : SessionRow → Talk → Deed
deed_again row t = Ends row.session (end_times t.open_ones)
