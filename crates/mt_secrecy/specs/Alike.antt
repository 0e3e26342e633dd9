-- The whole without the epoch keys that its node has, and lines that say the same but for such keys.
use Rattle.std.specs.Prelude.{◌≡◌, ℕ, List, [], ◌∷◌}
use Rattle.mt_im.specs.Reading.{request_in}
use Rattle.mt_model.specs.declared.texts.recording.Event.{Event}
use Rattle.mt_model.specs.declared.texts.recording.Event.TheVariants as events
use Rattle.mt_runs.specs.Whole.{Whole}
use Rattle.mt_masks.specs.Masking.{masked_asked, masked_state}

-- THE WHOLE WITHOUT THE KEYS THAT ITS NODE HAS. No deadline has one, nor what is remembered of events and subscriptions. What is shown of a session
-- may, since payloads that came over it are shown: it stays as it is, so two wholes that are the same but for keys have heard the same over sessions.
abbrev pub masked_whole : Whole → Whole
masked_whole w = record w { state = masked_state w.state }

-- A line of the same plain actor at the same time, whose payload asks the same but for keys, or has the same fault.
pub record AsksAlike (ms fabric node : ℕ) (cats : List ℕ) (opcode : ℕ) (payload : List ℕ) (other : Event) : Type 0 where
  pub asked : List ℕ
  pub same : other ≡ events.Ask ms fabric node cats opcode asked
  pub alike : masked_asked (request_in opcode payload) ≡ masked_asked (request_in opcode asked)

-- A stop at once. One in which calls of the disk are counted is not alike to any: a key set that is written again changes nothing that lasts, and
-- makes no call, and another does.
pub record StopsAlike (calls : ℕ) (line other : Event) : Type 0 where
  pub at_once : calls ≡ 0
  pub same : other ≡ line

-- LINES THAT ARE ALIKE: lines of plain actors that ask the same but for keys; time steps, report steps and stops at once that are the same; and no
-- others.
abbrev pub AreAlike : Event → Event → Type 0
AreAlike (events.Ask ms fabric node cats opcode payload) other = AsksAlike ms fabric node cats opcode payload other
AreAlike (events.Tick ms) other = other ≡ events.Tick ms
AreAlike (events.Report ms fabric subscription) other = other ≡ events.Report ms fabric subscription
AreAlike (events.Stop calls fate) other = StopsAlike calls (events.Stop calls fate) other
AreAlike (events.Datagram ms from bytes) other = ⊥
AreAlike (events.Resend ms session) other = ⊥

-- recordings, line by line
abbrev pub AllAlike : List Event → List Event → Type 0
AllAlike [] [] = Unit {0}
AllAlike [] (other ∷ others) = ⊥
AllAlike (event ∷ events) [] = ⊥
AllAlike (event ∷ events) (other ∷ others) = AreAlike event other × AllAlike events others
