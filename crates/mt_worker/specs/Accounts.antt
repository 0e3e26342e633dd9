-- What is told of a session by the answers to its calls: what is said over it, and which of its subscriptions stand.
use Rattle.std.specs.Prelude.{◌≤◌, ℕ, ◌==◌, ◌&&◌, nat_le, Bool, not, List, [], ◌∷◌, ◌++◌, Option, Some, None, filter, if◌then◌else◌}
use Rattle.std.specs.List.{list_any}
use Rattle.mt_exchange.specs.declared.lists.EndTime.{EndTime}
use Rattle.mt_layer.specs.mt_interactions.Deeds.{has_come}
use Rattle.mt_layer.specs.mt_interactions.Deed.{Deed}
use Rattle.mt_layer.specs.mt_interactions.TheVariants.{Ends}
use Rattle.mt_layer.specs.Saying.{sent_again, sent_heard, sent_report, talk_again, talk_heard, talk_report}
use Rattle.mt_model.specs.declared.limits.TheConstants.{LAST_FABRIC}
use Rattle.mt_model.specs.declared.messages.message.Reply.{Reply}
use Rattle.mt_model.specs.declared.messages.message.Reply.TheVariants as replies
use Rattle.mt_model.specs.declared.texts.config.SessionRow.{SessionRow}
use Rattle.mt_model.specs.declared.texts.recording.Event.{Event}
use Rattle.mt_model.specs.declared.texts.recording.Event.TheVariants.{Datagram, Report, Resend}
use Rattle.mt_model.specs.declared.texts.recording.Sent.{Sent}
use Rattle.mt_layer.specs.mt_shared.Replay.{unless_stopped}
use Rattle.mt_layer.specs.mt_shared.Answer.{Answer}
use Rattle.mt_talk.specs.Talks.{Talk, begun_talk}
use Rattle.mt_worker.specs.Gots.{Got, Told}
use Rattle.mt_worker.specs.declared.seat.Subscription.{Subscription}

-- A session: its row, what is said over it, and the subscriptions that it got and that have not been named as ended since, oldest first.
pub record Account : Type 0 where
  pub row : SessionRow
  pub talk : Talk
  pub subscriptions : List Subscription

-- nothing has been said
abbrev pub begun_account : SessionRow → Account
begun_account row = record { row = row; talk = begun_talk; subscriptions = [] }

-- WHICH SUBSCRIPTIONS STAND.

-- a report step can name it
abbrev pub IsReportable : Subscription → Type 0
IsReportable subscription = (subscription.fabric ≤ LAST_FABRIC) × (1 ≤ subscription.id)

-- The answer to a datagram gives a subscription where it is a report with one.

abbrev pub subscription_in : Reply → Option ℕ
subscription_in (replies.Report subscription items suppress) = subscription
subscription_in reply = None

abbrev pub gained_by : ℕ → Option ℕ → List Subscription
gained_by fabric None = []
gained_by fabric (Some id) = if nat_le fabric LAST_FABRIC && nat_le 1 id then record { fabric = fabric; id = id } ∷ [] else []

abbrev pub gained : Option ℕ → Reply → List Subscription
gained None reply = []
gained (Some fabric) reply = gained_by fabric (subscription_in reply)

-- A deed names subscriptions as ended, each from a time on. Over a session that is not live it names none.

abbrev pub ends_of : Deed → List EndTime
ends_of (Ends session at) = at
ends_of deed = []

abbrev pub is_named : List EndTime → ℕ → ℕ → Bool
is_named at ms id = list_any (λ (end : EndTime). has_come ms end && (end.subscription == id)) at

abbrev pub stands_unless : List EndTime → ℕ → Subscription → Bool
stands_unless at ms subscription = not (is_named at ms subscription.id)

abbrev pub still_standing : Option ℕ → List EndTime → ℕ → List Subscription → List Subscription
still_standing None at ms subscriptions = subscriptions
still_standing (Some fabric) at ms subscriptions = filter (stands_unless at ms) subscriptions

abbrev pub standing_behind : Event → Deed → ℕ → Answer → List Subscription → List Subscription
standing_behind (Datagram now from bytes) deed ms answer subscriptions = still_standing answer.fabric (ends_of deed) ms subscriptions ++ gained answer.fabric answer.reply
standing_behind (Resend now session) deed ms answer subscriptions = still_standing answer.fabric (ends_of deed) ms subscriptions
standing_behind event deed ms answer subscriptions = subscriptions

-- WHAT IS SENT OVER THE SESSION in one of its lines, and the talk behind that.

abbrev pub sent_in : Event → ℕ → Answer → Account → List Sent
sent_in (Datagram now from bytes) ms answer a = sent_heard a.row ms from bytes answer a.talk
sent_in (Resend now session) ms answer a = sent_again a.row ms answer a.talk
sent_in (Report now fabric subscription) ms answer a = sent_report a.row ms answer a.talk
sent_in event ms answer a = []

abbrev pub talk_in : Event → ℕ → Answer → Account → Talk
talk_in (Datagram now from bytes) ms answer a = talk_heard a.row ms from bytes answer a.talk
talk_in (Resend now session) ms answer a = talk_again a.row ms answer a.talk
talk_in (Report now fabric subscription) ms answer a = talk_report a.row ms subscription answer a.talk
talk_in event ms answer a = a.talk

-- what an entry of the book sends over it, and the account behind that; a stop sends and changes nothing
abbrev pub sent_by : Account → Told → List Sent
sent_by a told = unless_stopped told.0.stop (sent_in told.0.call.event told.0.ms told.1 a) []

abbrev pub account_behind : Account → Told → Account
account_behind a told = unless_stopped told.0.stop (record a {
  talk = talk_in told.0.call.event told.0.ms told.1 a;
  subscriptions = standing_behind told.0.call.event told.0.call.deed told.0.ms told.1 a.subscriptions;
}) a

-- over one session, entry by entry
abbrev pub sent_over : Account → List Got → List Sent
sent_over a [] = []
sent_over a (got ∷ gots) = sent_by a got.told ++ sent_over (account_behind a got.told) gots

abbrev pub account_over : Account → List Got → Account
account_over a [] = a
account_over a (got ∷ gots) = account_over (account_behind a got.told) gots

-- THE ACCOUNTS OF ALL SESSIONS, by their ids. An entry changes that of its session alone.

abbrev pub Accounts : Type 0
Accounts = ℕ → Account

abbrev pub behind : Accounts → Got → Accounts
behind accounts got = λ (id : ℕ). if id == got.session then account_behind (accounts id) got.told else accounts id

abbrev pub all_behind : Accounts → List Got → Accounts
all_behind accounts [] = accounts
all_behind accounts (got ∷ gots) = all_behind (behind accounts got) gots

-- WHAT IS SENT by the answers to these calls, in their order
abbrev pub all_sent : Accounts → List Got → List Sent
all_sent accounts [] = []
all_sent accounts (got ∷ gots) = sent_by (accounts got.session) got.told ++ all_sent (behind accounts got) gots
