-- Of the payloads of what is answered each but the last awaits its confirmation.
use Rattle.std.proofs.Common.{Bool, true, false, ℕ, List, [], ◌∷◌, map, Option, Some, None, if◌then◌else◌}
use Rattle.mt_model.specs.declared.messages.message.Payload.{Payload}
use Rattle.mt_model.specs.declared.messages.message.Reply.TheVariants as replies
use Rattle.mt_exchange.specs.Retold.{AwaitsAll}
use Rattle.mt_im_out.specs.Chunks.{chunks_of}
use Rattle.mt_ledger.specs.Subscribing.{confirm_reply}
use Rattle.mt_subs.specs.Subscriptions.{kept_at}
use Rattle.mt_subs.specs.declared.subscription.Kept.{Kept}
use Rattle.mt_talk.specs.Awaiting.{RepliesAwaitTheirConfirmations}
use Rattle.mt_runs.specs.Datagrams.{dated, deadline_set, reply_over}
use Rattle.mt_runs.specs.Retold.{ConfirmationsAwait, RepliesOverSessionsAwait}

-- with a deadline

until_await : (until : Option ℕ) (payloads : List Payload) → AwaitsAll payloads → AwaitsAll (map (λ (payload : Payload). record payload { deadline = until }) payloads)
until_await until [] all = tt
until_await until (p ∷ []) all = all
until_await until (p ∷ q ∷ payloads) all = (all.0, until_await until (q ∷ payloads) all.1)

dated_await : (until : Option ℕ) (payloads : List Payload) → AwaitsAll payloads → AwaitsAll (dated until payloads)
dated_await None payloads all = all
dated_await (Some ms) payloads all = until_await (Some ms) payloads all

pub replies_await : RepliesAwaitTheirConfirmations → RepliesOverSessionsAwait
replies_await law given s l id timed ms asked readable =
    dated_await (deadline_set timed ms asked) (chunks_of (reply_over given s l id timed ms asked)) (law (reply_over given s l id timed ms asked) readable)

confirmed_await : RepliesAwaitTheirConfirmations → (subscription : ℕ) (kept : Option Kept) → AwaitsAll (chunks_of (confirm_reply subscription kept))
confirmed_await law subscription None = tt
confirmed_await law subscription (Some kept) = by_test kept.primed
  where
    by_test : (primed : Bool) → AwaitsAll (chunks_of (if primed then replies.Nothing else replies.Subscribed subscription kept.sub.ceiling))
    by_test true = tt
    by_test false = law (replies.Subscribed subscription kept.sub.ceiling) tt

pub confirmations_await : RepliesAwaitTheirConfirmations → ConfirmationsAwait
confirmations_await law fabric subscription subs = confirmed_await law subscription (kept_at fabric subscription subs)
