use Rattle.std.proofs.Common.{◌≡◌, ℕ, ◌<◌, List, [], length, get_or, ap, subst}
use Rattle.mt_model.specs.declared.texts.config.SessionRow.{SessionRow}
use Rattle.mt_model.specs.declared.texts.recording.Sent.{Sent}
use Rattle.mt_session.specs.Datagrams.{mirror}
use Rattle.mt_session.specs.Opening.{received}
use Rattle.mt_session.specs.Sessions.{arrivals_by, counters}
use Rattle.mt_ctl.specs.Showing.{is_sealed_to}
use Rattle.mt_ctl.proofs.Showings.{short_at, shown_more}
use Rattle.mt_ctl.proofs.showing.show.Goals as goal

pub loop-message-preserved : goal.loop-message-preserved
loop-message-preserved c =
    let l = c.loop-message in
    let row : SessionRow = mirror c.args.row.now in
    let before = l.invariant.0 in
    let stands = l.invariant.1.0 in
    let message : Sent = c.message-item.result in
    let IsAt : List Sent → Type 0 = λ sent. (l.message-index < length sent) × (message ≡ get_or sent l.message-index message) in
    let at : IsAt c.args.sent.now = subst IsAt c.as_slice-message-items.ensures (c.loop-message-test.true, c.message-item.is) in (
      arrivals_by before (received row (counters before) message.bytes),
      (
        c.in_ok-opened.ensures.stands row before [] stands,
        shown_more row before c.args.sent.now l.message-index message l.items.items c.push.new.self.items _ c.in_ok-opened.field-0
            at.0 at.1 (ap is_sealed_to c.in-Session.is) (c.in_ok-opened.ensures.item row before [] stands)
            c.in_ok-push.ensures.items l.invariant.1.1,
      ),
    )

pub opened-requires : goal.opened-requires
opened-requires c =
    let message : Sent = c.message-item.result in
    let i : ℕ = c.loop-message.message-index in
    let IsAt : List Sent → Type 0 = λ sent. (i < length sent) × (message ≡ get_or sent i message) in
    let at : IsAt c.args.sent.now = subst IsAt c.as_slice-message-items.ensures (c.loop-message-test.true, c.message-item.is) in
    short_at c.args.sent.now i message at.0 at.1 (ap is_sealed_to c.in-Session.is) c.requires.short
