use Rattle.std.proofs.Common.{◌≡◌, ◌∙◌, ap, sym, subst, List, length, ◌<◌, ◌≤◌}
use Rattle.mt_shared.specs.Acts.{IsHalted, StandsBetween}
use Rattle.std.specs.Prelude.{is_some, slice_get}
use Rattle.mt_model.specs.declared.limits.TheConstants.{RECORDING_BYTES, RECORDING_LINES}
use Rattle.mt_shared.specs.Book.{AreFormed, are_in_time, is_timed, lines_in, record_size, stop_in}
use Rattle.mt_shared.specs.declared.entry.Entry.{Entry}
use denote.Exit.{no}
use denote.Param.{param}
use denote.Param.Send.{arg_send, param_send}
use Rattle.std.proofs.Crossing.{Box-send}
use Rattle.mt_shared.specs.contracts.held.Held as held
use Rattle.mt_shared.proofs.Carrying.{held_send}
use Rattle.mt_shared.proofs.shared.SharedNode.close.Goals as goal

pub close-requires-send-T : goal.close-requires-send-T
close-requires-send-T g c κs within = param_send 0 _ (arg_send _ no _ (Box-send (held.the_row (param 0 g.row.K) g.K.Keeper) (held_send c.origins_cross.ensures c.interactions_cross.ensures c.entries_cross.ensures (param 0 g.row.K) g.K.Keeper c.type_bounds.send-K)))

pub returns-clause-once : goal.returns-clause-once
returns-clause-once g c k below = c.close.ensures.once k (subst (λ (entries : List Entry). k < length entries) (sym c.close.ensures.book) below)

pub returns-clause-no_other : goal.returns-clause-no_other
returns-clause-no_other g c k above = c.close.ensures.no_other k (subst (λ (entries : List Entry). length entries ≤ k) (sym c.close.ensures.book) above)

pub returns-clause-in_time : goal.returns-clause-in_time
returns-clause-in_time g c =
    let closed = c.into_inner.result in
    let book : closed.book.items ≡ c.args.pass.seen = ap (λ held. held.book.items) c.into_inner.ensures ∙ c.close.ensures.book in
    ap are_in_time (sym book) ∙ closed.in_time

pub returns-clause-timed : goal.returns-clause-timed
returns-clause-timed g c =
    let closed = c.into_inner.result in
    let book : closed.book.items ≡ c.args.pass.seen = ap (λ held. held.book.items) c.into_inner.ensures ∙ c.close.ensures.book in
    ap (is_timed 0) (sym book) ∙ closed.timed

pub returns-clause-failed : goal.returns-clause-failed
returns-clause-failed g c =
    let closed = c.into_inner.result in
    let book : closed.book.items ≡ c.args.pass.seen = ap (λ held. held.book.items) c.into_inner.ensures ∙ c.close.ensures.book in
    closed.failed ∙ ap is_some (sym closed.stop_is ∙ ap stop_in book)

pub returns-clause-kept : goal.returns-clause-kept
returns-clause-kept g c none =
    let closed = c.into_inner.result in
    let book : closed.book.items ≡ c.args.pass.seen = ap (λ held. held.book.items) c.into_inner.ensures ∙ c.close.ensures.book in
    closed.kept (sym closed.stop_is ∙ ap stop_in book ∙ none)

pub returns-clause-halted : goal.returns-clause-halted
returns-clause-halted g c stop is =
    let closed = c.into_inner.result in
    let map = g.K.Keeper.map closed.keeper in
    let book : closed.book.items ≡ c.args.pass.seen = ap (λ held. held.book.items) c.into_inner.ensures ∙ c.close.ensures.book in
    let here = sym closed.stop_is ∙ ap stop_in book ∙ is in
    subst (λ (entries : List Entry). IsHalted stop closed.node entries map) book (record {
      place = closed.stop_is_last stop here;
      rose = closed.faults_rose stop here;
      either = closed.halted stop here;
    })

pub returns-clause-few : goal.returns-clause-few
returns-clause-few g c =
    let closed = c.into_inner.result in
    let book : closed.book.items ≡ c.args.pass.seen = ap (λ held. held.book.items) c.into_inner.ensures ∙ c.close.ensures.book in
    subst (λ (entries : List Entry). length (lines_in entries) ≤ RECORDING_LINES) book closed.few

pub returns-clause-short : goal.returns-clause-short
returns-clause-short g c =
    let closed = c.into_inner.result in
    let book : closed.book.items ≡ c.args.pass.seen = ap (λ held. held.book.items) c.into_inner.ensures ∙ c.close.ensures.book in
    subst (λ (entries : List Entry). record_size entries ≤ RECORDING_BYTES) book closed.short

pub returns-clause-formed : goal.returns-clause-formed
returns-clause-formed g c =
    let closed = c.into_inner.result in
    let book : closed.book.items ≡ c.args.pass.seen = ap (λ held. held.book.items) c.into_inner.ensures ∙ c.close.ensures.book in
    subst (λ (entries : List Entry). ∥ AreFormed entries ∥₁) book closed.formed

pub returns-clause-counted : goal.returns-clause-counted
returns-clause-counted g c stop is =
    let closed = c.into_inner.result in
    let book : closed.book.items ≡ c.args.pass.seen = ap (λ held. held.book.items) c.into_inner.ensures ∙ c.close.ensures.book in
    closed.counted stop (sym closed.stop_is ∙ ap stop_in book ∙ is)

pub returns-clause-between : goal.returns-clause-between
returns-clause-between g c stop is =
    let closed = c.into_inner.result in
    let book : closed.book.items ≡ c.args.pass.seen = ap (λ held. held.book.items) c.into_inner.ensures ∙ c.close.ensures.book in
    subst (λ (entries : List Entry). ∥ StandsBetween (g.K.Keeper.stands_between closed.keeper) closed.node (slice_get entries stop.place) ∥₁) book (closed.between stop (sym closed.stop_is ∙ ap stop_in book ∙ is))
