use denote.Exit.{no}
use denote.Param.{param}
use denote.Param.Send.{arg_send, param_send}
use Rattle.std.proofs.Common.{◌≡◌, ◌∙◌, ap, sym, subst, List, ℕ, ◌<◌, length}
use mathlib.Core.List.{IsPrefix}
use Rattle.mt_turn.specs.Counts.{how_often}
use Rattle.mt_turn.specs.Known.{GrowsByOne, entered}
use Rattle.mt_shared.specs.Shared.{NodePass, SharedView}
use Rattle.mt_shared.specs.declared.entry.Entry.{Entry}
use Rattle.std.proofs.Crossing.{Box-send}
use Rattle.mt_shared.specs.contracts.held.Held as held
use Rattle.mt_shared.proofs.Carrying.{held_send}
use Rattle.mt_shared.proofs.Turns.{answered_if, grows, origin_same, refused_if, still_seen, stop_stays}
use Rattle.mt_shared.proofs.shared.SharedNode.act_watched.Goals as goal

pub enter-held-requires-send-T : goal.enter-held-requires-send-T
enter-held-requires-send-T g c κs within = param_send 0 _ (arg_send _ no _ (Box-send (held.the_row (param 0 g.row.K) g.K.Keeper) (held_send c.origins_cross.ensures c.interactions_cross.ensures c.entries_cross.ensures (param 0 g.row.K) g.K.Keeper c.type_bounds.send-K)))

pub leave-requires-send-T : goal.leave-requires-send-T
leave-requires-send-T g c κs within = param_send 0 _ (arg_send _ no _ (Box-send (held.the_row (param 0 g.row.K) g.K.Keeper) (held_send c.origins_cross.ensures c.interactions_cross.ensures c.entries_cross.ensures (param 0 g.row.K) g.K.Keeper c.type_bounds.send-K)))

pub leave-requires-clause-own : goal.leave-requires-clause-own
leave-requires-clause-own g c κs within =
    ap (λ (p : NodePass). p.lock) c.enter-held.ensures.inside ∙ c.requires.own.0 ∙ sym (ap (λ (v : SharedView). v.lock) c.self.view_is)

pub leave-requires-clause-inside : goal.leave-requires-clause-inside
leave-requires-clause-inside g c κs within = ap (λ (p : NodePass). p.inside) c.enter-held.ensures.inside

pub leave-requires-clause-book : goal.leave-requires-clause-book
leave-requires-clause-book g c κs within =
    let held = c.deref_mut.result.now in
    let book : c.enter-held.result.value.book.items ≡ held.book.items = ap (λ it. it.book.items) (sym c.deref_mut.ensures.value) in
    let found : c.enter-held.new.pass.found ≡ held.book.items = ap (λ (p : NodePass). p.found) c.enter-held.ensures.inside ∙ book in
    subst (λ (b : List Entry). GrowsByOne b c.act-answer.new.self.book.items) (sym found)
    (grows c.act-answer.result c.act-answer.new.self.origin.value held.book.items c.act-answer.new.self.book.items c.args.call c.act-answer.ensures.entered c.act-answer.ensures.refused)

pub returns-clause-seen : goal.returns-clause-seen
returns-clause-seen g c =
    let held = c.deref_mut.result.now in
    let found : c.enter-held.result.value.book.items ≡ held.book.items = ap (λ it. it.book.items) (sym c.deref_mut.ensures.value) in
    let book = c.act-answer.new.self.book.items in
    let begins = subst (IsPrefix c.args.pass.now.seen) found c.enter-held.ensures.begins in
    let growth = grows c.act-answer.result c.act-answer.new.self.origin.value held.book.items book c.args.call c.act-answer.ensures.entered c.act-answer.ensures.refused in
    still_seen c.args.pass.now held.book.items book c.leave.new.pass c.enter-held.new.pass begins growth c.leave.ensures.outside

pub returns-clause-answered : goal.returns-clause-answered
returns-clause-answered g c =
    let held = c.deref_mut.result.now in
    let found : c.enter-held.result.value.book.items ≡ held.book.items = ap (λ it. it.book.items) (sym c.deref_mut.ensures.value) in
    let book = c.act-answer.new.self.book.items in
    let inside = c.enter-held.ensures.inside ∙ ap (entered c.args.pass.now) found in
    let begins = subst (IsPrefix c.args.pass.now.seen) found c.enter-held.ensures.begins in
    let places = subst (λ (b : List Entry). (k : ℕ) → 0 < how_often k c.args.pass.now.places → k < length b) found c.enter-held.ensures.places in
    let same : held.origin.value ≡ c.enter-held.result.value.origin.value = ap (λ it. it.origin.value) c.deref_mut.ensures.value in
    let origin : c.act-answer.new.self.origin.value ≡ c.args.self.now.origin = c.act-answer.ensures.origin ∙ same ∙ origin_same c.enter-held.result.value.origin.value c.args.self.now.origin (sym c.enter-held.ensures.origin ∙ c.requires.own.1) in
    answered_if c.act-answer.result c.act-answer.new.self.origin.value c.args.self.now.origin c.args.pass.now c.enter-held.new.pass c.leave.new.pass held.book.items book c.args.call origin inside begins
    places c.act-answer.ensures.entered c.act-answer.ensures.room c.act-answer.ensures.again c.leave.ensures.outside c.leave.ensures.grown

pub returns-clause-refused : goal.returns-clause-refused
returns-clause-refused g c =
    let held = c.deref_mut.result.now in
    let found : c.enter-held.result.value.book.items ≡ held.book.items = ap (λ it. it.book.items) (sym c.deref_mut.ensures.value) in
    let book = c.act-answer.new.self.book.items in
    let inside = c.enter-held.ensures.inside ∙ ap (entered c.args.pass.now) found in
    let begins = subst (IsPrefix c.args.pass.now.seen) found c.enter-held.ensures.begins in
    refused_if c.act-answer.result c.args.pass.now c.enter-held.new.pass c.leave.new.pass held.book.items book c.args.call inside begins c.act-answer.ensures.refused c.leave.ensures.outside c.act-answer.ensures.again c.act-answer.ensures.full

pub returns-clause-again : goal.returns-clause-again
returns-clause-again g c stop is =
    let found : c.enter-held.result.value.book.items ≡ c.deref_mut.result.now.book.items = ap (λ it. it.book.items) (sym c.deref_mut.ensures.value) in
    c.act-answer.ensures.again stop (stop_stays c.args.pass.now.seen c.deref_mut.result.now.book.items stop (subst (IsPrefix c.args.pass.now.seen) found c.enter-held.ensures.begins) is)
