use Rattle.std.proofs.Common.{◌≡◌, ◌<◌, Some, None, refl, sym, ap, ◌∙◌, arith, length, slice_get}
use Rattle.std.specs.Option.{option_copied}
use Rattle.std.proofs.lemmas.Option.{slice_get_within}
use Rattle.mt_events.specs.Telling.{own_of}
use Rattle.mt_marks.proofs.Indexed.{ends_too, next_same}
use Rattle.mt_marks.proofs.own.rest.are_events_same.Goals as goal

pub events-preserved : goal.events-preserved
events-preserved c =
    let mine = own_of c.args.fabric c.args.one.now in
    let theirs = own_of c.args.fabric c.args.other.now in
    let n = c.events.index in
    let x = c.in-Some.mine.now in
    let y = c.in-Some-own_at.theirs.now in
    let got : slice_get mine n ≡ Some x = sym c.own_at.ensures ∙ ap option_copied c.in-Some.is in
    let got_too : slice_get theirs n ≡ Some y = sym c.own_at-in-Some.ensures ∙ ap option_copied c.in-Some-own_at.is in
    let same : x ≡ y = c.if-not-is_same.ensures.0 refl in
    let within : n < length mine = slice_get_within mine n x got in
    (next_same mine theirs n x y got got_too same c.events.invariant.0, omega (arith, within))

pub returns : goal.returns
returns c =
    let mine = own_of c.args.fabric c.args.one.now in
    let theirs = own_of c.args.fabric c.args.other.now in
    let n = c.events.index in
    let none : slice_get mine n ≡ None = sym c.own_at.ensures ∙ ap option_copied c.in_default.is in
    ends_too mine theirs n c.own_at-2.result c.is_none.result c.is_none.ensures c.own_at-2.ensures none c.events.invariant.0
