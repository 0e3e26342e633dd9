use Rattle.std.proofs.Common.{◌≡◌, Some, None, refl, sym, ap, ◌∙◌, slice_get}
use Rattle.std.specs.Option.{option_copied}
use Rattle.mt_marks.proofs.Indexed.{ends_too, next_same}
use Rattle.mt_marks.proofs.own.rest.are_open_same.Goals as goal

pub exchanges-preserved : goal.exchanges-preserved
exchanges-preserved c =
    let mine = c.args.one.now.table in
    let theirs = c.args.other.now.table in
    let n = c.exchanges.index in
    let x = c.in-Some.mine.now in
    let y = c.in-Some-at.theirs.now in
    let got : slice_get mine n ≡ Some x = sym c.at.ensures.found ∙ ap option_copied c.in-Some.is in
    let got_too : slice_get theirs n ≡ Some y = sym c.at-in-Some.ensures.found ∙ ap option_copied c.in-Some-at.is in
    let same : x ≡ y = c.if-not-is_same.ensures.0 refl in
    next_same mine theirs n x y got got_too same c.exchanges.invariant

pub returns : goal.returns
returns c =
    let mine = c.args.one.now.table in
    let theirs = c.args.other.now.table in
    let n = c.exchanges.index in
    let none : slice_get mine n ≡ None = sym c.at.ensures.found ∙ ap option_copied c.in_default.is in
    ends_too mine theirs n c.at-2.result c.is_none.result c.is_none.ensures c.at-2.ensures.found none c.exchanges.invariant
