use Rattle.std.proofs.Common.{◌≡◌, ◌<◌, ◌∙◌, Some, None, ap, arith, length, slice_get, sym}
use Rattle.std.specs.Prelude.{option_copied}
use Rattle.std.proofs.lemmas.Option.{slice_get_within}
use Rattle.mt_events.specs.Rings.{ring_of}
use Rattle.mt_events.specs.Telling.{own_of}
use Rattle.mt_events.proofs.Merging.{left_alone, next_left, next_right, none_next, right_alone}
use Rattle.mt_events.proofs.rings.Rings.first.Goals as goal

pub returns-then-x-y : goal.returns-then-x-y
returns-then-x-y c =
    let xs = ring_of 0 c.args.self.now in
    let ys = own_of c.args.fabric c.args.self.now in
    let i = c.args.at.shared in
    let j = c.args.at.own in
    let x = c.in-Some-Some.x.now in
    let y = c.in-Some-Some.y.now in
    let at : slice_get xs i ≡ Some x = sym c.shared_at.ensures ∙ ap option_copied c.in-Some-Some.is-0 in
    let there : slice_get ys j ≡ Some y = sym c.own_at.ensures ∙ ap option_copied c.in-Some-Some.is-1 in
    let within : i < length xs = slice_get_within xs i x at in
    record { first = next_left xs ys i j x y at there c.if-x-y.true; further = omega arith; within = record { shared = omega (arith, within); own = c.requires.own } }

pub returns-else-x-y : goal.returns-else-x-y
returns-else-x-y c =
    let xs = ring_of 0 c.args.self.now in
    let ys = own_of c.args.fabric c.args.self.now in
    let i = c.args.at.shared in
    let j = c.args.at.own in
    let x = c.in-Some-Some.x.now in
    let y = c.in-Some-Some.y.now in
    let at : slice_get xs i ≡ Some x = sym c.shared_at.ensures ∙ ap option_copied c.in-Some-Some.is-0 in
    let there : slice_get ys j ≡ Some y = sym c.own_at.ensures ∙ ap option_copied c.in-Some-Some.is-1 in
    let within : j < length ys = slice_get_within ys j y there in
    record { first = next_right xs ys i j x y at there c.if-x-y.false; further = omega arith; within = record { shared = c.requires.shared; own = omega (arith, within) } }

pub returns-in-Some-None : goal.returns-in-Some-None
returns-in-Some-None c =
    let xs = ring_of 0 c.args.self.now in
    let ys = own_of c.args.fabric c.args.self.now in
    let i = c.args.at.shared in
    let j = c.args.at.own in
    let x = c.in-Some-None.x.now in
    let at : slice_get xs i ≡ Some x = sym c.shared_at.ensures ∙ ap option_copied c.in-Some-None.is-0 in
    let there : slice_get ys j ≡ None = sym c.own_at.ensures ∙ ap option_copied c.in-Some-None.is-1 in
    let within : i < length xs = slice_get_within xs i x at in
    record { first = left_alone xs ys i j x at there; further = omega arith; within = record { shared = omega (arith, within); own = c.requires.own } }

pub returns-in-None-Some : goal.returns-in-None-Some
returns-in-None-Some c =
    let xs = ring_of 0 c.args.self.now in
    let ys = own_of c.args.fabric c.args.self.now in
    let i = c.args.at.shared in
    let j = c.args.at.own in
    let y = c.in-None-Some.y.now in
    let at : slice_get xs i ≡ None = sym c.shared_at.ensures ∙ ap option_copied c.in-None-Some.is-0 in
    let there : slice_get ys j ≡ Some y = sym c.own_at.ensures ∙ ap option_copied c.in-None-Some.is-1 in
    let within : j < length ys = slice_get_within ys j y there in
    record { first = right_alone xs ys i j y at there; further = omega arith; within = record { shared = c.requires.shared; own = omega (arith, within) } }

pub returns-in-None-None : goal.returns-in-None-None
returns-in-None-None c =
    let xs = ring_of 0 c.args.self.now in
    let ys = own_of c.args.fabric c.args.self.now in
    let at : slice_get xs c.args.at.shared ≡ None = sym c.shared_at.ensures ∙ ap option_copied c.in-None-None.is-0 in
    let there : slice_get ys c.args.at.own ≡ None = sym c.own_at.ensures ∙ ap option_copied c.in-None-None.is-1 in
    none_next xs ys c.args.at.shared c.args.at.own at there
