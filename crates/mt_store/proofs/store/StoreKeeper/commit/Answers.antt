use Rattle.std.proofs.Common.{◌≡◌, List, ap, ◌∙◌}
use Rattle.std.specs.Prelude.{Some}
use Rattle.mt_durable.specs.Reading.{said}
use Rattle.mt_durable.specs.Setting.{with_all}
use Rattle.mt_durable.specs.declared.durable.Entry.{Entry}
use Rattle.mt_store.proofs.Leads.{image_said, said_is}
use Rattle.mt_store.proofs.Stops.{of_err}
use Rattle.mt_store.proofs.store.StoreKeeper.commit.Goals as goal

pub put-requires-clause-image_form : goal.put-requires-clause-image_form
put-requires-clause-image_form g c = image_said c.bytes_of_a_change_are_read.ensures.read c.follow.new.self c.as_slice.result.now c.as_slice.ensures.says c.as_slice.ensures.whole

pub returns-in_err-put-clause-moments : goal.returns-in_err-put-clause-moments
returns-in_err-put-clause-moments g c = rw (← c.self.view_is) (λ keeps.
    (let next : said c.as_slice.result.now ≡ with_all (said c.args.change.now) c.self.inside.image =
    said_is c.bytes_of_a_change_are_read.ensures.read c.follow.new.self c.as_slice.result.now c.as_slice.ensures.says ∙ c.follow.ensures.value in
    c.in_err-put.ensures.moments c.self.inside.image next keeps))

pub returns-clause-committed : goal.returns-clause-committed
returns-clause-committed g c = rw (← c.self.view_is) (c.follow.new.self, c.follow.ensures.leads, ap (λ (m : List Entry). Some m) c.swap.ensures.x_after)

pub returns-clause-moments : goal.returns-clause-moments
returns-clause-moments g c = rw (← c.self.view_is) (λ keeps.
    (let next : said c.as_slice.result.now ≡ with_all (said c.args.change.now) c.self.inside.image =
    said_is c.bytes_of_a_change_are_read.ensures.read c.follow.new.self c.as_slice.result.now c.as_slice.ensures.says ∙ c.follow.ensures.value in
    c.in_ok-put.ensures.moments c.self.inside.image next keeps))

pub returns-in_err-put-clause-left : goal.returns-in_err-put-clause-left
returns-in_err-put-clause-left g c = rw (← c.self.view_is) (λ keeps ready.
    (let next : said c.as_slice.result.now ≡ with_all (said c.args.change.now) c.self.inside.image =
    said_is c.bytes_of_a_change_are_read.ensures.read c.follow.new.self c.as_slice.result.now c.as_slice.ensures.says ∙ c.follow.ensures.value in
    of_err c.from_residual.result _ (c.in_err-put.ensures.left c.self.inside.image next keeps ready)))
