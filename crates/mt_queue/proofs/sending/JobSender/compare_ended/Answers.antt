use Rattle.std.proofs.Common.{List, sym, subst, ◌∙◌}
use mathlib.Core.List.{IsPrefix}
use Rattle.mt_queue.specs.declared.job.Job.{Job}
use Rattle.mt_queue.proofs.Steps.{all_taken}
use Rattle.mt_queue.proofs.sending.JobSender.compare_ended.Goals as goal

pub returns : goal.returns
returns c = record { whole = λ jobs put none. all_taken _ jobs c.requires.ended none (subst (λ (l : List Job). IsPrefix c.args.pass.taken l) put c.compare.ensures.order) ∙ sym put }
