use Rattle.std.proofs.Common.{ℕ, List, ap, subst, sym, ◌∙◌}
use Rattle.std.specs.Prelude.{Option, Result}
use Rattle.mt_durable.specs.declared.durable.Entry.{Entry}
use Rattle.mt_files.specs.Lines.{text_of}
use Rattle.mt_endings.specs.declared.fault.Fault.{Fault}
use Rattle.mt_model.specs.texts.Contents.{contents_of}
use Rattle.mt_settle.specs.Settled.{StopsSettling, settled_by}
use Rattle.mt_settle.proofs.Refused.{stops_settling}
use Rattle.mt_settle.proofs.settling.text_on.Goals as goal

pub returns-in-Ok-text_of-clause-text : goal.returns-in-Ok-text_of-clause-text
returns-in-Ok-text_of-clause-text g c = λ journal is.
    (c.in-Ok-text_of.ensures ∙ ap (λ (found : Result (Option (List Entry)) ℕ). text_of (settled_by found).lines) (sym (c.in-Ok.ensures.recovered journal is)))

pub returns-in-Ok-text_of-clause-whole : goal.returns-in-Ok-text_of-clause-whole
returns-in-Ok-text_of-clause-whole g c = λ journal is.
    (ap (λ (found : Result (Option (List Entry)) ℕ). (settled_by found).fault) (c.in-Ok.ensures.recovered journal is))

pub returns-clause-err : goal.returns-clause-err
returns-clause-err g c =
    subst (λ (fault : Fault). StopsSettling fault (contents_of c.args.config.now) (g.D.Disk.contents c.args.disk.now) (g.D.Disk.faults c.args.disk.now) (g.D.Disk.faults c.recovered_map.new.disk)) (sym c.fault_of.ensures)
    (stops_settling c.in-Err.fault (contents_of c.args.config.now) (g.D.Disk.contents c.args.disk.now) (g.D.Disk.faults c.args.disk.now) (g.D.Disk.faults c.recovered_map.new.disk) c.in-Err.ensures.cause c.in-Err.ensures.refused)
