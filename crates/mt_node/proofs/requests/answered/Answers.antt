use Rattle.std.proofs.Common.{refl, []}
use Rattle.mt_model.specs.declared.messages.message.Request.TheVariants as requests
use Rattle.mt_machine.specs.Observation.{observation}
use Rattle.mt_machine.specs.Step.{at_time, invoke_reply, invoke_steps, read_reply, write_reply, write_steps}
use Rattle.mt_node.specs.Configured.{given_to}
use Rattle.mt_node.proofs.Plans.{answer_of}
use Rattle.mt_node.proofs.requests.answered.Goals as goal

pub returns-in-Read : goal.returns-in-Read
returns-in-Read g c =
    let r = c.in-Read in
    let s = c.args.node.now.state in
    let verdicts = c.args.verdicts.now in
    let given = given_to c.args.node.now (g.V.Verdicts.roots verdicts) (g.V.Verdicts.csrs verdicts) (g.V.Verdicts.joins verdicts) in
    let asking = c.args.asking.now in
    rw c.in-Read.is (answer_of c.answered.result given (at_time c.args.now s) asking c.args.stood (requests.Read r.paths r.events r.minimum r.filtered r.versions) (read_reply (observation asking.fabric s) asking r.paths r.filtered r.versions) [] refl refl c.answered.ensures)

pub returns-in-Write : goal.returns-in-Write
returns-in-Write g c =
    let r = c.in-Write in
    let s = c.args.node.now.state in
    let verdicts = c.args.verdicts.now in
    let given = given_to c.args.node.now (g.V.Verdicts.roots verdicts) (g.V.Verdicts.csrs verdicts) (g.V.Verdicts.joins verdicts) in
    let asking = c.args.asking.now in
    let o = observation asking.fabric s in
    let stood = c.args.stood in
    rw c.in-Write.is (answer_of c.answered-in-Write.result given (at_time c.args.now s) asking stood (requests.Write r.suppress r.timed r.items) (write_reply o asking stood r.suppress r.timed r.items) (write_steps o asking stood r.timed r.items) refl refl c.answered-in-Write.ensures)

pub returns-in-Invoke : goal.returns-in-Invoke
returns-in-Invoke g c =
    let r = c.in-Invoke in
    let s = c.args.node.now.state in
    let verdicts = c.args.verdicts.now in
    let given = given_to c.args.node.now (g.V.Verdicts.roots verdicts) (g.V.Verdicts.csrs verdicts) (g.V.Verdicts.joins verdicts) in
    let asking = c.args.asking.now in
    let o = observation asking.fabric (at_time c.args.now s) in
    let stood = c.args.stood in
    rw c.in-Invoke.is (answer_of c.answered-in-Invoke.result given (at_time c.args.now s) asking stood (requests.Invoke r.suppress r.timed r.command r.fields) (invoke_reply given o asking stood r.suppress r.timed r.command r.fields) (invoke_steps given o asking stood r.timed r.command r.fields) refl refl c.answered-in-Invoke.ensures)
