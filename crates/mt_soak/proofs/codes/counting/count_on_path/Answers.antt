use Rattle.std.proofs.Common.{◌+◌, length, min, arith}
use Rattle.std.specs.Prelude.{slice_index}
use Rattle.mt_tlv.specs.Parts.{piece}
use Rattle.mt_soak.specs.Codes.{occurrences, most}
use Rattle.mt_soak.specs.Scan.{all_told, outermost}
use Rattle.mt_soak.proofs.Onward.{at_end, at_fault, none_ahead, onward, finished, room_kept}
use Rattle.mt_soak.proofs.codes.counting.count_on_path.Goals as goal

pub returns-clause-counted : goal.returns-clause-counted
returns-clause-counted c = λ xs end comes ended short code below.
    let a = c.loop.invariant.ahead xs end comes ended short in
    finished c.args.path.now c.loop.at a.0 (slice_index c.loop.counts code) code (min (slice_index c.args.counts.now code + occurrences code (all_told c.args.path.now outermost xs)) most)
    (none_ahead c.loop.counter (length c.args.payload.now) a.0 c.loop-test.false a.2) (c.loop.invariant.fits code below) (a.3 code below)

pub returns-in-Ok-None-clause-counted : goal.returns-in-Ok-None-clause-counted
returns-in-Ok-None-clause-counted c = λ xs end comes ended short code below.
    let a = c.loop.invariant.ahead xs end comes ended short in
    finished c.args.path.now c.loop.at a.0 (slice_index c.loop.counts code) code (min (slice_index c.args.counts.now code + occurrences code (all_told c.args.path.now outermost xs)) most)
    (at_end c.loop.cursor c.next.new.self end a.0 (rw c.in-Ok-None.field-0-is at c.in-Ok-None.ensures) a.1) (c.loop.invariant.fits code below) (a.3 code below)

pub returns-in-Err-clause-counted : goal.returns-in-Err-clause-counted
returns-in-Err-clause-counted c = λ xs end comes ended short code below.
    let a = c.loop.invariant.ahead xs end comes ended short in
    finished c.args.path.now c.loop.at a.0 (slice_index c.loop.counts code) code (min (slice_index c.args.counts.now code + occurrences code (all_told c.args.path.now outermost xs)) most)
    (at_fault c.loop.cursor _ end a.0 c.in-Err.ensures.0 a.1) (c.loop.invariant.fits code below) (a.3 code below)

pub loop-preserved : goal.loop-preserved
loop-preserved c = record {
  ahead = λ xs end comes ended short.
      let a = c.loop.invariant.ahead xs end comes ended short in
      onward c.args.path.now c.loop.at c.behind-at.result (piece c.in-Ok-Some.part) c.number_in.result c.loop.cursor c.next.new.self end c.loop.counter (length c.args.payload.now)
      c.loop.counts c.count.new.counts (λ code. min (slice_index c.args.counts.now code + occurrences code (all_told c.args.path.now outermost xs)) most) a.0
      (rw c.in-Ok-Some.field-0-is at c.in-Ok-Some.ensures) c.number_in.ensures c.behind-at.ensures c.count.ensures ended a.1 a.2 a.3;
  fits = λ code below. let e = c.count.ensures code below in omega arith;
  risen = λ code below. let e = c.count.ensures code below in let h = c.loop.invariant.risen code below in let f = c.loop.invariant.fits code below in omega arith;
  room = room_kept c.args.path.now c.loop.at c.behind-at.result (piece c.in-Ok-Some.part) c.loop.counter c.behind-at.ensures c.loop.invariant.room;
}
