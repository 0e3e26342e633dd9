use Rattle.std.proofs.Common.{◌≡◌, None, Some, ap, refl, rules}
use Rattle.std.specs.Option.{option_map}
use Rattle.mt_model.specs.texts.Contents.{contents_of}
use Rattle.mt_words.specs.Words.{asked, words_of}
use Rattle.mt_endings.specs.Moments.{input, moment}
use Rattle.mt_top.specs.Asked.{asked_of, asks_for}
use Rattle.mt_top.proofs.Asks.{carried_out, no_memory, untouched}
use Rattle.mt_top.proofs.Faults.{is_no_fault, not_read}
use Rattle.mt_top.proofs.Wanted.{wanted_within}
use Rattle.mt_top.proofs.running.run_watched.Goals as goal

pub returns-in-Err-Bad-clause-run : goal.returns-in-Err-Bad-clause-run
returns-in-Err-Bad-clause-run g c =
    let none : asked_of (words_of c.args.words.now) ≡ None = ap (option_map asks_for) (c.in-Err-Bad.ensures.bad (search rules)) in
    record {
      ends = rw none (
        c.endings_add_up.ensures.no_form
            (moment (input (g.C.Source.left c.args.config.now) (g.C.Source.faults c.args.config.now)) (input (g.A.Source.left c.args.first.now) (g.A.Source.faults c.args.first.now)) (input (g.B.Source.left c.args.second.now) (g.B.Source.faults c.args.second.now)) (g.W.Sink.written c.args.out.now) (g.W.Sink.faults c.args.out.now))
            (g.W.Sink.written c.tell_bad_words.new.out) (g.W.Sink.faults c.tell_bad_words.new.out) c.tell_bad_words.result c.tell_bad_words.ensures,
        refl,
      );
      isolated = c.runs_are_isolated.ensures;
      denied = c.denials_are_exact.ensures;
      replied = c.replies_are_exact.ensures;
      expired = c.expiries_are_rollbacks.ensures;
      reopened = c.reopenings_are_exact.ensures;
      compared = c.comparisons_are_exact.ensures;
      asked = c.asked_is_opened.ensures;
      shown = c.shown_is_exact.ensures;
      windows = c.windows_are_exact.ensures;
      key_sets = c.key_sets_are_their_own.ensures;
      secret = c.keys_are_secret.ensures;
    }

pub carry_out-requires : goal.carry_out-requires
carry_out-requires g c = wanted_within (words_of c.args.words.now) c.in-Ok.asked c.in-Ok.ensures.ok

pub returns-in-Ok-read_configuration-clause-run : goal.returns-in-Ok-read_configuration-clause-run
returns-in-Ok-read_configuration-clause-run g c =
    let h = c.in-Ok-read_configuration.ensures.ok in
    let some : asked_of (words_of c.args.words.now) ≡ Some (asks_for c.in-Ok.asked) = ap (option_map asks_for) c.in-Ok.ensures.ok in
    record {
      ends = rw some (carried_out c.endings_add_up.ensures c.endings_on_disk_add_up.ensures (contents_of c.in-Ok-read_configuration.config) h.0
          (input (g.C.Source.left c.args.config.now) (g.C.Source.faults c.args.config.now)) (input (g.C.Source.left c.read_configuration.new.source) (g.C.Source.faults c.read_configuration.new.source))
          h.2 h.1 (c.read_configuration.ensures.calm (is_no_fault c.read_configuration.result c.in-Ok-read_configuration.is)) c.carry_out.result
          (input (g.D.Disk.contents c.args.disk.now) (g.D.Disk.faults c.args.disk.now)) (input (g.D.Disk.contents c.carry_out.new.disk) (g.D.Disk.faults c.carry_out.new.disk))
          (input (g.A.Source.left c.args.first.now) (g.A.Source.faults c.args.first.now)) (input (g.A.Source.left c.carry_out.new.first) (g.A.Source.faults c.carry_out.new.first))
          (input (g.B.Source.left c.args.second.now) (g.B.Source.faults c.args.second.now)) (input (g.B.Source.left c.carry_out.new.second) (g.B.Source.faults c.carry_out.new.second))
          (g.W.Sink.written c.args.out.now) (g.W.Sink.written c.carry_out.new.out) (g.W.Sink.faults c.args.out.now) (g.W.Sink.faults c.carry_out.new.out)
          c.in-Ok.asked c.carry_out.ensures.ends);
      isolated = c.runs_are_isolated.ensures;
      denied = c.denials_are_exact.ensures;
      replied = c.replies_are_exact.ensures;
      expired = c.expiries_are_rollbacks.ensures;
      reopened = c.reopenings_are_exact.ensures;
      compared = c.comparisons_are_exact.ensures;
      asked = c.asked_is_opened.ensures;
      shown = c.shown_is_exact.ensures;
      windows = c.windows_are_exact.ensures;
      key_sets = c.key_sets_are_their_own.ensures;
      secret = c.keys_are_secret.ensures;
    }

pub returns-in-Err-clause-run : goal.returns-in-Err-clause-run
returns-in-Err-clause-run g c =
    let config = input (g.C.Source.left c.args.config.now) (g.C.Source.faults c.args.config.now) in
    let config_now = input (g.C.Source.left c.read_configuration.new.source) (g.C.Source.faults c.read_configuration.new.source) in
    let first = input (g.A.Source.left c.args.first.now) (g.A.Source.faults c.args.first.now) in
    let second = input (g.B.Source.left c.args.second.now) (g.B.Source.faults c.args.second.now) in
    let some : asked_of (words_of c.args.words.now) ≡ Some (asks_for c.in-Ok.asked) = ap (option_map asks_for) c.in-Ok.ensures.ok in
    record {
      ends = rw some (untouched c.endings_add_up.ensures c.endings_on_disk_add_up.ensures c.in-Ok.asked c.finish.result
          (input (g.D.Disk.contents c.args.disk.now) (g.D.Disk.faults c.args.disk.now))
          (moment config first second (g.W.Sink.written c.args.out.now) (g.W.Sink.faults c.args.out.now)) (moment config_now first second (g.W.Sink.written c.finish.new.out) (g.W.Sink.faults c.finish.new.out))
          (λ comes_to. c.endings_add_up.ensures.unconfigured comes_to c.in-Err.fault c.finish.result config config_now first second
          (g.W.Sink.written c.args.out.now) (g.W.Sink.written c.finish.new.out) (g.W.Sink.faults c.args.out.now) (g.W.Sink.faults c.finish.new.out)
          c.in-Err.ensures.err (λ quiet. c.read_configuration.ensures.calm (not_read c.read_configuration.result c.in-Err.fault c.in-Err.is quiet)) c.finish.ensures));
      isolated = c.runs_are_isolated.ensures;
      denied = c.denials_are_exact.ensures;
      replied = c.replies_are_exact.ensures;
      expired = c.expiries_are_rollbacks.ensures;
      reopened = c.reopenings_are_exact.ensures;
      compared = c.comparisons_are_exact.ensures;
      asked = c.asked_is_opened.ensures;
      shown = c.shown_is_exact.ensures;
      windows = c.windows_are_exact.ensures;
      key_sets = c.key_sets_are_their_own.ensures;
      secret = c.keys_are_secret.ensures;
    }

pub returns-in-Err-Memory-clause-run : goal.returns-in-Err-Memory-clause-run
returns-in-Err-Memory-clause-run g c =
    let config = input (g.C.Source.left c.args.config.now) (g.C.Source.faults c.args.config.now) in
    let first = input (g.A.Source.left c.args.first.now) (g.A.Source.faults c.args.first.now) in
    let second = input (g.B.Source.left c.args.second.now) (g.B.Source.faults c.args.second.now) in
    let old = moment config first second (g.W.Sink.written c.args.out.now) (g.W.Sink.faults c.args.out.now) in
    record {
      ends = rw c.tell_memory.ensures.status (no_memory c.endings_add_up.ensures c.endings_on_disk_add_up.ensures (asked (words_of c.args.words.now))
          (input (g.D.Disk.contents c.args.disk.now) (g.D.Disk.faults c.args.disk.now))
          old (moment config first second (g.W.Sink.written c.tell_memory.new.out) (g.W.Sink.faults c.tell_memory.new.out))
          (λ wanted. c.endings_add_up.ensures.no_memory wanted old (g.W.Sink.written c.tell_memory.new.out) (g.W.Sink.faults c.tell_memory.new.out) c.tell_memory.ensures.tells));
      isolated = c.runs_are_isolated.ensures;
      denied = c.denials_are_exact.ensures;
      replied = c.replies_are_exact.ensures;
      expired = c.expiries_are_rollbacks.ensures;
      reopened = c.reopenings_are_exact.ensures;
      compared = c.comparisons_are_exact.ensures;
      asked = c.asked_is_opened.ensures;
      shown = c.shown_is_exact.ensures;
      windows = c.windows_are_exact.ensures;
      key_sets = c.key_sets_are_their_own.ensures;
      secret = c.keys_are_secret.ensures;
    }
