use Rattle.std.proofs.Common.{rules, List, ◌≡◌, ◌∙◌, ◌++◌, ◌∷◌, [], ap, sym, refl, subst, ℕ, ◌≤◌, Some, None, inl, inr, length, true≢false}
use Rattle.std.specs.Prelude.{Err, is_some, slice_get}
use Rattle.mt_model.specs.declared.limits.TheConstants.{RECORDING_BYTES, RECORDING_LINES}
use Rattle.mt_outside.specs.Stream.{one_more}
use Rattle.mt_interactions.specs.Configured.{ConfiguredInteractions}
use Rattle.mt_model.specs.declared.texts.recording.Event.{Event}
use Rattle.mt_shared.specs.Acts.{HasEither, StandsBetween}
use Rattle.mt_shared.specs.Book.{AreFormed, are_in_time, is_timed, done, failed, last_time, lines_in, record_size, stop_in}
use Rattle.mt_shared.specs.Replay.{behind_deed, map_of, replay}
use Rattle.mt_shared.specs.declared.acting.Refusal.TheVariants.{Memory, Faults}
use Rattle.mt_shared.specs.declared.entry.Entry.{Entry}
use Rattle.mt_shared.specs.declared.entry.Stop.{Stop}
use Rattle.mt_shared.proofs.Books.{now_counted, now_last, now_risen, now_stopped, stands_there, still_formed, still_in_time, still_replays, still_timed, stop_in-done, stop_in-failed, stop_there, told_there}
use Rattle.mt_shared.proofs.Planned.{err_is, has_verdicts, on_err}
use Rattle.mt_shared.proofs.Rooms.{lines-failed, size-failed, still_few, still_short}
use Rattle.mt_shared.proofs.held.Held.act.Goals as goal

pub act_on-acted-requires : goal.act_on-acted-requires
act_on-acted-requires g c =
    let verdicts = c.args.verdicts.now in
    let self = c.args.self.now in
    let none : self.stop ≡ None = c.in-Ok.ensures.room.1 in
    record {
      within = c.requires.within;
      verdicts = has_verdicts self.origin.value self.node (g.V.Verdicts.roots verdicts) (g.V.Verdicts.csrs verdicts) (g.V.Verdicts.joins verdicts) c.requires.verdicts self.config;
      admits = self.admits;
      map = self.kept none;
      runs = self.failed ∙ ap is_some none;
    }

pub invariant_of-self-2 : goal.invariant_of-self-2
invariant_of-self-2 g c =
    let self = c.args.self.now in
    let call = c.args.call in
    let room = c.in-Ok.ensures in
    let ms = c.in-Ok.room.ms in
    let entry : Entry = done call ms in
    let its = c.in-Ok-acted.ensures in
    let longer : c.push_reserved.new.self.items ≡ self.book.items ++ entry ∷ [] = c.push_reserved.ensures.items ∙ ap (λ entries. entries ++ entry ∷ []) c.in-Ok-reserve.ensures.items in
    let none : self.stop ≡ None = room.room.1 in
    record {
      replays = still_replays self.origin.value self.node _ self.book.items _ entry self.replays longer its.done;
      timed = still_timed self.book.items _ entry self.timed longer room.ms;
      in_time = still_in_time self.book.items _ entry self.in_time longer c.requires.form room.ms;
      short = still_short self.book.items _ call ms longer room.ms room.room.0;
      few = still_few self.book.items _ call ms longer room.room.0;
      formed = still_formed self.book.items _ entry self.formed longer c.requires.form;
      bytes_are = ap record_size longer ∙ sym room.bytes;
      last_is = now_last self.book.items _ entry longer;
      stop_is = ap stop_in longer ∙ stop_in-done self.book.items call ms ∙ self.stop_is;
      stop_is_last = λ it is. absurd (true≢false (ap is_some (sym is ∙ none)));
      faults_rose = λ it is. absurd (true≢false (ap is_some (sym is ∙ none)));
      halted = λ it is. absurd (true≢false (ap is_some (sym is ∙ none)));
      between = λ it is. absurd (true≢false (ap is_some (sym is ∙ none)));
      counted = λ it is. absurd (true≢false (ap is_some (sym is ∙ none)));
      failed = its.runs ∙ sym (ap is_some none);
      kept = λ _. its.kept;
      admits = self.admits;
      config = ap (λ (n : ConfiguredInteractions). n.config) its.done ∙ self.config;
    }

pub invariant_of-self-in-Err-Memory : goal.invariant_of-self-in-Err-Memory
invariant_of-self-in-Err-Memory g c =
    let self = c.args.self.now in
    let none : self.stop ≡ None = c.in-Ok.ensures.room.1 in
    let same = c.in-Ok-reserve.ensures.items in
    let is : c.act_on-acted.result ≡ Err Memory = search rules in
    let left = err_is _ c.act_on-acted.result Memory is c.act_on-acted.ensures.left in
    let stays : c.act_on-acted.new.node ≡ self.node = on_err _ c.act_on-acted.result Memory is c.act_on-acted.ensures.stays in
    record {
      replays = ap (replay self.origin.value) same ∙ self.replays ∙ sym stays;
      timed = ap (is_timed 0) same ∙ self.timed;
      in_time = ap are_in_time same ∙ self.in_time;
      short = subst (λ (b : List Entry). record_size b ≤ RECORDING_BYTES) (sym same) self.short;
      few = subst (λ (b : List Entry). length (lines_in b) ≤ RECORDING_LINES) (sym same) self.few;
      formed = subst (λ (b : List Entry). ∥ AreFormed b ∥₁) (sym same) self.formed;
      bytes_are = ap record_size same ∙ self.bytes_are;
      last_is = ap (last_time 0) same ∙ self.last_is;
      stop_is = ap stop_in same ∙ self.stop_is;
      stop_is_last = λ it is. absurd (true≢false (ap is_some (sym is ∙ none)));
      faults_rose = self.faults_rose;
      halted = λ it is. absurd (true≢false (ap is_some (sym is ∙ none)));
      between = λ it is. absurd (true≢false (ap is_some (sym is ∙ none)));
      counted = λ it is. absurd (true≢false (ap is_some (sym is ∙ none)));
      failed = left.0 ∙ sym (ap is_some none);
      kept = λ _. left.1 ∙ self.kept none ∙ ap (λ (n : ConfiguredInteractions). Some (map_of n)) (sym stays);
      admits = self.admits;
      config = ap (λ (n : ConfiguredInteractions). n.config) stays ∙ self.config;
    }

pub returns-in-Err-Memory-clause-refused : goal.returns-in-Err-Memory-clause-refused
returns-in-Err-Memory-clause-refused g c =
    let self = c.args.self.now in
    let room = c.in-Ok.ensures.room in
    record {
      runs = self.stop_is ∙ room.1;
      room = room.0;
      same = c.in-Ok-reserve.ensures.items;
    }

pub returns-in-Err-Memory-clause-part : goal.returns-in-Err-Memory-clause-part
returns-in-Err-Memory-clause-part g c =
    let is : c.act_on-acted.result ≡ Err Memory = search rules in
    let left = err_is _ c.act_on-acted.result Memory is c.act_on-acted.ensures.left in
    inl left.1

pub invariant_of-self-in-Err-Faults : goal.invariant_of-self-in-Err-Faults
invariant_of-self-in-Err-Faults g c =
    let self = c.args.self.now in
    let call = c.args.call in
    let room = c.in-Ok.ensures in
    let ms = c.in-Ok.room.ms in
    let stop : Stop = c.enter_stop-stop.result in
    let its = c.enter_stop-stop.ensures in
    let entry : Entry = failed call ms stop in
    let longer : c.enter_stop-stop.new.book.items ≡ self.book.items ++ entry ∷ [] = its.entered ∙ ap (λ entries. entries ++ entry ∷ []) c.in-Ok-reserve.ensures.items in
    let none : self.stop ≡ None = room.room.1 in
    let at : stop.place ≡ length self.book.items = its.place ∙ ap length c.in-Ok-reserve.ensures.items in
    let size : record_size c.enter_stop-stop.new.book.items ≡ record_size self.book.items = ap record_size longer ∙ size-failed self.book.items call ms stop in
    let is : c.act_on-acted.result ≡ Err (Faults c.in-Err-Faults.before c.in-Err-Faults.after) = search rules in
    let left = err_is _ c.act_on-acted.result (Faults c.in-Err-Faults.before c.in-Err-Faults.after) is c.act_on-acted.ensures.left in
    let stays : c.act_on-acted.new.node ≡ self.node = on_err _ c.act_on-acted.result (Faults c.in-Err-Faults.before c.in-Err-Faults.after) is c.act_on-acted.ensures.stays in
    let keeper = c.act_on-acted.new.keeper in
    record {
      replays = still_replays self.origin.value self.node _ self.book.items _ entry self.replays longer stays;
      timed = still_timed self.book.items _ entry self.timed longer room.ms;
      in_time = still_in_time self.book.items _ entry self.in_time longer c.requires.form room.ms;
      short = subst (λ (n : ℕ). n ≤ RECORDING_BYTES) (sym size) self.short;
      few = subst (λ (events : List Event). length events ≤ RECORDING_LINES) (sym (ap lines_in longer ∙ lines-failed self.book.items call ms stop)) self.few;
      formed = still_formed self.book.items _ entry self.formed longer c.requires.form;
      bytes_are = size ∙ self.bytes_are;
      last_is = now_last self.book.items _ entry longer;
      stop_is = ap stop_in longer ∙ stop_in-failed self.book.items call ms stop (self.stop_is ∙ none);
      stop_is_last = λ it is. now_stopped self.book.items _ entry stop it longer at is;
      faults_rose = λ it is. now_risen stop it (its.counts.1 ∙ left.rose ∙ ap one_more (sym its.counts.0)) is;
      halted = λ it is. subst (λ (n : ConfiguredInteractions). ∥ HasEither n (slice_get c.enter_stop-stop.new.book.items it.place) (g.K.Keeper.map keeper) ∥₁) (sym stays)
          ∣ elim left.either [
            | inl same ↦ inl (same ∙ self.kept none)
            | inr next ↦ inr (entry, stop_there self.book.items _ entry stop it longer at is, next)
          ] ∣₁;
      between = λ it is. subst (λ (n : ConfiguredInteractions). ∥ StandsBetween (g.K.Keeper.stands_between keeper) n (slice_get c.enter_stop-stop.new.book.items it.place) ∥₁) (sym stays)
          ∣ stands_there (g.K.Keeper.stands_between keeper) self.node _ entry (stop_there self.book.items _ entry stop it longer at is) left.between ∣₁;
      counted = λ it is. now_counted _ stop it (left.count ∙ sym its.counts.1) is;
      failed = left.failed;
      kept = λ is. absurd (true≢false (ap is_some is));
      admits = self.admits;
      config = ap (λ (n : ConfiguredInteractions). n.config) stays ∙ self.config;
    }

pub returns-in-Err-Faults-clause-refused : goal.returns-in-Err-Faults-clause-refused
returns-in-Err-Faults-clause-refused g c =
    let self = c.args.self.now in
    let call = c.args.call in
    let room = c.in-Ok.ensures in
    let ms = c.in-Ok.room.ms in
    let stop : Stop = c.enter_stop-stop.result in
    let its = c.enter_stop-stop.ensures in
    let longer : c.enter_stop-stop.new.book.items ≡ self.book.items ++ failed call ms stop ∷ [] = its.entered ∙ ap (λ entries. entries ++ failed call ms stop ∷ []) c.in-Ok-reserve.ensures.items in
    let at : stop.place ≡ length self.book.items = its.place ∙ ap length c.in-Ok-reserve.ensures.items in
    let is : c.act_on-acted.result ≡ Err (Faults c.in-Err-Faults.before c.in-Err-Faults.after) = search rules in
    let left = err_is _ c.act_on-acted.result (Faults c.in-Err-Faults.before c.in-Err-Faults.after) is c.act_on-acted.ensures.left in
    record {
      stands = ap stop_in longer ∙ stop_in-failed self.book.items call ms stop (self.stop_is ∙ room.room.1);
      place = now_stopped self.book.items _ (failed call ms stop) stop stop longer at refl;
      rose = its.counts.1 ∙ left.rose ∙ ap one_more (sym its.counts.0);
      grown = inr (longer ∙ ap (λ (t : ℕ). self.book.items ++ failed call t stop ∷ []) room.ms);
    }

pub returns-in-Err-Faults-clause-part : goal.returns-in-Err-Faults-clause-part
returns-in-Err-Faults-clause-part g c =
    let self = c.args.self.now in
    let is : c.act_on-acted.result ≡ Err (Faults c.in-Err-Faults.before c.in-Err-Faults.after) = search rules in
    let left = err_is _ c.act_on-acted.result (Faults c.in-Err-Faults.before c.in-Err-Faults.after) is c.act_on-acted.ensures.left in
    elim left.either [
      | inl same ↦ inl same
      | inr next ↦ inr (next ∙ ap (λ (t : ℕ). Some (map_of (behind_deed self.node c.args.call.deed t))) c.in-Ok.ensures.ms)
    ]

pub returns-clause-entered : goal.returns-clause-entered
returns-clause-entered g c =
    let self = c.args.self.now in
    let room = c.in-Ok.ensures in
    let ms = c.in-Ok.room.ms in
    let longer : c.push_reserved.new.self.items ≡ self.book.items ++ done c.args.call ms ∷ [] = c.push_reserved.ensures.items ∙ ap (λ entries. entries ++ done c.args.call ms ∷ []) c.in-Ok-reserve.ensures.items in
    let at : c.len-place.result ≡ length self.book.items = search rules in
    record {
      grown = longer;
      time = room.ms;
      place = at;
      told_there = told_there self.origin.value self.node self.book.items _ c.args.call ms _ c.in-Ok-acted.answer self.replays longer at c.in-Ok-acted.ensures.answer;
    }

pub returns-clause-kept : goal.returns-clause-kept
returns-clause-kept g c = c.in-Ok-acted.ensures.kept

pub invariant_of-self-clause-timed : goal.invariant_of-self-clause-timed
invariant_of-self-clause-timed g c =
    let self = c.args.self.now in
    let same = c.reserve.ensures.items in
    ap (is_timed 0) same ∙ self.timed

pub invariant_of-self-clause-in_time : goal.invariant_of-self-clause-in_time
invariant_of-self-clause-in_time g c =
    let self = c.args.self.now in
    let same = c.reserve.ensures.items in
    ap are_in_time same ∙ self.in_time

pub invariant_of-self-clause-short : goal.invariant_of-self-clause-short
invariant_of-self-clause-short g c =
    let self = c.args.self.now in
    let same = c.reserve.ensures.items in
    subst (λ (b : List Entry). record_size b ≤ RECORDING_BYTES) (sym same) self.short

pub invariant_of-self-clause-few : goal.invariant_of-self-clause-few
invariant_of-self-clause-few g c =
    let self = c.args.self.now in
    let same = c.reserve.ensures.items in
    subst (λ (b : List Entry). length (lines_in b) ≤ RECORDING_LINES) (sym same) self.few

pub invariant_of-self-clause-formed : goal.invariant_of-self-clause-formed
invariant_of-self-clause-formed g c =
    let self = c.args.self.now in
    let same = c.reserve.ensures.items in
    subst (λ (b : List Entry). ∥ AreFormed b ∥₁) (sym same) self.formed

pub invariant_of-self-clause-bytes_are : goal.invariant_of-self-clause-bytes_are
invariant_of-self-clause-bytes_are g c =
    let self = c.args.self.now in
    let same = c.reserve.ensures.items in
    ap record_size same ∙ self.bytes_are

pub invariant_of-self-clause-stop_is : goal.invariant_of-self-clause-stop_is
invariant_of-self-clause-stop_is g c =
    let self = c.args.self.now in
    let same = c.reserve.ensures.items in
    ap stop_in same ∙ self.stop_is

pub invariant_of-self-clause-between : goal.invariant_of-self-clause-between
invariant_of-self-clause-between g c =
    let self = c.args.self.now in
    let same = c.reserve.ensures.items in
    λ it is. subst (λ (b : List Entry). ∥ StandsBetween (g.K.Keeper.stands_between self.keeper) self.node (slice_get b it.place) ∥₁) (sym same) (self.between it is)
