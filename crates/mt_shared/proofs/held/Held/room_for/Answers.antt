use Rattle.std.proofs.Common.{rules, ◌≡◌, ◌∙◌, ◌++◌, ◌∷◌, [], ap, sym, refl, ℕ, length, true≢false, None}
use Rattle.std.specs.Prelude.{Err}
use Rattle.mt_files.specs.Event.{at_time, line_size}
use Rattle.mt_shared.specs.Book.{done, lines_in, record_size, time_for}
use Rattle.mt_shared.specs.declared.entry.ActFault.TheVariants.{RecordFull}
use Rattle.mt_shared.proofs.Rooms.{Counted, full_by, lines-all, room_by, sum_by, time_by}
use Rattle.mt_shared.proofs.held.Held.room_for.Goals as goal

pub returns-then-entries-ge-RECORDING_LINES-clause-refused : goal.returns-then-entries-ge-RECORDING_LINES-clause-refused
returns-then-entries-ge-RECORDING_LINES-clause-refused g c =
    let self = c.args.self.now in
    let call = c.args.call.now in
    let book = self.book.items in
    let time : c.max-ms.result ≡ time_for book call = time_by book call c.time_of.result self.last c.max-ms.result c.time_of.ensures self.last_is c.max-ms.ensures in
    let none : self.stop ≡ None = search rules in
    let at : c.len-entries.result ≡ length book = search rules in
    let counted : Counted book call c.len-entries.result self.bytes c.line_size.result c.saturating_add-bytes.result = record {
      none = self.stop_is ∙ none;
      entries_are = at;
      bytes_are = self.bytes_are;
      line_is = c.line_size.ensures ∙ ap (λ (t : ℕ). line_size (at_time t call.event)) time;
      sum_is = c.saturating_add-bytes.ensures;
    } in
    record {
      full = full_by book call c.len-entries.result self.bytes c.line_size.result c.saturating_add-bytes.result counted c.then-entries-ge-RECORDING_LINES.either;
      typed = c.events_have_types.ensures;
      entries_are = counted.entries_are ∙ sym (lines-all book counted.none);
      bytes_are = sym self.bytes_are;
      same = refl;
    }

pub returns-then-entries-ge-RECORDING_LINES-clause-full : goal.returns-then-entries-ge-RECORDING_LINES-clause-full
returns-then-entries-ge-RECORDING_LINES-clause-full g c none full =
    let self = c.args.self.now in
    let book = self.book.items in
    let at : c.len-entries.result ≡ length book = search rules in
    let entries : c.len-entries.result ≡ length (lines_in book) = at ∙ sym (lines-all book none) in
    let bytes : self.bytes ≡ record_size book = sym self.bytes_are in
    λ i. Err (RecordFull (entries i) (bytes i))

pub returns-clause-bytes : goal.returns-clause-bytes
returns-clause-bytes g c =
    let self = c.args.self.now in
    let call = c.args.call.now in
    let book = self.book.items in
    let time : c.max-ms.result ≡ time_for book call = time_by book call c.time_of.result self.last c.max-ms.result c.time_of.ensures self.last_is c.max-ms.ensures in
    let none : self.stop ≡ None = search rules in
    let at : c.len-entries.result ≡ length book = search rules in
    let counted : Counted book call c.len-entries.result self.bytes c.line_size.result c.saturating_add-bytes.result = record {
      none = self.stop_is ∙ none;
      entries_are = at;
      bytes_are = self.bytes_are;
      line_is = c.line_size.ensures ∙ ap (λ (t : ℕ). line_size (at_time t call.event)) time;
      sum_is = c.saturating_add-bytes.ensures;
    } in
    sum_by book call c.len-entries.result self.bytes c.line_size.result c.saturating_add-bytes.result counted c.if-bytes-gt-RECORDING_BYTES.false
    ∙ ap (λ (t : ℕ). record_size (book ++ done call t ∷ [])) (sym time)

pub returns-clause-room : goal.returns-clause-room
returns-clause-room g c =
    let self = c.args.self.now in
    let call = c.args.call.now in
    let book = self.book.items in
    let time : c.max-ms.result ≡ time_for book call = time_by book call c.time_of.result self.last c.max-ms.result c.time_of.ensures self.last_is c.max-ms.ensures in
    let none : self.stop ≡ None = search rules in
    let at : c.len-entries.result ≡ length book = search rules in
    let counted : Counted book call c.len-entries.result self.bytes c.line_size.result c.saturating_add-bytes.result = record {
      none = self.stop_is ∙ none;
      entries_are = at;
      bytes_are = self.bytes_are;
      line_is = c.line_size.ensures ∙ ap (λ (t : ℕ). line_size (at_time t call.event)) time;
      sum_is = c.saturating_add-bytes.ensures;
    } in
    (room_by book call c.len-entries.result self.bytes c.line_size.result c.saturating_add-bytes.result counted c.if-entries-ge-RECORDING_LINES.false c.if-bytes-gt-RECORDING_BYTES.false, none)

pub returns-clause-full : goal.returns-clause-full
returns-clause-full g c none full =
    let self = c.args.self.now in
    let call = c.args.call.now in
    let book = self.book.items in
    let time : c.max-ms.result ≡ time_for book call = time_by book call c.time_of.result self.last c.max-ms.result c.time_of.ensures self.last_is c.max-ms.ensures in
    let at : c.len-entries.result ≡ length book = search rules in
    let counted : Counted book call c.len-entries.result self.bytes c.line_size.result c.saturating_add-bytes.result = record {
      none = none;
      entries_are = at;
      bytes_are = self.bytes_are;
      line_is = c.line_size.ensures ∙ ap (λ (t : ℕ). line_size (at_time t call.event)) time;
      sum_is = c.saturating_add-bytes.ensures;
    } in
    absurd (true≢false (sym full ∙ room_by book call c.len-entries.result self.bytes c.line_size.result c.saturating_add-bytes.result counted c.if-entries-ge-RECORDING_LINES.false c.if-bytes-gt-RECORDING_BYTES.false))
