-- The lines of a book are those of what the calls got.
use Rattle.std.proofs.Common.{◌≡◌, ◌∙◌, refl, sym, ap, subst, ℕ, ◌+◌, ◌&&◌, Bool, true, false, List, [], ◌∷◌, Option, Some, None, filter, length, map, arith}
use Rattle.std.specs.Prelude.{All, is_some, not}
use Rattle.std.proofs.lemmas.List.Elements.{All-cons, All-nil}
use Rattle.mt_legal.specs.Lines.{told_of}
use Rattle.mt_legal.specs.mt_interactions.Configured.{ConfiguredInteractions}
use Rattle.mt_model.specs.declared.texts.recording.Event.{Event}
use Rattle.mt_model.specs.declared.texts.recording.Event.TheVariants as events
use Rattle.mt_files.specs.Event.{at_time}
use Rattle.mt_rounds.specs.mt_shared.Book.{lines_in, onto_lines}
use Rattle.mt_rounds.specs.mt_shared.Call.{Call}
use Rattle.mt_rounds.specs.mt_shared.Entry.{Entry}
use Rattle.mt_rounds.specs.mt_shared.Stop.{Stop}
use Rattle.mt_rounds.specs.mt_shared.Replay.{next, told}
use Rattle.mt_rounds.specs.mt_worker.Accounts.{Accounts, behind}
use Rattle.mt_rounds.specs.mt_worker.Few.{heard_count, is_datagram, is_heard, is_line, is_step, step_count}
use Rattle.mt_rounds.specs.mt_worker.Gots.{Each, Got, Told}
use Rattle.mt_rounds.specs.mt_worker.Made.{AreMade, AreTicks, IsTick, Makes}
use Rattle.mt_served.specs.Few.{IsServedLine}
use Rattle.mt_served.proofs.Sums.{count_more, one_if}

abbrev pub entry_of : Got → Entry
entry_of got = got.told.0

abbrev pub lines_of : List Got → List Event
lines_of gots = lines_in (map entry_of gots)

-- HOW MANY

line_or_none : (stop : Option Stop) (heard : Bool) (line : Event) (lines : List Event) → length (onto_lines stop line lines) ≡ one_if (not (is_some stop) && heard) + one_if (not (is_some stop) && not heard) + length lines
line_or_none None true line lines = omega arith
line_or_none None false line lines = omega arith
line_or_none (Some stop) heard line lines = omega arith

pub all_lines : (gots : List Got) → length (lines_of gots) ≡ heard_count gots + step_count gots
all_lines [] = omega arith
all_lines (got ∷ gots) =
    let entry : Entry = got.told.0 in
    let here = line_or_none entry.stop (is_datagram entry.call.event) (at_time entry.ms entry.call.event) (lines_of gots) in
    let rest = all_lines gots in
    omega (arith, here, rest, count_more is_heard got gots, count_more is_step got gots)

same_kind : (ms : ℕ) (event : Event) → is_datagram (at_time ms event) ≡ is_datagram event
same_kind ms (events.Ask before fabric node cats opcode payload) = refl
same_kind ms (events.Datagram before peer bytes) = refl
same_kind ms (events.Tick before) = refl
same_kind ms (events.Report before fabric subscription) = refl
same_kind ms (events.Resend before session) = refl
same_kind ms (events.Stop calls fate) = refl

heard_or_none : (stop : Option Stop) (line : Event) (lines : List Event) → length (filter is_datagram (onto_lines stop line lines)) ≡ one_if (not (is_some stop) && is_datagram line) + length (filter is_datagram lines)
heard_or_none None line lines = count_more is_datagram line lines
heard_or_none (Some stop) line lines = omega arith

pub all_heard : (gots : List Got) → length (filter is_datagram (lines_of gots)) ≡ heard_count gots
all_heard [] = omega arith
all_heard (got ∷ gots) =
    let entry : Entry = got.told.0 in
    let here = heard_or_none entry.stop (at_time entry.ms entry.call.event) (lines_of gots) in
    let same : one_if (is_line got && is_datagram (at_time entry.ms entry.call.event)) ≡ one_if (is_heard got) = ap (λ (b : Bool). one_if (is_line got && b)) (same_kind entry.ms entry.call.event) in
    let rest = all_heard gots in
    omega (arith, here, same, rest, count_more is_heard got gots)

-- THE BOOK, of which these are all that is told

entries_told : (node : ConfiguredInteractions) (book : List Entry) → map (λ (t : Told). t.0) (told node book) ≡ book
entries_told node [] = refl
entries_told node (entry ∷ book) = ap (λ (entries : List Entry). entry ∷ entries) (entries_told (next node entry) book)

entries_got : (gots : List Got) → map entry_of gots ≡ map (λ (t : Told). t.0) (map told_of gots)
entries_got [] = refl
entries_got (got ∷ gots) = ap (λ (entries : List Entry). entry_of got ∷ entries) (entries_got gots)

pub lines_are : (node : ConfiguredInteractions) (book : List Entry) (gots : List Got) → map told_of gots ≡ told node book → lines_of gots ≡ lines_in book
lines_are node book gots told_are = ap lines_in (entries_got gots ∙ ap (map (λ (t : Told). t.0)) told_are ∙ entries_told node book)

-- WHAT KINDS of lines there are

pub made_are : (accounts : Accounts) (gots : List Got) → AreMade accounts gots → Each (λ (got : Got). IsServedLine got.told.0.call.event) gots
made_are accounts [] made = tt
made_are accounts (got ∷ gots) made = (kind got.told.0.call.event made.0, made_are (behind accounts got) gots made.1)
  where
    kind : (event : Event) → Makes got.session (accounts got.session) got.told.0.call event → IsServedLine event
    kind (events.Ask before fabric node cats opcode payload) makes = makes
    kind (events.Datagram before peer bytes) makes = tt
    kind (events.Tick before) makes = tt
    kind (events.Report before fabric subscription) makes = tt
    kind (events.Resend before session) makes = tt
    kind (events.Stop calls fate) makes = makes

pub ticks_are : (gots : List Got) → AreTicks gots → Each (λ (got : Got). IsServedLine got.told.0.call.event) gots
ticks_are [] ticks = tt
ticks_are (got ∷ gots) ticks =
    let it : IsTick got = ticks.0 in
    (subst (λ (call : Call). IsServedLine call.event) (sym it.call_is) tt, ticks_are gots ticks.1)

moved : (ms : ℕ) (event : Event) → IsServedLine event → IsServedLine (at_time ms event)
moved ms (events.Ask before fabric node cats opcode payload) is = is
moved ms (events.Datagram before peer bytes) is = tt
moved ms (events.Tick before) is = tt
moved ms (events.Report before fabric subscription) is = tt
moved ms (events.Resend before session) is = tt
moved ms (events.Stop calls fate) is = is

kind_or_none : (stop : Option Stop) (line : Event) (lines : List Event) → IsServedLine line → All IsServedLine lines → All IsServedLine (onto_lines stop line lines)
kind_or_none None line lines here rest = All-cons IsServedLine line lines here rest
kind_or_none (Some stop) line lines here rest = rest

pub all_kinds : (gots : List Got) → Each (λ (got : Got). IsServedLine got.told.0.call.event) gots → All IsServedLine (lines_of gots)
all_kinds [] each = All-nil IsServedLine
all_kinds (got ∷ gots) each =
    let entry : Entry = got.told.0 in
    kind_or_none entry.stop (at_time entry.ms entry.call.event) (lines_of gots) (moved entry.ms entry.call.event each.0) (all_kinds gots each.1)
