-- What is remembered says all that the code has of it.
use Rattle.std.proofs.Common.{◌≡◌, List, [], ◌∷◌, refl, sym, ap, ◌∙◌, map}
use Rattle.mt_session.specs.Opening.{Arrival}
use Rattle.mt_exchange.specs.Shown.{Outgoing, Shown, again, closed, heard, sent, told}
use Rattle.mt_exchange.specs.declared.telling.Outgoing as codes_of
use Rattle.mt_marks.specs.Noted.{shown_in}
use Rattle.mt_marks.specs.Remembered.{ToldTalk}
use Rattle.mt_marks.specs.Told.{talk_in}
use Rattle.mt_marks.specs.declared.shown.Arrived.{Arrived}
use Rattle.mt_marks.specs.declared.shown.Shown as code
use Rattle.mt_marks.specs.declared.shown.Shown.TheVariants as codes
use Rattle.mt_marks.specs.declared.told.Told.{Told}

arrival_back : Arrival → Arrived
arrival_back a = record { counter = a.counter; header = a.header; payload = a.payload }

outgoing_back : Outgoing → codes_of.Outgoing
outgoing_back o = record { header = o.message.header; payload = o.message.payload; deadline = o.deadline }

shown_back : Shown → code.Shown
shown_back (heard live a) = codes.Heard live (arrival_back a)
shown_back (sent message now) = codes.Sent (outgoing_back message) now
shown_back (told subscription message now) = codes.Told subscription (outgoing_back message) now
shown_back (again now) = codes.Again now
shown_back closed = codes.Closed

back : (s : code.Shown) → shown_back (shown_in s) ≡ s
unfolding arrival_back outgoing_back shown_back
back (codes.Heard live arrival) = refl
back (codes.Sent outgoing now) = refl
back (codes.Told subscription outgoing now) = refl
back (codes.Again now) = refl
back codes.Closed = refl

map-back : (all : List code.Shown) → map shown_back (map shown_in all) ≡ all
map-back [] = refl
map-back (s ∷ all) = λ i. back s i ∷ map-back all i

abbrev pub HaveSameParts : Told → Told → Type 0
HaveSameParts one other = (one.row ≡ other.row) × (one.shown.items ≡ other.shown.items)

pub same_in : (one other : Told) → HaveSameParts one other → talk_in one ≡ talk_in other
same_in one other same = λ i. record { row = same.0 i; shown = map shown_in (same.1 i) }

pub same_back : (one other : Told) → talk_in one ≡ talk_in other → HaveSameParts one other
same_back one other e = (
  ap (λ (t : ToldTalk). t.row) e,
  sym (map-back one.shown.items) ∙ ap (λ (t : ToldTalk). map shown_back t.shown) e ∙ map-back other.shown.items,
)
