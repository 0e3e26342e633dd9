-- Each step makes its commit.
use Rattle.std.proofs.Common.{◌≡◌, ℕ, ◌+◌, ◌≤◌, Bool, true, false, List, length, sym, subst, arith}
use Rattle.std.specs.Prelude.{IsTrue, not}
use Rattle.std.proofs.lemmas.Bool.Decides.{nat_tests}
use Rattle.mt_journal.specs.Committing.{StepCommits, has_form, has_room}
use Rattle.mt_journal.specs.Layout.{MayFollow, names_slot_one, selector_above, slot_length, slot_start}
use Rattle.mt_journal.specs.Standing.{IsBegun, IsInUse, IsLog, fits_at}
use Rattle.mt_journal.specs.declared.position.Position.TheVariants.{Begun, Log, InUse}
use Rattle.mt_journal.specs.declared.planning.Front.TheVariants.{Nothing, Selectors, Move}
use Rattle.mt_journal.specs.declared.planning.Kind.{Kind}
use Rattle.mt_journal.specs.declared.planning.Kind.TheVariants.{Change, Image}
use Rattle.mt_journal.proofs.FirstImage.{begun_commits, log_commits}
use Rattle.mt_journal.proofs.LaterImage.{one_commits, zero_commits}
use Rattle.mt_journal.proofs.Records.{change_commits}

room_left : (base p0 p1 gate count : ℕ) → IsTrue (fits_at (InUse base p0 p1 gate) count) → gate + 6 + count ≤ slot_start base (names_slot_one p0 p1) + slot_length
room_left base p0 p1 gate count fits = grind (arith, nat_tests)

module _ (images : List ℕ → Bool) (changes : MayFollow) (list : List (List ℕ)) (file piece : List ℕ) (count : ℕ) (short : count ≤ 65536) (size : length piece ≡ count) where
  fits_short : length piece ≤ 65536
  fits_short = omega (arith, short, size)

  pub begun_step : (kind : Kind) → IsTrue (has_room kind Begun count) → IsTrue (has_form images changes kind list piece) → IsBegun list file
      → StepCommits images changes kind piece list (record { at = 9; front = Selectors; last_at = 8; last = 0x5a; next = InUse 9 0 0 (15 + count) }) file
  begun_step Change room form stands = absurd (grind (arith, room))
  begun_step Image room form stands =
      subst (λ (n : ℕ). StepCommits images changes Image piece list (record { at = 9; front = Selectors; last_at = 8; last = 0x5a; next = InUse 9 0 0 (15 + n) }) file) size (begun_commits images changes list file piece fits_short form stands)

  pub log_step : (kind : Kind) (gate : ℕ) → IsTrue (has_room kind (Log gate) count) → IsTrue (has_form images changes kind list piece) → IsLog changes gate list file
      → StepCommits images changes kind piece list (record { at = gate + 1; front = Move; last_at = gate; last = 0x5a; next = InUse (gate + 5) 0 0 (gate + 5 + 6 + count) }) file
  log_step Change gate room form stands = absurd (grind (arith, room))
  log_step Image gate room form stands =
      subst (λ (n : ℕ). StepCommits images changes Image piece list (record { at = gate + 1; front = Move; last_at = gate; last = 0x5a; next = InUse (gate + 5) 0 0 (gate + 5 + 6 + n) }) file) size (log_commits images changes list file piece fits_short form gate stands)

  module _ (base p0 p1 gate : ℕ) (stands : IsInUse images changes base p0 p1 gate list file) where
    pub change_step : IsTrue (fits_at (InUse base p0 p1 gate) count) → IsTrue (changes list piece)
        → StepCommits images changes Change piece list (record { at = gate + 1; front = Nothing; last_at = gate; last = 0x5a; next = InUse base p0 p1 (gate + 5 + count) }) file
    change_step fits form =
        subst (λ (n : ℕ). StepCommits images changes Change piece list (record { at = gate + 1; front = Nothing; last_at = gate; last = 0x5a; next = InUse base p0 p1 (gate + 5 + n) }) file) size
        (change_commits images changes base p0 p1 gate list file stands piece fits_short (omega (arith, size, room_left base p0 p1 gate count fits)) form)

    -- the image is in slot 1, or in slot 0
    pub one_step : (at above : ℕ) → IsTrue (images piece) → names_slot_one p0 p1 ≡ false → at ≡ slot_start base (not (names_slot_one p0 p1)) → above ≡ selector_above p1
        → StepCommits images changes Image piece list (record { at = at; front = Nothing; last_at = base; last = above; next = InUse base above p1 (at + 4 + count) }) file
    one_step at above form zero at_is above_is =
        subst (λ (n : ℕ). StepCommits images changes Image piece list (record { at = at; front = Nothing; last_at = base; last = above; next = InUse base above p1 (at + 4 + n) }) file) size
        (subst (λ (b : ℕ). StepCommits images changes Image piece list (record { at = at; front = Nothing; last_at = base; last = b; next = InUse base b p1 (at + 4 + length piece) }) file) (sym above_is)
        (subst (λ (a : ℕ). StepCommits images changes Image piece list (record { at = a; front = Nothing; last_at = base; last = selector_above p1; next = InUse base (selector_above p1) p1 (a + 4 + length piece) }) file) (sym at_is)
        (one_commits images changes base p0 p1 gate list file stands piece fits_short form zero)))

    pub zero_step : (at above : ℕ) → IsTrue (images piece) → names_slot_one p0 p1 ≡ true → at ≡ slot_start base (not (names_slot_one p0 p1)) → above ≡ selector_above p0
        → StepCommits images changes Image piece list (record { at = at; front = Nothing; last_at = base + 1; last = above; next = InUse base p0 above (at + 4 + count) }) file
    zero_step at above form one at_is above_is =
        subst (λ (n : ℕ). StepCommits images changes Image piece list (record { at = at; front = Nothing; last_at = base + 1; last = above; next = InUse base p0 above (at + 4 + n) }) file) size
        (subst (λ (b : ℕ). StepCommits images changes Image piece list (record { at = at; front = Nothing; last_at = base + 1; last = b; next = InUse base p0 b (at + 4 + length piece) }) file) (sym above_is)
        (subst (λ (a : ℕ). StepCommits images changes Image piece list (record { at = a; front = Nothing; last_at = base + 1; last = selector_above p0; next = InUse base p0 (selector_above p0) (a + 4 + length piece) }) file) (sym at_is)
        (zero_commits images changes base p0 p1 gate list file stands piece fits_short form one)))
