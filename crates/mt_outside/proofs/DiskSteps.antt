-- What becomes of the disk in memory by each event.
use Rattle.std.proofs.Common.{◌≡◌, inl, inr, ⊎_elim, ℕ, ◌+◌, ◌-◌, ◌≤◌, ◌<◌, min, List, [], ◌∷◌, ◌++◌, length, take, drop, replicate, Some, refl, sym, ap, subst, ◌∙◌, arith, append_assoc}
use Rattle.std.proofs.lemmas.Bool.{cases_lt}
use Rattle.std.proofs.lemmas.List.{take_all, drop_at, take_min, take-append-le, length-append, length-take, length_push, take-append-drop}
use Rattle.mt_outside.specs.Disk.{CutShort, Elapses, Follows, LeavesContents, NoneNew, WrotePart, overwritten}
use Rattle.mt_outside.specs.MemoryDisk.{DiskEvent, DiskState, Held, Leaves, half_torn, held, held_after, held_after_one, left_by, settled}
use Rattle.mt_outside.specs.MemoryDisk.DiskEvent.{wrote, synced}
use Rattle.mt_outside.specs.declared.fate.Fate.{Fate}
use Rattle.mt_outside.specs.declared.fate.Fate.TheVariants.{Kept, Lost, Torn}
use Rattle.mt_outside.proofs.Overwriting.{front, length-front, length-overwritten}
use Rattle.mt_outside.specs.Replaying.{AreWrites, IsAtRest, left_after}
use Rattle.mt_outside.proofs.Growing.{grows, length-half_torn}

-- Writes that are cut short.

pub nothing_written : (at n : ℕ) (bytes : List ℕ) → CutShort at n bytes bytes
nothing_written at n bytes = record { before = take_min at bytes; after = refl; no_shorter = omega arith; no_longer = omega arith }

front_kept : (at : ℕ) (old rest : List ℕ) → take (min at (length old)) (front at old ++ rest) ≡ take at old
front_kept at old rest =
    take-append-le (min at (length old)) (front at old) rest (omega (arith, length-front at old))
    ∙ take-append-le (min at (length old)) (take at old) (replicate (at - length old) 0) (omega (arith, length_taken))
    ∙ take_all (min at (length old)) (take at old) (omega (arith, length_taken))
  where
    length_taken : length (take at old) ≡ min at (length old)
    length_taken = simp length-take

pub all_written : (at : ℕ) (bytes old : List ℕ) → CutShort at (length bytes) old (overwritten at bytes old)
all_written at bytes old =
    let behind = drop (at + length bytes) old in
    record {
      before = ap (λ (l : List ℕ). take (min at (length old)) l) (append_assoc (front at old) bytes behind) ∙ front_kept at old (bytes ++ behind);
      after = drop_at (front at old ++ bytes) behind (at + length bytes) (omega (arith, length-front at old, length-append (front at old) bytes));
      no_shorter = omega (arith, length-overwritten at bytes old);
      no_longer = omega (arith, length-overwritten at bytes old);
    }

pub same_part : (at n : ℕ) (bytes : List ℕ) → WrotePart (Some bytes) at n (Some bytes)
same_part at n bytes = (bytes, refl, nothing_written at n bytes)

pub wrote_part : (at : ℕ) (bytes old new : List ℕ) → new ≡ overwritten at bytes old → WrotePart (Some old) at (length bytes) (Some new)
wrote_part at bytes old new is = (overwritten at bytes old, ap Some is, all_written at bytes old)

-- One event more.

pub held_push : (here : Held) (events : List DiskEvent) (event : DiskEvent) → held_after here (events ++ event ∷ []) ≡ held_after_one (held_after here events) event
held_push here [] event = refl
held_push here (e ∷ events) event = held_push (held_after_one here e) events event

-- What each fate leaves, a crash may leave.

pub each_fate : (here : Held) (events : List DiskEvent) → ((fate : Fate) → Leaves here (left_by fate here)) → (fate : Fate) → Leaves (held_after here events) (left_by fate (held_after here events))
each_fate here [] so_far = so_far
each_fate here (event ∷ events) so_far = each_fate (held_after_one here event) events (one event)
  where
    one : (event : DiskEvent) (fate : Fate) → Leaves (held_after_one here event) (left_by fate (held_after_one here event))
    one (wrote at bytes) Kept = (here.kept, so_far Kept, all_written at bytes here.kept)
    one (wrote at bytes) Lost = (here.lost, so_far Lost, nothing_written at (length bytes) here.lost)
    one (wrote at bytes) Torn =
        (here.torn, so_far Torn, subst (λ (n : ℕ). CutShort at n here.torn (overwritten at (half_torn bytes) here.torn)) (length-half_torn bytes) (all_written at (half_torn bytes) here.torn))
    one synced Kept = refl
    one synced Lost = refl
    one synced Torn = refl

pub at_first : (bytes : List ℕ) (fate : Fate) → Leaves (settled bytes) (left_by fate (settled bytes))
at_first bytes Kept = refl
at_first bytes Lost = refl
at_first bytes Torn = refl

pub fate_left : (disk : DiskState) (fate : Fate) → Leaves (held disk) (left_by fate (held disk))
fate_left disk fate = each_fate (settled disk.first) disk.events (at_first disk.first) fate

-- The moments.

abbrev Since : List ℕ → List DiskEvent → ℕ → List ℕ → Type 0
Since first events moment image = (count : ℕ) × (moment ≤ count) × (count ≤ length events) × Leaves (held_after (settled first) (take count events)) image

pub elapses_same : (first : List ℕ) (events : List DiskEvent) → Elapses (length events) (length events) (Since first events) (Since first events) (Leaves (held_after (settled first) events))
elapses_same first events = record { later = omega arith; nothing_else = λ moment image before left. inl left; keeps = λ moment image before left. left }

elapses_push : (first : List ℕ) (events : List DiskEvent) (event : DiskEvent)
    → Elapses (length events) (length (events ++ event ∷ [])) (Since first events) (Since first (events ++ event ∷ [])) (Leaves (held_after (settled first) (events ++ event ∷ [])))
elapses_push first events event = record {
  later = omega (arith, length_push events event);
  nothing_else = λ moment image before left. ⊎_elim (λ new. inr (now image left.0 new left.3)) (λ old. inl (left.0, left.1, old, past image left.0 old left.3)) (cases_lt (length events) left.0);
  keeps = λ moment image before left.
      (left.0, left.1, omega (arith, left.2, length_push events event), subst (λ (es : List DiskEvent). Leaves (held_after (settled first) es) image) (sym (take-append-le left.0 events (event ∷ []) left.2)) left.3);
}
  where
    now : (image : List ℕ) (count : ℕ) → length events < count → Leaves (held_after (settled first) (take count (events ++ event ∷ []))) image → Leaves (held_after (settled first) (events ++ event ∷ [])) image
    now image count new left = subst (λ (es : List DiskEvent). Leaves (held_after (settled first) es) image) (take_all count (events ++ event ∷ []) (omega (arith, length_push events event))) left

    past : (image : List ℕ) (count : ℕ) → count ≤ length events → Leaves (held_after (settled first) (take count (events ++ event ∷ []))) image → Leaves (held_after (settled first) (take count events)) image
    past image count old left = subst (λ (es : List DiskEvent). Leaves (held_after (settled first) es) image) (take-append-le count events (event ∷ []) old) left

pub elapses_to : (first after : List ℕ) (events later : List DiskEvent) (event : DiskEvent) → after ≡ first → later ≡ events ++ event ∷ []
    → Elapses (length events) (length later) (Since first events) (Since after later) (Leaves (held_after (settled after) later))
elapses_to first after events later event same is =
    let P : List ℕ → List DiskEvent → Type 0 = λ f es. Elapses (length events) (length es) (Since first events) (Since f es) (Leaves (held_after (settled f) es)) in
    subst (λ (f : List ℕ). P f later) (sym same) (subst (λ (es : List DiskEvent). P first es) (sym is) (elapses_push first events event))

pub elapses_still : (first after : List ℕ) (events later : List DiskEvent) → after ≡ first → later ≡ events
    → Elapses (length events) (length later) (Since first events) (Since after later) (Leaves (held_after (settled after) later))
elapses_still first after events later same is =
    let P : List ℕ → List DiskEvent → Type 0 = λ f es. Elapses (length events) (length es) (Since first events) (Since f es) (Leaves (held_after (settled f) es)) in
    subst (λ (f : List ℕ). P f later) (sym same) (subst (λ (es : List DiskEvent). P first es) (sym is) (elapses_same first events))

-- What a crash leaves after one event more.

held_to : (first after : List ℕ) (events later : List DiskEvent) (event : DiskEvent) → after ≡ first → later ≡ events ++ event ∷ []
    → held_after (settled after) later ≡ held_after_one (held_after (settled first) events) event
held_to first after events later event same is =
    ap (λ (f : List ℕ). held_after (settled f) later) same ∙ ap (λ (es : List DiskEvent). held_after (settled first) es) is ∙ held_push (settled first) events event

held_still : (first after : List ℕ) (events later : List DiskEvent) → after ≡ first → later ≡ events → held_after (settled after) later ≡ held_after (settled first) events
held_still first after events later same is = ap (λ (f : List ℕ). held_after (settled f) later) same ∙ ap (λ (es : List DiskEvent). held_after (settled first) es) is

pub crash_wrote : (first after : List ℕ) (events later : List DiskEvent) (at : ℕ) (bytes : List ℕ) → after ≡ first → later ≡ events ++ wrote at bytes ∷ []
    → Follows (CutShort at (length bytes)) (Leaves (held_after (settled first) events)) (Leaves (held_after (settled after) later))
crash_wrote first after events later at bytes same is =
    λ image left. subst (λ (h : Held). Leaves h image) (held_to first after events later (wrote at bytes) same is) left

pub crash_still : (first after : List ℕ) (events later : List DiskEvent) (at n : ℕ) → after ≡ first → later ≡ events
    → Follows (CutShort at n) (Leaves (held_after (settled first) events)) (Leaves (held_after (settled after) later))
crash_still first after events later at n same is =
    λ image left. (image, subst (λ (h : Held). Leaves h image) (held_still first after events later same is) left, nothing_written at n image)

pub contents_wrote : (first after : List ℕ) (events later : List DiskEvent) (at : ℕ) (bytes : List ℕ) → after ≡ first → later ≡ events ++ wrote at bytes ∷ []
    → (held_after (settled after) later).kept ≡ overwritten at bytes (held_after (settled first) events).kept
contents_wrote first after events later at bytes same is = ap (λ (h : Held). h.kept) (held_to first after events later (wrote at bytes) same is)

pub contents_still : (first after : List ℕ) (events later : List DiskEvent) → after ≡ first → later ≡ events
    → (held_after (settled after) later).kept ≡ (held_after (settled first) events).kept
contents_still first after events later same is = ap (λ (h : Held). h.kept) (held_still first after events later same is)

-- after a sync

module _ (first : List ℕ) (events later : List DiskEvent) (is : later ≡ events ++ synced ∷ []) where
  pub held_synced : held_after (settled first) later ≡ settled (held_after (settled first) events).kept
  held_synced = held_to first first events later synced refl is

  pub contents_synced : (held_after (settled first) later).kept ≡ (held_after (settled first) events).kept
  contents_synced = ap (λ (h : Held). h.kept) held_synced

  pub only_contents : LeavesContents (Some (held_after (settled first) later).kept) (Leaves (held_after (settled first) later))
  only_contents = λ image left. (let here : image ≡ (held_after (settled first) events).kept = subst (λ (h : Held). Leaves h image) held_synced left in here ∙ sym contents_synced)

  pub crash_synced : NoneNew (Leaves (held_after (settled first) events)) (Leaves (held_after (settled first) later))
  crash_synced = λ image left.
      (let here : image ≡ (held_after (settled first) events).kept = subst (λ (h : Held). Leaves h image) held_synced left in
      subst (λ (i : List ℕ). Leaves (held_after (settled first) events) i) (sym here) (each_fate (settled first) events (at_first first) Kept))

-- A restart.

pub held_append : (here : Held) (events more : List DiskEvent) → held_after here (events ++ more) ≡ held_after (held_after here events) more
held_append here [] more = refl
held_append here (event ∷ events) more = held_append (held_after_one here event) events more

-- everything is done again
pub kept_again : (here : Held) (events : List DiskEvent) → left_after Kept here.kept events ≡ (held_after here events).kept
kept_again here [] = refl
kept_again here (wrote at bytes ∷ events) = kept_again (held_after_one here (wrote at bytes)) events
kept_again here (synced ∷ events) = kept_again (held_after_one here synced) events

-- writes are done again as the fate leaves them
writes_again : (fate : Fate) (here : Held) (events : List DiskEvent) → AreWrites events → left_after fate (left_by fate here) events ≡ left_by fate (held_after here events)
writes_again fate here [] all = refl
writes_again Kept here (wrote at bytes ∷ events) all = writes_again Kept (held_after_one here (wrote at bytes)) events all
writes_again Lost here (wrote at bytes ∷ events) all = writes_again Lost (held_after_one here (wrote at bytes)) events all
writes_again Torn here (wrote at bytes ∷ events) all = writes_again Torn (held_after_one here (wrote at bytes)) events all
writes_again fate here (synced ∷ events) all = absurd all

-- no fate leaves more than was there
record FitsIn (here : Held) : Type 0 where
  lost : length here.lost ≤ length here.kept
  torn : length here.torn ≡ length here.kept

fits_after : (here : Held) (events : List DiskEvent) → FitsIn here → FitsIn (held_after here events)
fits_after here [] fits = fits
fits_after here (wrote at bytes ∷ events) fits = fits_after (held_after_one here (wrote at bytes)) events (record {
  lost = omega (arith, fits.lost, length-overwritten at bytes here.kept);
  torn = omega (arith, fits.torn, length-overwritten at bytes here.kept, length-overwritten at (half_torn bytes) here.torn, length-half_torn bytes);
})
fits_after here (synced ∷ events) fits = fits_after (held_after_one here synced) events (record { lost = omega arith; torn = refl })

fate_fits : (fate : Fate) (here : Held) → FitsIn here → length (left_by fate here) ≤ length here.kept
fate_fits Kept here fits = omega arith
fate_fits Lost here fits = fits.lost
fate_fits Torn here fits = omega (arith, fits.torn)

pub left_fits : (fate : Fate) (first : List ℕ) (events : List DiskEvent) → length (left_by fate (held_after (settled first) events)) ≤ length (held_after (settled first) events).kept
left_fits fate first events = fate_fits fate (held_after (settled first) events) (fits_after (settled first) events (record { lost = omega arith; torn = refl }))

module _ (first : List ℕ) (events : List DiskEvent) (count : ℕ) (at_rest : IsAtRest (held_after (settled first) (take count events))) where
  abbrev there : Held
  there = held_after (settled first) (take count events)

  split : held_after (settled first) events ≡ held_after there (drop count events)
  split = ap (λ (es : List DiskEvent). held_after (settled first) es) (sym (take-append-drop count events)) ∙ held_append (settled first) (take count events) (drop count events)

  rests_by : (fate : Fate) → left_by fate there ≡ there.kept
  rests_by Kept = refl
  rests_by Lost = ap (λ (h : Held). h.lost) at_rest
  rests_by Torn = ap (λ (h : Held). h.torn) at_rest

  pub synced_fits : length (left_after Kept first (take count events)) ≤ length (held_after (settled first) events).kept
  synced_fits =
      let whole : left_after Kept there.kept (drop count events) ≡ (held_after (settled first) events).kept = kept_again there (drop count events) ∙ ap (λ (h : Held). h.kept) (sym split) in
      omega (arith, ap length (kept_again (settled first) (take count events)), grows Kept there.kept (drop count events), ap length whole)

  pub rewound : (fate : Fate) → AreWrites (drop count events) → left_after fate (left_after Kept first (take count events)) (drop count events) ≡ left_by fate (held_after (settled first) events)
  rewound fate all =
      ap (λ (b : List ℕ). left_after fate b (drop count events)) (kept_again (settled first) (take count events) ∙ sym (rests_by fate))
      ∙ writes_again fate there (drop count events) all
      ∙ ap (λ (h : Held). left_by fate h) (sym split)
