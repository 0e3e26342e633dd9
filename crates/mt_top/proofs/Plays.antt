-- A recording that is played event by event.
use Rattle.std.proofs.Common.{◌≡◌, ℕ, ◌+◌, ◌<◌, ◌≤◌, List, [], ◌∷◌, ◌++◌, length, drop, get_or, Option, refl, sym, ap, subst, ◌∙◌, append_assoc}
use Rattle.std.proofs.lemmas.List.{append-nil, drop_all, drop_more}
use Rattle.mt_outside.specs.Stream.{Took, TookLess}
use Rattle.mt_outside.specs.Laws.{StreamLaws}
use Rattle.mt_model.specs.declared.texts.recording.Event.{Event}
use Rattle.mt_model.specs.declared.texts.recording.Sent.{Sent}
use Rattle.mt_files.specs.Lines.{ended}
use Rattle.mt_files.specs.Output.{output_text, sent_line}
use Rattle.mt_compare.specs.mt_runs.Messages.{run}
use Rattle.mt_top.specs.Begun.{Begun, Plays, behind, sent_by}
use Rattle.mt_compare.specs.mt_play.Playing.{Playing}

-- what is sent for events
abbrev pub sent_of : Begun → List Event → List Sent
sent_of s events = run s.given s.sessions s.going events

pub output-append : (xs ys : List Sent) → output_text (xs ++ ys) ≡ output_text xs ++ output_text ys
output-append [] ys = refl
output-append (x ∷ xs) ys = ap (λ (w : List ℕ). ended (sent_line x) ++ w) (output-append xs ys) ∙ sym (append_assoc (ended (sent_line x)) (output_text xs) (output_text ys))

-- the text of one more message
pub output-one : (xs : List Sent) (x : Sent) → output_text (xs ++ x ∷ []) ≡ output_text xs ++ ended (sent_line x)
output-one xs x = output-append xs (x ∷ []) ∙ ap (λ (w : List ℕ). output_text xs ++ w) (append-nil (ended (sent_line x)))

-- One more event, at this place of all.
drop_event : (all : List Event) (i : ℕ) (event : Event) → i < length all → event ≡ get_or all i event → drop i all ≡ event ∷ drop (i + 1) all
drop_event all i event lt is = drop_more all i event lt ∙ ap (λ e. e ∷ drop (i + 1) all) (sym is)

pub sent-step : (s : Begun) (all : List Event) (i : ℕ) (event : Event) → i < length all → event ≡ get_or all i event → sent_of s (drop i all) ≡ sent_by s event ++ sent_of (behind s event) (drop (i + 1) all)
sent-step s all i event lt is = ap (sent_of s) (drop_event all i event lt is)

-- no more events
pub sent-end : (s : Begun) (all : List Event) (i : ℕ) → length all ≤ i → sent_of s (drop i all) ≡ []
sent-end s all i le = ap (sent_of s) (drop_all i all le)

-- One more message at this place of all.
pub text-step : (all : List Sent) (i : ℕ) (x : Sent) (text whole : List ℕ) → i < length all → x ≡ get_or all i x → text ++ output_text (drop i all) ≡ whole → (text ++ ended (sent_line x)) ++ output_text (drop (i + 1) all) ≡ whole
text-step all i x text whole lt is h =
    append_assoc text (ended (sent_line x)) (output_text (drop (i + 1) all))
    ∙ ap (λ (w : List ℕ). text ++ w) (sym (ap output_text (drop_more all i x lt ∙ ap (λ m. m ∷ drop (i + 1) all) (sym is))))
    ∙ h

pub text-end : (all : List Sent) (i : ℕ) (text whole : List ℕ) → length all ≤ i → text ++ output_text (drop i all) ≡ whole → text ≡ whole
text-end all i text whole le h = sym (append-nil text) ∙ ap (λ (w : List ℕ). text ++ w) (sym (ap output_text (drop_all i all le))) ∙ h

-- all was told
pub took-all : (a b : Option (List ℕ)) (told rest all : List Sent) → Took a b (output_text told) → all ≡ told ++ rest → rest ≡ [] → Took a b (output_text all)
took-all a b told rest all took is none = let same : all ≡ told = is ∙ ap (λ (w : List Sent). told ++ w) none ∙ append-nil told in rw same took

-- more was told
pub took-more : StreamLaws → (a b c : Option (List ℕ)) (told more : List Sent) (text : List ℕ) → Took a b (output_text told) → text ≡ output_text more → Took b c text → Took a c (output_text (told ++ more))
took-more laws a b c told more text took is next =
    subst (Took a c) (ap (λ (w : List ℕ). output_text told ++ w) is ∙ sym (output-append told more)) (laws.then a b c (output_text told) text took next)

-- less was told than the next text
pub took-less : StreamLaws → (a b c : Option (List ℕ)) (told more rest all : List Sent) (text : List ℕ) → Took a b (output_text told) → text ≡ output_text more → TookLess b c text → all ≡ told ++ (more ++ rest) → TookLess a c (output_text all)
took-less laws a b c told more rest all text took is less whole =
    let spelled : (output_text told ++ text) ++ output_text rest ≡ output_text all =
    append_assoc (output_text told) text (output_text rest)
    ∙ ap (λ (w : List ℕ). output_text told ++ (w ++ output_text rest)) is
    ∙ ap (λ (w : List ℕ). output_text told ++ w) (sym (output-append more rest))
    ∙ sym (output-append told (more ++ rest))
    ∙ ap output_text (sym whole) in
    subst (TookLess a c) spelled (laws.less_of_more a c (output_text told ++ text) (output_text rest) (laws.then_less a b c (output_text told) text took less))

-- What was told so far of all events, and for which node the code stands before the rest.
pub record SoFar (begun : Begun) (player : Playing) (all rest : List Event) (before now : Option (List ℕ)) : Type 0 where
  pub told : List Sent
  pub at : Begun
  pub stands : Plays player at
  pub took : Took before now (output_text told)
  pub sent : sent_of begun all ≡ told ++ sent_of at rest
