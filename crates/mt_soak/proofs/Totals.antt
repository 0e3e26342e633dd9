-- What messages come to, one more at a time.
use Rattle.std.proofs.Common.{◌≡◌, ℕ, ◌+◌, ◌<◌, ◌≤◌, ◌==◌, List, [], ◌∷◌, ◌++◌, length, take, drop, get_or, Ok, ap, sym, ◌∙◌, subst, append_assoc, arith}
use Rattle.std.specs.Prelude.{map, if◌then◌else◌}
use Rattle.std.specs.List.{flat_map, range_with_len}
use Rattle.std.proofs.lemmas.List.{append-nil, drop_all, drop_more, flat_map_more, map-append, take-append-drop, take_more}
use Rattle.std.proofs.lemmas.List.Concat.{flat_map-append}
use Rattle.std.proofs.lemmas.List.FromFn.{get_or-range_with_len, length-range_with_len}
use Rattle.std.proofs.lemmas.List.Sums.{sum_by-append}
use Rattle.mt_tlv.specs.declared.value.Tag.{Tag}
use Rattle.mt_tlv.specs.Tree.{Tree}
use Rattle.mt_tlv.specs.Limits.{IsElement}
use Rattle.mt_tlv.specs.Reading.{element_at}
use Rattle.mt_model.specs.declared.texts.recording.Sent.{Sent}
use Rattle.mt_soak.specs.Codes.{AreCounted, codes_of, occurrences}
use Rattle.mt_files.specs.Lines.{ended, text_of}
use Rattle.mt_files.specs.Output as output
use Rattle.mt_files.specs.Output.{output_text}
use Rattle.mt_soak.specs.Summary.{AreCountsOf, all_codes, codes_in, codes_read, codes_sent, lines_of_code, message_codes}

-- the text of lines, and then of others
pub text-append : (xs ys : List (List ℕ)) → text_of (xs ++ ys) ≡ text_of xs ++ text_of ys
text-append xs ys = flat_map-append ended xs ys

pub output-append : (xs ys : List Sent) → output_text (xs ++ ys) ≡ output_text xs ++ output_text ys
output-append xs ys = ap text_of (map-append output.sent_line xs ys) ∙ text-append (map output.sent_line xs) (map output.sent_line ys)

pub codes-append : (xs ys : List Sent) → codes_sent (xs ++ ys) ≡ codes_sent xs ++ codes_sent ys
codes-append xs ys = flat_map-append message_codes xs ys

occurrences-append : (code : ℕ) (xs ys : List ℕ) → occurrences code (xs ++ ys) ≡ occurrences code xs + occurrences code ys
occurrences-append code xs ys = sum_by-append (λ n. if n == code then 1 else 0) xs ys

-- counts that have risen by further status codes
pub counts-more : (statuses more old new : List ℕ) → AreCountsOf statuses old → AreCounted more old new → AreCountsOf (statuses ++ more) new
counts-more statuses more old new are risen code below =
    let a = are code below in
    let b = risen code below in
    let both = occurrences-append code statuses more in
    omega arith

-- counts that have risen by the status codes of a payload that is read
pub counts-read : (opcode : ℕ) (payload statuses old new : List ℕ) (tag : Tag) (v : Tree) (n : ℕ) → IsElement tag v (take n payload) → element_at payload ≡ Ok ((tag, v), drop n payload) → ((t : Tag) (message : Tree) (bytes rest : List ℕ) → IsElement t message bytes → payload ≡ bytes ++ rest → AreCounted (codes_of opcode message) old new) → AreCountsOf statuses old → AreCountsOf (statuses ++ codes_in opcode payload) new
counts-read opcode payload statuses old new tag v n stands read risen are =
    subst (λ s. AreCountsOf (statuses ++ s) new) (sym (ap (codes_read opcode) read))
    (counts-more statuses (codes_of opcode v) old new are (risen tag v (take n payload) (drop n payload) stands (sym (take-append-drop n payload))))

-- none more
pub counts-same : (statuses none counts : List ℕ) → none ≡ [] → AreCountsOf statuses counts → AreCountsOf (statuses ++ none) counts
counts-same statuses none counts e are = subst (λ s. AreCountsOf s counts) (sym (ap (λ (w : List ℕ). statuses ++ w) e ∙ append-nil statuses)) are

-- the codes of one more message, at this place of all
pub codes-step : (statuses : List ℕ) (all : List Sent) (i : ℕ) (x : Sent) → i < length all → x ≡ get_or all i x → (statuses ++ codes_sent (take i all)) ++ message_codes x ≡ statuses ++ codes_sent (take (i + 1) all)
codes-step statuses all i x lt is =
    flat_map_more message_codes statuses (take i all) x
    ∙ ap (λ (xs : List Sent). statuses ++ codes_sent xs) (sym (take_more all i x lt ∙ ap (λ (m : Sent). take i all ++ m ∷ []) (sym is)))

-- one more line of a message
pub line-step : (text whole : List ℕ) (all : List Sent) (i : ℕ) (x : Sent) → i < length all → x ≡ get_or all i x → text ++ output_text (drop i all) ≡ whole → (text ++ ended (output.sent_line x)) ++ output_text (drop (i + 1) all) ≡ whole
line-step text whole all i x lt is h =
    append_assoc text (ended (output.sent_line x)) (output_text (drop (i + 1) all))
    ∙ ap (λ (w : List ℕ). text ++ w) (sym (ap output_text (drop_more all i x lt ∙ ap (λ (m : Sent). m ∷ drop (i + 1) all) (sym is))))
    ∙ h

pub line-end : (text whole : List ℕ) (all : List Sent) (i : ℕ) → length all ≤ i → text ++ output_text (drop i all) ≡ whole → text ≡ whole
line-end text whole all i le h = sym (append-nil text) ∙ ap (λ (w : List ℕ). text ++ w) (sym (ap output_text (drop_all i all le))) ∙ h

-- every code of a byte
pub length-all_codes : length all_codes ≡ 256
unfolding all_codes
length-all_codes = length-range_with_len 0 256

zero_plus : (n : ℕ) → 0 + n ≡ n
zero_plus n = omega arith

drop-code : (code : ℕ) → code < 256 → drop code all_codes ≡ code ∷ drop (code + 1) all_codes
unfolding all_codes
drop-code code below =
    drop_more (range_with_len 0 256) code 0 (rw (length-range_with_len 0 256) below)
    ∙ ap (λ (n : ℕ). n ∷ drop (code + 1) (range_with_len 0 256)) (get_or-range_with_len 0 256 code 0 below ∙ zero_plus code)

-- what the codes from this one on add to a text
abbrev pub rest_of : List ℕ → ℕ → List ℕ
rest_of statuses code = text_of (flat_map (lines_of_code statuses) (drop code all_codes))

pub rest-step : (statuses text : List ℕ) (code : ℕ) → code < 256 → (text ++ text_of (lines_of_code statuses code)) ++ rest_of statuses (code + 1) ≡ text ++ rest_of statuses code
rest-step statuses text code below =
    append_assoc text (text_of (lines_of_code statuses code)) (rest_of statuses (code + 1))
    ∙ ap (λ (w : List ℕ). text ++ w)
    (sym (text-append (lines_of_code statuses code) (flat_map (lines_of_code statuses) (drop (code + 1) all_codes)))
    ∙ ap (λ (cs : List ℕ). text_of (flat_map (lines_of_code statuses) cs)) (sym (drop-code code below)))

pub rest-end : (statuses : List ℕ) (code : ℕ) → 256 ≤ code → rest_of statuses code ≡ []
rest-end statuses code le = ap (λ (cs : List ℕ). text_of (flat_map (lines_of_code statuses) cs)) (drop_all code all_codes (rw length-all_codes le))
