-- What is read is within the ranges of the format.
use Rattle.std.proofs.Common.{◌≡◌, ◌≢◌, ℕ, ◌*◌, ◌%◌, ◌≤◌, Bool, true, false, cond, eqb, leb, List, [], ◌∷◌, length, Option, Some, None, Result, Ok, Err, refl, sym, ap, subst, ◌∙◌, arith}
use Rattle.std.specs.Prelude.{All, codes}
use Rattle.std.specs.Option.{option_and_then, option_map}
use Rattle.std.specs.Int.{w32, from_be_bytes}
use Rattle.std.proofs.lemmas.Bool.{eqb-false, leb-true}
use Rattle.std.proofs.lemmas.List.Elements.{All-nil, All-cons}
use Rattle.hex.specs.Hex.{decode_of}
use Rattle.hex.specs.declared.error.FromHexError.{FromHexError}
use Rattle.hex.proofs.HexLemmas.{decode_of-ok}
use Rattle.mt_outside.specs.declared.fate.Fate.{Fate}
use Rattle.mt_outside.specs.declared.network.Peer.{Peer}
use Rattle.mt_model.specs.declared.limits.TheConstants.{LAST_TIME, PAYLOAD_BYTES, RECEIVED_BYTES, LAST_CALLS, LAST_FABRIC}
use Rattle.mt_model.specs.declared.texts.recording.Event.{Event}
use Rattle.mt_model.specs.declared.texts.recording.Event.TheVariants.{Ask, Datagram, Tick, Report, Resend, Stop}
use Rattle.mt_model.specs.declared.texts.line_fault.LineKind.{LineKind}
use Rattle.mt_model.specs.declared.texts.line_fault.LineKind.TheVariants.{Hex}
use Rattle.mt_files.specs.declared.subject.Subject.{Subject}
use Rattle.mt_files.specs.Event.{ask_in, ask_of, calls_in, datagram_in, datagram_of, fabric_in, line_event, may_ask, report_in, report_of, resend_in, resend_of, session_in, stop_in, stop_of, subscription_in, tick_in, tick_of, time_in, told_in}
use Rattle.mt_files.specs.Field.{at_least, bytes_in, number_between, number_of, ok_of, payload_in, up_to, fate_in, peer_in, opcode_in}
use Rattle.mt_files.specs.Form.{AreCats, HasForm}
use Rattle.mt_files.specs.Lines.{fields_of, parts_of, text_is}
use Rattle.mt_files.specs.Subject.{cat_in, cats_in, node_in, subject_in, subject_of, subject_parts, three_of, with_version}

-- an event that a line tells
abbrev told_as : Event → Result Event LineKind
told_as e = Ok e

told-same : (x y : Event) → told_as x ≡ told_as y → x ≡ y
told-same x y h = cc

some-same : {A : Type 0} (x y : A) → Some x ≡ Some y → x ≡ y
some-same x y h = cc

-- numbers

some-if : (t : Bool) (k n : ℕ) → cond t (Some k) None ≡ Some n → (t ≡ true) × (k ≡ n)
some-if true k n h = (refl, some-same k n h)
some-if false k n h = absurd (cc)

up_to-some : (most : ℕ) (found : Option ℕ) (n : ℕ) → up_to most found ≡ Some n → n ≤ most
up_to-some most None n h = absurd (cc)
up_to-some most (Some k) n h = let p = some-if (leb k most) k n h in subst (λ m. m ≤ most) p.1 (leb-true k most p.0)

at_least-some : (least : ℕ) (found : Option ℕ) (n : ℕ) → at_least least found ≡ Some n → (least ≤ n) × (found ≡ Some n)
at_least-some least None n h = absurd (cc)
at_least-some least (Some k) n h = let p = some-if (leb least k) k n h in (subst (λ m. least ≤ m) p.1 (leb-true least k p.0), ap Some p.1)

pub between-some : (least most : ℕ) (text : List ℕ) (n : ℕ) → number_between least most text ≡ Some n → (least ≤ n) × (n ≤ most)
between-some least most text n h =
    let p = at_least-some least (up_to most (number_of text)) n h in
    (p.0, up_to-some most (number_of text) n p.1)

-- what a field tells is at most this
abbrev pub AtMost : ℕ → Option ℕ → Type 0
AtMost most found = (n : ℕ) → found ≡ Some n → n ≤ most

-- payloads

pub payload-size : (most : ℕ) (text bytes : List ℕ) → payload_in most text ≡ Some bytes → length bytes ≤ most
payload-size most text bytes h = first (eqb (length text) 0) h
  where
    decoded : (r : Result (List ℕ) FromHexError) → ok_of r ≡ Some bytes → r ≡ Ok bytes
    decoded (Ok found) e = ap Ok (some-same found bytes e)
    decoded (Err fault) e = absurd (cc)

    third : (t : Bool) → leb (length text) (2 * most) ≡ t → cond t (ok_of (decode_of text)) None ≡ Some bytes → length bytes ≤ most
    third true le e =
        let ok = decode_of-ok text bytes (decoded (decode_of text) e) in
        let fits = leb-true (length text) (2 * most) le in
        omega (arith, ok.2, fits)
    third false le e = absurd (cc)

    second : (t : Bool) → cond t (Some []) (cond (leb (length text) (2 * most)) (ok_of (decode_of text)) None) ≡ Some bytes → length bytes ≤ most
    second true e = subst (λ (bs : List ℕ). length bs ≤ most) (some-same [] bytes e) (omega arith)
    second false e = third (leb (length text) (2 * most)) refl e

    first : (t : Bool) → cond t None (cond (text_is text (codes "-")) (Some []) (cond (leb (length text) (2 * most)) (ok_of (decode_of text)) None)) ≡ Some bytes → length bytes ≤ most
    first true e = absurd (cc)
    first false e = second (text_is text (codes "-")) e

-- subjects

cat-version : (text : List ℕ) (n : ℕ) → cat_in text ≡ Some n → n % 65536 ≢ 0
cat-version text n h = by_number (option_map (from_be_bytes w32) (bytes_in 4 text)) h
  where
    by_test : (k : ℕ) (t : Bool) → eqb (k % 65536) 0 ≡ t → cond t None (Some k) ≡ Some n → n % 65536 ≢ 0
    by_test k true e h = absurd (cc)
    by_test k false e h = let not = eqb-false (k % 65536) 0 e in subst (λ m. m % 65536 ≢ 0) (some-same k n h) not

    by_number : (o : Option ℕ) → option_and_then with_version o ≡ Some n → n % 65536 ≢ 0
    by_number None h = absurd (cc)
    by_number (Some k) h = by_test k (eqb (k % 65536) 0) refl h

-- three numbers that are there
record Three (oa ob oc : Option ℕ) (cats : List ℕ) : Type 0 where
  a : ℕ
  b : ℕ
  c : ℕ
  first : oa ≡ Some a
  second : ob ≡ Some b
  third : oc ≡ Some c
  all : cats ≡ a ∷ b ∷ c ∷ []

three-some : (oa ob oc : Option ℕ) (cats : List ℕ) → three_of oa ob oc ≡ Some cats → Three oa ob oc cats
three-some (Some a) (Some b) (Some c) cats h = record { a = a; b = b; c = c; first = refl; second = refl; third = refl; all = sym (some-same (a ∷ b ∷ c ∷ []) cats h) }
three-some None ob oc cats h = absurd (cc)
three-some (Some a) None oc cats h = absurd (cc)
three-some (Some a) (Some b) None cats h = absurd (cc)

abbrev HasVersion : ℕ → Type 0
HasVersion cat = cat % 65536 ≢ 0

one_more : (n : ℕ) (ns : List ℕ) → HasVersion n → All HasVersion ns → All HasVersion (n ∷ ns)
one_more n ns h hs = All-cons HasVersion n ns h hs

cats-form : (parts : List (List ℕ)) (cats : List ℕ) → cats_in parts ≡ Some cats → AreCats cats
cats-form [] cats h = record { given = []; few = omega arith; padded = sym (some-same _ cats h); versions = All-nil HasVersion }
cats-form (a ∷ []) cats h =
    let t = three-some (cat_in a) (Some 0) (Some 0) cats h in
    let b : 0 ≡ t.b = some-same 0 t.b t.second in
    let c : 0 ≡ t.c = some-same 0 t.c t.third in record {
      given = t.a ∷ [];
      few = omega arith;
      padded = t.all ∙ (λ i. t.a ∷ sym b i ∷ sym c i ∷ []);
      versions = one_more t.a [] (cat-version a t.a t.first) (All-nil HasVersion);
    }
cats-form (a ∷ b ∷ []) cats h =
    let t = three-some (cat_in a) (cat_in b) (Some 0) cats h in
    let c : 0 ≡ t.c = some-same 0 t.c t.third in record {
      given = t.a ∷ t.b ∷ [];
      few = omega arith;
      padded = t.all ∙ (λ i. t.a ∷ t.b ∷ sym c i ∷ []);
      versions = one_more t.a (t.b ∷ []) (cat-version a t.a t.first) (one_more t.b [] (cat-version b t.b t.second) (All-nil HasVersion));
    }
cats-form (a ∷ b ∷ c ∷ []) cats h =
    let t = three-some (cat_in a) (cat_in b) (cat_in c) cats h in record {
      given = t.a ∷ t.b ∷ t.c ∷ [];
      few = omega arith;
      padded = t.all;
      versions = one_more t.a (t.b ∷ t.c ∷ []) (cat-version a t.a t.first) (one_more t.b (t.c ∷ []) (cat-version b t.b t.second) (one_more t.c [] (cat-version c t.c t.third) (All-nil HasVersion)));
    }
cats-form (a ∷ b ∷ c ∷ d ∷ parts) cats h = absurd (cc)

subject-form : (text : List ℕ) (s : Subject) → subject_in text ≡ Some s → AreCats s.cats
subject-form text s h = by_parts (parts_of 43 text) h
  where
    by_both : (node : Option ℕ) (o : Option (List ℕ)) → ((cats : List ℕ) → o ≡ Some cats → AreCats cats) → subject_of node o ≡ Some s → AreCats s.cats
    by_both (Some node) (Some cats) p h = subst AreCats (ap (λ (t : Subject). t.cats) (some-same _ s h)) (p cats refl)
    by_both None o p h = absurd (cc)
    by_both (Some node) None p h = absurd (cc)

    by_parts : (parts : List (List ℕ)) → subject_parts parts ≡ Some s → AreCats s.cats
    by_parts [] h = absurd (cc)
    by_parts (node ∷ cats) h = by_both (node_in node) (cats_in cats) (cats-form cats) h

-- lines

ask-form : (fields : List (List ℕ)) (e : Event) → ask_in fields ≡ told_as e → HasForm e
ask-form (ms ∷ fabric ∷ subject ∷ opcode ∷ payload ∷ []) e h =
    by_fields (time_in ms) (fabric_in fabric) (subject_in subject) (opcode_in opcode) (payload_in PAYLOAD_BYTES payload)
    (λ n is. (between-some 0 LAST_TIME ms n is).1) (λ n is. (between-some 0 LAST_FABRIC fabric n is).1) (subject-form subject) (payload-size PAYLOAD_BYTES payload) h
  where
    by_test : (ms fabric : ℕ) (s : Subject) (opcode : ℕ) (bytes : List ℕ) (t : Bool) → may_ask fabric s.node s.cats ≡ t → ms ≤ LAST_TIME → fabric ≤ LAST_FABRIC → AreCats s.cats → length bytes ≤ PAYLOAD_BYTES
        → cond t (told_as (Ask ms fabric s.node s.cats opcode bytes)) (Err Hex) ≡ told_as e → HasForm e
    by_test ms fabric s opcode bytes true may time index tags size h =
        subst HasForm (told-same (Ask ms fabric s.node s.cats opcode bytes) e h) (record { time = time; index = index; actor = may; tags = tags; size = size })
    by_test ms fabric s opcode bytes false may time index tags size h = absurd (cc)

    by_fields : (oms ofabric : Option ℕ) (os : Option Subject) (oo : Option ℕ) (op : Option (List ℕ)) → AtMost LAST_TIME oms → AtMost LAST_FABRIC ofabric → ((s : Subject) → os ≡ Some s → AreCats s.cats) → ((bytes : List ℕ) → op ≡ Some bytes → length bytes ≤ PAYLOAD_BYTES)
        → ask_of oms ofabric os oo op ≡ told_as e → HasForm e
    by_fields (Some ms) (Some fabric) (Some s) (Some opcode) (Some bytes) time index tags size h =
        by_test ms fabric s opcode bytes (may_ask fabric s.node s.cats) refl (time ms refl) (index fabric refl) (tags s refl) (size bytes refl) h
    by_fields None ofabric os oo op time index tags size h = absurd (cc)
    by_fields (Some ms) None os oo op time index tags size h = absurd (cc)
    by_fields (Some ms) (Some fabric) None oo op time index tags size h = absurd (cc)
    by_fields (Some ms) (Some fabric) (Some s) None op time index tags size h = absurd (cc)
    by_fields (Some ms) (Some fabric) (Some s) (Some opcode) None time index tags size h = absurd (cc)
ask-form fields e h = absurd (cc)

datagram-form : (fields : List (List ℕ)) (e : Event) → datagram_in fields ≡ told_as e → HasForm e
datagram-form (ms ∷ peer ∷ bytes ∷ []) e h =
    by_fields (time_in ms) (peer_in peer) (payload_in RECEIVED_BYTES bytes) (λ n is. (between-some 0 LAST_TIME ms n is).1) (payload-size RECEIVED_BYTES bytes) h
  where
    by_fields : (oms : Option ℕ) (op : Option Peer) (ob : Option (List ℕ)) → AtMost LAST_TIME oms → ((bytes : List ℕ) → ob ≡ Some bytes → length bytes ≤ RECEIVED_BYTES) → datagram_of oms op ob ≡ told_as e → HasForm e
    by_fields (Some ms) (Some peer) (Some bytes) time size h = subst HasForm (told-same (Datagram ms peer bytes) e h) (time ms refl, size bytes refl)
    by_fields None op ob time size h = absurd (cc)
    by_fields (Some ms) None ob time size h = absurd (cc)
    by_fields (Some ms) (Some peer) None time size h = absurd (cc)
datagram-form fields e h = absurd (cc)

tick-form : (fields : List (List ℕ)) (e : Event) → tick_in fields ≡ told_as e → HasForm e
tick-form (ms ∷ []) e h = by_fields (time_in ms) (λ n is. (between-some 0 LAST_TIME ms n is).1) h
  where
    by_fields : (oms : Option ℕ) → AtMost LAST_TIME oms → tick_of oms ≡ told_as e → HasForm e
    by_fields (Some ms) time h = subst HasForm (told-same (Tick ms) e h) (time ms refl)
    by_fields None time h = absurd (cc)
tick-form fields e h = absurd (cc)

report-form : (fields : List (List ℕ)) (e : Event) → report_in fields ≡ told_as e → HasForm e
report-form (ms ∷ fabric ∷ subscription ∷ []) e h =
    by_fields (time_in ms) (fabric_in fabric) (subscription_in subscription)
    (λ n is. (between-some 0 LAST_TIME ms n is).1) (λ n is. (between-some 0 LAST_FABRIC fabric n is).1) (λ n is. (between-some 1 4294967295 subscription n is).0) h
  where
    by_fields : (oms ofabric os : Option ℕ) → AtMost LAST_TIME oms → AtMost LAST_FABRIC ofabric → ((n : ℕ) → os ≡ Some n → 1 ≤ n) → report_of oms ofabric os ≡ told_as e → HasForm e
    by_fields (Some ms) (Some fabric) (Some subscription) time index some h = subst HasForm (told-same (Report ms fabric subscription) e h) (time ms refl, index fabric refl, some subscription refl)
    by_fields None ofabric os time index some h = absurd (cc)
    by_fields (Some ms) None os time index some h = absurd (cc)
    by_fields (Some ms) (Some fabric) None time index some h = absurd (cc)
report-form fields e h = absurd (cc)

resend-form : (fields : List (List ℕ)) (e : Event) → resend_in fields ≡ told_as e → HasForm e
resend-form (ms ∷ session ∷ []) e h =
    by_fields (time_in ms) (session_in session) (λ n is. (between-some 0 LAST_TIME ms n is).1) (λ n is. (between-some 1 65535 session n is).0) h
  where
    by_fields : (oms os : Option ℕ) → AtMost LAST_TIME oms → ((n : ℕ) → os ≡ Some n → 1 ≤ n) → resend_of oms os ≡ told_as e → HasForm e
    by_fields (Some ms) (Some session) time some h = subst HasForm (told-same (Resend ms session) e h) (time ms refl, some session refl)
    by_fields None os time some h = absurd (cc)
    by_fields (Some ms) None time some h = absurd (cc)
resend-form fields e h = absurd (cc)

stop-form : (fields : List (List ℕ)) (e : Event) → stop_in fields ≡ told_as e → HasForm e
stop-form (calls ∷ fate ∷ []) e h = by_fields (calls_in calls) (fate_in fate) (λ n is. (between-some 0 LAST_CALLS calls n is).1) h
  where
    by_fields : (oc : Option ℕ) (of : Option Fate) → AtMost LAST_CALLS oc → stop_of oc of ≡ told_as e → HasForm e
    by_fields (Some calls) (Some fate) most h = subst HasForm (told-same (Stop calls fate) e h) (most calls refl)
    by_fields None (Some fate) most h = absurd (cc)
    by_fields None None most h = absurd (cc)
    by_fields (Some calls) None most h = absurd (cc)
stop-form fields e h = absurd (cc)

-- either of two lines
either : (t : Bool) (a b : Result Event LineKind) (e : Event) → (a ≡ told_as e → HasForm e) → (b ≡ told_as e → HasForm e) → cond t a b ≡ told_as e → HasForm e
either true a b e p q h = p h
either false a b e p q h = q h

told-form : (fields : List (List ℕ)) (e : Event) → told_in fields ≡ told_as e → HasForm e
told-form [] e h = absurd (cc)
told-form (letter ∷ fields) e h =
    either (text_is letter (codes "A")) _ _ e (ask-form fields e)
    (either (text_is letter (codes "D")) _ _ e (datagram-form fields e)
    (either (text_is letter (codes "T")) _ _ e (tick-form fields e)
    (either (text_is letter (codes "R")) _ _ e (report-form fields e)
    (either (text_is letter (codes "M")) _ _ e (resend-form fields e)
    (either (text_is letter (codes "X")) _ _ e (stop-form fields e) (λ h. absurd (cc))))))) h

-- a line that tells an event tells one of the format
pub line_event-form : (line : List ℕ) (e : Event) → line_event line ≡ told_as e → HasForm e
line_event-form line e h = told-form (fields_of line) e h
