-- A message header that is read is spelled so, and one that is spelled is read, whatever follows.
use Rattle.std.proofs.Common.{◌≡◌, ◌≢◌, ℕ, zero, suc, ◌+◌, ◌/◌, ◌%◌, ◌<◌, ◌≤◌, Bool, true, false, ltb, eqb, ◌||◌, List, [], ◌∷◌, ◌++◌, length, take, drop, None, Result, Ok, Err, refl, sym, ap, subst, ◌∙◌, append_assoc, arith}
use Rattle.std.specs.Prelude.{is_some, IfOk}
use Rattle.std.proofs.lemmas.Bool.{le-ltb, ltb-false, eqb-false, ne_eqb}
use Rattle.std.proofs.lemmas.List.{length-append, length-take, length-drop, take-append-drop}
use Rattle.std.proofs.Math.Seq.{take-add, take-append-add}
use Rattle.byteorder.specs.Endian.{little_number}
use Rattle.mt_frame.specs.declared.fault.FrameFault.{FrameFault}
use Rattle.mt_frame.specs.declared.fault.FrameFault.TheVariants.{Short, Version, Reserved, Group, Private, Extended, Unsecured, Control}
use Rattle.mt_frame.specs.declared.header.MessageHeader.{MessageHeader}
use Rattle.mt_frame.specs.Fields.{AreBytes, IsNumber, IsOptional, flag, is_set}
use Rattle.mt_frame.specs.Spelling.{MessageSpells, message_flags}
use Rattle.mt_frame.specs.Reading.{flags_fault, has_reserved, is_group, has_source, has_destination, message_at, message_fault, message_in, message_length, number_where, width_where}
use Rattle.mt_frame.proofs.Numbers.{unless_ok, fault_none, short_none, or_false, bit_clear, AreBytes-drop, is_number, is_optional, is_some-number_where, number_again, length-optional, optional_again, drop-optional, IsPair, pair, IsFour, four}

-- ---- flags without a fault

record Clean (flags security session : ℕ) : Type 0 where
  flags_are : flags ≡ flag 2 (has_source flags) + flag 0 (has_destination flags)
  security_is : security ≡ 0
  secured : session ≢ 0

-- S and DSIZ alone
flags_alone : (flags : ℕ) → flags < 8 → flags % 4 ≢ 3 → flags % 4 ≢ 2 → flags ≡ flag 2 (has_source flags) + flag 0 (has_destination flags)
flags_alone zero lt three two = refl
flags_alone (suc zero) lt three two = refl
flags_alone (suc (suc zero)) lt three two = absurd (two refl)
flags_alone (suc (suc (suc zero))) lt three two = absurd (three refl)
flags_alone (suc (suc (suc (suc zero)))) lt three two = refl
flags_alone (suc (suc (suc (suc (suc zero))))) lt three two = refl
flags_alone (suc (suc (suc (suc (suc (suc zero)))))) lt three two = absurd (two refl)
flags_alone (suc (suc (suc (suc (suc (suc (suc zero))))))) lt three two = absurd (three refl)
flags_alone (suc (suc (suc (suc (suc (suc (suc (suc n)))))))) lt three two = absurd (omega arith)

clean : (flags security session : ℕ) → security < 256 → flags_fault flags security session ≡ None → Clean flags security session
unfolding flags_fault
clean flags security session byte e =
    let g1 = fault_none (ltb 0 (flags / 16)) Version _ e in
    let g2 = fault_none (has_reserved flags security) Reserved _ g1.1 in
    let g3 = fault_none (is_group flags security) Group _ g2.1 in
    let g4 = fault_none (is_set security 7) Private _ g3.1 in
    let g5 = fault_none (is_set security 6) Control _ g4.1 in
    let g6 = fault_none (is_set security 5) Extended _ g5.1 in
    let g7 = fault_none (eqb session 0) Unsecured _ g6.1 in
    let b1 = is_set flags 3 in
    let b2 = is_set security 2 in
    let b3 = is_set security 3 in
    let b4 = is_set security 4 in
    let b5 = eqb (flags % 4) 3 in
    let r6 = or_false (b1 || b2 || b3 || b4 || b5) (is_set security 1) g2.0 in
    let r5 = or_false (b1 || b2 || b3 || b4) b5 r6.0 in
    let r4 = or_false (b1 || b2 || b3) b4 r5.0 in
    let r3 = or_false (b1 || b2) b3 r4.0 in
    let r2 = or_false b1 b2 r3.0 in
    let q1 = or_false (eqb (security % 4) 1) (eqb (flags % 4) 2) g3.0 in
    let version : flags < 16 = omega (arith, ltb-false _ _ g1.0) in
    let low : flags < 8 = omega (arith, bit_clear flags 3 r2.0, version) in
    let s7 : security < 128 = omega (arith, bit_clear security 7 g4.0) in
    let s6 : security < 64 = omega (arith, bit_clear security 6 g5.0, s7) in
    let s5 : security < 32 = omega (arith, bit_clear security 5 g6.0, s6) in
    let s4 : security < 16 = omega (arith, bit_clear security 4 r4.1, s5) in
    let s3 : security < 8 = omega (arith, bit_clear security 3 r3.1, s4) in
    let s2 : security < 4 = omega (arith, bit_clear security 2 r2.1, s3) in
    let s1 : security < 2 = omega (arith, bit_clear security 1 r6.1, s2) in
    let s0 : security % 4 ≢ 1 = eqb-false _ _ q1.0 in
    record {
      flags_are = flags_alone flags low (eqb-false _ _ r5.1) (eqb-false _ _ q1.1);
      security_is = omega (arith, s1, s0);
      secured = eqb-false _ _ g7.0;
    }

-- ---- what is read is spelled so

pub record Stands (header : MessageHeader) (len : ℕ) (bytes : List ℕ) : Type 0 where
  pub within : len ≤ length bytes
  pub spelled : MessageSpells header (take len bytes)

stands_cells : (f a b s c d e g : ℕ) (tail : List ℕ) → AreBytes (f ∷ a ∷ b ∷ s ∷ c ∷ d ∷ e ∷ g ∷ tail)
    → message_fault (f ∷ a ∷ b ∷ s ∷ c ∷ d ∷ e ∷ g ∷ tail) ≡ None
    → Stands (message_in (f ∷ a ∷ b ∷ s ∷ c ∷ d ∷ e ∷ g ∷ tail)) (message_length f) (f ∷ a ∷ b ∷ s ∷ c ∷ d ∷ e ∷ g ∷ tail)
stands_cells f a b s c d e g tail fits none =
    let bytes = f ∷ a ∷ b ∷ s ∷ c ∷ d ∷ e ∷ g ∷ tail in
    let w = width_where (has_source f) 8 in
    let v = width_where (has_destination f) 8 in
    let enough = fault_none (ltb (length bytes) 8) Short _ none in
    let parts = short_none (flags_fault f s (little_number 2 (a ∷ b ∷ s ∷ c ∷ d ∷ e ∷ g ∷ tail))) (length bytes) (message_length f) enough.1 in
    let ok = clean f s (little_number 2 (a ∷ b ∷ s ∷ c ∷ d ∷ e ∷ g ∷ tail)) (fits 3) parts.0 in
    let eight : message_length f ≡ 8 + (w + v) = omega arith in
    let long : w + v ≤ length tail = omega (arith, parts.1) in
    let rest_fits : AreBytes tail = AreBytes-drop 8 bytes fits in
    let here : take (w + v) tail ≡ take w tail ++ take v (drop w tail) = take-add w v tail in
    let cut : take (message_length f) bytes ≡ f ∷ a ∷ b ∷ s ∷ c ∷ d ∷ e ∷ g ∷ take (w + v) tail = ap (λ (n : ℕ). take n bytes) eight ∙ take-append-add (f ∷ a ∷ b ∷ s ∷ c ∷ d ∷ e ∷ g ∷ []) tail (w + v) in
    let source_there = is_some-number_where (has_source f) 8 tail in
    let destination_there = is_some-number_where (has_destination f) 8 (drop w tail) in
    let flags_are : f ≡ message_flags (message_in bytes) = rw (source_there, destination_there) ok.flags_are in
    record {
      within = parts.1;
      spelled = record {
        session = a ∷ b ∷ [];
        counter = c ∷ d ∷ e ∷ g ∷ [];
        source = take w tail;
        destination = take v (drop w tail);
        order = cut ∙ spell f (message_flags (message_in bytes)) a b s c d e g (take (w + v) tail) (take w tail ++ take v (drop w tail)) flags_are ok.security_is here;
        is_session = is_number 2 (drop 1 bytes) (omega arith) (AreBytes-drop 1 bytes fits);
        is_secured = ok.secured;
        is_counter = is_number 4 (drop 4 bytes) (omega arith) (AreBytes-drop 4 bytes fits);
        is_source = is_optional (has_source f) 8 tail (omega (arith, long)) rest_fits;
        is_destination = is_optional (has_destination f) 8 (drop w tail) (omega (arith, long, length-drop w tail)) (AreBytes-drop w tail rest_fits);
      };
    }
  where
    spell : (f f' a b s c d e g : ℕ) (t t' : List ℕ) → f ≡ f' → s ≡ 0 → t ≡ t'
        → f ∷ a ∷ b ∷ s ∷ c ∷ d ∷ e ∷ g ∷ t ≡ f' ∷ a ∷ b ∷ 0 ∷ c ∷ d ∷ e ∷ g ∷ t'
    spell f f' a b s c d e g t t' x y z = cc

pub stands : (bytes : List ℕ) (header : MessageHeader) (len : ℕ) → AreBytes bytes → message_at bytes ≡ Ok (header, len) → Stands header len bytes
stands [] header len fits e = absurd cc
stands (f ∷ []) header len fits e = absurd cc
stands (f ∷ a ∷ []) header len fits e = absurd cc
stands (f ∷ a ∷ b ∷ []) header len fits e = absurd cc
stands (f ∷ a ∷ b ∷ s ∷ []) header len fits e = absurd cc
stands (f ∷ a ∷ b ∷ s ∷ c ∷ []) header len fits e = absurd cc
stands (f ∷ a ∷ b ∷ s ∷ c ∷ d ∷ []) header len fits e = absurd cc
stands (f ∷ a ∷ b ∷ s ∷ c ∷ d ∷ g ∷ []) header len fits e = absurd cc
stands (f ∷ a ∷ b ∷ s ∷ c ∷ d ∷ g ∷ h ∷ tail) header len fits e =
    let bytes = f ∷ a ∷ b ∷ s ∷ c ∷ d ∷ g ∷ h ∷ tail in
    let u = unless_ok (message_fault bytes) (message_in bytes, message_length f) (header, len) e in
    subst (λ (x : MessageHeader × ℕ). Stands x.0 x.1 bytes) u.1 (stands_cells f a b s c d g h tail fits u.0)

-- ---- what is spelled is read

has_source-flags : (s d : Bool) → has_source (flag 2 s + flag 0 d) ≡ s
has_source-flags true true = refl
has_source-flags true false = refl
has_source-flags false true = refl
has_source-flags false false = refl

has_destination-flags : (s d : Bool) → has_destination (flag 2 s + flag 0 d) ≡ d
has_destination-flags true true = refl
has_destination-flags true false = refl
has_destination-flags false true = refl
has_destination-flags false false = refl

flags_pass : (s d : Bool) (session : ℕ) → session ≢ 0 → flags_fault (flag 2 s + flag 0 d) 0 session ≡ None
unfolding flags_fault
flags_pass true true session h = rw (ne_eqb session 0 h) refl
flags_pass true false session h = rw (ne_eqb session 0 h) refl
flags_pass false true session h = rw (ne_eqb session 0 h) refl
flags_pass false false session h = rw (ne_eqb session 0 h) refl

-- a header with its numbers apart
again_cells : (header : MessageHeader) (a b c d e g : ℕ) (source destination rest : List ℕ) → header.session ≢ 0
    → IsNumber 2 header.session (a ∷ b ∷ []) → IsNumber 4 header.counter (c ∷ d ∷ e ∷ g ∷ [])
    → IsOptional 8 header.source source → IsOptional 8 header.destination destination
    → message_at (message_flags header ∷ a ∷ b ∷ 0 ∷ c ∷ d ∷ e ∷ g ∷ (source ++ (destination ++ rest)))
    ≡ Ok (header, 8 + length source + length destination)
again_cells header a b c d e g source destination rest secured session counter is_source is_destination =
    let s = is_some header.source in
    let t = is_some header.destination in
    let tail = source ++ (destination ++ rest) in
    let session_is : little_number 2 (a ∷ b ∷ 0 ∷ c ∷ d ∷ e ∷ g ∷ tail) ≡ header.session = number_again 2 header.session (a ∷ b ∷ []) (0 ∷ c ∷ d ∷ e ∷ g ∷ tail) session in
    let counter_is : little_number 4 (c ∷ d ∷ e ∷ g ∷ tail) ≡ header.counter = number_again 4 header.counter (c ∷ d ∷ e ∷ g ∷ []) tail counter in
    let l1 = length-optional 8 header.source source is_source in
    let l2 = length-optional 8 header.destination destination is_destination in
    let cells = message_flags header ∷ a ∷ b ∷ 0 ∷ c ∷ d ∷ e ∷ g ∷ tail in
    let enough : ltb (length cells) 8 ≡ false = le-ltb _ _ (omega arith) in
    let long : ltb (length cells) (8 + width_where s 8 + width_where t 8) ≡ false = le-ltb _ _ (omega (arith, l1, l2, length-append source (destination ++ rest), length-append destination rest)) in
    let source_is : number_where s 8 tail ≡ header.source = optional_again 8 header.source source (destination ++ rest) is_source in
    let behind : drop (width_where s 8) tail ≡ destination ++ rest = drop-optional 8 header.source source (destination ++ rest) is_source in
    let destination_is : number_where t 8 (drop (width_where s 8) tail) ≡ header.destination = rw behind (optional_again 8 header.destination destination rest is_destination) in
    rw (has_source-flags s t, has_destination-flags s t, enough, session_is, flags_pass s t header.session secured, long, counter_is, source_is, destination_is, l1, l2) refl

joined : (f : ℕ) (session counter others : List ℕ) (p : IsPair session) (q : IsFour counter)
    → f ∷ (session ++ (0 ∷ (counter ++ others))) ≡ f ∷ p.a ∷ p.b ∷ 0 ∷ q.a ∷ q.b ∷ q.c ∷ q.d ∷ others
joined f session counter others p q = cells session counter p.is q.is
  where
    cells : (s c : List ℕ) → s ≡ p.a ∷ p.b ∷ [] → c ≡ q.a ∷ q.b ∷ q.c ∷ q.d ∷ [] → f ∷ (s ++ (0 ∷ (c ++ others))) ≡ f ∷ p.a ∷ p.b ∷ 0 ∷ q.a ∷ q.b ∷ q.c ∷ q.d ∷ others
    cells s c x y = rw (x, y) refl

pub message_again : (header : MessageHeader) (bytes rest : List ℕ) → MessageSpells header bytes → message_at (bytes ++ rest) ≡ Ok (header, length bytes)
message_again header bytes rest h =
    let p = pair h.session h.is_session.size in
    let q = four h.counter h.is_counter.size in
    let cells = message_flags header ∷ p.a ∷ p.b ∷ 0 ∷ q.a ∷ q.b ∷ q.c ∷ q.d ∷ (h.source ++ h.destination) in
    let is : bytes ≡ cells = h.order ∙ joined (message_flags header) h.session h.counter (h.source ++ h.destination) p q in
    let len : length bytes ≡ 8 + length h.source + length h.destination = ap length is ∙ omega (arith, length-append h.source h.destination) in
    let front : bytes ++ rest ≡ message_flags header ∷ p.a ∷ p.b ∷ 0 ∷ q.a ∷ q.b ∷ q.c ∷ q.d ∷ (h.source ++ (h.destination ++ rest))
    = ap (λ (x : List ℕ). x ++ rest) is ∙ ap (λ (x : List ℕ). message_flags header ∷ p.a ∷ p.b ∷ 0 ∷ q.a ∷ q.b ∷ q.c ∷ q.d ∷ x) (append_assoc h.source h.destination rest) in
    ap message_at front
    ∙ again_cells header p.a p.b q.a q.b q.c q.d h.source h.destination rest h.is_secured (subst (IsNumber 2 header.session) p.is h.is_session) (subst (IsNumber 4 header.counter) q.is h.is_counter) h.is_source h.is_destination
    ∙ ap (λ (n : ℕ). Ok (header, n)) (sym len)

-- a header that stands in front is read
pub is_read : (bytes : List ℕ) (header : MessageHeader) (len : ℕ) → len ≤ length bytes → MessageSpells header (take len bytes) → message_at bytes ≡ Ok (header, len)
is_read bytes header len le h =
    let size : length (take len bytes) ≡ len = omega (arith, length-take len bytes) in
    ap message_at (sym (take-append-drop len bytes)) ∙ message_again header (take len bytes) (drop len bytes) h ∙ ap (λ (n : ℕ). Ok (header, n)) size

abbrev done : MessageHeader × ℕ → Result (MessageHeader × ℕ) FrameFault
done x = Ok x

ok_is : (x y : MessageHeader × ℕ) → done x ≡ done y → x ≡ y
ok_is x y e = cc

-- no header begins another
pub one_message : (g h : MessageHeader) (a b x y : List ℕ) → MessageSpells g a → MessageSpells h b → a ++ x ≡ b ++ y → (g ≡ h) × (length a ≡ length b)
one_message g h a b x y p q e =
    let same : done (g, length a) ≡ done (h, length b) = sym (message_again g a x p) ∙ ap message_at e ∙ message_again h b y q in
    let both = ok_is (g, length a) (h, length b) same in
    (ap (λ (z : MessageHeader × ℕ). z.0) both, ap (λ (z : MessageHeader × ℕ). z.1) both)

pub read_stands : (bytes : List ℕ) (result : Result (MessageHeader × ℕ) FrameFault) → AreBytes bytes → result ≡ message_at bytes
    → IfOk result (λ x. (x.1 ≤ length bytes) × MessageSpells x.0 (take x.1 bytes))
read_stands bytes (Ok x) fits e = let s = stands bytes x.0 x.1 fits (sym e) in (s.within, s.spelled)
read_stands bytes (Err f) fits e = tt
