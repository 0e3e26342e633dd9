-- A protocol header that is read is spelled so, and one that is spelled is read, whatever follows.
use Rattle.std.proofs.Common.{◌≡◌, ℕ, zero, suc, ◌+◌, ◌*◌, ◌/◌, ◌%◌, ◌^◌, ◌<◌, ◌≤◌, Bool, true, false, cond, ltb, eqb, List, [], ◌∷◌, ◌++◌, length, take, drop, None, Result, Ok, Err, refl, sym, ap, subst, ◌∙◌, append_assoc, arith}
use Rattle.std.specs.Prelude.{is_some, IfOk}
use Rattle.std.proofs.lemmas.Bool.{le-ltb, ltb-false}
use Rattle.std.proofs.lemmas.List.{length-append, length-take, length-drop, take-append-drop}
use Rattle.std.proofs.Math.Seq.{take-add, take-append-add}
use Rattle.byteorder.specs.Endian.{little_number}
use Rattle.mt_frame.specs.declared.fault.FrameFault.{FrameFault}
use Rattle.mt_frame.specs.declared.fault.FrameFault.TheVariants.{Short, Reserved, Extended}
use Rattle.mt_frame.specs.declared.header.ProtocolHeader.{ProtocolHeader}
use Rattle.mt_frame.specs.Fields.{AreBytes, IsNumber, IsOptional, flag, is_set}
use Rattle.mt_frame.specs.Spelling.{ProtocolSpells, exchange_flags}
use Rattle.mt_frame.specs.Reading.{exchange_fault, has_vendor, has_acknowledged, protocol_at, protocol_fault, protocol_in, protocol_length, number_where, width_where}
use Rattle.mt_frame.proofs.Numbers.{unless_ok, fault_none, short_none, bit_clear, AreBytes-drop, is_number, is_optional, is_some-number_where, number_again, length-optional, optional_again, drop-optional, IsPair, pair}

-- ---- flags without a fault

chosen_bit : (p m : ℕ) → m < 2 → cond (eqb m 1) p 0 ≡ p * m
chosen_bit p zero lt = omega arith
chosen_bit p (suc zero) lt = omega arith
chosen_bit p (suc (suc m)) lt = absurd (omega arith)

-- what a bit is worth
flag_bit : (byte bit : ℕ) → flag bit (is_set byte bit) ≡ 2 ^ bit * (byte / 2 ^ bit % 2)
flag_bit byte bit = chosen_bit (2 ^ bit) (byte / 2 ^ bit % 2) (omega arith)

clean : (flags : ℕ) → exchange_fault flags ≡ None → flags ≡ flag 0 (is_set flags 0) + flag 1 (is_set flags 1) + flag 2 (is_set flags 2) + flag 4 (is_set flags 4)
unfolding exchange_fault
clean flags e =
    let g1 = fault_none (ltb 0 (flags / 32)) Reserved _ e in
    let g2 = fault_none (is_set flags 3) Extended _ g1.1 in
    let low : flags < 32 = omega (arith, ltb-false _ _ g1.0) in
    let f0 : flag 0 (is_set flags 0) ≡ flags % 2 = omega (arith, flag_bit flags 0) in
    let f1 : flag 1 (is_set flags 1) ≡ 2 * (flags / 2 % 2) = flag_bit flags 1 in
    let f2 : flag 2 (is_set flags 2) ≡ 4 * (flags / 4 % 2) = flag_bit flags 2 in
    let f4 : flag 4 (is_set flags 4) ≡ 16 * (flags / 16 % 2) = flag_bit flags 4 in
    let sum : flags ≡ flags % 2 + 2 * (flags / 2 % 2) + 4 * (flags / 4 % 2) + 16 * (flags / 16 % 2) = bits flags low (bit_clear flags 3 g2.0) in
    rw (f0, f1, f2, f4) sum
  where
    bits : (n : ℕ) → n < 32 → n / 8 % 2 ≡ 0 → n ≡ n % 2 + 2 * (n / 2 % 2) + 4 * (n / 4 % 2) + 16 * (n / 16 % 2)
    bits n lt clear = omega arith

-- ---- what is read is spelled so

pub record Stands (header : ProtocolHeader) (len : ℕ) (bytes : List ℕ) : Type 0 where
  pub within : len ≤ length bytes
  pub spelled : ProtocolSpells header (take len bytes)

stands_cells : (f o a b c d : ℕ) (tail : List ℕ) → AreBytes (f ∷ o ∷ a ∷ b ∷ c ∷ d ∷ tail)
    → protocol_fault (f ∷ o ∷ a ∷ b ∷ c ∷ d ∷ tail) ≡ None
    → Stands (protocol_in (f ∷ o ∷ a ∷ b ∷ c ∷ d ∷ tail)) (protocol_length f) (f ∷ o ∷ a ∷ b ∷ c ∷ d ∷ tail)
stands_cells f o a b c d tail fits none =
    let bytes = f ∷ o ∷ a ∷ b ∷ c ∷ d ∷ tail in
    let w = width_where (has_vendor f) 2 in
    let v = width_where (has_acknowledged f) 4 in
    let enough = fault_none (ltb (length bytes) 6) Short _ none in
    let parts = short_none (exchange_fault f) (length bytes) (protocol_length f) enough.1 in
    let whole : protocol_length f ≡ 6 + (w + v) = omega arith in
    let long : w + v ≤ length tail = omega (arith, parts.1) in
    let rest_fits : AreBytes tail = AreBytes-drop 6 bytes fits in
    let here : take (w + v) tail ≡ take w tail ++ take v (drop w tail) = take-add w v tail in
    let cut : take (protocol_length f) bytes ≡ f ∷ o ∷ a ∷ b ∷ c ∷ d ∷ take (w + v) tail = ap (λ (n : ℕ). take n bytes) whole ∙ take-append-add (f ∷ o ∷ a ∷ b ∷ c ∷ d ∷ []) tail (w + v) in
    let vendor_there = is_some-number_where (has_vendor f) 2 tail in
    let acknowledged_there = is_some-number_where (has_acknowledged f) 4 (drop w tail) in
    let flags_are : f ≡ exchange_flags (protocol_in bytes) = rw (vendor_there, acknowledged_there) (clean f parts.0) in
    record {
      within = parts.1;
      spelled = record {
        exchange = a ∷ b ∷ [];
        protocol = c ∷ d ∷ [];
        vendor = take w tail;
        acknowledged = take v (drop w tail);
        order = cut ∙ spell f (exchange_flags (protocol_in bytes)) o a b c d (take (w + v) tail) (take w tail ++ take v (drop w tail)) flags_are here;
        is_opcode = fits 1;
        is_exchange = is_number 2 (drop 2 bytes) (omega arith) (AreBytes-drop 2 bytes fits);
        is_protocol = is_number 2 (drop 4 bytes) (omega arith) (AreBytes-drop 4 bytes fits);
        is_vendor = is_optional (has_vendor f) 2 tail (omega (arith, long)) rest_fits;
        is_acknowledged = is_optional (has_acknowledged f) 4 (drop w tail) (omega (arith, long, length-drop w tail)) (AreBytes-drop w tail rest_fits);
      };
    }
  where
    spell : (f f' o a b c d : ℕ) (t t' : List ℕ) → f ≡ f' → t ≡ t' → f ∷ o ∷ a ∷ b ∷ c ∷ d ∷ t ≡ f' ∷ o ∷ a ∷ b ∷ c ∷ d ∷ t'
    spell f f' o a b c d t t' x y = cc

pub stands : (bytes : List ℕ) (header : ProtocolHeader) (len : ℕ) → AreBytes bytes → protocol_at bytes ≡ Ok (header, len) → Stands header len bytes
stands [] header len fits e = absurd cc
stands (f ∷ []) header len fits e = absurd cc
stands (f ∷ o ∷ []) header len fits e = absurd cc
stands (f ∷ o ∷ a ∷ []) header len fits e = absurd cc
stands (f ∷ o ∷ a ∷ b ∷ []) header len fits e = absurd cc
stands (f ∷ o ∷ a ∷ b ∷ c ∷ []) header len fits e = absurd cc
stands (f ∷ o ∷ a ∷ b ∷ c ∷ d ∷ tail) header len fits e =
    let bytes = f ∷ o ∷ a ∷ b ∷ c ∷ d ∷ tail in
    let u = unless_ok (protocol_fault bytes) (protocol_in bytes, protocol_length f) (header, len) e in
    subst (λ (x : ProtocolHeader × ℕ). Stands x.0 x.1 bytes) u.1 (stands_cells f o a b c d tail fits u.0)

pub read_stands : (bytes : List ℕ) (result : Result (ProtocolHeader × ℕ) FrameFault) → AreBytes bytes → result ≡ protocol_at bytes
    → IfOk result (λ x. (x.1 ≤ length bytes) × ProtocolSpells x.0 (take x.1 bytes))
read_stands bytes (Ok x) fits e = let s = stands bytes x.0 x.1 fits (sym e) in (s.within, s.spelled)
read_stands bytes (Err f) fits e = tt

-- ---- what is spelled is read

record Clear (i a r v : Bool) (flags : ℕ) : Type 0 where
  passes : exchange_fault flags ≡ None
  is_i : is_set flags 0 ≡ i
  is_a : is_set flags 1 ≡ a
  is_r : is_set flags 2 ≡ r
  is_v : is_set flags 4 ≡ v

clear : (i a r v : Bool) → Clear i a r v (flag 0 i + flag 1 a + flag 2 r + flag 4 v)
unfolding exchange_fault
clear true true true true = record { passes = refl; is_i = refl; is_a = refl; is_r = refl; is_v = refl }
clear true true true false = record { passes = refl; is_i = refl; is_a = refl; is_r = refl; is_v = refl }
clear true true false true = record { passes = refl; is_i = refl; is_a = refl; is_r = refl; is_v = refl }
clear true true false false = record { passes = refl; is_i = refl; is_a = refl; is_r = refl; is_v = refl }
clear true false true true = record { passes = refl; is_i = refl; is_a = refl; is_r = refl; is_v = refl }
clear true false true false = record { passes = refl; is_i = refl; is_a = refl; is_r = refl; is_v = refl }
clear true false false true = record { passes = refl; is_i = refl; is_a = refl; is_r = refl; is_v = refl }
clear true false false false = record { passes = refl; is_i = refl; is_a = refl; is_r = refl; is_v = refl }
clear false true true true = record { passes = refl; is_i = refl; is_a = refl; is_r = refl; is_v = refl }
clear false true true false = record { passes = refl; is_i = refl; is_a = refl; is_r = refl; is_v = refl }
clear false true false true = record { passes = refl; is_i = refl; is_a = refl; is_r = refl; is_v = refl }
clear false true false false = record { passes = refl; is_i = refl; is_a = refl; is_r = refl; is_v = refl }
clear false false true true = record { passes = refl; is_i = refl; is_a = refl; is_r = refl; is_v = refl }
clear false false true false = record { passes = refl; is_i = refl; is_a = refl; is_r = refl; is_v = refl }
clear false false false true = record { passes = refl; is_i = refl; is_a = refl; is_r = refl; is_v = refl }
clear false false false false = record { passes = refl; is_i = refl; is_a = refl; is_r = refl; is_v = refl }

-- a header with its numbers apart
again_cells : (header : ProtocolHeader) (a b c d : ℕ) (vendor acknowledged rest : List ℕ)
    → IsNumber 2 header.exchange (a ∷ b ∷ []) → IsNumber 2 header.protocol (c ∷ d ∷ [])
    → IsOptional 2 header.vendor vendor → IsOptional 4 header.acknowledged acknowledged
    → protocol_at (exchange_flags header ∷ header.opcode ∷ a ∷ b ∷ c ∷ d ∷ (vendor ++ (acknowledged ++ rest)))
    ≡ Ok (header, 6 + length vendor + length acknowledged)
again_cells header a b c d vendor acknowledged rest exchange protocol is_vendor is_acknowledged =
    let v = is_some header.vendor in
    let k = is_some header.acknowledged in
    let flags = clear header.initiator k header.reliable v in
    let tail = vendor ++ (acknowledged ++ rest) in
    let exchange_is : little_number 2 (a ∷ b ∷ c ∷ d ∷ tail) ≡ header.exchange = number_again 2 header.exchange (a ∷ b ∷ []) (c ∷ d ∷ tail) exchange in
    let protocol_is : little_number 2 (c ∷ d ∷ tail) ≡ header.protocol = number_again 2 header.protocol (c ∷ d ∷ []) tail protocol in
    let l1 = length-optional 2 header.vendor vendor is_vendor in
    let l2 = length-optional 4 header.acknowledged acknowledged is_acknowledged in
    let cells = exchange_flags header ∷ header.opcode ∷ a ∷ b ∷ c ∷ d ∷ tail in
    let enough : ltb (length cells) 6 ≡ false = le-ltb _ _ (omega arith) in
    let long : ltb (length cells) (6 + width_where v 2 + width_where k 4) ≡ false = le-ltb _ _ (omega (arith, l1, l2, length-append vendor (acknowledged ++ rest), length-append acknowledged rest)) in
    let vendor_is : number_where v 2 tail ≡ header.vendor = optional_again 2 header.vendor vendor (acknowledged ++ rest) is_vendor in
    let behind : drop (width_where v 2) tail ≡ acknowledged ++ rest = drop-optional 2 header.vendor vendor (acknowledged ++ rest) is_vendor in
    let acknowledged_is : number_where k 4 (drop (width_where v 2) tail) ≡ header.acknowledged = rw behind (optional_again 4 header.acknowledged acknowledged rest is_acknowledged) in
    rw (flags.passes, flags.is_v, flags.is_a, flags.is_i, flags.is_r, enough, long, exchange_is, protocol_is, vendor_is, acknowledged_is, l1, l2) refl

joined : (f o : ℕ) (exchange protocol others : List ℕ) (p : IsPair exchange) (q : IsPair protocol)
    → f ∷ (o ∷ (exchange ++ (protocol ++ others))) ≡ f ∷ o ∷ p.a ∷ p.b ∷ q.a ∷ q.b ∷ others
joined f o exchange protocol others p q = cells exchange protocol p.is q.is
  where
    cells : (s c : List ℕ) → s ≡ p.a ∷ p.b ∷ [] → c ≡ q.a ∷ q.b ∷ [] → f ∷ (o ∷ (s ++ (c ++ others))) ≡ f ∷ o ∷ p.a ∷ p.b ∷ q.a ∷ q.b ∷ others
    cells s c x y = rw (x, y) refl

pub protocol_again : (header : ProtocolHeader) (bytes rest : List ℕ) → ProtocolSpells header bytes → protocol_at (bytes ++ rest) ≡ Ok (header, length bytes)
protocol_again header bytes rest h =
    let p = pair h.exchange h.is_exchange.size in
    let q = pair h.protocol h.is_protocol.size in
    let cells = exchange_flags header ∷ header.opcode ∷ p.a ∷ p.b ∷ q.a ∷ q.b ∷ (h.vendor ++ h.acknowledged) in
    let is : bytes ≡ cells = h.order ∙ joined (exchange_flags header) header.opcode h.exchange h.protocol (h.vendor ++ h.acknowledged) p q in
    let len : length bytes ≡ 6 + length h.vendor + length h.acknowledged = ap length is ∙ omega (arith, length-append h.vendor h.acknowledged) in
    let front : bytes ++ rest ≡ exchange_flags header ∷ header.opcode ∷ p.a ∷ p.b ∷ q.a ∷ q.b ∷ (h.vendor ++ (h.acknowledged ++ rest))
    = ap (λ (x : List ℕ). x ++ rest) is ∙ ap (λ (x : List ℕ). exchange_flags header ∷ header.opcode ∷ p.a ∷ p.b ∷ q.a ∷ q.b ∷ x) (append_assoc h.vendor h.acknowledged rest) in
    ap protocol_at front
    ∙ again_cells header p.a p.b q.a q.b h.vendor h.acknowledged rest (subst (IsNumber 2 header.exchange) p.is h.is_exchange) (subst (IsNumber 2 header.protocol) q.is h.is_protocol) h.is_vendor h.is_acknowledged
    ∙ ap (λ (n : ℕ). Ok (header, n)) (sym len)

-- a header that stands in front is read
pub is_read : (bytes : List ℕ) (header : ProtocolHeader) (len : ℕ) → len ≤ length bytes → ProtocolSpells header (take len bytes) → protocol_at bytes ≡ Ok (header, len)
is_read bytes header len le h =
    let size : length (take len bytes) ≡ len = omega (arith, length-take len bytes) in
    ap protocol_at (sym (take-append-drop len bytes)) ∙ protocol_again header (take len bytes) (drop len bytes) h ∙ ap (λ (n : ℕ). Ok (header, n)) size

abbrev done : ProtocolHeader × ℕ → Result (ProtocolHeader × ℕ) FrameFault
done x = Ok x

ok_is : (x y : ProtocolHeader × ℕ) → done x ≡ done y → x ≡ y
ok_is x y e = cc

-- no header begins another
pub one_protocol : (g h : ProtocolHeader) (a b x y : List ℕ) → ProtocolSpells g a → ProtocolSpells h b → a ++ x ≡ b ++ y → (g ≡ h) × (length a ≡ length b)
one_protocol g h a b x y p q e =
    let same : done (g, length a) ≡ done (h, length b) = sym (protocol_again g a x p) ∙ ap protocol_at e ∙ protocol_again h b y q in
    let both = ok_is (g, length a) (h, length b) same in
    (ap (λ (z : ProtocolHeader × ℕ). z.0) both, ap (λ (z : ProtocolHeader × ℕ). z.1) both)
