-- What is written is the one spelling.
use Rattle.std.proofs.Common.{◌≡◌, ℕ, zero, suc, ◌+◌, ◌*◌, ◌^◌, ◌<◌, ◌≤◌, List, [], ◌∷◌, ◌++◌, length, take, drop, Option, Some, None, Result, Ok, Err, refl, sym, ap, subst, ◌∙◌, arith}
use Rattle.std.specs.Prelude.{is_some, IfOk, IfSome}
use Rattle.std.specs.Int.{byte_at, bytes_low_first}
use Rattle.std.proofs.lemmas.List.{append-nil, length-append, take_at}
use Rattle.byteorder.specs.Endian.{little_bytes, little_number}
use Rattle.byteorder.specs.Numbers.{little_number-reads_back, length-bytes_low_first, little_from-cons, little_from-lt}
use Rattle.mt_frame.specs.declared.fault.FrameFault.{FrameFault}
use Rattle.mt_frame.specs.declared.header.MessageHeader.{MessageHeader}
use Rattle.mt_frame.specs.declared.header.ProtocolHeader.{ProtocolHeader}
use Rattle.mt_frame.specs.Fields.{AreBytes, IsNumber, IsOptional}
use Rattle.mt_frame.specs.Spelling.{MessageSpells, message_flags, ProtocolSpells, exchange_flags}
use Rattle.mt_frame.specs.Writing.{IsMessage, IsProtocol, IsPut, message_bytes, optional_bytes, protocol_bytes}
use Rattle.mt_frame.specs.Reading.{message_at, protocol_at, width_where}
use Rattle.mt_frame.proofs.Messages.{message_again, one_message}
use Rattle.mt_frame.proofs.Protocols.{protocol_again, one_protocol}

IsByte-byte_at : (i n : ℕ) → byte_at i n < 256
IsByte-byte_at zero n = omega arith
IsByte-byte_at (suc i) n = omega arith

AreBytes-low_first : (i count n : ℕ) → AreBytes (bytes_low_first i count n)
AreBytes-low_first i zero n j = omega arith
AreBytes-low_first i (suc count) n zero = IsByte-byte_at i n
AreBytes-low_first i (suc count) n (suc j) = AreBytes-low_first (suc i) count n j

-- the bytes of a number spell it
is_written : (count n : ℕ) → n < 256 ^ count → IsNumber count n (little_bytes count n)
is_written count n lt = record {
  size = length-bytes_low_first 0 count n;
  bytes = AreBytes-low_first 0 count n;
  value = ap (little_number count) (sym (append-nil (little_bytes count n))) ∙ little_number-reads_back count n [] lt;
}

is_written_optional : (count : ℕ) (number : Option ℕ) → IfSome number (λ n. n < 256 ^ count) → IsOptional count number (optional_bytes count number)
is_written_optional count None h = refl
is_written_optional count (Some n) h = is_written count n h

pub message_spelled : (header : MessageHeader) → IsMessage header → MessageSpells header (message_bytes header)
message_spelled header h = record {
  session = little_bytes 2 header.session;
  counter = little_bytes 4 header.counter;
  source = optional_bytes 8 header.source;
  destination = optional_bytes 8 header.destination;
  order = refl;
  is_session = is_written 2 header.session h.session;
  is_secured = h.is_secured;
  is_counter = is_written 4 header.counter h.counter;
  is_source = is_written_optional 8 header.source h.source;
  is_destination = is_written_optional 8 header.destination h.destination;
}

pub protocol_spelled : (header : ProtocolHeader) → IsProtocol header → ProtocolSpells header (protocol_bytes header)
protocol_spelled header h = record {
  exchange = little_bytes 2 header.exchange;
  protocol = little_bytes 2 header.protocol;
  vendor = optional_bytes 2 header.vendor;
  acknowledged = optional_bytes 4 header.acknowledged;
  order = refl;
  is_opcode = h.opcode;
  is_exchange = is_written 2 header.exchange h.exchange;
  is_protocol = is_written 2 header.protocol h.protocol;
  is_vendor = is_written_optional 2 header.vendor h.vendor;
  is_acknowledged = is_written_optional 4 header.acknowledged h.acknowledged;
}

length-optional_bytes : (count : ℕ) (number : Option ℕ) → length (optional_bytes count number) ≡ width_where (is_some number) count
length-optional_bytes count None = refl
length-optional_bytes count (Some n) = length-bytes_low_first 0 count n

pub length-message : (header : MessageHeader) → length (message_bytes header) ≡ 8 + width_where (is_some header.source) 8 + width_where (is_some header.destination) 8
length-message header =
    omega (arith, length-append (optional_bytes 8 header.source) (optional_bytes 8 header.destination), length-optional_bytes 8 header.source, length-optional_bytes 8 header.destination)

pub length-protocol : (header : ProtocolHeader) → length (protocol_bytes header) ≡ 6 + width_where (is_some header.vendor) 2 + width_where (is_some header.acknowledged) 4
length-protocol header =
    omega (arith, length-append (optional_bytes 2 header.vendor) (optional_bytes 4 header.acknowledged), length-optional_bytes 2 header.vendor, length-optional_bytes 4 header.acknowledged)

-- what was put stands at the front
pub put_front : (spelling old new : List ℕ) (n : ℕ) → IsPut spelling (Ok n) old new → (n ≤ length new) × (take n new ≡ spelling)
put_front spelling old new n h =
    let cut : take n (spelling ++ drop n old) ≡ spelling = take_at spelling (drop n old) n (sym h.0) in
    let size : length new ≡ length spelling + length (drop n old) = ap length h.2 ∙ length-append spelling (drop n old) in
    (omega (arith, size, h.0), ap (take n) h.2 ∙ cut)

pub message_written : (header : MessageHeader) (result : Result ℕ FrameFault) (old new : List ℕ) → IfOk result (λ _. IsMessage header) → IsPut (message_bytes header) result old new
    → IfOk result (λ n. (n ≤ length new) × MessageSpells header (take n new))
message_written header (Ok n) old new fits h =
    let p = put_front (message_bytes header) old new n h in
    (p.0, subst (MessageSpells header) (sym p.1) (message_spelled header fits))
message_written header (Err f) old new fits h = tt

pub protocol_written : (header : ProtocolHeader) (result : Result ℕ FrameFault) (old new : List ℕ) → IfOk result (λ _. IsProtocol header) → IsPut (protocol_bytes header) result old new
    → IfOk result (λ n. (n ≤ length new) × ProtocolSpells header (take n new))
protocol_written header (Ok n) old new fits h =
    let p = put_front (protocol_bytes header) old new n h in
    (p.0, subst (ProtocolSpells header) (sym p.1) (protocol_spelled header fits))
protocol_written header (Err f) old new fits h = tt

-- ---- one spelling

same_bytes : (count : ℕ) (a b : List ℕ) → length a ≡ count → length b ≡ count → AreBytes a → AreBytes b → little_number count a ≡ little_number count b → a ≡ b
same_bytes zero [] [] p q fits also e = refl
same_bytes zero [] (y ∷ b) p q fits also e = absurd (omega arith)
same_bytes zero (x ∷ a) b p q fits also e = absurd (omega arith)
same_bytes (suc count) [] b p q fits also e = absurd (omega arith)
same_bytes (suc count) (x ∷ a) [] p q fits also e = absurd (omega arith)
same_bytes (suc count) (x ∷ a) (y ∷ b) p q fits also e =
    let s = little_from-cons 0 count x a in
    let t = little_from-cons 0 count y b in
    let whole : x + 256 * little_number count a ≡ y + 256 * little_number count b = ap (λ (n : ℕ). x + 256 * n) (sym s) ∙ e ∙ ap (λ (n : ℕ). y + 256 * n) t in
    let first : x ≡ y = omega (arith, whole, fits 0, also 0) in
    let rest : little_number count a ≡ little_number count b = omega (arith, whole, first) in
    let others : a ≡ b = same_bytes count a b (omega arith) (omega arith) (λ i. fits (suc i)) (λ i. also (suc i)) rest in
    cc

one_number : (count n : ℕ) (a b : List ℕ) → IsNumber count n a → IsNumber count n b → a ≡ b
one_number count n a b p q = same_bytes count a b p.size q.size p.bytes q.bytes (p.value ∙ sym q.value)

one_optional : (count : ℕ) (number : Option ℕ) (a b : List ℕ) → IsOptional count number a → IsOptional count number b → a ≡ b
one_optional count None a b p q = p ∙ sym q
one_optional count (Some n) a b p q = one_number count n a b p q

-- a number fits its field
number_below : (count n : ℕ) (field : List ℕ) → IsNumber count n field → n < 256 ^ count
number_below count n field h = rw (← h.value) (little_from-lt 0 count field h.bytes)

optional_below : (count : ℕ) (number : Option ℕ) (field : List ℕ) → IsOptional count number field → IfSome number (λ n. n < 256 ^ count)
optional_below count None field h = tt
optional_below count (Some n) field h = number_below count n field h

message_fits : (header : MessageHeader) (bytes : List ℕ) → MessageSpells header bytes → IsMessage header
message_fits header bytes h = record {
  is_secured = h.is_secured;
  session = number_below 2 header.session h.session h.is_session;
  counter = number_below 4 header.counter h.counter h.is_counter;
  source = optional_below 8 header.source h.source h.is_source;
  destination = optional_below 8 header.destination h.destination h.is_destination;
}

protocol_fits : (header : ProtocolHeader) (bytes : List ℕ) → ProtocolSpells header bytes → IsProtocol header
protocol_fits header bytes h = record {
  opcode = h.is_opcode;
  exchange = number_below 2 header.exchange h.exchange h.is_exchange;
  protocol = number_below 2 header.protocol h.protocol h.is_protocol;
  vendor = optional_below 2 header.vendor h.vendor h.is_vendor;
  acknowledged = optional_below 4 header.acknowledged h.acknowledged h.is_acknowledged;
}

-- bytes that spell a header are its spelling
pub message_only : (header : MessageHeader) (bytes : List ℕ) → MessageSpells header bytes → IsMessage header × (bytes ≡ message_bytes header)
unfolding message_spelled
message_only header bytes h =
    let fits = message_fits header bytes h in
    let w = message_spelled header fits in (
      fits,
      h.order ∙ fields (message_flags header) _ _ _ _ _ _ _ _
          (one_number 2 header.session h.session w.session h.is_session w.is_session) (one_number 4 header.counter h.counter w.counter h.is_counter w.is_counter)
          (one_optional 8 header.source h.source w.source h.is_source w.is_source) (one_optional 8 header.destination h.destination w.destination h.is_destination w.is_destination),
    )
  where
    fields : (f : ℕ) (s c u d s' c' u' d' : List ℕ) → s ≡ s' → c ≡ c' → u ≡ u' → d ≡ d' → f ∷ (s ++ (0 ∷ (c ++ (u ++ d)))) ≡ f ∷ (s' ++ (0 ∷ (c' ++ (u' ++ d'))))
    fields f s c u d s' c' u' d' p q r t = cc

pub protocol_only : (header : ProtocolHeader) (bytes : List ℕ) → ProtocolSpells header bytes → IsProtocol header × (bytes ≡ protocol_bytes header)
unfolding protocol_spelled
protocol_only header bytes h =
    let fits = protocol_fits header bytes h in
    let w = protocol_spelled header fits in (
      fits,
      h.order ∙ fields (exchange_flags header) header.opcode _ _ _ _ _ _ _ _
          (one_number 2 header.exchange h.exchange w.exchange h.is_exchange w.is_exchange) (one_number 2 header.protocol h.protocol w.protocol h.is_protocol w.is_protocol)
          (one_optional 2 header.vendor h.vendor w.vendor h.is_vendor w.is_vendor) (one_optional 4 header.acknowledged h.acknowledged w.acknowledged h.is_acknowledged w.is_acknowledged),
    )
  where
    fields : (f o : ℕ) (s c u d s' c' u' d' : List ℕ) → s ≡ s' → c ≡ c' → u ≡ u' → d ≡ d' → f ∷ (o ∷ (s ++ (c ++ (u ++ d)))) ≡ f ∷ (o ∷ (s' ++ (c' ++ (u' ++ d'))))
    fields f o s c u d s' c' u' d' p q r t = cc

-- ---- what is written is read again

pub message_written_again : (header : MessageHeader) (rest : List ℕ) → IsMessage header → message_at (message_bytes header ++ rest) ≡ Ok (header, length (message_bytes header))
message_written_again header rest h = message_again header (message_bytes header) rest (message_spelled header h)

pub protocol_written_again : (header : ProtocolHeader) (rest : List ℕ) → IsProtocol header → protocol_at (protocol_bytes header ++ rest) ≡ Ok (header, length (protocol_bytes header))
protocol_written_again header rest h = protocol_again header (protocol_bytes header) rest (protocol_spelled header h)

-- ---- no header begins another

-- fronts of one length
same_front : (a b x y : List ℕ) → length a ≡ length b → a ++ x ≡ b ++ y → a ≡ b
same_front a b x y len e = sym (take_at a x (length a) refl) ∙ ap (take (length a)) e ∙ take_at b y (length a) (sym len)

pub no_message_begins : (g h : MessageHeader) (a b x y : List ℕ) → MessageSpells g a → MessageSpells h b → a ++ x ≡ b ++ y → (a ≡ b) × (g ≡ h)
no_message_begins g h a b x y p q e =
    let same = one_message g h a b x y p q e in
    (same_front a b x y same.1 e, same.0)

pub no_protocol_begins : (g h : ProtocolHeader) (a b x y : List ℕ) → ProtocolSpells g a → ProtocolSpells h b → a ++ x ≡ b ++ y → (a ≡ b) × (g ≡ h)
no_protocol_begins g h a b x y p q e =
    let same = one_protocol g h a b x y p q e in
    (same_front a b x y same.1 e, same.0)
