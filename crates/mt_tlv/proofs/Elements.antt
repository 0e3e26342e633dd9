-- From the laws on lists to what a caller is told.
use Rattle.std.proofs.Common.{◌≡◌, ◌≢◌, ℕ, ◌-◌, ◌≤◌, List, ◌++◌, length, take, drop, Result, Ok, Err, refl, sym, ap, subst, ◌∙◌, arith}
use Rattle.std.proofs.lemmas.List.{take_at, drop_at, length-append, length-drop, take-append-drop}
use Rattle.mt_tlv.specs.declared.value.Tag.{Tag}
use Rattle.mt_tlv.specs.declared.fault.TlvFault.{TlvFault}
use Rattle.mt_tlv.specs.declared.fault.TlvFault.TheVariants.{Short, Reserved, NotUtf8, TooDeep, SameTag, TagForm, TooLong, Memory}
use Rattle.mt_tlv.specs.Tree.{Tree}
use Rattle.mt_tlv.specs.Limits.{IsElement}
use Rattle.mt_tlv.specs.Reading.{element_at}
use Rattle.mt_tlv.proofs.Numbers.{IsBytes}
use Rattle.mt_tlv.proofs.Again.{element_again}
use Rattle.mt_tlv.proofs.Takes.{element_takes}

-- where an element stands that was read up to this rest
pub record Stands (bytes : List ℕ) (tag : Tag) (v : Tree) (rest : List ℕ) : Type 0 where
  pub within : length bytes - length rest ≤ length bytes
  pub element : IsElement tag v (take (length bytes - length rest) bytes)
  pub after : drop (length bytes - length rest) bytes ≡ rest

stands_in_front : (front rest : List ℕ) (tag : Tag) (v : Tree) → IsElement tag v front → Stands (front ++ rest) tag v rest
stands_in_front front rest tag v h =
    let len : length front ≡ length (front ++ rest) - length rest = omega (arith, length-append front rest) in
    record {
      within = omega arith;
      element = rw (take_at front rest (length (front ++ rest) - length rest) len) h;
      after = drop_at front rest (length (front ++ rest) - length rest) len;
    }

pub stands : (bytes : List ℕ) (tag : Tag) (v : Tree) (rest : List ℕ) → IsBytes bytes → element_at bytes ≡ Ok ((tag, v), rest) → Stands bytes tag v rest
stands bytes tag v rest fits e =
    let t = element_takes bytes ((tag, v), rest) fits e in
    subst (λ (b : List ℕ). Stands b tag v rest) (sym t.1) (stands_in_front t.0 rest tag v t.2)

-- what reading gives where an element stands in front
pub reads : (bytes : List ℕ) (tag : Tag) (v : Tree) (len : ℕ) → IsElement tag v (take len bytes) → element_at bytes ≡ Ok ((tag, v), drop len bytes)
reads bytes tag v len h = ap element_at (sym (take-append-drop len bytes)) ∙ element_again tag v (take len bytes) (drop len bytes) h

abbrev done : {A : Type 0} → A → Result A TlvFault
done x = Ok x

ok_is : {A : Type 0} (x y : A) → done x ≡ done y → x ≡ y
ok_is x y e = cc

same_front : (a b x y : List ℕ) → a ++ x ≡ b ++ y → x ≡ y → a ≡ b
same_front a b x y e r =
    let len : length a ≡ length b = omega (arith, ap length e, ap length r, length-append a x, length-append b y) in
    sym (take_at a x (length a) refl) ∙ ap (take (length a)) e ∙ take_at b y (length a) (sym len)

pub one_element : (s t : Tag) (v w : Tree) (a b x y : List ℕ) → IsElement s v a → IsElement t w b → a ++ x ≡ b ++ y → (a ≡ b) × (s ≡ t) × (v ≡ w)
one_element s t v w a b x y h k e =
    let both : done ((s, v), x) ≡ done ((t, w), y) = sym (element_again s v a x h) ∙ ap element_at e ∙ element_again t w b y k in
    let same = ok_is ((s, v), x) ((t, w), y) both in
    (same_front a b x y e (ap (λ (z : (Tag × Tree) × List ℕ). z.1) same), ap (λ (z : (Tag × Tree) × List ℕ). z.0.0) same, ap (λ (z : (Tag × Tree) × List ℕ). z.0.1) same)

-- of all faults only this one
only_memory : (e : TlvFault) → (e ≢ Memory → ⊥) → e ≡ Memory
only_memory Short h = absurd (h (λ e. cc))
only_memory Reserved h = absurd (h (λ e. cc))
only_memory NotUtf8 h = absurd (h (λ e. cc))
only_memory TooDeep h = absurd (h (λ e. cc))
only_memory SameTag h = absurd (h (λ e. cc))
only_memory TagForm h = absurd (h (λ e. cc))
only_memory TooLong h = absurd (h (λ e. cc))
only_memory Memory h = refl

-- no fault where an element stands in front
pub no_fault : (e : TlvFault) (bytes : List ℕ) (tag : Tag) (v : Tree) (len : ℕ) → (e ≢ Memory → element_at bytes ≡ Err e) → IsElement tag v (take len bytes) → e ≡ Memory
no_fault e bytes tag v len given h = only_memory e (λ ne. let r = sym (reads bytes tag v len h) ∙ given ne in cc r)

-- what was read is what stands in front
pub is_read : (bytes : List ℕ) (s : Tag) (v : Tree) (rest : List ℕ) (t : Tag) (w : Tree) (len : ℕ) → element_at bytes ≡ Ok ((s, v), rest) → len ≤ length bytes → IsElement t w (take len bytes) → (s ≡ t) × (v ≡ w) × (length bytes - length rest ≡ len)
is_read bytes s v rest t w len e le h =
    let same = ok_is ((s, v), rest) ((t, w), drop len bytes) (sym e ∙ reads bytes t w len h) in
    let r : rest ≡ drop len bytes = ap (λ (z : (Tag × Tree) × List ℕ). z.1) same in
    (ap (λ (z : (Tag × Tree) × List ℕ). z.0.0) same, ap (λ (z : (Tag × Tree) × List ℕ). z.0.1) same, omega (arith, ap length r, length-drop len bytes))
