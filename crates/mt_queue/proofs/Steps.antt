-- Each step keeps the rule of a queue, and what an ended list says.
use Rattle.std.proofs.Common.{◌≡◌, ◌≢◌, ℕ, zero, suc, true, false, true≢false, List, [], ◌∷◌, ◌++◌, length, set, sym, refl, ap, ◌∙◌, subst, ⊎_elim, append_assoc, All, arith}
use Rattle.std.proofs.lemmas.List.Elements.{All-push}
use mathlib.Core.Option.{some, some-ne-none}
use mathlib.Core.List.{IsPrefix}
use lib.ListN.{get_elem?}
use Rattle.crossbeam_channel.specs.Fifo.{Pushes, Pops, Forks, Merges, Learns}
use Rattle.atomic_table.proofs.Lists.{at_set, at_snoc}
use Rattle.mt_queue.specs.declared.job.Job.{Job}
use Rattle.mt_queue.specs.declared.job.Job.TheVariants.{End}
use Rattle.mt_queue.specs.declared.rule.Notes.{Notes}
use Rattle.mt_queue.specs.Jobs.{IsWithinLimits, is_end, HasNoEnd, IsEnded}
use Rattle.mt_queue.specs.Rule.{notes, Knows, IsKept, Puts, Takes}

-- a fact of each view and its number
abbrev pub OfEach : (ℕ → Notes → Type 0) → List Notes → Type 0
OfEach F views = (port : ℕ) (v : Notes) → get_elem? views port ≡ some v → F port v

-- a view that was not there stands at the end
only_last : (views : List Notes) (v w : Notes) (port : ℕ) → get_elem? views port ≢ some w → get_elem? (views ++ v ∷ []) port ≡ some w → port ≡ length views
only_last [] v w zero new at = refl
only_last [] v w (suc port) new at = absurd (some-ne-none w (sym at))
only_last (x ∷ views) v w zero new at = absurd (new at)
only_last (x ∷ views) v w (suc port) new at = ap suc (only_last views v w port new at)

of_each-set : (F : ℕ → Notes → Type 0) (views : List Notes) (port : ℕ) (w : Notes) → F port w → ((j : ℕ) (u : Notes) → j ≢ port → get_elem? views j ≡ some u → F j u) → OfEach F (set views port w)
of_each-set F views port w mine others j u at = ⊎_elim (λ (x : (j ≡ port) × (w ≡ u)). subst (λ (y : ℕ × Notes). F y.0 y.1) (λ i. (sym x.0 i, x.1 i)) mine)
    (λ (x : (j ≢ port) × (get_elem? views j ≡ some u)). others j u x.0 x.1) (at_set views port j w u at)

-- of all jobs, the one behind those that were taken
next_of : (P : Job → Type 0) (taken : List Job) (job : Job) (rest : List Job) → All P (taken ++ job ∷ rest) → P job
next_of P [] job rest all = all 0 job (omega arith)
next_of P (x ∷ taken) job rest all = next_of P taken job rest (λ k d below. all (suc k) d (omega (arith, below)))

pub begins : IsKept [] (notes true true [] [] ∷ [])
begins = record {
  sender = 0;
  taker = 0;
  put = [];
  taken = [];
  order = refl;
  limits = λ k d below. absurd (omega (arith, below));
  each = of_each-set (Knows 0 0 [] []) (notes true true [] [] ∷ []) 0 (notes true true [] []) ((λ _. (refl, refl)), λ _. (refl, refl)) (λ j u other at. absurd (other (only_last [] _ u j (λ x. some-ne-none u (sym x)) at)));
}

pub puts : (n port : ℕ) (v : Notes) (job : Job) → v.puts ≡ true → IsWithinLimits job → Pushes IsKept n port v job (Puts v job)
puts n port v job may within items views room r at = let w : Notes = notes v.puts v.takes (v.put ++ job ∷ []) v.taken in let mine = r.each port v at in (
  w,
  record {
    sender = r.sender;
    taker = r.taker;
    put = r.put ++ job ∷ [];
    taken = r.taken;
    order = ap (λ l. l ++ job ∷ []) r.order ∙ append_assoc r.taken items (job ∷ []);
    limits = All-push IsWithinLimits r.put job r.limits within;
    each = of_each-set (Knows r.sender r.taker (r.put ++ job ∷ []) r.taken) views port w ((λ _. ((mine.0 may).0, ap (λ l. l ++ job ∷ []) (mine.0 may).1)), mine.1)
        (λ j u other e. ((λ p. absurd (other (((r.each j u e).0 p).0 ∙ sym (mine.0 may).0))), (r.each j u e).1));
  },
  refl,
)

pub takes : (port : ℕ) (v : Notes) → v.takes ≡ true → Pops IsKept port v (Takes v)
takes port v may job items views r at = let w : Notes = notes v.puts v.takes v.put (v.taken ++ job ∷ []) in let mine = r.each port v at in (
  w,
  record {
    sender = r.sender;
    taker = r.taker;
    put = r.put;
    taken = r.taken ++ job ∷ [];
    order = r.order ∙ sym (append_assoc r.taken (job ∷ []) items);
    limits = r.limits;
    each = of_each-set (Knows r.sender r.taker r.put (r.taken ++ job ∷ [])) views port w (mine.0, λ _. ((mine.1 may).0, ap (λ l. l ++ job ∷ []) (mine.1 may).1))
        (λ j u other e. ((r.each j u e).0, λ p. absurd (other (((r.each j u e).1 p).0 ∙ sym (mine.1 may).0))));
  },
  (refl, next_of IsWithinLimits r.taken job items (subst (All IsWithinLimits) r.order r.limits)),
)

pub parts : (port : ℕ) (v : Notes) → v.puts ≡ true → v.takes ≡ true → Forks IsKept port v (notes true false v.put []) (notes false true [] v.taken)
parts port v may_put may_take items views r at = let left : Notes = notes true false v.put [] in let right : Notes = notes false true [] v.taken in let mine = r.each port v at in
    let vs : List Notes = set views port left in let Old : ℕ → Notes → Type 0 = λ j u. (u.puts ≡ true → (j ≡ r.sender) × (u.put ≡ r.put)) × (u.takes ≢ true) in
    let old : OfEach Old vs = of_each-set Old views port left ((λ _. mine.0 may_put), λ p. true≢false (sym p)) (λ j u other e. ((r.each j u e).0, λ p. other (((r.each j u e).1 p).0 ∙ sym (mine.1 may_take).0))) in
    record {
      sender = r.sender;
      taker = length vs;
      put = r.put;
      taken = r.taken;
      order = r.order;
      limits = r.limits;
      each = λ j u e. ⊎_elim (λ x. ((old j u x).0, λ p. absurd ((old j u x).1 p)))
          (λ (is : right ≡ u). ((λ p. absurd (true≢false (sym (ap (λ (y : Notes). y.puts) is ∙ p)))), λ p. (only_last vs right u j (λ x. (old j u x).1 p) e, ap (λ (y : Notes). y.taken) (sym is) ∙ (mine.1 may_take).1))) (at_snoc vs right u j e);
    }

pub joins : (port : ℕ) (v : Notes) (other : ℕ) (u : Notes) → v.puts ≡ true → u.takes ≡ true → Merges IsKept port v other u (notes true true v.put u.taken) (notes false false [] [])
joins port v other u may_put may_take items views r at two at' = let both : Notes = notes true true v.put u.taken in let mine = r.each port v at in let vs : List Notes = set views port both in
    let was : get_elem? views other ≡ some u = ⊎_elim (λ x. absurd (two x.0)) (λ x. x.1) (at_set views port other both u at') in let theirs = (r.each other u was).1 may_take in
    let Now : ℕ → Notes → Type 0 = λ j y. j ≢ other → Knows r.sender port r.put r.taken j y in
    let now : OfEach Now vs = of_each-set Now views port both (λ _. ((λ _. mine.0 may_put), λ _. (refl, theirs.1))) (λ j y _ e apart. ((r.each j y e).0, λ p. absurd (apart (((r.each j y e).1 p).0 ∙ sym theirs.0)))) in
    record {
      sender = r.sender;
      taker = port;
      put = r.put;
      taken = r.taken;
      order = r.order;
      limits = r.limits;
      each = of_each-set (Knows r.sender port r.put r.taken) vs other (notes false false [] []) ((λ p. absurd (true≢false (sym p))), λ p. absurd (true≢false (sym p))) (λ j y apart e. now j y e apart);
    }

pub compares : (port : ℕ) (v : Notes) → v.puts ≡ true → v.takes ≡ true → Learns IsKept port v (λ items. v.put ≡ v.taken ++ items)
compares port v may_put may_take items views r at = let mine = r.each port v at in (mine.0 may_put).1 ∙ r.order ∙ ap (λ l. l ++ items) (sym (mine.1 may_take).1)

-- of a list with one end, behind all others, a prefix that is ended is the whole
ends_alike : (before jobs rest : List Job) → HasNoEnd jobs → (before ++ End ∷ []) ++ rest ≡ jobs ++ End ∷ [] → before ++ End ∷ [] ≡ jobs ++ End ∷ []
ends_alike [] [] rest none e = refl
ends_alike [] (job ∷ jobs) rest none e = let same : End ≡ job = cc in absurd (true≢false (ap is_end same ∙ none 0 job (omega arith)))
ends_alike (b ∷ []) [] rest none e = absurd cc
ends_alike (b ∷ c ∷ before) [] rest none e = absurd cc
ends_alike (b ∷ before) (job ∷ jobs) rest none e = let heads : b ≡ job = cc in let more = ends_alike before jobs rest (λ k d below. none (suc k) d (omega (arith, below))) cc in cc

-- where the end was put last, and was taken, all was taken
pub all_taken : (taken jobs : List Job) → IsEnded taken → HasNoEnd jobs → IsPrefix taken (jobs ++ End ∷ []) → taken ≡ jobs ++ End ∷ []
all_taken taken jobs ended none begins_it = ended.1 ∙ ends_alike ended.0 jobs begins_it.0 none (ap (λ l. l ++ begins_it.0) (sym ended.1) ∙ begins_it.1)
