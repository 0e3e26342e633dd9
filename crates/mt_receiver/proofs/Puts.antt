-- One part of what was put after another.
use Rattle.std.proofs.Common.{◌≡◌, ◌<◌, ◌∙◌, ℕ, List, [], ◌∷◌, ◌++◌, length, get_or, refl, sym, ap, subst, append-nil, append_assoc, arith}
use Rattle.mt_queue.specs.Ends.{Put}
use Rattle.mt_queue.specs.declared.job.Job.{Job}
use Rattle.mt_receiver.specs.Receives.{AllPut, AreSame, with_jobs}

pub put_none : (one : Put) → one ≡ with_jobs one []
put_none one = ap (λ (jobs : List Job). record one { put = jobs }) (sym (append-nil one.put))

pub put_on : (a b c : Put) (js ks : List Job) → b ≡ with_jobs a js → c ≡ with_jobs b ks → c ≡ with_jobs a (js ++ ks)
put_on a b c js ks first then = then ∙ (ap (λ (x : Put). with_jobs x ks) first ∙ ap (λ (jobs : List Job). record a { put = jobs }) (append_assoc a.put js ks))

pub all_on : (f h : ℕ → List Job) (xs ys zs : List Put) → AllPut f xs ys → AllPut h ys zs → AllPut (λ (k : ℕ). f k ++ h k) xs zs
all_on f h xs ys zs p q = (q.0 ∙ p.0, λ k d lt. let same = p.0 in put_on (get_or xs k d) (get_or ys k d) (get_or zs k d) (f k) (h k) (p.1 k d lt) (q.1 k d (omega arith)))

pub all_none : (xs : List Put) → AllPut (λ (k : ℕ). []) xs xs
all_none xs = (refl, λ k d lt. put_none (get_or xs k d))

pub all_as : (f h : ℕ → List Job) (xs ys : List Put) → ((k : ℕ) → f k ≡ h k) → AllPut f xs ys → AllPut h xs ys
all_as f h xs ys is p = (p.0, λ k d lt. subst (λ (jobs : List Job). get_or ys k d ≡ with_jobs (get_or xs k d) jobs) (is k) (p.1 k d lt))

pub put_keeps : (f : ℕ → List Job) (xs ys : List Put) → AllPut f xs ys → AreSame xs ys
put_keeps f xs ys p = (p.0, λ k d lt. ap (λ (one : Put). one.queue) (p.1 k d lt))

pub same_none : (xs : List Put) → AreSame xs xs
same_none xs = (refl, λ k d lt. refl)

pub same_on : (xs ys zs : List Put) → AreSame xs ys → AreSame ys zs → AreSame xs zs
same_on xs ys zs p q = (q.0 ∙ p.0, λ k d lt. let same = p.0 in q.1 k d (omega arith) ∙ p.1 k d lt)
