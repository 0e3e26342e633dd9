-- The workers of a crew, before their threads and behind them.
use Rattle.std.proofs.Common.{◌≡◌, ◌<◌, ◌∙◌, ℕ, zero, suc, ◌+◌, List, [], ◌∷◌, ◌++◌, Option, Some, Result, Ok, map, length, get_or, refl, sym, ap, subst, arith, length-append}
use mathlib.Core.Logic.{dite}
use native.Mathlib.Decide.{ℕ_discrete}
use Rattle.std.proofs.lemmas.List.{get_or_append_left, get_or_push}
use Rattle.std.proofs.lemmas.List.Elements.{All-cons, All-nil}
use Rattle.std.specs.List.{All, AllZip, cons_option, filter_map}
use Rattle.mt_model.specs.declared.texts.config.SessionRow.{SessionRow}
use Rattle.mt_outside.specs.declared.network.Parcel.{Parcel}
use Rattle.mt_queue.specs.Ends.{QueueId, Taken}
use Rattle.mt_queue.specs.Jobs.{IsEnded}
use Rattle.mt_owners.specs.mt_shared.Shared.{IsPassOf, NodePass, SharedView}
use Rattle.mt_owners.specs.mt_worker.Accounts.{Accounts}
use Rattle.mt_owners.specs.mt_worker.Done.{Done}
use Rattle.mt_owners.specs.mt_worker.Due.{HaveBegun}
use Rattle.mt_owners.specs.mt_worker.Works.{Worked}
use Rattle.mt_served.specs.Crews as crews
use Rattle.mt_served.specs.Crews.{DidItsWork, Service, lent_of}
use Rattle.mt_served.specs.mt_shares.Merging.{upto}
use Rattle.mt_turn.specs.Counts.{total}
use Rattle.mt_turn.specs.History.{IsOutsideAgain}
use Rattle.mt_turn.specs.Known.{part_given}
use Rattle.mt_crew.specs.Gathering.{queue_left}
use Rattle.mt_crew.specs.Members.{BeginsWith, HasLeft, HasWorked, IsBack, IsOfThread, IsReady, IsWaiting, MayWork, jobs_at, jobs_in, left_of, lefts, number_of, outlet_at, outlets_in, pass_at, rows_of, start_of}
use Rattle.mt_crew.specs.Ready.{queue_taken}
use Rattle.mt_crew.specs.declared.member.Member.{Member}
use Rattle.mt_crew.specs.declared.member.Post.{Post}
use Rattle.mt_crew.specs.declared.member.Post.TheVariants.{Left, Serves, Waits}
use Rattle.mt_crew.proofs.Lists.{mapped_push}

-- one more that is kept
pub kept_more : {A B : Type 0} (f : A → Option B) (x : A) (xs : List A) (y : B) (ys : List B) → f x ≡ Some y → filter_map f xs ≡ ys → filter_map f (x ∷ xs) ≡ y ∷ ys
kept_more {B = B} f x xs y ys is rest = ap (λ (o : Option B). cons_option o (filter_map f xs)) is ∙ ap (λ (l : List B). y ∷ l) rest

-- the number at a place
pub upto_length : (n : ℕ) → length (upto n) ≡ n
upto_length zero = refl
upto_length (suc n) = omega (arith, length-append (upto n) (n ∷ []), upto_length n)

pub upto_at : (n k d : ℕ) → k < n → get_or (upto n) k d ≡ k
upto_at zero k d lt = absurd (omega arith)
upto_at (suc n) k d lt = dite (ℕ_discrete k n)
    (λ here. get_or_push (upto n) n d k (upto_length n ∙ sym here) ∙ sym here)
    (λ other. let len = upto_length n in get_or_append_left (upto n) (n ∷ []) d k (omega arith) ∙ upto_at n k d (omega arith))

pub total_map : {A B : Type 0} (f : B → ℕ) (g : A → B) (xs : List A) → total f (map g xs) ≡ total (λ (x : A). f (g x)) xs
total_map f g [] = refl
total_map f g (x ∷ xs) = ap (λ (n : ℕ). f (g x) + n) (total_map f g xs)

pub rows_in_service : {O : Type 0} → Service O → List SessionRow
rows_in_service service = service.rows

pub left_in_service : {O : Type 0} → Service O → Done O
left_in_service service = service.left

module _ {O : Type 0} (given : O → Option (List Parcel)) (faults : O → ℕ) (node : SharedView) where
  -- WHAT THE WORKERS DID, one after the other: what they began with, and what they left.
  pub record Serviced (begun : NodePass) (befores afters : List (Member O)) : Type 0 where
    pub services : List (Service O)
    pub numbers : map crews.number_of services ≡ map number_of befores
    pub rows : map (λ (service : Service O). service.rows) services ≡ map rows_of befores
    pub lent : map lent_of services ≡ outlets_in befores
    pub left : map (λ (service : Service O). service.left) services ≡ lefts afters
    pub queues : map queue_left (lefts afters) ≡ map queue_taken (jobs_in befores)
    pub worked : All (DidItsWork given faults begun) services
    pub back : All (HasLeft node) afters

  same_pass : (post : Post O) (pass begun : NodePass) → pass_at post ≡ Some pass → pass_at post ≡ Some begun → pass ≡ begun
  same_pass post pass begun is that = cc

  serviced_more : (begun : NodePass) (x y : Member O) (xs ys : List (Member O)) → HasWorked given faults node x y → BeginsWith begun x → Serviced begun xs ys → Serviced begun (x ∷ xs) (y ∷ ys)
  serviced_more begun x y xs ys h begins rest =
      let service : Service O = record { number = x.number; rows = x.rows; lent = h.outlet; left = h.ended } in
      let left : lefts (y ∷ ys) ≡ h.ended ∷ lefts ys = kept_more (λ (member : Member O). left_of member.post) y ys h.ended (lefts ys) (ap left_of h.left) refl in
      let same : h.pass ≡ begun = same_pass x.post h.pass begun (ap pass_at h.began) begins in
      let worked : DidItsWork given faults begun service = subst (λ (pass : NodePass). (accounts : Accounts) → HaveBegun x.rows accounts → Worked given faults x.rows accounts pass h.outlet h.ended) same h.worked in
      record {
        services = service ∷ rest.services;
        numbers = ap (λ (l : List ℕ). x.number ∷ l) rest.numbers;
        rows = ap (λ (l : List (List SessionRow)). x.rows ∷ l) rest.rows;
        lent = ap (λ (l : List O). h.outlet ∷ l) rest.lent ∙ sym (kept_more (λ (member : Member O). outlet_at member.post) x xs h.outlet (outlets_in xs) (ap outlet_at h.began) refl);
        left = ap (λ (l : List (Done O)). h.ended ∷ l) rest.left ∙ sym left;
        queues = ap (map queue_left) left ∙ (ap (λ (l : List QueueId). h.ended.queue.queue ∷ l) rest.queues ∙ (ap (λ (q : QueueId). q ∷ map queue_taken (jobs_in xs)) h.queue
            ∙ sym (ap (map queue_taken) (kept_more (λ (member : Member O). jobs_at member.post) x xs h.jobs (jobs_in xs) (ap jobs_at h.began) refl))));
        worked = All-cons (DidItsWork given faults begun) service rest.services worked rest.worked;
        back = All-cons (HasLeft node) y ys (subst (IsBack node) (sym h.left) h.is_left) rest.back;
      }

  pub serviced : (begun : NodePass) (befores afters : List (Member O)) → AllZip (HasWorked given faults node) befores afters → All (BeginsWith begun) befores → Serviced begun befores afters
  serviced begun [] [] z begins = record {
    services = [];
    numbers = refl;
    rows = refl;
    lent = refl;
    left = refl;
    queues = refl;
    worked = All-nil (DidItsWork given faults begun);
    back = All-nil (HasLeft node);
  }
  serviced begun [] (y ∷ ys) z begins = absurd z
  serviced begun (x ∷ xs) [] z begins = absurd z
  serviced begun (x ∷ xs) (y ∷ ys) z begins = serviced_more begun x y xs ys z.0 (begins 0 x (omega arith)) (serviced begun xs ys z.1 (λ k d lt. begins (suc k) d (omega arith)))

-- one more number
pub numbers_push : {O : Type 0} (all rest : List (Member O)) (member : Member O) (n m : ℕ) → all ≡ rest ++ member ∷ [] → map number_of rest ≡ upto n → member.number ≡ n → m ≡ suc n → map number_of all ≡ upto m
numbers_push all rest member n m is so_far mine more =
    mapped_push number_of all rest member (upto n) (upto m) is so_far (ap upto more ∙ ap (λ (k : ℕ). upto n ++ k ∷ []) (sym mine))

-- the pass that is given of one whose share alone has changed
pub got_is : {E : Type 0} (given pass : NodePass) → ◌≡◌ {A = Result NodePass E} (Ok given) (Ok pass) → given ≡ pass
got_is given pass is = cc

pub same_given : {E : Type 0} (old mid given : NodePass) → mid ≡ record old { share = mid.share } → ◌≡◌ {A = Result NodePass E} (Ok given) (Ok (part_given mid)) → given ≡ part_given old
same_given old mid given same is = got_is given (part_given mid) is ∙ ap part_given same

pub of_thread : (node : SharedView) (pass given : NodePass) → IsPassOf node pass → given ≡ part_given pass → IsOfThread node given
of_thread node pass given own is = subst (IsOfThread node) (sym is) (own, refl)

-- A THREAD has ended, and left a pass of the same node.
pub still_of_thread : (node : SharedView) (pass after : NodePass) → IsOfThread node pass → IsOutsideAgain pass after → IsOfThread node after
still_of_thread node pass after own out = ((out.0 ∙ own.0.0, out.3 ∙ own.0.1, out.1), out.2 ∙ own.1)

start_is : {O : Type 0} (post : Post O) (pass : NodePass) (jobs : Taken) (outlet : O) → start_of post ≡ Some (pass, jobs, outlet) → post ≡ Waits pass jobs outlet
start_is {O} (Waits other others another) pass jobs outlet is =
    let same : ◌≡◌ {A = NodePass × Taken × O} (other, others, another) (pass, jobs, outlet) = cc in
    ap (λ (start : NodePass × Taken × O). Waits start.0 start.1 start.2) same
start_is (Left ended) pass jobs outlet is = absurd cc
start_is Serves pass jobs outlet is = absurd cc

pub has_worked : {O : Type 0} (given : O → Option (List Parcel)) (faults : O → ℕ) (node : SharedView) (before after : Member O) (pass : NodePass) (jobs : Taken) (outlet : O) (ended : Done O)
    → MayWork node before → start_of before.post ≡ Some (pass, jobs, outlet) → after.post ≡ Left ended → after.number ≡ before.number → after.rows ≡ before.rows
    → IsOutsideAgain pass ended.pass → ended.queue.queue ≡ jobs.queue → IsEnded ended.queue.taken → ((accounts : Accounts) → HaveBegun before.rows accounts → Worked given faults before.rows accounts pass outlet ended)
    → HasWorked given faults node before after
has_worked given faults node before after pass jobs outlet ended may start left number rows out queue to_end worked =
    let began = start_is before.post pass jobs outlet start in
    let ready : IsReady node before.rows pass jobs = subst (IsWaiting node before.rows) began may in
    record {
      pass = pass;
      jobs = jobs;
      outlet = outlet;
      ended = ended;
      began = began;
      left = left;
      number = number;
      rows = rows;
      is_left = record { own = still_of_thread node pass ended.pass ready.own out; to_end = to_end };
      queue = queue;
      worked = worked;
    }
