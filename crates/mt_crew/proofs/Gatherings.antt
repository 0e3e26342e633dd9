-- What threads have left, one after the other.
use Rattle.std.proofs.Common.{◌≡◌, ◌∙◌, ℕ, ◌+◌, List, [], ◌∷◌, ◌++◌, Option, Some, map, refl, sym, ap, subst, append-nil, append_assoc, arith}
use Rattle.std.specs.Prelude.{⊤}
use Rattle.std.proofs.lemmas.List.{map_push, same_from_push}
use Rattle.std.proofs.lemmas.List.Elements.{All-nil, All-push, All-weaker, filter_map-append}
use Rattle.std.specs.List.{cons_option}
use mathlib.Core.List.{IsPrefix}
use Rattle.mt_queue.specs.Ends.{Put}
use Rattle.mt_owners.specs.mt_shared.Shared.{NodePass, SharedView}
use Rattle.mt_owners.specs.mt_worker.Done.{Done}
use Rattle.mt_turn.specs.Counts.{how_often, is_it, total}
use Rattle.mt_crew.specs.Gathering.{Gathered, GatheredAll, TookIn, first_fault, first_of, outlet_left, queue_left, status_left, times_left}
use Rattle.mt_crew.specs.Members.{IsBack, IsLeft, left_of, lefts}
use Rattle.mt_crew.specs.Ready.{queue_put}
use Rattle.mt_crew.specs.declared.member.Member.{Member}
use Rattle.mt_crew.specs.declared.member.Post.{Post}
use Rattle.mt_crew.specs.declared.member.Post.TheVariants.{Left, Serves, Waits}
use Rattle.mt_crew.proofs.Statuses.{first_push}

pub prefix_trans : {A : Type 0} (xs ys zs : List A) → IsPrefix xs ys → IsPrefix ys zs → IsPrefix xs zs
prefix_trans {A} xs ys zs p q = (p.0 ++ q.0, sym (append_assoc xs p.0 q.0) ∙ (ap (λ (l : List A). l ++ q.0) p.1 ∙ q.1))

pub total_both : {A : Type 0} (f : A → ℕ) (xs ys : List A) → total f (xs ++ ys) ≡ total f xs + total f ys
total_both f [] ys = omega arith
total_both f (x ∷ xs) ys = omega (arith, total_both f xs ys)

-- WHAT A WORKER HAS LEFT, where it has ended.

pub left_is : {O : Type 0} (node : SharedView) (post : Post O) → IsBack node post → (ended : Done O) × (left_of post ≡ Some ended)
left_is node (Left ended) back = (ended, refl)
left_is node (Waits pass jobs outlet) back = absurd back
left_is node Serves back = absurd back

pub back_left : {O : Type 0} (node : SharedView) (post : Post O) (ended : Done O) → IsBack node post → left_of post ≡ Some ended → IsLeft node ended
back_left node (Left other) ended back is = subst (IsLeft node) (let same : other ≡ ended = cc in same) back
back_left node (Waits pass jobs outlet) ended back is = absurd back
back_left node Serves ended back is = absurd back

-- one more worker has left something
pub lefts_push : {O : Type 0} (all rest : List (Member O)) (member : Member O) (ended : Done O) → all ≡ rest ++ member ∷ [] → left_of member.post ≡ Some ended → lefts all ≡ lefts rest ++ ended ∷ []
lefts_push {O} all rest member ended is left =
    ap lefts is ∙ (filter_map-append (λ (member : Member O). left_of member.post) rest (member ∷ [])
    ∙ ap (λ (o : Option (Done O)). lefts rest ++ cons_option o []) left)

module _ {O : Type 0} where
  pub gathered_none : (v : NodePass) → Gathered {O = O} v v []
  gathered_none v = record {
    places = λ k. omega arith;
    begins = ([], append-nil v.seen);
    heard = All-nil (λ (one : Done O). IsPrefix one.pass.seen v.seen);
  }

  pub gathered_more : (v u z : NodePass) (rest : List (Done O)) (ended : Done O) → Gathered v u rest → TookIn u z ended → Gathered v z (rest ++ ended ∷ [])
  gathered_more v u z rest ended f h = record {
    places = λ k.
        let before = f.places k in
        let more = ap (how_often k) h.places ∙ total_both (is_it k) u.places ended.pass.places in
        omega (arith, total_both (times_left {O = O} k) rest (ended ∷ []));
    begins = prefix_trans v.seen u.seen z.seen f.begins h.begins;
    heard = All-push (λ (one : Done O). IsPrefix one.pass.seen z.seen) rest ended
        (All-weaker (λ (one : Done O). IsPrefix one.pass.seen u.seen) (λ (one : Done O). IsPrefix one.pass.seen z.seen) (λ one p. prefix_trans one.pass.seen u.seen z.seen p h.begins) rest f.heard) h.heard;
  }

  pub gathered_on : (v u z : NodePass) (all rest : List (Done O)) (ended : Done O) → all ≡ rest ++ ended ∷ [] → Gathered v u rest → TookIn u z ended → Gathered v z all
  gathered_on v u z all rest ended is f h = subst (Gathered v z) (sym is) (gathered_more v u z rest ended f h)

  -- the reporter first
  pub gathered_all : (v u z : NodePass) (clerk : Done ⊤) (ended : List (Done O)) → TookIn v u clerk → Gathered u z ended → GatheredAll v z ended clerk
  gathered_all v u z clerk ended f h = record {
    places = λ k.
        let first = ap (how_often k) f.places ∙ total_both (is_it k) v.places clerk.pass.places in
        let then = h.places k in
        omega arith;
    heard = h.heard;
    clerk_heard = prefix_trans clerk.pass.seen u.seen z.seen f.heard h.begins;
  }

  -- one more queue, outlet and status

  pub queues_more : (all rest : List (Done O)) (ended : Done O) (senders front : List Put) (sender : Put) → all ≡ rest ++ ended ∷ [] → senders ≡ front ++ sender ∷ [] → map queue_left all ≡ map queue_put senders
      → (map queue_left rest ≡ map queue_put front) × (ended.queue.queue ≡ sender.queue)
  queues_more all rest ended senders front sender is that same =
      same_from_push (map queue_left rest) (map queue_put front) ended.queue.queue sender.queue
      (sym (map_push queue_left rest ended) ∙ (sym (ap (map queue_left) is) ∙ (same ∙ (ap (map queue_put) that ∙ map_push queue_put front sender))))

  pub outlets_more : (start mid after : List O) (outlet : O) (all rest : List (Done O)) (ended : Done O) → all ≡ rest ++ ended ∷ [] → mid ≡ start ++ map outlet_left rest → after ≡ mid ++ outlet ∷ [] → outlet ≡ ended.outlet → after ≡ start ++ map outlet_left all
  outlets_more start mid after outlet all rest ended is so_far more mine =
      more ∙ (ap (λ (l : List O). l ++ outlet ∷ []) so_far ∙ (append_assoc start (map outlet_left rest) (outlet ∷ [])
      ∙ ap (λ (l : List O). start ++ l) (ap (λ (o : O). map outlet_left rest ++ o ∷ []) mine ∙ (sym (map_push outlet_left rest ended) ∙ sym (ap (map outlet_left) is)))))

  pub status_more : (before status result : ℕ) (all rest : List (Done O)) (ended : Done O) → all ≡ rest ++ ended ∷ [] → before ≡ first_fault (map status_left rest) → status ≡ ended.status → result ≡ first_of before status → result ≡ first_fault (map status_left all)
  status_more before status result all rest ended is so_far mine more =
      more ∙ (ap (λ (n : ℕ). first_of n status) so_far ∙ (ap (first_of (first_fault (map status_left rest))) mine
      ∙ (sym (first_push (map status_left rest) ended.status) ∙ (ap first_fault (sym (map_push status_left rest ended)) ∙ ap (λ (l : List (Done O)). first_fault (map status_left l)) (sym is)))))

  -- the reporter's behind those of all workers
  pub status_behind : (worked last result : ℕ) (all : List (Done O)) (clerk : Done ⊤) → worked ≡ first_fault (map status_left all) → last ≡ clerk.status → result ≡ first_of worked last → result ≡ first_fault (map status_left all ++ clerk.status ∷ [])
  status_behind worked last result all clerk so_far mine more =
      more ∙ (ap (λ (n : ℕ). first_of n last) so_far ∙ (ap (first_of (first_fault (map status_left all))) mine ∙ sym (first_push (map status_left all) clerk.status)))
