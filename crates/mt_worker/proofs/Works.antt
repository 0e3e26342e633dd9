-- Parts of a worker's work: one call, and one part after another.
use Rattle.std.proofs.Common.{◌≡◌, ◌≢◌, ◌∙◌, refl, sym, ap, subst, ℕ, ◌≤◌, ◌+◌, false, Some, List, [], ◌∷◌, ◌++◌, Option, Result, Ok, Err, OnOk, IfOk, IfErr}
use Rattle.mt_layer.specs.mt_interactions.Configured.{ConfiguredInteractions}
use Rattle.mt_model.specs.declared.texts.recording.Sent.{Sent}
use Rattle.mt_outside.specs.declared.network.Parcel.{Parcel}
use Rattle.mt_outside.specs.Stream.{HasCause}
use mathlib.Core.List.{IsPrefix}
use Rattle.mt_queue.specs.declared.job.Job.TheVariants.{Wake}
use Rattle.mt_layer.specs.mt_shared.Shared.{IsAnswered, NodePass}
use Rattle.mt_layer.specs.mt_shared.Call.{Call}
use Rattle.mt_layer.specs.mt_shared.Stamped.{Stamped}
use Rattle.mt_turn.specs.History.{IsOutsideAgain}
use Rattle.mt_worker.specs.Accounts.{Account, account_over, sent_over}
use Rattle.mt_worker.specs.Due.{Ticks, call_tick}
use Rattle.mt_worker.specs.Faults.{Counts, IsCause, IsDenied}
use Rattle.mt_worker.specs.Few.{AreAtMost}
use Rattle.mt_worker.specs.Giving.{Gave, GavePart, parcels_in}
use Rattle.mt_worker.specs.Gots.{Goes, Got}
use Rattle.mt_worker.specs.Made.{IsMade, Makes}
use Rattle.mt_worker.specs.Seats.{IsSeatOf}
use Rattle.mt_worker.specs.Works.{Acts, AreOverOne, GotNone, TickedBy, Went, WentOver, got_by}
use Rattle.mt_worker.specs.declared.fault.WorkFault.{WorkFault}
use Rattle.mt_worker.specs.declared.fault.WorkFault.TheVariants.{Memory, Stopped, Link, Full}
use Rattle.mt_worker.specs.declared.hand.Hand.{Hand}
use Rattle.mt_worker.specs.declared.seat.Seat.{Seat}
use Rattle.mt_worker.proofs.Few.{few_as, few_none, few_on, few_step, few_stops}
use Rattle.mt_worker.proofs.Giving.{gave_none, gave_on, parcels_both, part_none, part_on}
use Rattle.mt_worker.proofs.Made.{made_on, stops_made, stops_tick}
use Rattle.mt_worker.proofs.Passes.{denied, goes_answered, goes_none, goes_on}
use Rattle.mt_worker.proofs.Sessions.{account_both, one_on, over_both, rows_stay, stops_over}

-- results of a type

abbrev pub ok : (T : Type 0) → T → Result T WorkFault
ok T t = Ok t

abbrev pub err : (T : Type 0) → WorkFault → Result T WorkFault
err T fault = Err fault

-- a fault that is not the outlet's leaves its count
counts_same : (T : Type 0) (fault : WorkFault) (before now : ℕ) → fault ≢ Link → now ≡ before → Counts (err T fault) before now
counts_same T Memory before now not same = same
counts_same T Stopped before now not same = same
counts_same T Link before now not same = absurd (not refl)
counts_same T Full before now not same = same

-- A CALL, as its answer and its refusal tell it.
pub acts_of : {O : Type 0} (origin : ConfiguredInteractions) (session : ℕ) (call : Call) (x y : Hand O) (result : Result Stamped WorkFault) → x.pass.origin ≡ Some origin → IsOutsideAgain x.pass y.pass → IsPrefix x.pass.seen y.pass.seen
    → IfOk result (IsAnswered origin x.pass y.pass call) → IfErr result (IsDenied x.pass y.pass call) → Acts origin session call x y result
acts_of origin session call x y (Ok stamped) from outside grows answered denies = record { answered = goes_answered origin x.pass y.pass call stamped session from outside grows answered; refused = tt }
acts_of origin session call x y (Err fault) from outside grows answered denies = record { answered = tt; refused = denied x.pass y.pass call session fault outside grows denies }

-- The reporter's part of that.

pub ticked_denied : (T : Type 0) (Due : List Got → Type 0) (steps : ℕ) (v u : NodePass) (now : ℕ) (fault : WorkFault) → IsOutsideAgain v u → IsPrefix v.seen u.seen → IsDenied v u (call_tick now) fault → TickedBy Due steps v u (err T fault)
ticked_denied T Due steps v u now fault outside grows is =
    let none = denied v u (call_tick now) 0 fault outside grows is in
    record { gots = none.gots; goes = none.goes; ticks = stops_tick now none.gots none.stops; few = few_stops 0 steps 0 (call_tick now) none.gots none.stops; did = tt; not_link = none.not_link; cause = none.cause }

pub ticked_once : (T : Type 0) (t : T) (origin : ConfiguredInteractions) (v u : NodePass) (now : ℕ) (stamped : Stamped) → v.origin ≡ Some origin → IsOutsideAgain v u → IsPrefix v.seen u.seen → IsAnswered origin v u (call_tick now) stamped → TickedBy (Ticks (Wake now)) 1 v u (ok T t)
ticked_once T t origin v u now stamped from outside grows answered = record {
  gots = got_by 0 (call_tick now) stamped ∷ [];
  goes = goes_answered origin v u (call_tick now) stamped 0 from outside grows answered;
  ticks = (record { nobody = refl; now = now; call_is = refl }, tt);
  few = few_step (got_by 0 (call_tick now) stamped) refl;
  did = (got_by 0 (call_tick now) stamped, [], refl, record { session_is = refl; call_is = refl; line = refl }, refl);
  not_link = tt;
  cause = tt;
}

module _ {O : Type 0} (given : O → Option (List Parcel)) (faults : O → ℕ) where
  -- WHERE MEMORY FAILED FIRST nothing was done.
  pub went_nowhere : (T : Type 0) (Due : Account → List Got → Type 0) (heard steps : ℕ) (x y : Hand O) (seat : Seat) (a : Account) → x.pass.inside ≡ false → y.pass ≡ x.pass → y.outlet ≡ x.outlet → WentOver given faults Due heard steps x y seat (err T Memory) a
  went_nowhere T Due heard steps x y seat a outside pass outlet = record {
    gots = [];
    went = record {
      goes = subst (λ (p : NodePass). Goes x.pass p []) (sym pass) (goes_none x.pass outside);
      all = tt;
      part = part_none (given x.outlet) (given y.outlet) [] (ap given outlet);
      counts = ap faults outlet;
      cause = tt;
    };
    over = tt;
    made = tt;
    few = few_none heard steps;
    did = tt;
    stands = tt;
  }

  -- WHERE THE NODE REFUSED nothing was sent.
  pub went_denied : (T : Type 0) (Due : Account → List Got → Type 0) (heard steps : ℕ) (x y : Hand O) (seat : Seat) (a : Account) (call : Call) (fault : WorkFault) → Makes a.row.session a call call.event → GotNone a.row.session call x.pass y.pass fault → y.outlet ≡ x.outlet → WentOver given faults Due heard steps x y seat (err T fault) a
  went_denied T Due heard steps x y seat a call fault makes none outlet = record {
    gots = none.gots;
    went = record {
      goes = none.goes;
      all = tt;
      part = part_none (given x.outlet) (given y.outlet) (parcels_in (sent_over a none.gots)) (ap given outlet);
      counts = counts_same T fault (faults x.outlet) (faults y.outlet) none.not_link (ap faults outlet);
      cause = none.cause;
    };
    over = stops_over a.row.session call none.gots none.stops;
    made = stops_made a call none.gots makes none.stops;
    few = few_stops heard steps a.row.session call none.gots none.stops;
    did = tt;
    stands = tt;
  }

  -- WHERE MEMORY FAILED BEHIND THE CALL nothing was given.
  pub went_unsaid : (T : Type 0) (Due : Account → List Got → Type 0) (heard steps : ℕ) (x y : Hand O) (seat : Seat) (a : Account) (got : Got) → Goes x.pass y.pass (got ∷ []) → got.session ≡ a.row.session → IsMade a got → AreAtMost heard steps (got ∷ []) → y.outlet ≡ x.outlet → WentOver given faults Due heard steps x y seat (err T Memory) a
  went_unsaid T Due heard steps x y seat a got goes session made few outlet = record {
    gots = got ∷ [];
    went = record {
      goes = goes;
      all = tt;
      part = part_none (given x.outlet) (given y.outlet) (parcels_in (sent_over a (got ∷ []))) (ap given outlet);
      counts = ap faults outlet;
      cause = tt;
    };
    over = (session, tt);
    made = (made, tt);
    few = few;
    did = tt;
    stands = tt;
  }

  counts_sent : (T : Type 0) (result : Result T WorkFault) (before now : ℕ) → IfErr result (λ fault. fault ≡ Link) → HasCause before now result → Counts result before now
  counts_sent T (Ok x) before now link cause = cause.stays refl
  counts_sent T (Err fault) before now link cause = subst (λ (f : WorkFault). Counts (err T f) before now) (sym link) (cause.rose refl)

  cause_sent : {T : Type 0} (result : Result T WorkFault) (y : NodePass) → IfErr result (λ fault. fault ≡ Link) → IfErr result (IsCause y.seen)
  cause_sent (Ok x) y link = tt
  cause_sent (Err fault) y link = subst (IsCause y.seen) (sym link) tt

  pub on_ok : {T : Type 0} (result : Result T WorkFault) (P : Type 0) → P → OnOk result P
  on_ok (Ok x) P p = p
  on_ok (Err e) P p = tt

  pub ok_as : {T : Type 0} (result : Result T WorkFault) (P Q : Type 0) → (P → Q) → OnOk result P → OnOk result Q
  ok_as (Ok x) P Q follows p = follows p
  ok_as (Err e) P Q follows p = tt

  -- ELSE what the call sends was given, up to where the outlet failed.
  pub went_said : (T : Type 0) (Due : Account → List Got → Type 0) (heard steps : ℕ) (x y : Hand O) (seat : Seat) (a : Account) (got : Got) (sent : List Sent) (result : Result T WorkFault) → Goes x.pass y.pass (got ∷ []) → got.session ≡ a.row.session → IsMade a got → AreAtMost heard steps (got ∷ []) → sent ≡ sent_over a (got ∷ [])
      → OnOk result (Gave (given x.outlet) (given y.outlet) (parcels_in sent)) → GavePart (given x.outlet) (given y.outlet) (parcels_in sent) → IfErr result (λ fault. fault ≡ Link) → HasCause (faults x.outlet) (faults y.outlet) result
      → Due a (got ∷ []) → IsSeatOf seat (account_over a (got ∷ [])) → WentOver given faults Due heard steps x y seat result a
  went_said T Due heard steps x y seat a got sent result goes session made few is all part link cause due stands = record {
    gots = got ∷ [];
    went = record {
      goes = goes;
      all = subst (λ (s : List Sent). OnOk result (Gave (given x.outlet) (given y.outlet) (parcels_in s))) is all;
      part = subst (λ (s : List Sent). GavePart (given x.outlet) (given y.outlet) (parcels_in s)) is part;
      counts = counts_sent T result (faults x.outlet) (faults y.outlet) link cause;
      cause = cause_sent result y.pass link;
    };
    over = (session, tt);
    made = (made, tt);
    few = few;
    did = on_ok result (Due a (got ∷ [])) due;
    stands = on_ok result (IsSeatOf seat (account_over a (got ∷ []))) stands;
  }

  pub went_sent : (T : Type 0) (Due : Account → List Got → Type 0) (heard steps : ℕ) (x z : Hand O) (seat : Seat) (a : Account) (got : Got) (messages sent : List Sent) (before : O) (result : Result T WorkFault) → Goes x.pass z.pass (got ∷ []) → got.session ≡ a.row.session → IsMade a got → AreAtMost heard steps (got ∷ []) → before ≡ x.outlet → messages ≡ sent → sent ≡ sent_over a (got ∷ [])
      → OnOk result (Gave (given before) (given z.outlet) (parcels_in messages)) → GavePart (given before) (given z.outlet) (parcels_in messages) → IfErr result (λ fault. fault ≡ Link) → HasCause (faults before) (faults z.outlet) result
      → Due a (got ∷ []) → IsSeatOf seat (account_over a (got ∷ [])) → WentOver given faults Due heard steps x z seat result a
  went_sent T Due heard steps x z seat a got messages sent before result goes session made few same those is all part link cause due stands =
      went_said T Due heard steps x z seat a got messages result goes session made few (those ∙ is)
      (subst (λ (o : O). OnOk result (Gave (given o) (given z.outlet) (parcels_in messages))) same all)
      (subst (λ (o : O). GavePart (given o) (given z.outlet) (parcels_in messages)) same part)
      link
      (subst (λ (o : O). HasCause (faults o) (faults z.outlet) result) same cause)
      due stands

  -- NOTHING WAS DUE.
  pub went_idle : {T : Type 0} (t : T) (Due : Account → List Got → Type 0) (heard steps : ℕ) (x : Hand O) (seat : Seat) (a : Account) → x.pass.inside ≡ false → Due a [] → IsSeatOf seat a → WentOver given faults Due heard steps x x seat (Ok t) a
  went_idle t Due heard steps x seat a outside due stands = record {
    gots = [];
    went = record { goes = goes_none x.pass outside; all = gave_none (given x.outlet); part = part_none (given x.outlet) (given x.outlet) [] refl; counts = refl; cause = tt };
    over = tt;
    made = tt;
    few = few_none heard steps;
    did = due;
    stands = stands;
  }

  pub counts_on : {T U : Type 0} (t : T) (result : Result U WorkFault) (a b c : ℕ) → Counts (ok T t) a b → Counts result b c → Counts result a c
  counts_on t result a b c first then = subst (λ (n : ℕ). Counts result n c) first then

  -- ONE PART AFTER ANOTHER.
  pub went_on : {T U : Type 0} (t : T) (x y z : Hand O) (result : Result U WorkFault) (xs ys : List Got) (ss ts : List Sent) → Went given faults x y (ok T t) xs ss → Went given faults y z result ys ts → Went given faults x z result (xs ++ ys) (ss ++ ts)
  went_on t x y z result xs ys ss ts first then = record {
    goes = goes_on x.pass y.pass z.pass xs ys first.goes then.goes;
    all = ok_as result _ _ (λ (gave : Gave (given y.outlet) (given z.outlet) (parcels_in ts)). subst (λ (ps : List Parcel). Gave (given x.outlet) (given z.outlet) ps) (sym (parcels_both ss ts)) (gave_on (given x.outlet) (given y.outlet) (given z.outlet) (parcels_in ss) (parcels_in ts) first.all gave)) then.all;
    part = subst (λ (ps : List Parcel). GavePart (given x.outlet) (given z.outlet) ps) (sym (parcels_both ss ts)) (part_on (given x.outlet) (given y.outlet) (given z.outlet) (parcels_in ss) (parcels_in ts) first.all then.part);
    counts = counts_on t result (faults x.outlet) (faults y.outlet) (faults z.outlet) first.counts then.counts;
    cause = then.cause;
  }

  -- over one session
  pub over_on : {T U : Type 0} (t : T) (One Two Both : Account → List Got → Type 0) (heard steps more_heard more_steps most_heard most_steps : ℕ) (x y z : Hand O) (mid seat : Seat) (result : Result U WorkFault) (a : Account) (first : WentOver given faults One heard steps x y mid (ok T t) a)
      → WentOver given faults Two more_heard more_steps y z seat result (account_over a first.gots) → heard + more_heard ≤ most_heard → steps + more_steps ≤ most_steps → ((ys : List Got) → Two (account_over a first.gots) ys → Both a (first.gots ++ ys)) → WentOver given faults Both most_heard most_steps x z seat result a
  over_on t One Two Both heard steps more_heard more_steps most_heard most_steps x y z mid seat result a first then hears goes both = record {
    gots = first.gots ++ then.gots;
    went = subst (Went given faults x z result (first.gots ++ then.gots)) (sym (over_both a first.gots then.gots)) (went_on t x y z result first.gots then.gots _ _ first.went then.went);
    over = one_on a.row.session first.gots then.gots first.over (subst (λ row. AreOverOne row.session then.gots) (rows_stay a first.gots) then.over);
    made = made_on a first.gots then.gots first.made then.made;
    few = few_on heard steps more_heard more_steps most_heard most_steps first.gots then.gots hears goes first.few then.few;
    did = ok_as result _ _ (both then.gots) then.did;
    stands = subst (λ (b : Account). OnOk result (IsSeatOf seat b)) (sym (account_both a first.gots then.gots)) then.stands;
  }

  counts_as : (T U : Type 0) (fault : WorkFault) (before now : ℕ) → Counts (err T fault) before now → Counts (err U fault) before now
  counts_as T U Memory before now c = c
  counts_as T U Stopped before now c = c
  counts_as T U Link before now c = c
  counts_as T U Full before now c = c

  pub failed_as : (T U : Type 0) (x y : Hand O) (fault : WorkFault) (gots : List Got) (sent : List Sent) → Went given faults x y (err T fault) gots sent → Went given faults x y (err U fault) gots sent
  failed_as T U x y fault gots sent went = record { goes = went.goes; all = tt; part = went.part; counts = counts_as T U fault (faults x.outlet) (faults y.outlet) went.counts; cause = went.cause }

  -- a fault stays one, whatever else was due
  pub over_failed : (T U : Type 0) (One Both : Account → List Got → Type 0) (heard steps more_heard more_steps : ℕ) (x y : Hand O) (mid seat : Seat) (fault : WorkFault) (a : Account) → heard ≤ more_heard → steps ≤ more_steps → WentOver given faults One heard steps x y mid (err T fault) a → WentOver given faults Both more_heard more_steps x y seat (err U fault) a
  over_failed T U One Both heard steps more_heard more_steps x y mid seat fault a hears goes first = record {
    gots = first.gots;
    went = failed_as T U x y fault first.gots (sent_over a first.gots) first.went;
    over = first.over;
    made = first.made;
    few = few_as heard steps more_heard more_steps first.gots hears goes first.few;
    did = tt;
    stands = tt;
  }
