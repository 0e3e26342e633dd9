-- What holds of the table as a whole.
use Rattle.std.proofs.Common.{ℕ, ◌≡◌, ◌==◌, ◌&&◌, ◌||◌, ◌++◌, Bool, true, false, List, [], ◌∷◌, Option, Some, None, Ok, not, inl, inr, if◌then◌else◌, is_some, is_ok, map, refl, sym, ◌∙◌, ap}
use Rattle.std.specs.Prelude.{All, IsTrue, ok_or}
use Rattle.std.specs.List.{find, list_any, flat_map}
use Rattle.std.specs.Option.{option_map}
use Rattle.std.proofs.lemmas.Bool.{cases_Bool, eqb-true, eq-eqb}
use Rattle.std.proofs.lemmas.Bool.Decides.{eqb_tells}
use Rattle.std.proofs.lemmas.List.Folds.{list_any-append, list_any_at}
use Rattle.std.proofs.lemmas.List.Elements.{All-filter}
use Rattle.std.proofs.Math.ListN.{get_or}
use Rattle.mt_model.specs.declared.messages.message.Path.{Path}
use Rattle.mt_model.specs.rows.Devices.{device_of}
use Rattle.mt_model.specs.declared.rows.place.Place.{Place}
use Rattle.mt_model.specs.declared.messages.status.Status.{Status}
use Rattle.mt_model.specs.declared.messages.status.Status.TheVariants.{UnsupportedEndpoint, UnsupportedCluster, UnsupportedAttribute}
use Rattle.mt_meta.specs.declared.rows.AttributeRow.{AttributeRow}
use Rattle.mt_meta.specs.declared.meta.Meta.{Meta}
use Rattle.mt_meta.specs.Table.{all_attributes_of, all_data_of, attributes_of, clusters_of, endpoints, extensions_of, globals, hidden_of}
use Rattle.mt_meta.specs.Places.{all_places, ascend, data_places, is_named, place_of, places, is_at}
use Rattle.mt_meta.specs.Finding.{find_data_of, find_of, found, is_endpoint, has_cluster, missing_of}

pub all-ascend : IsTrue (ascend all_places)
unfolding endpoints clusters_of attributes_of globals extensions_of
all-ascend = refl

-- Numbers.

pub eqb-sym : (a b : ℕ) → (a == b) ≡ (b == a)
eqb-sym a b = elim (eqb_tells a b) [
  | inl same ↦ same.0 ∙ sym (eq-eqb b a (sym same.1))
  | inr other ↦ elim (eqb_tells b a) [ inl same ↦ absurd (other.1 (sym same.1)) | inr back ↦ other.0 ∙ sym back.0 ]
]

pub endpoint-device : (endpoint : ℕ) → is_endpoint endpoint ≡ is_some (device_of endpoint)
unfolding endpoints
endpoint-device endpoint = rw (eqb-sym 0 endpoint, eqb-sym 1 endpoint) (elim (endpoint == 0) as (λ b. (b || ((endpoint == 1) || false)) ≡ is_some {T = ℕ} (if b then Some 0x16 else if endpoint == 1 then Some 0xfff10001 else None)) [ true ↦ refl | false ↦ elim (endpoint == 1) as (λ b. (b || false) ≡ is_some {T = ℕ} (if b then Some 0xfff10001 else None)) [ true ↦ refl | false ↦ refl ] ])

-- Tests of lists.

pub any-ext : {X : Type 0} (p q : X → Bool) → ((x : X) → p x ≡ q x) → (xs : List X) → list_any p xs ≡ list_any q xs
any-ext p q same [] = refl
any-ext p q same (x ∷ xs) = rw (same x, any-ext p q same xs) refl

any-flat_map : {X Y : Type 0} (p : Y → Bool) (f : X → List Y) (xs : List X) → list_any p (flat_map f xs) ≡ list_any (λ x. list_any p (f x)) xs
any-flat_map p f [] = refl
any-flat_map p f (x ∷ xs) = list_any-append p (f x) (flat_map f xs) ∙ ap (λ rest. list_any p (f x) || rest) (any-flat_map p f xs)

any-map : {X Y : Type 0} (p : Y → Bool) (f : X → Y) (xs : List X) → list_any p (map f xs) ≡ list_any (λ x. p (f x)) xs
any-map p f [] = refl
any-map p f (x ∷ xs) = ap (λ rest. p (f x) || rest) (any-map p f xs)

-- a test that does not look at the element
any-and : {X : Type 0} (b : Bool) (p : X → Bool) (xs : List X) → list_any (λ x. b && p x) xs ≡ (b && list_any p xs)
any-and true p xs = refl
any-and false p [] = refl
any-and false p (x ∷ xs) = any-and false p xs

and-none : (b : Bool) → (b && false) ≡ false
and-none true = refl
and-none false = refl

-- one step of `any-at`
at-step : (here other at any : Bool) → (here ≡ true → other ≡ at) → ((here && other) || (any && at)) ≡ ((here || any) && at)
at-step true other at any same = rw (same refl) (elim at as (λ b. (b || (any && b)) ≡ b) [ true ↦ refl | false ↦ and-none any ])
at-step false other at any same = refl

-- of a list of numbers, the one that is a number's own
any-at : (a : ℕ) (p : ℕ → Bool) (xs : List ℕ) → list_any (λ x. (x == a) && p x) xs ≡ (list_any (λ x. x == a) xs && p a)
any-at a p [] = refl
any-at a p (x ∷ xs) = ap (λ rest. ((x == a) && p x) || rest) (any-at a p xs) ∙ at-step (x == a) (p x) (p a) (list_any (λ x. x == a) xs) (λ same. ap p (eqb-true x a same))

-- Places, of the rows that each cluster has.

module _ (rows_of : ℕ → List AttributeRow) where
  abbrev of_cluster : ℕ → ℕ → List Place
  of_cluster endpoint cluster = map (place_of endpoint cluster) (rows_of cluster)

  abbrev of_endpoint : ℕ → List Place
  of_endpoint endpoint = flat_map (of_cluster endpoint) (clusters_of endpoint)

  -- whether the cluster has the place's row
  has_row : Place → ℕ → Bool
  has_row place cluster = list_any (λ (row : AttributeRow). row.number == place.leaf) (rows_of cluster)

  in-cluster : (place : Place) (endpoint cluster : ℕ) → list_any (is_at place) (of_cluster endpoint cluster) ≡ (endpoint == place.endpoint && (cluster == place.cluster && has_row place cluster))
  unfolding has_row
  in-cluster place endpoint cluster =
      any-map (is_at place) (place_of endpoint cluster) (rows_of cluster)
      ∙ any-and (endpoint == place.endpoint) (λ (row : AttributeRow). cluster == place.cluster && row.number == place.leaf) (rows_of cluster)
      ∙ ap (λ rest. endpoint == place.endpoint && rest) (any-and (cluster == place.cluster) (λ (row : AttributeRow). row.number == place.leaf) (rows_of cluster))

  in-endpoint : (place : Place) (endpoint : ℕ) → list_any (is_at place) (of_endpoint endpoint) ≡ (endpoint == place.endpoint && (has_cluster endpoint place.cluster && has_row place place.cluster))
  in-endpoint place endpoint =
      any-flat_map (is_at place) (of_cluster endpoint) (clusters_of endpoint)
      ∙ any-ext (λ cluster. list_any (is_at place) (of_cluster endpoint cluster)) (λ cluster. endpoint == place.endpoint && (cluster == place.cluster && has_row place cluster)) (in-cluster place endpoint) (clusters_of endpoint)
      ∙ any-and (endpoint == place.endpoint) (λ cluster. cluster == place.cluster && has_row place cluster) (clusters_of endpoint)
      ∙ ap (λ rest. endpoint == place.endpoint && rest) (any-at place.cluster (has_row place) (clusters_of endpoint))

  in-all : (place : Place) → list_any (is_at place) (flat_map of_endpoint endpoints) ≡ (is_endpoint place.endpoint && (has_cluster place.endpoint place.cluster && has_row place place.cluster))
  in-all place =
      any-flat_map (is_at place) of_endpoint endpoints
      ∙ any-ext (λ endpoint. list_any (is_at place) (of_endpoint endpoint)) (λ endpoint. endpoint == place.endpoint && (has_cluster endpoint place.cluster && has_row place place.cluster)) (in-endpoint place) endpoints
      ∙ any-at place.endpoint (λ endpoint. has_cluster endpoint place.cluster && has_row place place.cluster) endpoints

is_some-find : {X : Type 0} (p : X → Bool) (xs : List X) → is_some (find p xs) ≡ list_any p xs
is_some-find p [] = refl
is_some-find p (x ∷ xs) = elim (p x) as (λ b. is_some (if b then Some x else find p xs) ≡ (b || list_any p xs)) [ true ↦ refl | false ↦ is_some-find p xs ]

is_some-map : {X Y : Type 0} (f : X → Y) (o : Option X) → is_some (option_map f o) ≡ is_some o
is_some-map f None = refl
is_some-map f (Some x) = refl

is_ok-ok_or : {X : Type 0} (o : Option X) (status : Status) → is_ok (ok_or o status) ≡ is_some o
is_ok-ok_or None status = refl
is_ok-ok_or (Some x) status = refl

found-step : {X : Type 0} (a b : Bool) (row : Option X) (no_endpoint no_cluster no_row : Status) → is_ok (found (if not a then Some no_endpoint else if not b then Some no_cluster else None) row no_row) ≡ (a && (b && is_some row))
found-step false b row no_endpoint no_cluster no_row = refl
found-step true false row no_endpoint no_cluster no_row = refl
found-step true true row no_endpoint no_cluster no_row = is_ok-ok_or row no_row

module _ (rows_of : ℕ → List AttributeRow) (place : Place) where
  abbrev meta_there : Option Meta
  meta_there = option_map (λ (row : AttributeRow). row.meta) (find (λ row. row.number == place.leaf) (rows_of place.cluster))

  has_row-meta : is_some meta_there ≡ has_row rows_of place place.cluster
  unfolding has_row
  has_row-meta = let rows = rows_of place.cluster in is_some-map (λ (row : AttributeRow). row.meta) (find (λ row. row.number == place.leaf) rows) ∙ is_some-find (λ (row : AttributeRow). row.number == place.leaf) rows

  listed : is_ok (found (missing_of place) meta_there UnsupportedAttribute) ≡ list_any (is_at place) (flat_map (of_endpoint rows_of) endpoints)
  listed =
      found-step (is_endpoint place.endpoint) (has_cluster place.endpoint place.cluster) meta_there UnsupportedEndpoint UnsupportedCluster UnsupportedAttribute
      ∙ ap (λ there. is_endpoint place.endpoint && (has_cluster place.endpoint place.cluster && there)) has_row-meta
      ∙ sym (in-all rows_of place)

pub found-listed : (place : Place) → is_ok (find_of place) ≡ list_any (is_at place) all_places
found-listed place = listed all_attributes_of place

pub data-listed : (place : Place) → is_ok (find_data_of place) ≡ list_any (is_at place) data_places
data-listed place = listed all_data_of place

-- what is known of an attribute is known of the data of its place

known-on : (missing : Option Status) (rows others : List AttributeRow) (leaf : ℕ) (meta : Meta)
    → found missing (option_map (λ (row : AttributeRow). row.meta) (find (λ (row : AttributeRow). row.number == leaf) rows)) UnsupportedAttribute ≡ Ok meta
    → found missing (option_map (λ (row : AttributeRow). row.meta) (find (λ (row : AttributeRow). row.number == leaf) (rows ++ others))) UnsupportedAttribute ≡ Ok meta
known-on (Some status) rows others leaf meta is = is
known-on None [] others leaf meta is = absurd (cc)
known-on None (row ∷ rows) others leaf meta is = elim (cases_Bool (row.number == leaf)) [
  | inl this ↦ rw this (sym (rw this refl) ∙ is)
  | inr other ↦ rw other (known-on None rows others leaf meta (sym (rw other refl) ∙ is))
]

pub data-known : (place : Place) (meta : Meta) → find_of place ≡ Ok meta → find_data_of place ≡ Ok meta
data-known place meta is = known-on (missing_of place) (all_attributes_of place.cluster) (hidden_of place.cluster) place.leaf meta is

-- each place is found

is_at-self : (place : Place) → is_at place place ≡ true
is_at-self place = rw (eq-eqb place.endpoint place.endpoint refl, eq-eqb place.cluster place.cluster refl, eq-eqb place.leaf place.leaf refl) refl

all-found : All (λ place. is_ok (find_of place) ≡ true) all_places
all-found = λ k d within.
    let place = get_or all_places k d in
    found-listed place ∙ list_any_at (is_at place) all_places k d within (is_at-self place)

pub named-found : (path : Path) → All (λ place. is_ok (find_of place) ≡ true) (places path)
named-found path = All-filter (is_named path) (λ place. is_ok (find_of place) ≡ true) all_places all-found
