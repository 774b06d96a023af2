-- Links of a chain: the newest of some, and what follows a link.
use Rattle.std.proofs.Common.{◌≡◌, ℕ, zero, suc, ◌<◌, ◌≤◌, ◌⊎◌, inl, inr, ◌==◌, Bool, true, false, List, [], ◌∷◌, length, filter, refl, sym, ap, subst, ◌∙◌, arith}
use Rattle.std.specs.Prelude.{slice_index_or}
use Rattle.std.specs.List.{Contains}
use Rattle.std.proofs.lemmas.Bool.{cases_lt, eq-eqb}
use Rattle.std.proofs.lemmas.Bool.Decides.{nat_tests}
use Rattle.std.proofs.lemmas.List.Elements.{All-cons, All-contains, All-contains_itself, All-filter, All-nil, All-weaker, filter_passes}
use Rattle.region_view.specs.Sizes.{Sizes}
use Rattle.embedded_log.specs.Chains.{IsChain, IsNewest, Linked, links_in}

-- an element of a list is its first or one of the others
pub contains_cases : {X : Type 0} (x y : X) (ys : List X) → Contains (y ∷ ys) x → (y ≡ x) ⊎ Contains ys x
contains_cases x y ys has = at has.0 has.1 has.2
  where
    at : (k : ℕ) → k < length (y ∷ ys) → slice_index_or (y ∷ ys) k x ≡ x → (y ≡ x) ⊎ Contains ys x
    at zero below is = inl is
    at (suc k) below is = inr (k, omega (arith, below), is)

pub contains_first : {X : Type 0} (x : X) (xs : List X) → Contains (x ∷ xs) x
contains_first x xs = (0, omega arith, refl)

pub contains_later : {X : Type 0} (x y : X) (ys : List X) → Contains ys x → Contains (y ∷ ys) x
contains_later x y ys has = (suc has.0, omega (arith, has.1), has.2)

-- an element that passes a test is kept
pub contains_filtered : {X : Type 0} (p : X → Bool) (xs : List X) (x : X) → Contains xs x → p x ≡ true → Contains (filter p xs) x
contains_filtered p [] x has passes = absurd (omega (arith, has.1))
contains_filtered p (y ∷ ys) x has passes = elim (contains_cases x y ys has) [
  | inl is ↦ let first : p y ≡ true = ap p is ∙ passes in rw first (0, omega arith, is)
  | inr later ↦ by (p y) refl (contains_filtered p ys x later passes)
]
  where
    by : (t : Bool) → p y ≡ t → Contains (filter p ys) x → Contains (filter p (y ∷ ys)) x
    by true is rest = rw is (contains_later x y (filter p ys) rest)
    by false is rest = rw is rest

-- of some links there is a newest
pub newest_of : (link : Linked) (links : List Linked) → (newest : Linked) × IsNewest (link ∷ links) newest
newest_of link [] = (link, record { is = contains_first link []; most = All-cons (λ other. other.call ≤ link.call) link [] (omega arith) (All-nil (λ other. other.call ≤ link.call)) })
newest_of link (other ∷ links) = by (newest_of other links)
  where
    by : ((newest : Linked) × IsNewest (other ∷ links) newest) → (newest : Linked) × IsNewest (link ∷ other ∷ links) newest
    by (newest, is) = elim (cases_lt newest.call link.call) [
      | inl higher ↦ (
        link,
        record {
          is = contains_first link (other ∷ links);
          most = All-cons (λ l. l.call ≤ link.call) link (other ∷ links) (omega arith) (All-weaker (λ l. l.call ≤ newest.call) (λ l. l.call ≤ link.call) (λ l below. omega (arith, below, higher)) (other ∷ links) is.most);
        },
      )
      | inr lower ↦ (newest, record { is = contains_later newest link (other ∷ links) is.is; most = All-cons (λ l. l.call ≤ newest.call) link (other ∷ links) lower is.most })
    ]

-- the links that were made in an object: there is none, or a newest
pub newest_or_none : (links : List Linked) → (links ≡ []) ⊎ ((newest : Linked) × IsNewest links newest)
newest_or_none [] = inl refl
newest_or_none (link ∷ links) = inr (newest_of link links)

-- each is one of all, in that object
pub in_object : (pointer : ℕ) (links : List Linked) (link : Linked) → Contains (links_in pointer links) link → Contains links link × (link.object ≡ pointer)
in_object pointer links link has =
    let is : Linked → Bool = λ l. l.object == pointer in
    let passes : is link ≡ true = All-contains (λ l. is l ≡ true) (links_in pointer links) link (filter_passes is links) has in
    (All-contains (Contains links) (links_in pointer links) link (All-filter is (Contains links) links (All-contains_itself links)) has, grind (arith, nat_tests))

pub of_object : (pointer : ℕ) (links : List Linked) (link : Linked) → Contains links link → link.object ≡ pointer → Contains (links_in pointer links) link
of_object pointer links link has is = contains_filtered (λ l. l.object == pointer) links link has (eq-eqb _ _ is)

-- what follows a link of a chain: a chain of fewer links, and each link before is of an earlier call
pub record Follows (sizes : Sizes) (class call : ℕ) (links : List Linked) (link : Linked) (rest : List Linked) : Type 0 where
  pub later : call < link.call
  pub limit : link.call ≤ sizes.calls
  pub chain : IsChain sizes class link.call link.next rest
  pub fewer : length rest < length links
  pub each : (other : Linked) → Contains links other → Contains rest other ⊎ (other.call < link.call) ⊎ (other ≡ link)
  pub within : (other : Linked) → Contains rest other → Contains links other

pub following : (sizes : Sizes) (class call pointer : ℕ) (links : List Linked) (link : Linked) → IsChain sizes class call pointer links → Contains links link → (rest : List Linked) × Follows sizes class call links link rest
following sizes class call pointer [] link chain has = absurd (omega (arith, has.1))
following sizes class call pointer (first ∷ links) link chain has = elim (contains_cases link first links has) [
  | inl is ↦ (
    links,
    subst (λ l. Follows sizes class call (first ∷ links) l links) is (record {
      later = chain.0;
      limit = chain.1;
      chain = chain.4;
      fewer = omega arith;
      each = λ other has. elim (contains_cases other first links has) [ inl same ↦ inr (inr (sym same)) | inr later ↦ inl later ];
      within = λ other has. contains_later other first links has;
    }),
  )
  | inr later ↦ by (following sizes class first.call first.next links link chain.4 later)
]
  where
    by : ((rest : List Linked) × Follows sizes class first.call links link rest) → (rest : List Linked) × Follows sizes class call (first ∷ links) link rest
    by (rest, follows) = (
      rest,
      record {
        later = omega (arith, chain.0, follows.later);
        limit = follows.limit;
        chain = follows.chain;
        fewer = omega (arith, follows.fewer);
        each = λ other has. elim (contains_cases other first links has) [
          | inl same ↦ inr (inl (omega (arith, ap (λ (l : Linked). l.call) same, follows.later)))
          | inr later ↦ follows.each other later
        ];
        within = λ other has. contains_later other first links (follows.within other has);
      },
    )
