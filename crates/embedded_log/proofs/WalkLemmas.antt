-- A walk over a memory that has a client's links ends with the newest link.
use Rattle.std.proofs.Common.{◌≡◌, ◌≢◌, ℕ, zero, suc, ◌+◌, ◌<◌, ◌≤◌, ◌⊎◌, inl, inr, ◌==◌, true, false, if◌then◌else◌, List, [], ◌∷◌, length, Option, Some, None, IfSome, refl, sym, ap, subst, ◌∙◌, arith}
use Rattle.std.specs.List.{Contains}
use Rattle.std.specs.Option.{option_map_or}
use Rattle.std.proofs.lemmas.Bool.Decides.{nat_tests}
use Rattle.std.proofs.lemmas.List.Elements.{All-contains}
use Rattle.machine.specs.declared.link_walk.Walked.{Walked}
use Rattle.machine.specs.declared.link_walk.Walked.TheVariants.{End}
use Rattle.machine.specs.LinkWalk.{AtHead, AtObject, IsPointer, LinkWalk, Phase, is_newer, last_call, link_walk_of, newer_link, reaches}
use Rattle.machine.specs.ObjectNames.{names_object}
use Rattle.machine.proofs.ObjectNamesLemmas.{names_object-says}
use Rattle.object_form.proofs.LinkLemmas.{call-word_of_link, client-word_of_link, next-word_of_link, link_ext}
use Rattle.object_form.specs.declared.links.Link.{Link}
use Rattle.object_form.specs.Link.{IsLink, IsNext, is_link, link_fields, link_in, word_of_link}
use Rattle.region_view.specs.Placed.{Viewed}
use Rattle.region_view.specs.Sizes.{IsWithinLimits, Sizes}
use Rattle.verb_words.specs.declared.verbs.Place.{Place}
use Rattle.embedded_log.proofs.ChainLemmas.{Follows, contains_first, following, in_object, newest_or_none, of_object}
use Rattle.embedded_log.specs.Chains.{HasLinks, IsChain, IsNewest, Linked, SaysNone, head_word, link_word, links_in, named, or_later, walk_over}

-- a link's word says it
link_in-of : (link : Link) → IsLink link → link_in (word_of_link link) ≡ Some link
unfolding link_in
link_in-of link is =
    let same : link_fields (word_of_link link) ≡ link = link_ext (link_fields (word_of_link link)) link (client-word_of_link link is) (call-word_of_link link is) (next-word_of_link link is) in
    let says : is_link link ≡ true = grind (arith, nat_tests, is.client, is.call, is.next) in
    subst (λ l. (if is_link l then Some l else None) ≡ Some link) (sym same) (rw says refl)

-- a pointer to an object is not 0, and 0 names none
pointer-some : (sizes : Sizes) (class pointer : ℕ) → IsPointer sizes class pointer → 0 < pointer
pointer-some sizes class pointer is = let says = (names_object-says sizes class pointer is.named).region in omega (arith, says.0)

zero-none : (sizes : Sizes) (class : ℕ) → names_object sizes class 0 ≡ false
unfolding names_object
zero-none sizes class = refl

named-some : (pointer : ℕ) → 0 < pointer → named pointer ≡ Some pointer
named-some pointer some = let other : (pointer == 0) ≡ false = grind (arith, nat_tests) in rw other refl

-- the next of a chain is a pointer of a link
chain-next : (sizes : Sizes) (class call pointer : ℕ) (links : List Linked) → IsWithinLimits sizes → IsChain sizes class call pointer links → IsNext pointer
chain-next sizes class call pointer [] limits (inl none) = inl none
chain-next sizes class call pointer [] limits (inr is) = next-of sizes class pointer limits is
  where
    next-of : (sizes : Sizes) (class pointer : ℕ) → IsWithinLimits sizes → IsPointer sizes class pointer → IsNext pointer
    next-of sizes class pointer limits is = let says = (names_object-says sizes class pointer is.named).region in inr (says.0, omega (arith, says.1, limits.regions))
chain-next sizes class call pointer (link ∷ links) limits chain = let says = (names_object-says sizes class pointer chain.3.named).region in inr (says.0, omega (arith, says.1, limits.regions))

abbrev walk_at : Viewed → ℕ → ℕ → Option (ℕ × ℕ) → Phase → LinkWalk
walk_at view client class last phase = record { view = view; client = client; class = class; last = last; phase = phase }

-- a walk that comes to a pointer, and then over a memory
abbrev reach_over : (Place → ℕ) → ℕ → LinkWalk → ℕ → Walked
reach_over words verbs walk pointer = or_later (reaches walk pointer).told (walk_over words verbs (reaches walk pointer).state)

reach-named : (words : Place → ℕ) (verbs : ℕ) (walk : LinkWalk) (pointer : ℕ) → names_object walk.view.shape walk.class pointer ≡ true
    → reach_over words verbs walk pointer ≡ walk_over words verbs (record walk { phase = AtObject pointer })
reach-named words verbs walk pointer is = rw is refl

reach-none : (words : Place → ℕ) (verbs : ℕ) (walk : LinkWalk) (pointer : ℕ) → names_object walk.view.shape walk.class pointer ≡ false
    → reach_over words verbs walk pointer ≡ End walk.last None
reach-none words verbs walk pointer is = rw is refl

-- at an object: the walk follows a newer link, and ends where there is none
follow-newer : (words : Place → ℕ) (verbs : ℕ) (view : Viewed) (client class : ℕ) (last : Option (ℕ × ℕ)) (pointer : ℕ) (link : Link) → newer_link (walk_at view client class last (AtObject pointer)) (link_word words view pointer) ≡ Some link
    → walk_over words (suc verbs) (walk_at view client class last (AtObject pointer)) ≡ reach_over words verbs (walk_at view client class (Some (pointer, link.call)) (AtObject pointer)) link.next
follow-newer words verbs view client class last pointer link is = rw is refl

end-at : (words : Place → ℕ) (verbs : ℕ) (view : Viewed) (client class : ℕ) (last : Option (ℕ × ℕ)) (pointer : ℕ) → newer_link (walk_at view client class last (AtObject pointer)) (link_word words view pointer) ≡ None
    → walk_over words (suc verbs) (walk_at view client class last (AtObject pointer)) ≡ End last (Some pointer)
end-at words verbs view client class last pointer is = rw is refl

-- a link of a later call is newer, one of an earlier call is not, nor is another client's
newer-later : (walk : LinkWalk) (word : ℕ) (link : Link) → link_in word ≡ Some link → link.client ≡ walk.client → last_call walk < link.call → newer_link walk word ≡ Some link
newer-later walk word link says own later =
    let is : is_newer walk link ≡ true = grind (arith, nat_tests) in
    rw (says, is) refl

newer-earlier : (walk : LinkWalk) (word : ℕ) (link : Link) → link_in word ≡ Some link → link.call ≤ last_call walk → newer_link walk word ≡ None
newer-earlier walk word link says earlier =
    let is : is_newer walk link ≡ false = grind (arith, nat_tests) in
    rw (says, is) refl

newer-none : (walk : LinkWalk) (word : ℕ) → SaysNone walk.client word → newer_link walk word ≡ None
newer-none walk word none = by (link_in word) refl
  where
    by : (link : Option Link) → link_in word ≡ link → newer_link walk word ≡ None
    by None says = rw says refl
    by (Some link) says =
        let other : link.client ≢ walk.client = let P : Option Link → Type 0 = λ l. IfSome l (λ link. link.client ≢ walk.client) in subst P says none in
        let is : is_newer walk link ≡ false = grind (arith, nat_tests) in
        rw (says, is) refl

abbrev call_of : Option (ℕ × ℕ) → ℕ
call_of last = option_map_or (λ last. last.1) last 0

-- of all links, those that the walk has not passed are the rest
record IsAhead (links : List Linked) (call : ℕ) (rest : List Linked) : Type 0 where
  pub each : (link : Linked) → Contains links link → (link.call ≤ call) ⊎ Contains rest link
  pub within : (link : Linked) → Contains rest link → Contains links link

-- the newest link is ahead, or it is the last that the walk has followed
abbrev IsDue : Linked → List Linked → Option (ℕ × ℕ) → ℕ → Type 0
IsDue newest rest last pointer = Contains rest newest ⊎ ((last ≡ Some (newest.object, newest.call)) × (newest.next ≡ pointer))

-- what all lemmas on one walk stand on
record IsSet (words : Place → ℕ) (view : Viewed) (client class : ℕ) (links : List Linked) : Type 0 where
  pub limits : IsWithinLimits view.shape
  pub has : HasLinks words view client class links

-- the newest link of an object stands in its word
link_of_word : (words : Place → ℕ) (view : Viewed) (client class : ℕ) (links : List Linked) (pointer : ℕ) (link : Linked) → IsSet words view client class links → IsNewest (links_in pointer links) link
    → link_in (link_word words view pointer) ≡ Some (record { client = client; call = link.call; next = link.next })
link_of_word words view client class links pointer link is newest =
    by (following view.shape class 0 (head_word words client class) links link is.has.chain (in_object pointer links link newest.is).0)
  where
    by : ((rest : List Linked) × Follows view.shape class 0 links link rest) → link_in (link_word words view pointer) ≡ Some (record { client = client; call = link.call; next = link.next })
    by (rest, follows) =
        let few = is.has.few in
        let limits = is.limits in
        let fields : IsLink (record { client = client; call = link.call; next = link.next }) = record {
          client = (few.0, omega (arith, few.1, limits.clients));
          call = (omega (arith, follows.later), omega (arith, follows.limit, limits.calls));
          next = chain-next view.shape class link.call link.next rest limits follows.chain;
        } in
        ap link_in (is.has.newest pointer link newest) ∙ link_in-of (record { client = client; call = link.call; next = link.next }) fields

-- where no link is ahead, an object has no newer one
none-newer : (words : Place → ℕ) (view : Viewed) (client class : ℕ) (links : List Linked) (last : Option (ℕ × ℕ)) (pointer : ℕ) → IsSet words view client class links → IsPointer view.shape class pointer
    → IsAhead links (call_of last) [] → newer_link (walk_at view client class last (AtObject pointer)) (link_word words view pointer) ≡ None
none-newer words view client class links last pointer is object ahead = elim (newest_or_none (links_in pointer links)) [
  | inl none ↦ newer-none (walk_at view client class last (AtObject pointer)) (link_word words view pointer) (is.has.none pointer object none)
  | inr some ↦ by some
]
  where
    by : ((link : Linked) × IsNewest (links_in pointer links) link) → newer_link (walk_at view client class last (AtObject pointer)) (link_word words view pointer) ≡ None
    by (link, newest) =
        let below : link.call ≤ call_of last = elim (ahead.each link (in_object pointer links link newest.is).0) [ inl low ↦ low | inr has ↦ absurd (omega (arith, has.1)) ] in
        newer-earlier (walk_at view client class last (AtObject pointer)) (link_word words view pointer) (record { client = client; call = link.call; next = link.next }) (link_of_word words view client class links pointer link is newest) below

-- a walk that comes to this pointer tells the newest link at its end
abbrev Tells : (Place → ℕ) → ℕ → Viewed → ℕ → ℕ → Option (ℕ × ℕ) → Phase → ℕ → Linked → Type 0
Tells words verbs view client class last phase pointer newest =
    reach_over words verbs (walk_at view client class last phase) pointer ≡ End (Some (newest.object, newest.call)) (named newest.next)

-- it does, where no link is ahead
tells-last : (words : Place → ℕ) (view : Viewed) (client class : ℕ) (links : List Linked) (newest : Linked) (verbs : ℕ) (last : Option (ℕ × ℕ)) (phase : Phase) (pointer : ℕ) → IsSet words view client class links
    → IsChain view.shape class (call_of last) pointer [] → IsAhead links (call_of last) [] → last ≡ Some (newest.object, newest.call) → newest.next ≡ pointer → Tells words (suc verbs) view client class last phase pointer newest
tells-last words view client class links newest verbs last phase pointer is chain ahead is_last is_next = elim chain [
  | inl none ↦
      let unnamed : names_object view.shape class pointer ≡ false = ap (names_object view.shape class) none ∙ zero-none view.shape class in
      reach-none words (suc verbs) (walk_at view client class last phase) pointer unnamed
      ∙ ap (λ l. End l None) is_last ∙ ap (End (Some (newest.object, newest.call))) (sym (ap named (is_next ∙ none)))
  | inr object ↦
      reach-named words (suc verbs) (walk_at view client class last phase) pointer object.named
      ∙ end-at words verbs view client class last pointer (none-newer words view client class links last pointer is object ahead)
      ∙ ap (λ l. End l (Some pointer)) is_last
      ∙ ap (End (Some (newest.object, newest.call))) (sym (ap named is_next ∙ named-some pointer (pointer-some view.shape class pointer object)))
]

-- it does, whatever links are ahead
abbrev TellsAll : (Place → ℕ) → Viewed → ℕ → ℕ → List Linked → Linked → ℕ → Type 0
TellsAll words view client class links newest verbs =
    (rest : List Linked) (last : Option (ℕ × ℕ)) (phase : Phase) (pointer : ℕ) → length rest < verbs → IsChain view.shape class (call_of last) pointer rest
    → IsAhead links (call_of last) rest → IsDue newest rest last pointer → Tells words verbs view client class last phase pointer newest

-- after the newest link of an object, those of later calls are ahead
passed-ahead : (sizes : Sizes) (class call : ℕ) (links before rest : List Linked) (link : Linked) → IsAhead links call before → Follows sizes class call before link rest → IsAhead links link.call rest
passed-ahead sizes class call links before rest link ahead follows = record {
  each = λ other has. elim (ahead.each other has) [
    | inl low ↦ inl (omega (arith, low, follows.later))
    | inr is ↦ elim (follows.each other is) [
      | inl later ↦ inr later
      | inr or ↦ elim or [ inl lower ↦ inl (omega (arith, lower)) | inr same ↦ inl (omega (arith, ap (λ (l : Linked). l.call) same)) ]
    ]
  ];
  within = λ other has. ahead.within other (follows.within other has);
}

-- and the newest of all is ahead, or it is this one
passed-due : (sizes : Sizes) (class : ℕ) (links before rest : List Linked) (newest link : Linked) (last : Option (ℕ × ℕ)) (pointer : ℕ) → IsNewest links newest → Contains links link → link.object ≡ pointer
    → Follows sizes class (call_of last) before link rest → IsDue newest before last pointer → IsDue newest rest (Some (pointer, link.call)) link.next
passed-due sizes class links before rest newest link last pointer most is here follows due = elim due [
  | inl has ↦ elim (follows.each newest has) [
    | inl later ↦ inl later
    | inr or ↦ elim or [
      | inl lower ↦ absurd (omega (arith, lower, below))
      | inr same ↦ inr (ap (λ p. Some (p, link.call)) (sym here) ∙ ap (λ (l : Linked). Some (l.object, l.call)) (sym same), ap (λ (l : Linked). l.next) same)
    ]
  ]
  | inr both ↦ absurd (omega (arith, ap call_of both.0, follows.later, below))
]
  where
    below : link.call ≤ newest.call
    below = All-contains (λ l. l.call ≤ newest.call) links link most.most is

-- one link further
passes : (words : Place → ℕ) (view : Viewed) (client class : ℕ) (links : List Linked) (newest : Linked) (verbs : ℕ) (first : Linked) (rest : List Linked) (last : Option (ℕ × ℕ)) (phase : Phase) (pointer : ℕ) → IsSet words view client class links
    → IsNewest links newest → TellsAll words view client class links newest verbs → length (first ∷ rest) < suc verbs → IsChain view.shape class (call_of last) pointer (first ∷ rest) → IsAhead links (call_of last) (first ∷ rest)
    → IsDue newest (first ∷ rest) last pointer → (link : Linked) → IsNewest (links_in pointer links) link → Tells words (suc verbs) view client class last phase pointer newest
passes words view client class links newest verbs first rest last phase pointer is most tells few chain ahead due link greatest =
    by (following view.shape class (call_of last) pointer (first ∷ rest) link chain has)
  where
    here : Contains links link × (link.object ≡ pointer)
    here = in_object pointer links link greatest.is

    least : first.call ≤ link.call
    least = All-contains (λ l. l.call ≤ link.call) (links_in pointer links) first greatest.most (of_object pointer links first (ahead.within first (contains_first first rest)) chain.2)

    has : Contains (first ∷ rest) link
    has = elim (ahead.each link here.0) [ inl low ↦ absurd (omega (arith, low, least, chain.0)) | inr ahead ↦ ahead ]

    by : ((after : List Linked) × Follows view.shape class (call_of last) (first ∷ rest) link after) → Tells words (suc verbs) view client class last phase pointer newest
    by (after, follows) =
        let walk : LinkWalk = walk_at view client class last (AtObject pointer) in
        let fields : Link = record { client = client; call = link.call; next = link.next } in
        let newer : newer_link walk (link_word words view pointer) ≡ Some fields =
        newer-later walk (link_word words view pointer) fields (link_of_word words view client class links pointer link is greatest) refl follows.later in
        reach-named words (suc verbs) (walk_at view client class last phase) pointer chain.3.named
        ∙ follow-newer words verbs view client class last pointer fields newer
        ∙ tells after (Some (pointer, link.call)) (AtObject pointer) link.next (omega (arith, few, follows.fewer)) follows.chain
        (passed-ahead view.shape class (call_of last) links (first ∷ rest) after link ahead follows)
        (passed-due view.shape class links (first ∷ rest) after newest link last pointer most here.0 here.1 follows due)

step : (words : Place → ℕ) (view : Viewed) (client class : ℕ) (links : List Linked) (newest : Linked) (verbs : ℕ) → IsSet words view client class links → IsNewest links newest → TellsAll words view client class links newest verbs
    → TellsAll words view client class links newest (suc verbs)
step words view client class links newest verbs is most tells [] last phase pointer few chain ahead due = elim due [
  | inl has ↦ absurd (omega (arith, has.1))
  | inr both ↦ tells-last words view client class links newest verbs last phase pointer is chain ahead both.0 both.1
]
step words view client class links newest verbs is most tells (first ∷ rest) last phase pointer few chain ahead due = elim (newest_or_none (links_in pointer links)) [
  | inl none ↦
      let has = subst (λ l. Contains l first) none (of_object pointer links first (ahead.within first (contains_first first rest)) chain.2) in
      absurd (omega (arith, has.1))
  | inr some ↦ passes words view client class links newest verbs first rest last phase pointer is most tells few chain ahead due some.0 some.1
]

tells-all : (words : Place → ℕ) (view : Viewed) (client class : ℕ) (links : List Linked) (newest : Linked) (verbs : ℕ) → IsSet words view client class links → IsNewest links newest → TellsAll words view client class links newest verbs
tells-all words view client class links newest zero is most = λ rest last phase pointer few chain ahead due. absurd (omega (arith, few))
tells-all words view client class links newest (suc verbs) is most = step words view client class links newest verbs is most (tells-all words view client class links newest verbs is most)

pub linked-end : (words : Place → ℕ) (view : Viewed) (client class : ℕ) (links : List Linked) (newest : Linked) → IsWithinLimits view.shape → HasLinks words view client class links → IsNewest links newest
    → walk_over words (length links + 2) (link_walk_of view client class) ≡ End (Some (newest.object, newest.call)) (named newest.next)
linked-end words view client class links newest limits has most =
    let verbs : suc (length links + 1) ≡ length links + 2 = omega arith in
    let P : ℕ → Type 0 = λ n. walk_over words n (link_walk_of view client class) ≡ End (Some (newest.object, newest.call)) (named newest.next) in
    let tells : P (suc (length links + 1)) =
    tells-all words view client class links newest (length links + 1) (record { limits = limits; has = has }) most links None AtHead (head_word words client class) (omega arith) has.chain
    (record { each = λ link is. inr is; within = λ link is. is }) (inl most.is) in
    subst P verbs tells

pub unlinked-end : (words : Place → ℕ) (view : Viewed) (client class : ℕ) → IsWithinLimits view.shape → HasLinks words view client class []
    → walk_over words 2 (link_walk_of view client class) ≡ End None (named (head_word words client class))
unlinked-end words view client class limits has = elim has.chain [
  | inl none ↦
      let unnamed : names_object view.shape class (head_word words client class) ≡ false = ap (names_object view.shape class) none ∙ zero-none view.shape class in
      reach-none words 1 (walk_at view client class None AtHead) (head_word words client class) unnamed ∙ ap (End None) (sym (ap named none))
  | inr object ↦
      reach-named words 1 (walk_at view client class None AtHead) (head_word words client class) object.named
      ∙ end-at words 0 view client class None (head_word words client class)
      (none-newer words view client class [] None (head_word words client class) (record { limits = limits; has = has }) object (record { each = λ link is. absurd (omega (arith, is.1)); within = λ link is. is }))
      ∙ ap (End None) (sym (named-some (head_word words client class) (pointer-some view.shape class (head_word words client class) object)))
]
