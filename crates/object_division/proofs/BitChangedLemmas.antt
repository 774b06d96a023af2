-- A verb of a clearing or of a setting leaves the bits of each object as its use, and its clearing, say.
use Rattle.std.proofs.Common.{◌≡◌, ◌≢◌, ℕ, Bool, true, false, List, refl, sym, ◌∙◌, ap, subst}
use Rattle.machine.specs.declared.bit_change.Changed.{Changed}
use Rattle.machine.specs.declared.bit_change.Changed.TheVariants as changed
use Rattle.machine.specs.BitChange as bits
use Rattle.machine.specs.BitChange.{BitChange, IsBitChange}
use Rattle.machine.specs.ObjectNames.{IsObject, Object}
use Rattle.machine.specs.Turn.{Turn}
use Rattle.object_bits.specs.Claims.{AreAll}
use Rattle.reuse_grace.proofs.Soundness.{at_updated}
use Rattle.reuse_grace.specs.Stock.{updated}
use Rattle.verb_words.specs.Applied.{words_after}
use Rattle.object_division.specs.Client.{Cleared, Clearing, Client, Given, Named, NotClearing, Returning, Taken, Under, Untaken, Use}
use Rattle.object_division.specs.Run.{State, answered, cleared_next, clearing_after, object_of, returned_next, use_after_clearing, use_after_setting, with_use}
use Rattle.object_division.specs.Seen.{HasComeStraight, IsChangeOf, IsStraight, bits_of, seen, seen_told}
use Rattle.object_division.proofs.BitmapLemmas.{SmallBitmaps}
use Rattle.object_division.proofs.CallLemmas.{AllInCalls}
use Rattle.object_division.proofs.ChangeOfLemmas.{AreOf, ClearingIsOf, UseIsOf}
use Rattle.object_division.proofs.ClassLemmas.{HasClass, HasOpen, UsesHaveClass}
use Rattle.object_division.proofs.ClearerLemmas.{two_clearers}
use Rattle.object_division.proofs.InOrder.{AreBitsOf, ClearsWell, HasBits, IsBeingCleared, at_use}
use Rattle.object_division.proofs.OwnerLemmas.{HasClass-owned, HasOpen-change, HasOpen-class, change_goes, cleared_object, cleared_owned, clearer_active, others_stay}
use Rattle.object_division.proofs.Soundness.{IsSoundUse}
use Rattle.object_division.proofs.UntakenBlockLemmas.{IsKept}

-- what is needed of a state, besides
pub record IsChanging (state : State) : Type 0 where
  pub kept : IsKept state
  pub of_objects : AreOf state.clients state.uses
  pub calls : AllInCalls state
  pub small : SmallBitmaps state.view state.words

-- ---- the other objects

abbrev words_with : State → BitChange → List (List ℕ)
words_with state change = words_after state.words (bits.next change) false

-- their bits stay
abbrev BitsStay : State → List (List ℕ) → Object → Type 0
BitsStay state new object =
    (other : Object) → IsObject state.view.shape other → HasOpen state.view state.words other → other ≢ object
    → bits_of state.view new other ≡ bits_of state.view state.words other

bits_stay : (state : State) (object : Object) (change : BitChange) (set : Bool) → IsChanging state
    → IsBitChange state.view change → IsChangeOf change object set
    → IsStraight (bits_of state.view state.words object) (seen change) → HasClass state.view state.words object
    → BitsStay state (words_with state change) object
bits_stay state object change set changing is of_object straight granted other is_object open_to differs =
    let same = sym of_object.object_is in
    others_stay state change changing.kept.sound changing.small is
    (subst (λ o. IsStraight (bits_of state.view state.words o) (seen change)) same straight)
    (subst (λ o. HasClass state.view state.words o) same granted) other is_object open_to
    (λ is_same. differs (is_same ∙ of_object.object_is))

used_stays : (state : State) (new : List (List ℕ)) (object other : Object) (use_of : Use) → BitsStay state new object
    → IsSoundUse state.view other use_of → (use_of ≢ Untaken → HasOpen state.view state.words other) → other ≢ object
    → AreBitsOf (bits_of state.view state.words other) use_of → AreBitsOf (bits_of state.view new other) use_of
used_stays state new object other Untaken stay sound has differs is = tt
used_stays state new object other (Taken client) stay sound has differs is =
    subst (AreAll false) (sym (stay other sound (has (λ same. cc)) differs)) is
used_stays state new object other (Named client namer) stay sound has differs is =
    subst (AreAll false) (sym (stay other sound (has (λ same. cc)) differs)) is
used_stays state new object other (Returning client namer change) stay sound has differs is =
    subst (λ list. IsStraight list (seen change)) (sym (stay other sound.0 (has (λ same. cc)) differs)) is

-- who clears another object clears it well still
clears_stays : (state : State) (new : List (List ℕ)) (object : Object) (use_of : Use) (client : ℕ) (clearing : Clearing)
    → IsChanging state → BitsStay state new object → (state.clients client).clearing ≡ clearing
    → ((class : ℕ) (given : Given) (change : BitChange) → clearing ≡ Under class given change → object_of class given ≢ object)
    → ClearsWell state.view state.words state.uses clearing
    → ClearsWell state.view new (with_use state.uses object use_of) clearing
clears_stays state new object use_of client NotClearing changing stay clears differs well = tt
clears_stays state new object use_of client (Under class given change) changing stay clears differs well =
    let one = object_of class given in
    let other = differs class given change refl in
    let owner = cleared_owned state client class given change changing.kept.sound changing.kept.own changing.calls clears in (
      subst (λ list. IsStraight list (seen change))
          (sym
          (stay one (cleared_object state client class given change changing.kept.sound clears).0
          (HasOpen-class state one (HasClass-owned state client one owner)) other)) well.0,
      at_use (λ u. u ≡ Untaken) state.uses object use_of one (λ same. absurd (other (sym same))) (λ apart. well.1),
    )
clears_stays state new object use_of client (Cleared class given) changing stay clears differs well = tt

-- the bits of all objects, where those of this one are as its new use says
changed_bits : (state : State) (object : Object) (change : BitChange) (clients : ℕ → Client) (use_of : Use)
    → IsChanging state → IsBitChange state.view change → BitsStay state (words_with state change) object
    → (use_of ≡ Untaken → (IsBeingCleared clients object → ⊥) → AreAll true (bits_of state.view (words_with state change) object))
    → AreBitsOf (bits_of state.view (words_with state change) object) use_of
    → ((other : Object) → object ≢ other → IsBeingCleared state.clients other → IsBeingCleared clients other)
    → ((client : ℕ)
    → ClearsWell state.view (words_with state change) (with_use state.uses object use_of) (clients client).clearing)
    → HasBits state
    → HasBits
    (record state { words = words_with state change; clients = clients; uses = with_use state.uses object use_of })
unfolding UsesHaveClass
changed_bits state object change clients use_of changing is stay free_here here still well has =
    record {
      free = λ other is_object open_to.
          at_use
          (λ u. u ≡ Untaken → (IsBeingCleared clients other → ⊥) → AreAll true (bits_of state.view (words_with state change) other))
          state.uses object use_of other
          (λ same untaken uncleared.
          subst (λ o. AreAll true (bits_of state.view (words_with state change) o)) same
          (free_here untaken (λ cleared. uncleared (subst (λ o. IsBeingCleared clients o) same cleared))))
          (λ differs untaken uncleared.
          let before = HasOpen-change state change other changing.kept.sound is is_object open_to in
          subst (AreAll true) (sym (stay other is_object before (λ same. differs (sym same))))
          (has.free other is_object before untaken (λ cleared. uncleared (still other differs cleared))));
      used = λ other.
          at_use (λ u. AreBitsOf (bits_of state.view (words_with state change) other) u) state.uses object use_of other
          (λ same. subst (λ o. AreBitsOf (bits_of state.view (words_with state change) o) use_of) same here)
          (λ differs.
          used_stays state (words_with state change) object other (state.uses other) stay (changing.kept.sound.uses other)
          (λ used. HasOpen-class state other (changing.kept.classes other used)) (λ same. differs (sym same)) (has.used other));
      clears = well;
    }

-- ---- a clearing

clears_here : (state : State) (new : List (List ℕ)) (number class : ℕ) (given : Given) (t : Turn BitChange Changed)
    (answer : Changed) → state.uses (object_of class given) ≡ Untaken
    → HasComeStraight false (bits_of state.view new (object_of class given)) (seen_told t.state answer)
    → ClearsWell state.view new
    (with_use state.uses (object_of class given) (use_after_clearing number answer (state.uses (object_of class given))))
    (clearing_after class given t answer)
clears_here state new number class given t changed.Going free come = (
  come.1,
  at_use (λ u. u ≡ Untaken) state.uses (object_of class given) (state.uses (object_of class given)) (object_of class given)
      (λ same. free) (λ apart. free),
)
clears_here state new number class given t changed.Whole free come = tt
clears_here state new number class given t (changed.Refused node) free come = (
  come.1,
  at_use (λ u. u ≡ Untaken) state.uses (object_of class given) (state.uses (object_of class given)) (object_of class given)
      (λ same. free) (λ apart. free),
)

used_here : (list : List Bool) (number : ℕ) (t : Turn BitChange Changed) (answer : Changed) (use_of : Use) → use_of ≡ Untaken
    → HasComeStraight false list (seen_told t.state answer) → AreBitsOf list (use_after_clearing number answer use_of)
used_here list number t changed.Going use_of free come = subst (AreBitsOf list) (sym free) tt
used_here list number t changed.Whole use_of free come = come
used_here list number t (changed.Refused node) use_of free come = subst (AreBitsOf list) (sym free) tt

same_object : (class of_class : ℕ) (given of_given : Given) (change of_change : BitChange)
    → Under class given change ≡ Under of_class of_given of_change → object_of class given ≡ object_of of_class of_given
same_object class of_class given of_given change of_change same =
    let classes : class ≡ of_class = cc in
    let gifts : given ≡ of_given = cc in
    λ i. object_of (classes i) (gifts i)

still_cleared : (state : State) (number class : ℕ) (given : Given) (later : BitChange)
    → IsBeingCleared (updated state.clients number (record (state.clients number) { clearing = Under class given later }))
    (object_of class given)
still_cleared state number class given later =
    record {
      client = number;
      class = class;
      given = given;
      change = later;
      clears =
          at_updated (λ (c : Client). c.clearing ≡ Under class given later) state.clients number
          (record (state.clients number) { clearing = Under class given later }) number (λ same. refl)
          (λ apart. absurd (apart refl));
      object_is = refl;
    }

-- it is taken, or is being cleared still
never_free : {A : Type 0} (state : State) (number class : ℕ) (given : Given) (t : Turn BitChange Changed) (answer : Changed)
    → use_after_clearing number answer (state.uses (object_of class given)) ≡ Untaken
    → (IsBeingCleared
    (updated state.clients number (record (state.clients number) { clearing = clearing_after class given t answer }))
    (object_of class given) → ⊥) → A
never_free state number class given t changed.Whole free uncleared = absurd (taken_free number free)
  where
    taken_free : (client : ℕ) → Taken client ≡ Untaken → ⊥
    taken_free client is = cc
never_free state number class given t changed.Going free uncleared =
    absurd (uncleared (still_cleared state number class given t.state))
never_free state number class given t (changed.Refused node) free uncleared =
    absurd (uncleared (still_cleared state number class given t.state))

cleared_bits : (state : State) (number class : ℕ) (given : Given) (change : BitChange)
    → (state.clients number).clearing ≡ Under class given change → IsChanging state → HasBits state
    → HasBits (cleared_next state number (Under class given change))
cleared_bits state number class given change clears changing has =
    changed_bits state object change clients (use_after_clearing number t.told (state.uses object)) changing is stay
    (never_free state number class given t t.told)
    (used_here (bits_of state.view new object) number t t.told (state.uses object) well.1 come) still all_well has
  where
    object : Object
    object = object_of class given

    new : List (List ℕ)
    new = words_with state change

    t : Turn BitChange Changed
    t = bits.turn change (answered state (bits.next change))

    later : Client
    later = record (state.clients number) { clearing = clearing_after class given t t.told }

    clients : ℕ → Client
    clients = updated state.clients number later

    is : IsBitChange state.view change
    is = (cleared_object state number class given change changing.kept.sound clears).1

    of_object : IsChangeOf change object false
    of_object = (subst (λ c. ClearingIsOf c) clears (changing.of_objects.clears number)).0

    well : ClearsWell state.view state.words state.uses (Under class given change)
    well = subst (λ c. ClearsWell state.view state.words state.uses c) clears (has.clears number)

    stay : BitsStay state new object
    stay =
        bits_stay state object change false changing is of_object well.0
        (HasClass-owned state number object
        (cleared_owned state number class given change changing.kept.sound changing.kept.own changing.calls clears))

    come : HasComeStraight false (bits_of state.view new object) (seen_told t.state t.told)
    come =
        subst (λ o. HasComeStraight false (bits_of state.view new o) (seen_told t.state t.told)) of_object.object_is
        (subst (λ set. HasComeStraight set (bits_of state.view new change.object) (seen_told t.state t.told)) of_object.set_is
        (change_goes state change changing.kept.sound changing.small is of_object.looks
        (subst (λ o. IsStraight (bits_of state.view state.words o) (seen change)) (sym of_object.object_is) well.0)))

    still : (other : Object) → object ≢ other → IsBeingCleared state.clients other → IsBeingCleared clients other
    still other differs cleared =
        record {
          client = cleared.client;
          class = cleared.class;
          given = cleared.given;
          change = cleared.change;
          clears =
              at_updated (λ (c : Client). c.clearing ≡ Under cleared.class cleared.given cleared.change) state.clients number later
              cleared.client
              (λ same.
              absurd
              (differs
              (same_object class cleared.class given cleared.given change cleared.change
              (sym clears ∙ (ap (λ n. (state.clients n).clearing) same ∙ cleared.clears)) ∙ cleared.object_is)))
              (λ apart. cleared.clears);
          object_is = cleared.object_is;
        }

    differs_there : (other : ℕ) → number ≢ other → (of_class : ℕ) (of_given : Given) (of_change : BitChange)
        → (state.clients other).clearing ≡ Under of_class of_given of_change → object_of of_class of_given ≢ object
    differs_there other apart of_class of_given of_change clears' same =
        apart
        (two_clearers state number other class of_class given of_given change of_change changing.kept.sound changing.kept.own
        (clearer_active state number class given change changing.calls clears)
        (clearer_active state other of_class of_given of_change changing.calls clears') clears clears' (sym same))

    all_well : (client : ℕ) → ClearsWell state.view new
        (with_use state.uses object (use_after_clearing number t.told (state.uses object))) (clients client).clearing
    all_well client =
        at_updated
        (λ (c : Client).
        ClearsWell state.view new (with_use state.uses object (use_after_clearing number t.told (state.uses object))) c.clearing)
        state.clients number later client
        (λ same. clears_here state new number class given t t.told well.1 come)
        (λ apart.
        clears_stays state new object (use_after_clearing number t.told (state.uses object)) client
        (state.clients client).clearing changing stay refl (differs_there client apart) (has.clears client))

pub bits-cleared_next : (state : State) (number : ℕ) (clearing : Clearing) → (state.clients number).clearing ≡ clearing
    → IsChanging state → HasBits state → HasBits (cleared_next state number clearing)
bits-cleared_next state number NotClearing clears changing has = has
bits-cleared_next state number (Cleared class given) clears changing has = has
bits-cleared_next state number (Under class given change) clears changing has =
    cleared_bits state number class given change clears changing has

-- ---- a setting

set_here : (list : List Bool) (taker namer : ℕ) (t : Turn BitChange Changed) (answer : Changed)
    → HasComeStraight true list (seen_told t.state answer) → AreBitsOf list (use_after_setting taker namer t answer)
set_here list taker namer t changed.Going come = come.1
set_here list taker namer t changed.Whole come = tt
set_here list taker namer t (changed.Refused node) come = come.1

given_back : (list : List Bool) (taker namer : ℕ) (t : Turn BitChange Changed) (answer : Changed)
    → use_after_setting taker namer t answer ≡ Untaken → HasComeStraight true list (seen_told t.state answer)
    → AreAll true list
given_back list taker namer t changed.Going free come = absurd cc
given_back list taker namer t changed.Whole free come = come
given_back list taker namer t (changed.Refused node) free come = absurd cc

returned_bits : (state : State) (object : Object) (taker namer : ℕ) (change : BitChange)
    → state.uses object ≡ Returning taker namer change → IsChanging state → HasBits state
    → HasBits (returned_next state object (Returning taker namer change))
unfolding UsesHaveClass
returned_bits state object taker namer change sets changing has =
    changed_bits state object change state.clients (use_after_setting taker namer t t.told) changing sound.1 stay
    (λ free uncleared. given_back (bits_of state.view new object) taker namer t t.told free come)
    (set_here (bits_of state.view new object) taker namer t t.told come) (λ other differs cleared. cleared)
    (λ client.
    clears_stays state new object (use_after_setting taker namer t t.told) client (state.clients client).clearing changing stay
    refl (differs_there client) (has.clears client)) has
  where
    new : List (List ℕ)
    new = words_with state change

    t : Turn BitChange Changed
    t = bits.turn change (answered state (bits.next change))

    sound : IsSoundUse state.view object (Returning taker namer change)
    sound = subst (IsSoundUse state.view object) sets (changing.kept.sound.uses object)

    of_object : IsChangeOf change object true
    of_object = subst (UseIsOf object) sets (changing.of_objects.sets object)

    straight : IsStraight (bits_of state.view state.words object) (seen change)
    straight = subst (AreBitsOf (bits_of state.view state.words object)) sets (has.used object)

    used : state.uses object ≢ Untaken
    used free = never (sym sets ∙ free)
      where
        never : Returning taker namer change ≡ Untaken → ⊥
        never is = cc

    stay : BitsStay state new object
    stay = bits_stay state object change true changing sound.1 of_object straight (changing.kept.classes object used)

    come : HasComeStraight true (bits_of state.view new object) (seen_told t.state t.told)
    come =
        subst (λ o. HasComeStraight true (bits_of state.view new o) (seen_told t.state t.told)) of_object.object_is
        (subst (λ set. HasComeStraight set (bits_of state.view new change.object) (seen_told t.state t.told)) of_object.set_is
        (change_goes state change changing.kept.sound changing.small sound.1 of_object.looks
        (subst (λ o. IsStraight (bits_of state.view state.words o) (seen change)) (sym of_object.object_is) straight)))

    differs_there : (client class : ℕ) (given : Given) (of_change : BitChange)
        → (state.clients client).clearing ≡ Under class given of_change → object_of class given ≢ object
    differs_there client class given of_change clears same =
        used
        (ap state.uses (sym same)
        ∙ (subst (λ c. ClearsWell state.view state.words state.uses c) clears (has.clears client)).1)

pub bits-returned_next : (state : State) (object : Object) (use_of : Use) → state.uses object ≡ use_of → IsChanging state
    → HasBits state → HasBits (returned_next state object use_of)
bits-returned_next state object Untaken sets changing has = has
bits-returned_next state object (Taken client) sets changing has = has
bits-returned_next state object (Named client namer) sets changing has = has
bits-returned_next state object (Returning client namer change) sets changing has =
    returned_bits state object client namer change sets changing has
