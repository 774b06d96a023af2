-- The pool and its clients stay sound where bits are changed, objects are named, and blocks are released.
use Rattle.std.proofs.Common.{◌≡◌, ◌≢◌, ℕ, ◌+◌, ◌-◌, ◌<◌, ◌==◌, if◌then◌else◌, Bool, true, false, List, [], ◌∷◌, length, Option, Some, None, refl, sym, ◌∙◌, ap, subst, arith, inl, inr, length-set, eq-eqb}
use Rattle.std.specs.Prelude.{Contains, slice_index, slice_index_or, slice_set}
use Rattle.std.proofs.lemmas.Bool.{and_parts, cases_lt, cond_both, eqb-true, eqb-false}
use Rattle.std.proofs.lemmas.List.{length-map}
use Rattle.std.proofs.lemmas.List.Elements.{Contains-append_right}
use Rattle.block_claims.proofs.EventLemmas.{HaveWord-more, IsSoundWords-released}
use Rattle.block_claims.proofs.Soundness.{IsOwner, IsSoundStage, IsSoundWords}
use Rattle.block_claims.proofs.WordLemmas.{IsNoOwner-other, IsOwner-kept, IsSoundStage-other, IsSoundWords-backup, primary-backup}
use Rattle.block_claims.specs.Claims.{owned, released as free_word, Releasing as ReleasingStage}
use Rattle.machine.proofs.BitChangeLemmas as bit_lemmas
use Rattle.machine.proofs.BitChangeLemmas.{bit_change_of-is}
use Rattle.machine.proofs.ChoosingLemmas.{taken-is}
use Rattle.machine.proofs.ObjectNamesLemmas.{bitmap_of-has}
use Rattle.machine.proofs.PlacesLemmas.{written_place-inside}
use Rattle.machine.specs.declared.bit_change.Changed.{Changed}
use Rattle.machine.specs.declared.bit_change.Changed.TheVariants.{Going, Refused, Whole}
use Rattle.machine.specs.BitChange as bits
use Rattle.machine.specs.BitChange.{BitChange, Change, IsBitChange, Look, bit_change_of, bitmap_place}
use Rattle.machine.specs.Choosing.{IsAt, IsChoosing, taken}
use Rattle.machine.specs.EpochRead.{IsView}
use Rattle.machine.specs.ObjectNames.{IsObject, Object, bitmap_of, block_of}
use Rattle.machine.specs.Places.{IsInPool, control, replica_count, written_place}
use Rattle.machine.specs.Stock.{AskFirst, Ask, Claim, IsStock, Phase, ReadBitmap, ReadBlock, Rest, Scan, Spread, Stock, WriteHead, cleared_block, no_stock, with_reserve}
use Rattle.machine.specs.Turn.{Turn}
use Rattle.pointer_fields.specs.Pointer.{region_of}
use Rattle.region_view.specs.Control.{Begin as begin_of}
use Rattle.region_view.specs.Layout.{BlockWord as block_word}
use Rattle.region_view.specs.Placed.{Viewed}
use Rattle.region_view.specs.Sizes.{Sizes}
use Rattle.reuse_grace.proofs.Soundness.{at_updated}
use Rattle.reuse_grace.specs.Stock.{updated}
use Rattle.verb_words.specs.declared.verbs.Place.{Place}
use Rattle.verb_words.specs.declared.verbs.Verb.TheVariants.{Swap, Write}
use Rattle.verb_words.specs.Applied.{words_after}
use Rattle.verb_words.specs.Verb.{place_of, word_after}
use Rattle.verb_words.specs.Words.{HasPlace}
use Rattle.object_division.specs.Allowed.{MayHappen}
use Rattle.object_division.specs.Client.{Active, Cleared, Clearing, Client, Given, Named, NotClearing, Releasing, Retired, Returning, Service, Taken, Under, Untaken, Use, is_same}
use Rattle.object_division.specs.Run.{Release, State, answered, begin_word, cleared_next, clearing_after, clearing_of, moved_on, named, object_of, release_verb, released_next, renewed, returned_next, returning, service_after, use_after_clearing, use_after_setting, with_client, with_use}
use Rattle.object_division.proofs.BlockWordLemmas.{IsBlockOf, IsElsewhere, IsElsewhere-bitmap, IsElsewhere-control, block_count, block_place, block_words, length-block_words, primary-block_words}
use Rattle.object_division.proofs.EventLemmas.{IsSound-client}
use Rattle.object_division.proofs.GiftLemmas.{class_replaced}
use Rattle.object_division.proofs.GrownLemmas.{taken-own}
use Rattle.object_division.proofs.MovedLemmas.{GainedSoundly-kept, HasAllPlaces-after, IsSound-elsewhere, IsSound-moved, IsSound-words, SameBlocks, SameBlocks-elsewhere, SameBlocks-equal}
use Rattle.object_division.proofs.SeekLemmas.{BlocksAreSound-written, GainedSoundly-written, IsWritten, IsWritten-verb, WordsMove-written}
use Rattle.object_division.proofs.Soundness.{AreNamed, GainedSoundly, IsSound, IsSoundClearing, IsSoundClient, IsSoundUse, here_words, stage_at}

-- ---- begin words

pub SameBlocks-moved_on : (state : State) (client : ℕ) → IsView state.view
    → SameBlocks state.view state.words (moved_on state client).words
SameBlocks-moved_on state client is =
    SameBlocks-elsewhere state.view state.words (Write (control (begin_of client)) (begin_word state client + 1))
    (λ region block within. IsElsewhere-control state.view region block (begin_of client) is within)

pub IsSound-moved_on : (state : State) (client : ℕ) → IsSound state → IsSound (moved_on state client)
IsSound-moved_on state client sound =
    let verb = Write (control (begin_of client)) (begin_word state client + 1) in
    IsSound-words state (words_after state.words verb false) state.uses sound
    (HasAllPlaces-after state.view state.words verb sound.places) (SameBlocks-moved_on state client sound.is_view) sound.uses

-- ---- what has become of the objects

pub is_same-true : (one other : Object) → is_same one other ≡ true → one ≡ other
is_same-true one other same =
    let both = and_parts (one.pointer == other.pointer) (one.class == other.class) same in
    let pointers = eqb-true one.pointer other.pointer both.0 in
    let classes = eqb-true one.class other.class both.1 in
    λ i. record { pointer = pointers i; class = classes i }

uses_with : (view : Viewed) (uses : Object → Use) (object : Object) (use_of : Use)
    → ((other : Object) → IsSoundUse view other (uses other)) → IsSoundUse view object use_of
    → (other : Object) → IsSoundUse view other (with_use uses object use_of other)
uses_with view uses object use_of all is other =
    cond_both (is_same object other) use_of (uses other) (λ u. IsSoundUse view other u)
    (λ same. subst (λ o. IsSoundUse view o use_of) (is_same-true object other same) is)
    (λ apart. all other)

IsSound-uses : (state : State) (object : Object) (use_of : Use) → IsSound state → IsSoundUse state.view object use_of
    → IsSound (record state { uses = with_use state.uses object use_of })
IsSound-uses state object use_of sound is =
    IsSound-words state state.words (with_use state.uses object use_of) sound sound.places
    (SameBlocks-equal state.view state.words state.words refl)
    (uses_with state.view state.uses object use_of sound.uses is)

named_soundly : (view : Viewed) (object : Object) (namer : ℕ) (use_of : Use) → IsSoundUse view object use_of
    → IsSoundUse view object (named namer use_of)
named_soundly view object namer Untaken is = tt
named_soundly view object namer (Taken client) is = is
named_soundly view object namer (Named client other) is = is
named_soundly view object namer (Returning client other change) is = is

pub IsSound-named : (state : State) (namer : ℕ) (object : Object) → IsSound state
    → IsSound (record state { uses = with_use state.uses object (named namer (state.uses object)) })
IsSound-named state namer object sound =
    IsSound-uses state object (named namer (state.uses object)) sound
    (named_soundly state.view object namer (state.uses object) (sound.uses object))

returning_soundly : (view : Viewed) (object : Object) (look : Bool) (use_of : Use) → IsView view → IsSoundUse view object use_of
    → IsSoundUse view object (returning view object look use_of)
returning_soundly view object look Untaken is_view is = tt
returning_soundly view object look (Taken client) is_view is = is
returning_soundly view object look (Named client namer) is_view is = (is, bit_change_of-is view object true look is_view is)
returning_soundly view object look (Returning client namer change) is_view is = is

pub IsSound-returning : (state : State) (object : Object) (look : Bool) → IsSound state
    → IsSound (record state { uses = with_use state.uses object (returning state.view object look (state.uses object)) })
IsSound-returning state object look sound =
    IsSound-uses state object (returning state.view object look (state.uses object)) sound
    (returning_soundly state.view object look (state.uses object) sound.is_view (sound.uses object))

-- ---- a verb of a change of a bit

pub object_block : (view : Viewed) (object : Object) → IsObject view.shape object
    → IsBlockOf view (region_of object.pointer) (block_of object.pointer)
object_block view object is =
    let has = bitmap_of-has view.shape object is in
    record { region_within = (has.0, has.1); block_within = has.2 }

pub change_place : (change : BitChange) (phase : bits.Phase) → place_of (bits.verb_at phase change) ≡ bitmap_place change
change_place change Look = refl
change_place change Change = refl

pub SameBlocks-change : (view : Viewed) (words : List (List ℕ)) (change : BitChange) → IsView view → IsBitChange view change
    → SameBlocks view words (words_after words (bits.next change) false)
SameBlocks-change view words change is_view is =
    let pointer = change.object.pointer in
    let object : IsObject view.shape change.object = subst (λ (v : Viewed). IsObject v.shape change.object) is.held is.object in
    let place : place_of (bits.next change) ≡ written_place view (bitmap_of pointer) change.replica =
    change_place change change.phase
    ∙ ap (λ (v : Viewed). written_place v (bitmap_of pointer) change.replica) is.held in
    let inside : change.replica < replica_count view (bitmap_of pointer) =
    subst (λ (v : Viewed). change.replica < replica_count v (bitmap_of pointer)) is.held is.replica in
    SameBlocks-elsewhere view words (bits.next change)
    (λ region block within.
    subst (λ p. IsElsewhere view region block p) (sym place)
    (IsElsewhere-bitmap view region block (region_of pointer) (block_of pointer) change.replica is_view within
    (object_block view change.object object) inside))

setting_soundly : (view : Viewed) (object : Object) (client namer : ℕ) (t : Turn BitChange Changed) (told : Changed)
    → IsObject view.shape object → IsBitChange view t.state
    → IsSoundUse view object (use_after_setting client namer t told)
setting_soundly view object client namer t Going is change = (is, change)
setting_soundly view object client namer t Whole is change = tt
setting_soundly view object client namer t (Refused node) is change = (is, change)

pub IsSound-returned_next : (state : State) (object : Object) (use_of : Use) → IsSound state → IsSoundUse state.view object use_of
    → IsSound (returned_next state object use_of)
IsSound-returned_next state object Untaken sound is = sound
IsSound-returned_next state object (Taken client) sound is = sound
IsSound-returned_next state object (Named client namer) sound is = sound
IsSound-returned_next state object (Returning client namer change) sound is =
    let t = bits.turn change (answered state (bits.next change)) in
    let changed = bit_lemmas.turn-is state.view change (answered state (bits.next change)) is.1 in
    IsSound-words state (words_after state.words (bits.next change) false)
    (with_use state.uses object (use_after_setting client namer t t.told)) sound
    (HasAllPlaces-after state.view state.words (bits.next change) sound.places)
    (SameBlocks-change state.view state.words change sound.is_view is.1)
    (uses_with state.view state.uses object (use_after_setting client namer t t.told) sound.uses
    (setting_soundly state.view object client namer t t.told is.0 changed))

-- ---- the clearing of a client

IsSoundClient-clearing : (view : Viewed) (words : List (List ℕ)) (number : ℕ) (client : Client) (clearing : Clearing)
    → IsSoundClient view words number client → IsSoundClearing view clearing
    → IsSoundClient view words number (record client { clearing = clearing })
IsSoundClient-clearing view words number client clearing sound is =
    record {
      stock = sound.stock;
      choosing = sound.choosing;
      gained = sound.gained;
      claims = sound.claims;
      releases = sound.releases;
      given = sound.given;
      clearing = is;
    }

named_object : (sizes : Sizes) (class : ℕ) (given : Given) → AreNamed sizes class given → IsObject sizes (object_of class given)
named_object sizes class given is = record { class = is.below; named = is.object }

clearing_soundly : (view : Viewed) (class : ℕ) (gift : Option Given) → IsView view
    → ((given : Given) → gift ≡ Some given → AreNamed view.shape class given)
    → IsSoundClearing view (clearing_of view class gift)
clearing_soundly view class None is_view named = tt
clearing_soundly view class (Some given) is_view named = (
  named given refl,
  bit_change_of-is view (object_of class given) false false is_view (named_object view.shape class given (named given refl)),
)

pub IsSound-clearing : (state : State) (number class : ℕ) → IsSound state
    → IsSound (with_client state number
    (record (state.clients number) { clearing = clearing_of state.view class ((state.clients number).given class) }))
IsSound-clearing state number class sound =
    let client = state.clients number in
    let old = sound.clients number in
    let clearing = clearing_of state.view class (client.given class) in
    IsSound-client state number (record client { clearing = clearing }) sound
    (IsSoundClient-clearing state.view state.words number client clearing old
    (clearing_soundly state.view class (client.given class) sound.is_view (old.given class)))

cleared_soundly : (view : Viewed) (class : ℕ) (given : Given) (t : Turn BitChange Changed) (told : Changed)
    → AreNamed view.shape class given → IsBitChange view t.state → IsSoundClearing view (clearing_after class given t told)
cleared_soundly view class given t Going named change = (named, change)
cleared_soundly view class given t Whole named change = named
cleared_soundly view class given t (Refused node) named change = (named, change)

taken_soundly : (view : Viewed) (object : Object) (number : ℕ) (told : Changed) (use_of : Use) → IsObject view.shape object
    → IsSoundUse view object use_of → IsSoundUse view object (use_after_clearing number told use_of)
taken_soundly view object number Going use_of is sound = sound
taken_soundly view object number Whole use_of is sound = is
taken_soundly view object number (Refused node) use_of is sound = sound

pub IsSound-cleared_next : (state : State) (number : ℕ) (clearing : Clearing) → IsSound state
    → IsSoundClearing state.view clearing → IsSound (cleared_next state number clearing)
IsSound-cleared_next state number NotClearing sound is = sound
IsSound-cleared_next state number (Cleared class given) sound is = sound
IsSound-cleared_next state number (Under class given change) sound is =
    let t = bits.turn change (answered state (bits.next change)) in
    let object = object_of class given in
    let client = state.clients number in
    let later = clearing_after class given t t.told in
    let use_of = use_after_clearing number t.told (state.uses object) in
    IsSound-elsewhere state (words_after state.words (bits.next change) false) number (record client { clearing = later })
    (with_use state.uses object use_of) sound (HasAllPlaces-after state.view state.words (bits.next change) sound.places)
    (SameBlocks-change state.view state.words change sound.is_view is.1)
    (IsSoundClient-clearing state.view state.words number client later (sound.clients number)
    (cleared_soundly state.view class given t t.told is.0
    (bit_lemmas.turn-is state.view change (answered state (bits.next change)) is.1)))
    (uses_with state.view state.uses object use_of sound.uses
    (taken_soundly state.view object number t.told (state.uses object) (named_object state.view.shape class given is.0)
    (sound.uses object)))

-- ---- the next reserve is the reserve

IsAt-taken : (phase : Phase) (stock : Stock) (class next : ℕ) → IsAt phase stock → IsAt phase (taken stock class next)
IsAt-taken Rest stock class next is = tt
IsAt-taken AskFirst stock class next is =
    class_replaced (λ c. 0 < length c.awaited) stock.classes class stock.class
    (with_reserve class (slice_index_or stock.classes class no_stock) next)
    (λ same. subst (λ k. 0 < length (slice_index_or stock.classes k no_stock).awaited) same is) is
IsAt-taken (Scan own) stock class next is =
    let of_class = slice_index_or stock.classes class no_stock in
    class_replaced (λ c. own < length c.own) stock.classes class stock.class (with_reserve class of_class next)
    (λ same.
    let within : own < length of_class.own = subst (λ k. own < length (slice_index_or stock.classes k no_stock).own) same is in
    omega (arith, within, length-map of_class.own (cleared_block class of_class)))
    is
IsAt-taken (Ask client) stock class next is = is
IsAt-taken ReadBlock stock class next is = is
IsAt-taken (Claim word) stock class next is = is
IsAt-taken (Spread unused backup) stock class next is = is
IsAt-taken ReadBitmap stock class next is = is
IsAt-taken WriteHead stock class next is = tt

-- the claim that is under way stays as it is
claims_taken : (view : Viewed) (words : List (List ℕ)) (number : ℕ) (phase : Phase) (stock : Stock) (class next : ℕ)
    → IsSoundStage (here_words view words stock) number (stage_at phase stock)
    → IsSoundStage (here_words view words (taken stock class next)) number (stage_at phase (taken stock class next))
claims_taken view words number Rest stock class next is = tt
claims_taken view words number AskFirst stock class next is = tt
claims_taken view words number (Scan own) stock class next is = tt
claims_taken view words number (Ask client) stock class next is = tt
claims_taken view words number ReadBlock stock class next is = tt
claims_taken view words number (Claim word) stock class next is = is
claims_taken view words number (Spread unused backup) stock class next is = is
claims_taken view words number ReadBitmap stock class next is = is
claims_taken view words number WriteHead stock class next is = tt

none_some : {A : Type 0} (given : Given) → None ≡ Some given → A
none_some given is = absurd cc

renewed_soundly : (view : Viewed) (words : List (List ℕ)) (number : ℕ) (client : Client) (clearing : Clearing)
    → IsSoundClient view words number client → IsSoundClearing view clearing
    → IsSoundClient view words number (renewed client clearing)
renewed_soundly view words number client NotClearing sound is = sound
renewed_soundly view words number client (Under class given change) sound is = sound
renewed_soundly view words number client (Cleared class given) sound is =
    let stock = taken client.stock class given.next in
    let whole = taken-is view.shape number class given.next client.stock sound.stock is.below is.next in
    record {
      stock = whole;
      choosing = λ works.
          let old = sound.choosing works in
          record {
            ready = record {
              is_stock = whole;
              is_view = old.ready.is_view;
              number = old.ready.number;
              held = old.ready.held;
              same = refl;
              below = old.ready.below;
            };
            phase = IsAt-taken client.stock.phase client.stock class given.next old.phase;
          };
      gained =
          GainedSoundly-kept view words number client.released client.stock stock (taken-own client.stock class given.next)
          sound.gained;
      claims = λ active. claims_taken view words number client.stock.phase client.stock class given.next (sound.claims active);
      releases = sound.releases;
      given = λ other one.
          at_updated (λ (o : Option Given). o ≡ Some one → AreNamed view.shape other one) client.given class None other
          (λ same some. none_some one some) (λ apart some. sound.given other one some);
      clearing = tt;
    }

pub IsSound-renewed : (state : State) (number : ℕ) → IsSound state
    → IsSound (with_client state number (renewed (state.clients number) (state.clients number).clearing))
IsSound-renewed state number sound =
    let client = state.clients number in
    IsSound-client state number (renewed client client.clearing) sound
    (renewed_soundly state.view state.words number client client.clearing (sound.clients number) (sound.clients number).clearing)

-- ---- a client retires, and its blocks are released

retired_active : {A : Type 0} → Retired ≡ Active → A
retired_active is = absurd cc

retired_releasing : {A : Type 0} (region block class replicas : ℕ) → Retired ≡ Releasing region block class replicas → A
retired_releasing region block class replicas is = absurd cc

releasing_active : {A : Type 0} (region block class replicas : ℕ) → Releasing region block class replicas ≡ Active → A
releasing_active region block class replicas is = absurd cc

pub IsSound-retired : (state : State) (number : ℕ) → IsSound state
    → IsSound (with_client state number (record (state.clients number) { service = Retired }))
IsSound-retired state number sound =
    let client = state.clients number in
    let old = sound.clients number in
    IsSound-client state number (record client { service = Retired }) sound
    (record {
      stock = old.stock;
      choosing = old.choosing;
      gained = old.gained;
      claims = λ is. retired_active is;
      releases = λ region block class replicas is. retired_releasing region block class replicas is;
      given = old.given;
      clearing = old.clearing;
    })

-- what holds of the release that a client's service is at, holds of it where it is said by other numbers
releasing_as : (view : Viewed) (words : List (List ℕ)) (number : ℕ) (released : List (ℕ × ℕ))
    (region block class replicas other of_block of_class more : ℕ)
    → Releasing region block class replicas ≡ Releasing other of_block of_class more
    → IsBlockOf view region block × Contains released (region, block)
    × IsSoundStage (block_words view words region block) number (ReleasingStage class replicas)
    → IsBlockOf view other of_block × Contains released (other, of_block)
    × IsSoundStage (block_words view words other of_block) number (ReleasingStage of_class more)
releasing_as view words number released region block class replicas other of_block of_class more same is =
    let regions : region ≡ other = cc in
    let blocks : block ≡ of_block = cc in
    let classes : class ≡ of_class = cc in
    let counts : replicas ≡ more = cc in
    subst
    (λ r. IsBlockOf view r of_block × Contains released (r, of_block)
    × IsSoundStage (block_words view words r of_block) number (ReleasingStage of_class more)) regions
    (subst
    (λ b. IsBlockOf view region b × Contains released (region, b)
    × IsSoundStage (block_words view words region b) number (ReleasingStage of_class more)) blocks
    (subst
    (λ c. IsBlockOf view region block × Contains released (region, block)
    × IsSoundStage (block_words view words region block) number (ReleasingStage c more)) classes
    (subst
    (λ n. IsBlockOf view region block × Contains released (region, block)
    × IsSoundStage (block_words view words region block) number (ReleasingStage class n)) counts is)))

IsSoundClient-releasing : (view : Viewed) (words : List (List ℕ)) (number : ℕ) (client : Client)
    (region block class replicas : ℕ) (released : List (ℕ × ℕ)) → IsSoundClient view words number client
    → ((one : ℕ × ℕ) → Contains client.released one → Contains released one)
    → IsBlockOf view region block → Contains released (region, block)
    → IsSoundStage (block_words view words region block) number (ReleasingStage class replicas)
    → IsSoundClient view words number
    (record client { service = Releasing region block class replicas; released = released })
IsSoundClient-releasing view words number client region block class replicas released sound more within begun is =
    record {
      stock = sound.stock;
      choosing = sound.choosing;
      gained = λ of own has kept. sound.gained of own has (λ old. kept (more (own.region, own.block) old));
      claims = λ active. releasing_active region block class replicas active;
      releases = λ other of_block of_class count same.
          releasing_as view words number released region block class replicas other of_block of_class count same
          (within, begun, is);
      given = sound.given;
      clearing = sound.clearing;
    }

pub IsSound-release : (state : State) (number region block class : ℕ) → IsSound state
    → MayHappen state (Release number region block class)
    → IsSound (with_client state number
    (record (state.clients number) {
      service = Releasing region block class 0;
      released = (region, block) ∷ (state.clients number).released;
    }))
IsSound-release state number region block class sound may =
    let client = state.clients number in
    let within : IsBlockOf state.view region block = record { region_within = (may.3, may.4); block_within = may.5 } in
    let words = block_words state.view state.words region block in
    IsSound-client state number
    (record client { service = Releasing region block class 0; released = (region, block) ∷ client.released }) sound
    (IsSoundClient-releasing state.view state.words number client region block class 0 ((region, block) ∷ client.released)
    (sound.clients number) (λ one has. Contains-append_right ((region, block) ∷ []) client.released one has) within
    (0, omega arith, refl) (
      record {
        client_within = record { least = may.0; most = omega (arith, may.1, sound.is_view.limits.clients) };
        class_within = may.6;
        primary = primary-block_words state.view state.words region block sound.is_view within ∙ may.7;
      },
      (sound.blocks region block within).some,
      λ place below. absurd (omega arith),
    ))

-- the next replica gets the new word
IsSound-released_on : (state : State) (number region block class replicas : ℕ) (new : List (List ℕ)) (list : List ℕ)
    (service : Service) → IsSound state → (state.clients number).service ≡ Releasing region block class replicas
    → IsWritten state.view state.words new region block list → IsSoundWords list
    → IsSoundClient state.view new number (record (state.clients number) { service = service })
    → ((place : Place) → IsInPool state.view.shape place → HasPlace new place)
    → IsSound (record state { words = new; clients = updated state.clients number (record (state.clients number) { service = service }) })
IsSound-released_on state number region block class replicas new list service sound is written words own places =
    let old = (sound.clients number).releases region block class replicas is in
    IsSound-moved state new number (record (state.clients number) { service = service }) state.uses sound places
    (BlocksAreSound-written state.view state.words new region block list written sound.blocks words) own
    (λ other apart.
    WordsMove-written state.view state.words new region block other list written
    (λ stage has.
    IsSoundStage-other (block_words state.view state.words region block) list other stage
    (IsNoOwner-other (block_words state.view state.words region block) number other class old.2.0 apart) has))
    sound.uses

-- what the client has gained lies elsewhere
gained_elsewhere : (state : State) (number region block class replicas : ℕ) (new : List (List ℕ)) (list : List ℕ)
    → IsSound state → (state.clients number).service ≡ Releasing region block class replicas
    → IsWritten state.view state.words new region block list
    → GainedSoundly state.view new number (state.clients number).released (state.clients number).stock
gained_elsewhere state number region block class replicas new list sound is written =
    let client = state.clients number in
    let old = sound.clients number in
    GainedSoundly-written state.view state.words new region block number list client.released client.stock written old.stock
    (λ of kept has. absurd (kept (old.releases region block class replicas is).1)) old.gained

-- the verb of a release on the last replica, the primary, and on another
release_word : (view : Viewed) (words : List ℕ) (number region block class replicas : ℕ) → IsOwner words number class
    → length words ≡ block_count view region block → replicas < length words
    → word_after (release_verb view number region block class replicas) (slice_index words replicas) ≡ free_word class
release_word view words number region block class replicas owner long below =
    cond_both (replicas + 1 == block_count view region block)
    (Swap (block_place view region block replicas) (owned number class) (free_word class))
    (Write (block_place view region block replicas) (free_word class))
    (λ verb. word_after verb (slice_index words replicas) ≡ free_word class)
    (λ last.
    let at : length words - 1 ≡ replicas = omega (arith, eqb-true (replicas + 1) (block_count view region block) last) in
    let found : slice_index words replicas ≡ owned number class =
    subst (λ k. slice_index words k ≡ owned number class) at owner.primary in
    swapped (slice_index words replicas) found)
    (λ more. refl)
  where
    swapped : (found : ℕ) → found ≡ owned number class
        → (if found == owned number class then free_word class else found) ≡ free_word class
    swapped found is = rw (eq-eqb found (owned number class) is)

pub release_place : (view : Viewed) (number region block class replicas : ℕ)
    → place_of (release_verb view number region block class replicas) ≡ block_place view region block replicas
release_place view number region block class replicas =
    cond_both (replicas + 1 == block_count view region block)
    (Swap (block_place view region block replicas) (owned number class) (free_word class))
    (Write (block_place view region block replicas) (free_word class))
    (λ verb. place_of verb ≡ block_place view region block replicas) (λ last. refl) (λ more. refl)

-- the client once the release has gone on: there is another replica, or the block is released
released_soundly : (view : Viewed) (words : List (List ℕ)) (number region block class replicas : ℕ) (client : Client)
    → IsStock view.shape number client.stock
    → (client.stock.phase ≢ Rest → IsChoosing view number client.stock.class client.stock)
    → GainedSoundly view words number client.released client.stock
    → ((of : ℕ) (given : Given) → client.given of ≡ Some given → AreNamed view.shape of given)
    → IsSoundClearing view client.clearing → IsBlockOf view region block → Contains client.released (region, block)
    → (replicas + 1 ≢ block_count view region block
    → IsSoundStage (block_words view words region block) number (ReleasingStage class (replicas + 1)))
    → IsSoundClient view words number (record client { service = service_after view region block class replicas })
released_soundly view words number region block class replicas client stock choosing gained given clearing within begun is =
    cond_both (replicas + 1 == block_count view region block) Retired (Releasing region block class (replicas + 1))
    (λ service. IsSoundClient view words number (record client { service = service }))
    (λ last.
    record {
      stock = stock;
      choosing = choosing;
      gained = gained;
      claims = λ active. retired_active active;
      releases = λ other of_block of_class count same. retired_releasing other of_block of_class count same;
      given = given;
      clearing = clearing;
    })
    (λ more.
    record {
      stock = stock;
      choosing = choosing;
      gained = gained;
      claims = λ active. releasing_active region block class (replicas + 1) active;
      releases = λ other of_block of_class count same.
          releasing_as view words number client.released region block class (replicas + 1) other of_block of_class count same
          (within, begun, is (eqb-false (replicas + 1) (block_count view region block) more));
      given = given;
      clearing = clearing;
    })

-- what the words are then
released_words : (words : List ℕ) (number class replicas : ℕ) → IsSoundWords words
    → IsSoundStage words number (ReleasingStage class replicas) → IsSoundWords (slice_set words replicas (free_word class))
released_words words number class replicas sound is =
    elim (cases_lt (replicas + 1) (length words)) [
      | inl backup ↦ IsSoundWords-backup words number class replicas (free_word class) sound is.0 backup (inr refl)
      | inr last ↦
          let at : length words - 1 ≡ replicas = omega (arith, is.1, last) in
          subst (λ k. IsSoundWords (slice_set words k (free_word class))) at
          (IsSoundWords-released words class replicas (free_word class) sound is.2 last refl)
    ]

released_stage : (words : List ℕ) (number class replicas : ℕ) → IsSoundStage words number (ReleasingStage class replicas)
    → replicas + 1 ≢ length words
    → IsSoundStage (slice_set words replicas (free_word class)) number (ReleasingStage class (replicas + 1))
released_stage words number class replicas is more =
    let backup : replicas + 1 < length words = omega (arith, is.1, more) in (
      IsOwner-kept words (slice_set words replicas (free_word class)) number class
          (primary-backup words replicas (free_word class) backup) is.0,
      omega (arith, backup, length-set words replicas (free_word class)),
      HaveWord-more words replicas (free_word class) is.1 is.2,
    )

-- the words of the block once the release has gone on
pub released_written : (state : State) (number region block class replicas : ℕ) → IsSound state
    → (state.clients number).service ≡ Releasing region block class replicas
    → IsWritten state.view state.words
    (words_after state.words (release_verb state.view number region block class replicas) false) region block
    (slice_set (block_words state.view state.words region block) replicas (free_word class))
released_written state number region block class replicas sound is =
    let old = (sound.clients number).releases region block class replicas is in
    let words = block_words state.view state.words region block in
    let long = length-block_words state.view state.words region block in
    let verb = release_verb state.view number region block class replicas in
    let place = release_place state.view number region block class replicas in
    let inside : replicas < block_count state.view region block = omega (arith, old.2.1, long) in
    let in_pool : IsInPool state.view.shape (place_of verb) =
    subst (λ p. IsInPool state.view.shape p) (sym place)
    (written_place-inside state.view (block_word region block) replicas sound.is_view
    (old.0.region_within.0, old.0.region_within.1, old.0.block_within) inside) in
    subst (λ w. IsWritten state.view state.words (words_after state.words verb false) region block (slice_set words replicas w))
    (release_word state.view words number region block class replicas old.2.0 long old.2.1)
    (IsWritten-verb state.view state.words region block replicas verb sound.is_view sound.places old.0 inside place in_pool)

pub IsSound-released_next : (state : State) (number : ℕ) (service : Service) → (state.clients number).service ≡ service
    → IsSound state → IsSound (released_next state number service)
IsSound-released_next state number Active is sound = sound
IsSound-released_next state number Retired is sound = sound
IsSound-released_next state number (Releasing region block class replicas) is sound =
    let client = state.clients number in
    let client_sound = sound.clients number in
    let old = client_sound.releases region block class replicas is in
    let words = block_words state.view state.words region block in
    let long = length-block_words state.view state.words region block in
    let verb = release_verb state.view number region block class replicas in
    let new = words_after state.words verb false in
    let list = slice_set words replicas (free_word class) in
    let written = released_written state number region block class replicas sound is in
    let gained = gained_elsewhere state number region block class replicas new list sound is written in
    IsSound-released_on state number region block class replicas new list
    (service_after state.view region block class replicas) sound is written
    (released_words words number class replicas (sound.blocks region block old.0) old.2)
    (released_soundly state.view new number region block class replicas client client_sound.stock client_sound.choosing gained
    client_sound.given client_sound.clearing old.0 old.1
    (λ more.
    subst (λ l. IsSoundStage l number (ReleasingStage class (replicas + 1))) (sym written.here)
    (released_stage words number class replicas old.2 (λ last. more (last ∙ long)))))
    (HasAllPlaces-after state.view state.words verb sound.places)
