-- How the machine of a client's objects begins: with the opening of the pool, and where an object is out of stock.
use Rattle.std.proofs.Common.{◌≡◌, ◌≢◌, ℕ, suc, ◌+◌, ◌-◌, ◌*◌, ◌<◌, ◌≤◌, ◌^◌, inl, inr, true, false, List, [], ◌∷◌, refl, sym, ap, subst, ◌∙◌, arith}
use Rattle.std.specs.Prelude.{replicate, slice_index}
use Rattle.std.proofs.lemmas.List.{get_or-replicate}
use Rattle.std.specs.Int.{bit_at}
use Rattle.machine.specs.BitChange.{BitChange}
use Rattle.machine.specs.EpochRead.{IsView}
use Rattle.machine.specs.Choosing.{taken}
use Rattle.machine.specs.ObjectNames.{IsObject, Object, block_of, number_of}
use Rattle.machine.specs.Stock.{AskFirst, Ask, Claim, ClassStock, OwnBlock, Phase, ReadBitmap, ReadBlock, Rest, Scan, Spread, Stock, WriteHead, class_stock, first_stock, no_stock}
use Rattle.pointer_fields.specs.Pointer.{region_of}
use Rattle.region_view.specs.Placed.{Viewed}
use Rattle.reuse_grace.specs.Stock as grace
use Rattle.object_division.specs.Allowed.{IsAllowed}
use Rattle.object_division.specs.Client.{Active, Cleared, Clearing, Client, Given, NotClearing, Under, Untaken, first_client}
use Rattle.object_division.specs.Marks.{IsMarked, blocks_of}
use Rattle.object_division.specs.Run.{Event, State, begin_word, object_of, opening, renewed, run}
use Rattle.object_division.specs.Stocked.{IsStocked}
use Rattle.object_division.proofs.BlockLemmas.{first_stocks}
use Rattle.object_division.proofs.MarkLemmas.{taken-marks}
use Rattle.object_division.proofs.SortedLemmas.{renewed_unmarked}
use Rattle.object_division.proofs.UntakenBlockLemmas.{spreads_untaken}
use Rattle.division_grace.proofs.ClientLemmas.{IsOf, SeesClient}
use Rattle.division_grace.proofs.HoldLemmas.{IsIn, IsRipeIn, IsWaitingIn}
use Rattle.division_grace.proofs.OtherLemmas.{class_of}
use Rattle.division_grace.proofs.SeenLemmas.{Sees}
use Rattle.division_grace.proofs.StandLemmas.{IsElsewhere, IsStanding}

-- ---- the opening

word_behind : (first m : ℕ) → m < 1039 → slice_index (first ∷ replicate 1039 0) (suc m) ≡ 0
word_behind first m below = get_or-replicate 1039 m 0 0 below

first_begin : (view : Viewed) (client : ℕ) → 1 ≤ client → client ≤ 64 → begin_word (opening view) client ≡ 0
first_begin view client least most =
    subst (λ at. slice_index ((2 ^ 16 + (2 ^ view.shape.nodes - 1)) ∷ replicate 1039 0) at ≡ 0) place
    (word_behind (2 ^ 16 + (2 ^ view.shape.nodes - 1)) (15 + 16 * (client - 1)) (omega (arith, most)))
  where
    place : suc (15 + 16 * (client - 1)) ≡ 16 + 16 * (client - 1)
    place = omega arith

-- every object counts as out of stock at first, as far as this client knows
abbrev pub first_machine : Viewed → ℕ → grace.State
first_machine view owner = grace.opening owner view.shape.clients (λ object. false)

pub first_of : (view : Viewed) (owner : ℕ) → IsView view → IsOf (opening view) owner (first_machine view owner)
first_of view owner is =
    record {
      owner_is = refl;
      clients_are = refl;
      begins = λ client least most. sym (first_begin view client least (omega (arith, most, is.limits.clients)));
    }

none_in : {A : Type 0} (P : OwnBlock → Type 0) (object : Object) (stock : ClassStock) → stock ≡ no_stock
    → IsIn P object stock.own → A
none_in P object stock none is =
    absurd (empty (subst (λ (c : ClassStock). IsIn P object c.own) none is))
  where
    empty : IsIn P object [] → ⊥
    empty some = omega (arith, some.has.1)

pub first_sees : (view : Viewed) (owner : ℕ) (object : Object)
    → SeesClient object (first_client view.shape owner) (first_machine view owner)
first_sees view owner object active =
    record {
      known = record {
        ripe = λ ripe. none_in (λ own. bit_at own.ripe j ≡ 1) object (class_of stock object.class) (empty object.class) ripe;
        waits = λ waits. none_in (λ own. bit_at own.waiting j ≡ 1) object (class_of stock object.class) (empty object.class) waits;
      };
      here = λ same waits. none_in (λ own. bit_at own.waiting j ≡ 1) object (class_stock stock) (empty 0) waits;
      aside = λ apart waits. none_in (λ own. bit_at own.waiting j ≡ 1) object (class_of stock object.class) (empty object.class) waits;
    }
  where
    j : ℕ
    j = number_of object.pointer object.class

    stock : Stock
    stock = first_stock owner view.shape

    empty : (class : ℕ) → class_of stock class ≡ no_stock
    empty class = first_stocks class view.shape owner

-- ---- an object is out of stock

-- an object that no client of the pool holds, by which it is known how the choosing of a class stands
abbrev pub nothing_of : ℕ → Object
nothing_of class = record { pointer = 0; class = class }

ripe_marked : (object : Object) (list : List OwnBlock) → IsRipeIn object list
    → IsMarked list (region_of object.pointer) (block_of object.pointer) (number_of object.pointer object.class)
ripe_marked object list is =
    record { own = is.own; has = is.has; region_is = is.region_is; block_is = is.block_is; mark = inl is.holds }

waiting_marked : (object : Object) (list : List OwnBlock) → IsWaitingIn object list
    → IsMarked list (region_of object.pointer) (block_of object.pointer) (number_of object.pointer object.class)
waiting_marked object list is =
    record { own = is.own; has = is.has; region_is = is.region_is; block_is = is.block_is; mark = inr is.holds }

-- the object is neither ripe nor waits in these blocks
abbrev pub IsUnmarked : Object → List OwnBlock → Type 0
IsUnmarked object list =
    IsMarked list (region_of object.pointer) (block_of object.pointer) (number_of object.pointer object.class) → ⊥

unmarked_standing : (object : Object) (stock : Stock) (phase : Phase) (machine other : grace.State)
    → IsUnmarked object (class_stock stock).own → IsStanding phase (nothing_of object.class) stock other
    → ((backup : ℕ) → phase ≡ Spread true backup → IsElsewhere object stock) → IsStanding phase object stock machine
unmarked_standing object stock phase machine other unmarked = by phase
  where
    no_wait : {A : Type 0} → IsWaitingIn object (class_stock stock).own → A
    no_wait waits = absurd (unmarked (waiting_marked object (class_stock stock).own waits))

    by : (p : Phase) → IsStanding p (nothing_of object.class) stock other
        → ((backup : ℕ) → p ≡ Spread true backup → IsElsewhere object stock) → IsStanding p object stock machine
    by Rest standing elsewhere = λ waits. no_wait waits
    by AskFirst standing elsewhere = λ waits. no_wait waits
    by (Scan i) standing elsewhere = standing
    by (Ask client) standing elsewhere = (λ waits. no_wait waits, λ waits. no_wait waits)
    by ReadBlock standing elsewhere = λ waits. no_wait waits
    by (Claim word) standing elsewhere = λ waits. no_wait waits
    by (Spread unused backup) standing elsewhere =
        (λ waits. no_wait waits, λ is. elsewhere backup (ap (λ u. Spread u backup) is))
    by ReadBitmap standing elsewhere = λ waits. no_wait waits
    by WriteHead standing elsewhere = λ waits. no_wait waits

unmarked_sees : (object : Object) (stock : Stock) (machine other : grace.State)
    → IsUnmarked object (class_of stock object.class).own → Sees (nothing_of object.class) stock other
    → ((backup : ℕ) → stock.phase ≡ Spread true backup → IsElsewhere object stock) → Sees object stock machine
unmarked_sees object stock machine other unmarked sees elsewhere =
    record {
      known = record {
        ripe = λ ripe. absurd (unmarked (ripe_marked object (class_of stock object.class).own ripe));
        waits = λ waits. absurd (unmarked (waiting_marked object (class_of stock object.class).own waits));
      };
      here = λ same.
          unmarked_standing object stock stock.phase machine other
          (subst (λ k. IsUnmarked object (class_of stock k).own) (sym same) unmarked) (sees.here same) elsewhere;
      aside = λ apart waits. absurd (unmarked (waiting_marked object (class_of stock object.class).own waits));
    }

-- what a client holds ready of an object that was taken
held_cleared : (state : State) (client : ℕ) (object : Object) → IsStocked state → (state.clients client).service ≡ Active
    → IsObject state.view.shape object → state.uses object ≢ Untaken
    → IsMarked (blocks_of (state.clients client).stock object.class) (region_of object.pointer) (block_of object.pointer)
    (number_of object.pointer object.class)
    → (given : Given) × ((state.clients client).clearing ≡ Cleared object.class given) × (object ≡ object_of object.class given)
held_cleared state client object stocked active is used marked =
    elim (stocked.marked client object active is marked) [
      | inl untaken ↦ absurd (used untaken)
      | inr cleared ↦ cleared
    ]

not_cleared : {A : Type 0} (class : ℕ) (given : Given) → NotClearing ≡ Cleared class given → A
not_cleared class given is = absurd cc

under_cleared : {A : Type 0} (class other : ℕ) (given one : Given) (change : BitChange) → Under class given change ≡ Cleared other one → A
under_cleared class other given one change is = absurd cc

same_cleared : (class other : ℕ) (given one : Given) → Cleared class given ≡ Cleared other one → (class ≡ other) × (given ≡ one)
same_cleared class other given one is = (cc, cc)

-- an object that was taken is neither ripe nor waits once the next reserve is the reserve
renewed_not_marked : (view : Viewed) (events : List Event) (client : ℕ) (object : Object) (clearing : Clearing) → IsView view
    → IsAllowed (opening view) events → IsStocked (run (opening view) events)
    → ((run (opening view) events).clients client).service ≡ Active
    → IsObject (run (opening view) events).view.shape object → (run (opening view) events).uses object ≢ Untaken
    → ((run (opening view) events).clients client).clearing ≡ clearing
    → IsUnmarked object (blocks_of (renewed ((run (opening view) events).clients client) clearing).stock object.class)
renewed_not_marked view events client object NotClearing is allowed stocked active is_object used clears marked =
    let cleared = held_cleared (run (opening view) events) client object stocked active is_object used marked in
    not_cleared object.class cleared.0 (sym clears ∙ cleared.1)
renewed_not_marked view events client object (Under class given change) is allowed stocked active is_object used clears marked =
    let cleared = held_cleared (run (opening view) events) client object stocked active is_object used marked in
    under_cleared class object.class given cleared.0 change (sym clears ∙ cleared.1)
renewed_not_marked view events client object (Cleared class given) is allowed stocked active is_object used clears marked =
    let now = (run (opening view) events).clients client in
    let j = number_of object.pointer object.class in
    let before = taken-marks now.stock class given.next object.class (region_of object.pointer) (block_of object.pointer) j marked in
    let cleared = held_cleared (run (opening view) events) client object stocked active is_object used before in
    let same = same_cleared class object.class given cleared.0 (sym clears ∙ cleared.1) in
    let pointers : object.pointer ≡ given.object =
    ap (λ (o : Object). o.pointer) cleared.2 ∙ ap (λ (g : Given). g.object) (sym same.1) in
    let here : IsMarked (blocks_of (taken now.stock class given.next) object.class) (region_of given.object) (block_of given.object)
    (number_of given.object object.class) =
    subst
    (λ p. IsMarked (blocks_of (taken now.stock class given.next) object.class) (region_of p) (block_of p) (number_of p object.class))
    pointers marked in
    renewed_unmarked view events is allowed client class given clears
    (subst
    (λ k. IsMarked (blocks_of (taken now.stock class given.next) k) (region_of given.object) (block_of given.object)
    (number_of given.object k)) (sym same.0) here)

-- where the next reserve is the reserve the block at the position is the same
renewed_elsewhere : (client : Client) (clearing : Clearing) (object : Object)
    → ((backup : ℕ) → client.stock.phase ≡ Spread true backup → IsElsewhere object client.stock)
    → (backup : ℕ) → (renewed client clearing).stock.phase ≡ Spread true backup
    → IsElsewhere object (renewed client clearing).stock
renewed_elsewhere client NotClearing object elsewhere = elsewhere
renewed_elsewhere client (Under class given change) object elsewhere = elsewhere
renewed_elsewhere client (Cleared class given) object elsewhere = elsewhere

-- an object that was taken is seen so, whatever the machine knows
pub used_sees : (view : Viewed) (events : List Event) (client : ℕ) (object : Object) (machine other : grace.State) → IsView view
    → IsAllowed (opening view) events → IsStocked (run (opening view) events)
    → IsObject (run (opening view) events).view.shape object → (run (opening view) events).uses object ≢ Untaken
    → SeesClient (nothing_of object.class) ((run (opening view) events).clients client) other
    → SeesClient object ((run (opening view) events).clients client) machine
used_sees view events client object machine other is allowed stocked is_object used sees active =
    let now = (run (opening view) events).clients client in
    unmarked_sees object (renewed now now.clearing).stock machine other
    (renewed_not_marked view events client object now.clearing is allowed stocked active is_object used refl) (sees active)
    (renewed_elsewhere now now.clearing object
    (λ backup spreads region block.
    used (spreads_untaken view events is allowed client backup active spreads object (sym region) (sym block))))
