-- What a turn marks anew is in stock in a block that the client owns, or is untaken.
use Rattle.std.proofs.Common.{◌≡◌, ◌≢◌, ℕ, ◌⊎◌, true, inl, inr, List, [], refl, sym, ap, subst, ◌∙◌, arith, eq-eqb}
use Rattle.std.specs.Prelude.{Contains}
use Rattle.std.specs.Int.{bit_at}
use Rattle.std.proofs.lemmas.List.{get_or_default}
use Rattle.block_claims.proofs.Soundness.{IsOwner, IsSoundStage}
use Rattle.block_claims.specs.Claims.{Owning, owned as owned_word, primary_of}
use Rattle.machine.proofs.ChoosingLemmas.{held_view}
use Rattle.machine.specs.BitChange.{has_bit}
use Rattle.machine.specs.Choosing.{IsAt, block_at, next, no_block, own_at, region_at, verb_at}
use Rattle.machine.specs.EpochRead.{IsView}
use Rattle.machine.specs.ObjectNames.{IsObject, Object, block_of, number_of}
use Rattle.machine.specs.Places.{primary_place}
use Rattle.machine.specs.Stock.{AskFirst, Ask, Claim, Phase, ReadBitmap, ReadBlock, Rest, Scan, Spread, WriteHead, class_stock}
use Rattle.pointer_fields.specs.Pointer.{region_of}
use Rattle.region_view.specs.Layout.{Bitmap}
use Rattle.region_view.specs.Placed.{Viewed}
use Rattle.verb_words.specs.Verb.{place_of}
use Rattle.verb_words.specs.Words.{word_at}
use Rattle.object_division.specs.Allowed.{IsAllowed}
use Rattle.object_division.specs.Claims.{IsGranted}
use Rattle.object_division.specs.Client.{Active, Untaken}
use Rattle.object_division.specs.Marks.{IsSeen, blocks_of}
use Rattle.object_division.specs.Run.{Event, State, is_in_stock, opening, run}
use Rattle.object_division.proofs.BlockWordLemmas.{block_words}
use Rattle.object_division.proofs.ClassLemmas.{HasClass, IsGranted-has}
use Rattle.object_division.proofs.OwnLemmas.{AllHaveTheirOwn}
use Rattle.object_division.proofs.Soundness.{here_words, stage_at}
use Rattle.object_division.proofs.UntakenBlockLemmas.{AllSpreadUntaken, IsKept, IsKept-opening, IsKept-run, no_used, untaken}

-- it is in stock, of a block that is granted for its class; or nobody has taken it
abbrev IsGood : State → Object → Type 0
IsGood state object =
    ((is_in_stock state object ≡ true) × IsGranted state object) ⊎ (state.uses object ≡ Untaken)

-- its bit was found set on the primary, in a block that a client owns for the class
found_good : (state : State) (number region block class : ℕ) (object : Object) → IsView state.view
    → IsObject state.view.shape object → IsOwner (block_words state.view state.words region block) number class
    → object.class ≡ class → region ≡ region_of object.pointer → block ≡ block_of object.pointer
    → bit_at (word_at state.words (primary_place state.view (Bitmap region block))) (number_of object.pointer object.class) ≡ 1
    → IsGood state object
unfolding HasClass
found_good state number region block class object is_view is owner classes regions blocks bit =
    inl (
      subst (λ r. InStock r (block_of object.pointer)) regions
          (subst (λ b. InStock region b) blocks
          (eq-eqb (bit_at (word_at state.words (primary_place state.view (Bitmap region block))) (number_of object.pointer object.class))
          1 bit)),
      IsGranted-has state object is_view is
          (inr (number, subst (λ c. Owned region_here block_here c) (sym classes) owned)),
    )
  where
    InStock : ℕ → ℕ → Type 0
    InStock r b =
        has_bit (word_at state.words (primary_place state.view (Bitmap r b))) (number_of object.pointer object.class) ≡ true

    region_here : ℕ
    region_here = region_of object.pointer

    block_here : ℕ
    block_here = block_of object.pointer

    Owned : ℕ → ℕ → ℕ → Type 0
    Owned r b c = primary_of (block_words state.view state.words r b) ≡ owned_word number c

    owned : Owned region_here block_here class
    owned = subst (λ r. Owned r block_here class) regions (subst (λ b. Owned region b class) blocks owner.primary)

pub seen_good : (state : State) (number : ℕ) (object : Object) (phase : Phase) → IsKept state
    → (state.clients number).service ≡ Active → (state.clients number).stock.phase ≢ Rest
    → (state.clients number).stock.phase ≡ phase → IsObject state.view.shape object
    → IsSeen phase (state.clients number).stock (word_at state.words (place_of (verb_at phase (state.clients number).stock)))
    object.class (region_of object.pointer) (block_of object.pointer) (number_of object.pointer object.class)
    → IsGood state object
unfolding AllSpreadUntaken AllHaveTheirOwn
seen_good state number object Rest kept active works same is seen = absurd seen
seen_good state number object AskFirst kept active works same is seen = absurd seen
seen_good state number object (Scan i) kept active works same is seen =
    let stock = (state.clients number).stock in
    let choosing = (kept.sound.clients number).choosing works in
    let below = subst (λ p. IsAt p stock) same choosing.phase in
    let list = (class_stock stock).own in
    let own = own_at stock i in
    let has : Contains (blocks_of stock stock.class) own = (i, below, get_or_default list i own no_block below) in
    let owner = ((kept.sound.clients number).gained stock.class own has
    (λ begun.
    none_has (own.region, own.block)
    (subst (λ released. Contains released (own.region, own.block)) ((kept.own number).released active) begun))).0 in
    found_good state number own.region own.block stock.class object kept.sound.is_view is owner seen.0 seen.1 seen.2
    (subst
    (λ (v : Viewed). bit_at (word_at state.words (primary_place v (Bitmap own.region own.block))) (number_of object.pointer object.class) ≡ 1)
    (held_view state.view number stock.class stock choosing.ready) seen.3)
  where
    none_has : (one : ℕ × ℕ) → Contains [] one → ⊥
    none_has one has = omega (arith, has.1)
seen_good state number object (Ask client) kept active works same is seen = absurd seen
seen_good state number object ReadBlock kept active works same is seen = absurd seen
seen_good state number object (Claim word) kept active works same is seen =
    inr
    (untaken (state.uses object)
    (λ used.
    no_used state number kept.sound kept.classes works (same ∙ ap (λ w. Claim w) seen.1)
    (subst (λ p. word_at state.words (place_of (verb_at p (state.clients number).stock)) ≡ 0) (sym same) (seen.2 ∙ seen.1)) object
    used (sym seen.0.region_is) (sym seen.0.block_is)))
seen_good state number object (Spread unused backup) kept active works same is seen =
    inr
    (untaken (state.uses object)
    (λ used.
    kept.spreads number active backup (same ∙ ap (λ u. Spread u backup) seen.1) object used (sym seen.0.region_is)
    (sym seen.0.block_is)))
seen_good state number object ReadBitmap kept active works same is seen =
    let stock = (state.clients number).stock in
    let choosing = (kept.sound.clients number).choosing works in
    let owning : IsSoundStage (here_words state.view state.words stock) number (Owning stock.class) =
    subst (λ p. IsSoundStage (here_words state.view state.words stock) number (stage_at p stock)) same
    ((kept.sound.clients number).claims active) in
    found_good state number (region_at stock) (block_at stock) stock.class object kept.sound.is_view is owning.0
    seen.0.class_is seen.0.region_is seen.0.block_is
    (subst
    (λ (v : Viewed). bit_at (word_at state.words (primary_place v (Bitmap (region_at stock) (block_at stock)))) (number_of object.pointer object.class) ≡ 1)
    (held_view state.view number stock.class stock choosing.ready) seen.1)
seen_good state number object WriteHead kept active works same is seen = absurd seen

-- ---- the theorem

pub seen_marks : (view : Viewed) (events : List Event) → IsView view → IsAllowed (opening view) events → (client : ℕ) (object : Object)
    → ((run (opening view) events).clients client).service ≡ Active
    → ((run (opening view) events).clients client).stock.phase ≢ Rest
    → IsObject (run (opening view) events).view.shape object
    → IsSeen ((run (opening view) events).clients client).stock.phase ((run (opening view) events).clients client).stock
    (word_at (run (opening view) events).words (place_of (next ((run (opening view) events).clients client).stock)))
    object.class (region_of object.pointer) (block_of object.pointer) (number_of object.pointer object.class)
    → ((is_in_stock (run (opening view) events) object ≡ true) × IsGranted (run (opening view) events) object)
    ⊎ ((run (opening view) events).uses object ≡ Untaken)
seen_marks view events is allowed client object active works named =
    seen_good (run (opening view) events) client object ((run (opening view) events).clients client).stock.phase
    (IsKept-run (opening view) events allowed (IsKept-opening view is)) active works refl named
