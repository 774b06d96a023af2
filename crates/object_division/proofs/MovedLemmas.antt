-- What the words of the blocks leave true of the clients, when they have changed.
use Rattle.std.proofs.Common.{◌≡◌, ◌≢◌, ℕ, ◌*◌, ◌<◌, Bool, false, List, length, get_or, refl, sym, ◌∙◌, ap, subst, arith, inl, inr}
use Rattle.std.specs.Prelude.{Contains}
use Rattle.std.proofs.lemmas.Bool.{cases_lt}
use Rattle.std.proofs.lemmas.List.{get_or_past}
use Rattle.block_claims.proofs.Soundness.{IsSoundStage, IsSoundWords}
use Rattle.block_claims.specs.Claims.{Stage, Gained, primary_of, Releasing as ReleasingStage}
use Rattle.machine.proofs.ChoosingLemmas.{here_block}
use Rattle.machine.specs.Choosing.{IsAt, IsChoosing, block_at, region_at}
use Rattle.machine.specs.ObjectNames.{Object}
use Rattle.machine.specs.Stock.{AskFirst, Ask, Claim, ClassStock, IsOwn, IsStock, OwnBlock, Phase, ReadBitmap, ReadBlock, Rest, Scan, Spread, Stock, WriteHead, no_stock}
use Rattle.object_form.specs.declared.classes.TheConstants.{CLASSES}
use Rattle.region_view.specs.Placed.{Viewed}
use Rattle.reuse_grace.proofs.Soundness.{at_updated}
use Rattle.reuse_grace.specs.Stock.{updated}
use Rattle.verb_words.proofs.AppliedLemmas.{HasPlace-words_after}
use Rattle.verb_words.specs.declared.verbs.Verb.{Verb}
use Rattle.verb_words.specs.Applied.{words_after}
use Rattle.verb_words.specs.Verb.{place_of}
use Rattle.object_division.specs.Claims.{IsOfClass, IsOpenTo}
use Rattle.object_division.specs.Client.{Client, Use}
use Rattle.object_division.specs.Run.{State}
use Rattle.object_division.proofs.BlockWordLemmas.{IsBlockOf, IsElsewhere, block_words, block_words-elsewhere}
use Rattle.object_division.proofs.GrownLemmas.{ClaimsNothing, KeepsOwn, own_of}
use Rattle.object_division.proofs.Soundness.{BlocksAreSound, GainedSoundly, HasAllPlaces, IsSound, IsSoundClient, IsSoundUse, here_words, stage_at}

-- a block that a client has gained is one of the pool
pub own_block : (view : Viewed) (number class : ℕ) (stock : Stock) (own : OwnBlock) → IsStock view.shape number stock
    → Contains (own_of stock class) own → IsBlockOf view own.region own.block
own_block view number class stock own is has =
    elim (cases_lt class CLASSES) [
      | inl below ↦
          let all = (is.classes class below).own has.0 own has.1 in
          let one : IsOwn view.shape class own = subst (λ o. IsOwn view.shape class o) has.2 all in
          record { region_within = one.region; block_within = one.block }
      | inr past ↦
          let none : (get_or stock.classes class no_stock) ≡ no_stock = get_or_past stock.classes class no_stock (omega (arith, is.whole)) in
          let within : has.0 < length (no_stock).own = subst (λ (c : ClassStock). has.0 < length c.own) none has.1 in
          absurd (omega (arith, within))
    ]

-- what the words of every block keep of what holds of a client's stages, in new words
unfoldable pub WordsMove : Viewed → List (List ℕ) → List (List ℕ) → ℕ → Type 0
WordsMove view words new number =
    (region block : ℕ) → IsBlockOf view region block → (stage : Stage)
    → IsSoundStage (block_words view words region block) number stage
    → IsSoundStage (block_words view new region block) number stage

-- no block has another word
unfoldable pub SameBlocks : Viewed → List (List ℕ) → List (List ℕ) → Type 0
SameBlocks view words new =
    (region block : ℕ) → IsBlockOf view region block → block_words view new region block ≡ block_words view words region block

-- a granted block is of the class still, and one that is unused or of the class was so before
unfoldable pub KeepsClass : Viewed → List (List ℕ) → List (List ℕ) → Type 0
KeepsClass view words new =
    (region block class : ℕ) → IsBlockOf view region block → class < CLASSES
    → (IsOfClass (primary_of (block_words view words region block)) class
    → IsOfClass (primary_of (block_words view new region block)) class)
    × (IsOpenTo (primary_of (block_words view new region block)) class
    → IsOpenTo (primary_of (block_words view words region block)) class)

pub KeepsClass-same : (view : Viewed) (words new : List (List ℕ)) → SameBlocks view words new → KeepsClass view words new
unfolding KeepsClass SameBlocks
KeepsClass-same view words new same region block class within below = (
  λ is. subst (λ list. IsOfClass (primary_of list) class) (sym (same region block within)) is,
  λ is. subst (λ list. IsOpenTo (primary_of list) class) (same region block within) is,
)

pub WordsMove-same : (view : Viewed) (words new : List (List ℕ)) (number : ℕ) → SameBlocks view words new
    → WordsMove view words new number
unfolding WordsMove SameBlocks
WordsMove-same view words new number same region block within stage is =
    subst (λ list. IsSoundStage list number stage) (sym (same region block within)) is

pub BlocksAreSound-same : (view : Viewed) (words new : List (List ℕ)) → SameBlocks view words new → BlocksAreSound view words
    → BlocksAreSound view new
unfolding SameBlocks
BlocksAreSound-same view words new same sound region block within =
    subst (λ list. IsSoundWords list) (sym (same region block within)) (sound region block within)

pub SameBlocks-elsewhere : (view : Viewed) (words : List (List ℕ)) (verb : Verb)
    → ((region block : ℕ) → IsBlockOf view region block → IsElsewhere view region block (place_of verb))
    → SameBlocks view words (words_after words verb false)
unfolding SameBlocks
SameBlocks-elsewhere view words verb apart region block within =
    block_words-elsewhere view words region block verb (apart region block within)

pub SameBlocks-equal : (view : Viewed) (words new : List (List ℕ)) → new ≡ words → SameBlocks view words new
unfolding SameBlocks
SameBlocks-equal view words new same region block within = ap (λ w. block_words view w region block) same

-- ---- a client that does nothing

pub here_within : (view : Viewed) (number class : ℕ) (stock : Stock) → IsChoosing view number class stock
    → stock.position < stock.shape.regions * stock.shape.blocks → IsBlockOf view (region_at stock) (block_at stock)
here_within view number class stock is within =
    let here = here_block view number class stock is.ready within in
    record { region_within = (here.0, here.1); block_within = here.2 }

at_phase : (phase : Phase) (stock : Stock) → stock.phase ≡ phase → IsAt stock.phase stock → IsAt phase stock
at_phase phase stock same is = subst (λ p. IsAt p stock) same is

-- a phase at which a claim is under way is one of a choosing, at a block of the pool
claims_moved : (view : Viewed) (words new : List (List ℕ)) (number : ℕ) (stock : Stock) (phase : Phase)
    → (stock.phase ≢ Rest → IsChoosing view number stock.class stock) → stock.phase ≡ phase → WordsMove view words new number
    → IsSoundStage (here_words view words stock) number (stage_at phase stock)
    → IsSoundStage (here_words view new stock) number (stage_at phase stock)
unfolding WordsMove
claims_moved view words new number stock Rest is same move sound = tt
claims_moved view words new number stock AskFirst is same move sound = tt
claims_moved view words new number stock (Scan own) is same move sound = tt
claims_moved view words new number stock (Ask client) is same move sound = tt
claims_moved view words new number stock ReadBlock is same move sound = tt
claims_moved view words new number stock (Claim word) is same move sound =
    let choosing = is (λ rests. claim_rests word (sym same ∙ rests)) in
    move (region_at stock) (block_at stock)
    (here_within view number stock.class stock choosing (at_phase (Claim word) stock same choosing.phase))
    (stage_at (Claim word) stock) sound
  where
    claim_rests : (w : ℕ) → Claim w ≡ Rest → ⊥
    claim_rests w rests = cc
claims_moved view words new number stock (Spread unused backup) is same move sound =
    let choosing = is (λ rests. spread_rests unused backup (sym same ∙ rests)) in
    move (region_at stock) (block_at stock)
    (here_within view number stock.class stock choosing (at_phase (Spread unused backup) stock same choosing.phase).0)
    (stage_at (Spread unused backup) stock) sound
  where
    spread_rests : (u : Bool) (b : ℕ) → Spread u b ≡ Rest → ⊥
    spread_rests u b rests = cc
claims_moved view words new number stock ReadBitmap is same move sound =
    let choosing = is (λ rests. bitmap_rests (sym same ∙ rests)) in
    move (region_at stock) (block_at stock)
    (here_within view number stock.class stock choosing (at_phase ReadBitmap stock same choosing.phase))
    (stage_at ReadBitmap stock) sound
  where
    bitmap_rests : ReadBitmap ≡ Rest → ⊥
    bitmap_rests rests = cc
claims_moved view words new number stock WriteHead is same move sound = tt

pub GainedSoundly-moved : (view : Viewed) (words new : List (List ℕ)) (number : ℕ) (released : List (ℕ × ℕ)) (stock : Stock)
    → IsStock view.shape number stock → WordsMove view words new number → GainedSoundly view words number released stock
    → GainedSoundly view new number released stock
unfolding WordsMove
GainedSoundly-moved view words new number released stock is move gained class own has kept =
    move own.region own.block (own_block view number class stock own is has) (Gained class) (gained class own has kept)

pub IsSoundClient-moved : (view : Viewed) (words new : List (List ℕ)) (number : ℕ) (client : Client)
    → WordsMove view words new number → IsSoundClient view words number client → IsSoundClient view new number client
unfolding WordsMove
IsSoundClient-moved view words new number client move sound =
    record {
      stock = sound.stock;
      choosing = sound.choosing;
      gained = GainedSoundly-moved view words new number client.released client.stock sound.stock move sound.gained;
      claims = λ active.
          claims_moved view words new number client.stock client.stock.phase sound.choosing refl move (sound.claims active);
      releases = λ region block class replicas is.
          let old = sound.releases region block class replicas is in
          (old.0, old.1, move region block old.0 (ReleasingStage class replicas) old.2);
      given = sound.given;
      clearing = sound.clearing;
    }

-- ---- what a client that gains nothing keeps

pub GainedSoundly-kept : (view : Viewed) (words : List (List ℕ)) (number : ℕ) (released : List (ℕ × ℕ)) (stock new : Stock)
    → KeepsOwn stock new → GainedSoundly view words number released stock → GainedSoundly view words number released new
GainedSoundly-kept view words number released stock new keeps gained class own has kept =
    let among = keeps class own has in
    subst (λ region. IsSoundStage (block_words view words region own.block) number (Gained class)) among.region
    (subst (λ block. IsSoundStage (block_words view words among.old.region block) number (Gained class)) among.block
    (gained class among.old among.has
    (λ begun.
    kept
    (subst (λ region. Contains released (region, own.block)) among.region
    (subst (λ block. Contains released (among.old.region, block)) among.block begun)))))

pub claims_nothing : (view : Viewed) (words : List (List ℕ)) (number : ℕ) (stock : Stock) (phase : Phase) → ClaimsNothing phase
    → IsSoundStage (here_words view words stock) number (stage_at phase stock)
claims_nothing view words number stock Rest nothing = tt
claims_nothing view words number stock AskFirst nothing = tt
claims_nothing view words number stock (Scan own) nothing = tt
claims_nothing view words number stock (Ask client) nothing = tt
claims_nothing view words number stock ReadBlock nothing = tt
claims_nothing view words number stock (Claim word) nothing = absurd nothing
claims_nothing view words number stock (Spread unused backup) nothing = absurd nothing
claims_nothing view words number stock ReadBitmap nothing = absurd nothing
claims_nothing view words number stock WriteHead nothing = tt

-- ---- one client moves

-- the words are these, and one client is this one then; what has become of the objects is said by another function
pub IsSound-moved : (state : State) (words : List (List ℕ)) (number : ℕ) (client : Client) (uses : Object → Use) → IsSound state
    → HasAllPlaces state.view words → BlocksAreSound state.view words
    → IsSoundClient state.view words number client
    → ((other : ℕ) → number ≢ other → WordsMove state.view state.words words other)
    → ((object : Object) → IsSoundUse state.view object (uses object))
    → IsSound (record state { words = words; clients = updated state.clients number client; uses = uses })
IsSound-moved state words number client uses sound places blocks own others uses_sound =
    record {
      is_view = sound.is_view;
      places = places;
      blocks = blocks;
      clients = λ other.
          at_updated (λ (c : Client). IsSoundClient state.view words other c) state.clients number client other
          (λ same. subst (λ n. IsSoundClient state.view words n client) same own)
          (λ apart.
          IsSoundClient-moved state.view state.words words other (state.clients other) (others other apart) (sound.clients other));
      uses = uses_sound;
    }

pub HasAllPlaces-after : (view : Viewed) (words : List (List ℕ)) (verb : Verb) → HasAllPlaces view words
    → HasAllPlaces view (words_after words verb false)
HasAllPlaces-after view words verb has place inside = HasPlace-words_after words verb false place (has place inside)

-- a verb that changes no block's word
pub IsSound-elsewhere : (state : State) (words : List (List ℕ)) (number : ℕ) (client : Client) (uses : Object → Use)
    → IsSound state → HasAllPlaces state.view words → SameBlocks state.view state.words words
    → IsSoundClient state.view state.words number client
    → ((object : Object) → IsSoundUse state.view object (uses object))
    → IsSound (record state { words = words; clients = updated state.clients number client; uses = uses })
IsSound-elsewhere state words number client uses sound places same own uses_sound =
    IsSound-moved state words number client uses sound places (BlocksAreSound-same state.view state.words words same sound.blocks)
    (IsSoundClient-moved state.view state.words words number client
    (WordsMove-same state.view state.words words number same) own)
    (λ other apart. WordsMove-same state.view state.words words other same)
    uses_sound

-- no client moves
pub IsSound-words : (state : State) (words : List (List ℕ)) (uses : Object → Use) → IsSound state
    → HasAllPlaces state.view words → SameBlocks state.view state.words words
    → ((object : Object) → IsSoundUse state.view object (uses object)) → IsSound (record state { words = words; uses = uses })
IsSound-words state words uses sound places same uses_sound =
    record {
      is_view = sound.is_view;
      places = places;
      blocks = BlocksAreSound-same state.view state.words words same sound.blocks;
      clients = λ number.
          IsSoundClient-moved state.view state.words words number (state.clients number)
          (WordsMove-same state.view state.words words number same) (sound.clients number);
      uses = uses_sound;
    }
