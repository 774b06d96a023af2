-- What stays true of the pool and its clients, whatever they do.
use Rattle.std.proofs.Common.{◌≡◌, ◌≢◌, ℕ, ◌<◌, true, List, Some}
use Rattle.std.specs.Prelude.{Contains}
use Rattle.block_claims.proofs.Soundness.{IsSoundStage, IsSoundWords}
use Rattle.block_claims.specs.Claims.{Stage, Out, Claiming, Spreading, Owning, Gained, Releasing as ReleasingStage}
use Rattle.machine.specs.BitChange.{IsBitChange}
use Rattle.machine.specs.Choosing.{IsChoosing, block_at, region_at}
use Rattle.machine.specs.EpochRead.{IsView}
use Rattle.machine.specs.ObjectNames.{IsObject, Object, names_object}
use Rattle.machine.specs.Places.{IsInPool}
use Rattle.machine.specs.Stock.{Claim, IsStock, OwnBlock, Phase, ReadBitmap, Rest, Spread, Stock}
use Rattle.object_form.specs.declared.classes.TheConstants.{CLASSES}
use Rattle.region_view.specs.Placed.{Viewed}
use Rattle.region_view.specs.Sizes.{Sizes}
use Rattle.verb_words.specs.declared.verbs.Place.{Place}
use Rattle.verb_words.specs.Words.{HasPlace}
use Rattle.object_division.specs.Client.{Active, Cleared, Clearing, Client, Given, Named, NotClearing, Releasing, Returning, Taken, Under, Untaken, Use}
use Rattle.object_division.specs.Run.{State}
use Rattle.object_division.proofs.BlockWordLemmas.{IsBlockOf, block_words}
use Rattle.object_division.proofs.GrownLemmas.{own_of}

-- how far the claim of the block at the position is, at a phase of a choosing
abbrev pub stage_at : Phase → Stock → Stage
stage_at (Claim word) stock = Claiming stock.class word
stage_at (Spread unused backup) stock = Spreading stock.class backup
stage_at ReadBitmap stock = Owning stock.class
stage_at other stock = Out

-- the words of the block at the position
abbrev pub here_words : Viewed → List (List ℕ) → Stock → List ℕ
here_words view words stock = block_words view words (region_at stock) (block_at stock)

-- what a choosing gave are two objects of the class
pub record AreNamed (sizes : Sizes) (class : ℕ) (given : Given) : Type 0 where
  pub below : class < CLASSES
  pub object : names_object sizes class given.object ≡ true
  pub next : names_object sizes class given.next ≡ true

abbrev pub IsSoundClearing : Viewed → Clearing → Type 0
IsSoundClearing view NotClearing = Unit {0}
IsSoundClearing view (Under class given change) = AreNamed view.shape class given × IsBitChange view change
IsSoundClearing view (Cleared class given) = AreNamed view.shape class given

-- the block has been gained, for this class, and its release has not begun
abbrev pub GainedSoundly : Viewed → List (List ℕ) → ℕ → List (ℕ × ℕ) → Stock → Type 0
GainedSoundly view words number released stock =
    (class : ℕ) (own : OwnBlock) → Contains (own_of stock class) own → (Contains released (own.region, own.block) → ⊥)
    → IsSoundStage (block_words view words own.region own.block) number (Gained class)

abbrev pub ClaimsSoundly : Viewed → List (List ℕ) → ℕ → Stock → Type 0
ClaimsSoundly view words number stock = IsSoundStage (here_words view words stock) number (stage_at stock.phase stock)

pub record IsSoundClient (view : Viewed) (words : List (List ℕ)) (number : ℕ) (client : Client) : Type 0 where
  pub stock : IsStock view.shape number client.stock
  pub choosing : client.stock.phase ≢ Rest → IsChoosing view number client.stock.class client.stock
  pub gained : GainedSoundly view words number client.released client.stock
  pub claims : client.service ≡ Active → ClaimsSoundly view words number client.stock
  pub releases : (region block class replicas : ℕ) → client.service ≡ Releasing region block class replicas
      → IsBlockOf view region block × Contains client.released (region, block)
      × IsSoundStage (block_words view words region block) number (ReleasingStage class replicas)
  pub given : (class : ℕ) (given : Given) → client.given class ≡ Some given → AreNamed view.shape class given
  pub clearing : IsSoundClearing view client.clearing

abbrev pub IsSoundUse : Viewed → Object → Use → Type 0
IsSoundUse view object Untaken = Unit {0}
IsSoundUse view object (Taken client) = IsObject view.shape object
IsSoundUse view object (Named client namer) = IsObject view.shape object
IsSoundUse view object (Returning client namer change) = IsObject view.shape object × IsBitChange view change

abbrev pub BlocksAreSound : Viewed → List (List ℕ) → Type 0
BlocksAreSound view words =
    (region block : ℕ) → IsBlockOf view region block → IsSoundWords (block_words view words region block)

abbrev pub HasAllPlaces : Viewed → List (List ℕ) → Type 0
HasAllPlaces view words = (place : Place) → IsInPool view.shape place → HasPlace words place

pub record IsSound (state : State) : Type 0 where
  pub is_view : IsView state.view
  pub places : HasAllPlaces state.view state.words
  pub blocks : BlocksAreSound state.view state.words
  pub clients : (number : ℕ) → IsSoundClient state.view state.words number (state.clients number)
  pub uses : (object : Object) → IsSoundUse state.view object (state.uses object)
