-- While it releases blocks a recovery stays one, and its verbs go to places of the pool.
use Rattle.std.proofs.Common.{◌≡◌, ℕ, ◌+◌, ◌*◌, ◌/◌, ◌%◌, ◌<◌, ◌≤◌, ◌==◌, Bool, true, false, Option, Some, None, refl, arith}
use Rattle.std.specs.Prelude.{nat_lt}
use Rattle.std.proofs.Math.Nat.{div-lt_iff_lt-mul, mod-lt}
use Rattle.std.proofs.lemmas.Bool.Decides.{nat_tests}
use Rattle.block_alloc.proofs.BlockWordLemmas.{block_in-gives}
use Rattle.block_alloc.specs.declared.BlockWord.{BlockWord}
use Rattle.block_alloc.specs.declared.BlockWord.TheVariants.{Unused, Owned, Released}
use Rattle.block_alloc.specs.BlockWord.{block_in}
use Rattle.machine.specs.BlockRelease.{block_from, first_block, goes_to, next_block, on_block, on_block_word, read_block, release, spread, spreads_from, write_begin}
use Rattle.machine.specs.Places.{IsInPool, replica_count}
use Rattle.machine.specs.RecoveryStage.{HasBlock, HasView, IsAt, IsRecovery, Recovery, Stage, Spread, Release, view_of, word_at_block}
use Rattle.machine.proofs.PlacesLemmas.{control-inside, primary_place-inside, written_place-inside}
use Rattle.object_form.specs.declared.classes.TheConstants.{CLASSES}
use Rattle.region_view.specs.Control.{Begin}
use Rattle.region_view.specs.Layout.{HasWord}
use Rattle.region_view.specs.Sizes.{IsWithinLimits, Sizes}
use Rattle.verb_words.specs.Verb.{place_of}

-- what holds of each recovery, whatever its stage
pub record IsBase (shape : Sizes) (number : ℕ) (recovery : Recovery) : Type 0 where
  pub same_shape : recovery.shape ≡ shape
  pub same_client : recovery.client ≡ number
  pub limits : IsWithinLimits recovery.shape
  pub client : (1 ≤ recovery.client) × (recovery.client ≤ recovery.shape.clients)

pub base_of : (s : Sizes) (n : ℕ) (recovery : Recovery) → IsRecovery s n recovery → IsBase s n recovery
base_of s n recovery is = record { same_shape = is.same_shape; same_client = is.same_client; limits = is.limits; client = is.client }

pub goes_to-is : (s : Sizes) (n : ℕ) (recovery : Recovery) (stage : Stage) → IsBase s n recovery → IsAt stage (record recovery { stage = stage }) → IsRecovery s n (goes_to recovery stage).state
goes_to-is s n recovery stage base at = record { same_shape = base.same_shape; same_client = base.same_client; limits = base.limits; client = base.client; stage = at }

block_from-is : (s : Sizes) (n : ℕ) (recovery : Recovery) (position : ℕ) → IsRecovery s n recovery → HasView recovery → IsRecovery s n (block_from recovery position).state
block_from-is s n recovery position is view = by (nat_lt position (recovery.shape.regions * recovery.shape.blocks)) refl
  where
    by : (t : Bool) → nat_lt position (recovery.shape.regions * recovery.shape.blocks) ≡ t → IsRecovery s n (block_from recovery position).state
    by true more = rw more (record { same_shape = is.same_shape; same_client = is.same_client; limits = is.limits; client = is.client; stage = (view, grind (arith, nat_tests)) })
    by false last = rw last is

pub first_block-is : (s : Sizes) (n : ℕ) (recovery : Recovery) → IsRecovery s n recovery → HasView recovery → IsRecovery s n (first_block recovery).state
first_block-is s n recovery is view = block_from-is s n recovery 0 is view

pub next_block-is : (s : Sizes) (n : ℕ) (recovery : Recovery) → IsRecovery s n recovery → HasView recovery → IsRecovery s n (next_block recovery).state
next_block-is s n recovery is view = block_from-is s n recovery (recovery.position + 1) is view

pub spreads_from-is : (s : Sizes) (n : ℕ) (recovery : Recovery) (class backup : ℕ) → IsBase s n recovery → HasBlock recovery → class < CLASSES → IsRecovery s n (spreads_from recovery class backup).state
spreads_from-is s n recovery class backup base block below = by (nat_lt (backup + 1) (replica_count (view_of recovery) (word_at_block recovery))) refl
  where
    by : (t : Bool) → nat_lt (backup + 1) (replica_count (view_of recovery) (word_at_block recovery)) ≡ t → IsRecovery s n (spreads_from recovery class backup).state
    by true more = rw more (goes_to-is s n recovery (Spread class backup) base (block, below, grind (arith, nat_tests)))
    by false last = rw last (goes_to-is s n recovery (Release class) base (block, below))

pub on_block_word-is : (s : Sizes) (n : ℕ) (recovery : Recovery) (found : ℕ) → IsRecovery s n recovery → HasBlock recovery → IsRecovery s n (on_block_word recovery found).state
on_block_word-is s n recovery found is block = by (block_in found) refl
  where
    of_client : (client class : ℕ) → class < CLASSES → (t : Bool) → (client == recovery.client) ≡ t → IsRecovery s n (on_block recovery (Some (Owned client class))).state
    of_client client class below true own = rw own (spreads_from-is s n recovery class 0 (base_of s n recovery is) block below)
    of_client client class below false other = rw other (next_block-is s n recovery is block.0)

    by : (b : Option BlockWord) → block_in found ≡ b → IsRecovery s n (on_block recovery b).state
    by None gives = next_block-is s n recovery is block.0
    by (Some Unused) gives = next_block-is s n recovery is block.0
    by (Some (Released class)) gives = next_block-is s n recovery is block.0
    by (Some (Owned client class)) gives =
        of_client client class (block_in-gives found (Owned client class) gives).0.1 (client == recovery.client) refl

-- the block at the position is one of a data region
block-has : (recovery : Recovery) → IsWithinLimits recovery.shape → HasBlock recovery → HasWord recovery.shape (word_at_block recovery)
block-has recovery limits block =
    let some : 0 < recovery.shape.blocks = omega (arith, limits.blocks) in
    let region : recovery.position / recovery.shape.blocks < recovery.shape.regions = (div-lt_iff_lt-mul some).1 block.1 in
    let number : recovery.position % recovery.shape.blocks < recovery.shape.blocks = mod-lt recovery.position some in
    (omega arith, omega arith, number)

pub write_begin-inside : (s : Sizes) (n : ℕ) (recovery : Recovery) → IsBase s n recovery → IsInPool recovery.shape (place_of (write_begin recovery))
write_begin-inside s n recovery base =
    control-inside recovery.shape (Begin recovery.client) (base.client.0, omega (arith, base.client, base.limits.clients))

pub read_block-inside : (s : Sizes) (n : ℕ) (recovery : Recovery) → IsBase s n recovery → HasBlock recovery → IsInPool recovery.shape (place_of (read_block recovery))
read_block-inside s n recovery base block =
    let has = block-has recovery base.limits block in
    primary_place-inside (view_of recovery) (word_at_block recovery) block.0 has has.1

pub spread-inside : (s : Sizes) (n : ℕ) (recovery : Recovery) (class backup : ℕ) → IsBase s n recovery → HasBlock recovery → backup + 1 < replica_count (view_of recovery) (word_at_block recovery)
    → IsInPool recovery.shape (place_of (spread recovery class backup))
spread-inside s n recovery class backup base block more =
    written_place-inside (view_of recovery) (word_at_block recovery) backup block.0 (block-has recovery base.limits block) (omega arith)

pub release-inside : (s : Sizes) (n : ℕ) (recovery : Recovery) (class : ℕ) → IsBase s n recovery → HasBlock recovery → IsInPool recovery.shape (place_of (release recovery class))
release-inside s n recovery class base block =
    let has = block-has recovery base.limits block in
    primary_place-inside (view_of recovery) (word_at_block recovery) block.0 has has.1
