-- What is said of the world and of its runs: the headline, and the words that it is made of.
use Rattle.std.specs.Prelude.{◌≡◌, ℕ, ◌+◌, ◌*◌, ◌%◌, ◌<◌, ◌≤◌, ◌↔◌, Bool, true, false, ◌&&◌, ◌||◌, ◌==◌, not, if◌then◌else◌, List, [], ◌∷◌, length, take, map, slice_index, All, Option, Some, None, IsTrue}
use Rattle.std.specs.List.{list_all, range_with_len}
use Rattle.std.specs.Option.{option_map_or}
use Rattle.machine.specs.KeyTest.{fits}
use Rattle.machine.specs.ObjectNames.{Object, candidate_in}
use Rattle.machine.specs.Places.{control, object_word, place_of_home, slot_homes_of}
use Rattle.machine.specs.Remembered.{Pair}
use Rattle.machine_world.specs.Events.{happens}
use Rattle.machine_world.specs.Ledger.{history_of}
use Rattle.machine_world.specs.Readings.{block_state, deciding_word, epoch_in_force, granted_objects, is_in_stock, is_sealed, is_unfinished, names, state_of_object, view_in_force, word_in_force}
use Rattle.machine_world.specs.Runs.{run}
use Rattle.machine_world.specs.World.{World, client_at, first_world, is_among, is_registered, is_stopped}
use Rattle.machine_world.specs.declared.events.Event.{Event}
use Rattle.machine_world.specs.declared.parts.BlockState.TheVariants as of_block
use Rattle.machine_world.specs.declared.parts.ObjectState.TheVariants as of_object
use Rattle.map_model.specs.Linear.{IsLinear}
use Rattle.object_form.specs.Class.{words_for}
use Rattle.object_form.specs.Content.{word_from}
use Rattle.object_form.specs.Meta.{meta_in}
use Rattle.region_view.specs.Control.{Begin}
use Rattle.region_view.specs.Sizes.{Sizes}
use Rattle.slot_order.specs.Slots.{order_of}
use Rattle.snapshot_rules.specs.Winner.{winner}
use Rattle.verb_words.specs.Words.{word_at}

-- The division of blocks: each is unused, or released, or a running client owns it, or it awaits the recovery of a stopped
-- client.
pub record DividesBlocks (world : World) : Type 0 where
  pub owned : (region block client : ℕ) → 1 ≤ region → region ≤ world.shape.regions → block < world.shape.blocks
      → block_state world region block ≡ of_block.Owned client
      → (is_registered world client ≡ true) × (is_stopped world client ≡ false)
  pub awaiting : (region block client : ℕ) → 1 ≤ region → region ≤ world.shape.regions → block < world.shape.blocks
      → block_state world region block ≡ of_block.Awaiting client
      → (is_stopped world client ≡ true) × (is_among client world.master.recovered ≡ false)

-- a slot's deciding word names the object
abbrev pub IsPresentAt : World → Object → ℕ → Type 0
IsPresentAt world object slot =
    (slot < 24 * world.shape.groups) × IsTrue (names world.shape object.pointer (deciding_word world.shape world.nodes slot))

-- The division of objects: each object of a granted block is in stock, and then no slot names it; or one slot alone names
-- it; or an unfinished call holds it.
pub record IsDivided (world : World) (object : Object) : Type 0 where
  pub in_stock : state_of_object world object ≡ of_object.Stock → (slot : ℕ) → ¬ IsPresentAt world object slot
  pub present : (slot other : ℕ) → state_of_object world object ≡ of_object.Present slot → IsPresentAt world object other → other ≡ slot
  pub held : (client : ℕ) → state_of_object world object ≡ of_object.Held client → is_unfinished world client ≡ true

abbrev pub DividesObjects : World → Type 0
DividesObjects world = All (IsDivided world) (granted_objects world)

-- no call is unfinished
abbrev pub IsAtRest : World → Type 0
IsAtRest world = (client : ℕ) → is_unfinished world client ≡ false

-- at rest an object is in stock exactly where no slot names it
abbrev pub RestDivides : World → Type 0
RestDivides world =
    IsAtRest world
    → All (λ object. (is_in_stock world.shape world.nodes object ≡ true) ↔ ((slot : ℕ) → ¬ IsPresentAt world object slot)) (granted_objects world)

-- the history is a linearization of the trace
abbrev pub IsHistoryLinear : World → Type 0
IsHistoryLinear world = IsLinear world.trace (history_of world)

-- what the headline says of one state
pub record Holds (world : World) : Type 0 where
  pub linear : IsHistoryLinear world
  pub blocks : DividesBlocks world
  pub objects : DividesObjects world
  pub rest : RestDivides world

-- The headline: it holds at the opening of every pool, and after each event of every run.
abbrev pub Headline : Sizes → List Event → Type 0
Headline sizes events = (n : ℕ) → n ≤ length events → Holds (run sizes (take n events))

-- Calls and the objects that they may know.

abbrev pub begin_word : World → ℕ → ℕ
begin_word world client = word_at world.nodes (control (Begin client))

-- The client's present call has met the object: since it has written its begin word, the object was out of stock at some
-- moment.
pub record HasMet (sizes : Sizes) (events : List Event) (client : ℕ) (object : Object) : Type 0 where
  pub moment : ℕ
  pub within : moment ≤ length events
  pub inside : begin_word (run sizes events) client % 2 ≡ 1
  pub since : begin_word (run sizes (take moment events)) client ≡ begin_word (run sizes events) client
  pub out : is_in_stock sizes (run sizes (take moment events)).nodes object ≡ false

-- Remembered places.

abbrev pub key_word_is : World → Object → List ℕ → ℕ → Bool
key_word_is world object key i =
    word_in_force world.shape world.nodes (object_word object.pointer (4 + i)) == word_from key i

-- whether an object has a key, by its words on the primary
abbrev pub has_key : World → List ℕ → Object → Bool
has_key world key object =
    option_map_or (fits (length key) object.class) (meta_in (word_in_force world.shape world.nodes (object_word object.pointer 1))) false
    && list_all (key_word_is world object key) (range_with_len 0 (words_for (length key)))

-- a remembered pair is right: the slot at its place names an object of its key
abbrev pub is_right : World → Pair → Bool
is_right world pair =
    option_map_or
    (has_key world pair.0)
    (candidate_in world.shape pair.0 (deciding_word world.shape world.nodes (slice_index (order_of pair.0 world.shape.groups) pair.1)))
    false

abbrev pub RemembersRightly : World → Type 0
RemembersRightly world = (client : ℕ) → All (λ pair. is_right world pair ≡ true) (client_at world client).remembered

-- Rounds of a slot.

-- the words of a slot's backups under the mask in force
abbrev pub backup_words : World → ℕ → List ℕ
backup_words world slot =
    map (λ home. word_at world.nodes (place_of_home world.shape home)) (backups_of (slot_homes_of (view_in_force world.shape world.nodes) slot))
  where
    backups_of : {A : Type 0} → List A → List A
    backups_of [] = []
    backups_of (home ∷ homes) = homes

-- whether a round ends: another word decides, or another view is opened
abbrev pub ends_round : World → World → ℕ → Bool
ends_round before now slot =
    not (deciding_word before.shape before.nodes slot == deciding_word now.shape now.nodes slot)
    || (not (epoch_in_force before.nodes == epoch_in_force now.nodes) && not (is_sealed now.nodes))

-- the first word on a backup in place of the deciding word, if there is one
abbrev pub first_after : ℕ → Option ℕ → ℕ → ℕ → Option ℕ
first_after deciding (Some first) was is = Some first
first_after deciding None was is = if was == deciding then (if is == deciding then None else Some is) else None

abbrev pub firsts_with : ℕ → List (Option ℕ) → List ℕ → List ℕ → List (Option ℕ)
firsts_with deciding (first ∷ firsts) (was ∷ before) (is ∷ now) = first_after deciding first was is ∷ firsts_with deciding firsts before now
firsts_with deciding firsts before now = []

abbrev pub no_firsts : World → ℕ → List (Option ℕ)
no_firsts world slot = map (λ word. None) (backup_words world slot)

-- the first words of a slot's present round, after one more event
abbrev pub firsts_after : World → World → ℕ → List (Option ℕ) → List (Option ℕ)
firsts_after before now slot firsts =
    if ends_round before now slot
    then no_firsts now slot
    else firsts_with (deciding_word before.shape before.nodes slot) firsts (backup_words before slot) (backup_words now slot)

-- the first words of a slot's present round, after events from a world in which it has these
abbrev pub firsts_from : World → List (Option ℕ) → ℕ → List Event → List (Option ℕ)
firsts_from world firsts slot [] = firsts
firsts_from world firsts slot (event ∷ events) =
    firsts_from (happens world event) (firsts_after world (happens world event) slot firsts) slot events

abbrev pub firsts_of : Sizes → ℕ → List Event → List (Option ℕ)
firsts_of sizes slot events = firsts_from (first_world sizes) (no_firsts (first_world sizes) slot) slot events

-- a word that decides without another view is the winner of the round's first words, and stands on every backup
pub record RoundIsWon (before now : World) (slot : ℕ) (firsts : List (Option ℕ)) : Type 0 where
  pub words : List ℕ
  pub full : firsts ≡ map Some words
  pub wins : deciding_word now.shape now.nodes slot ≡ winner words
  pub everywhere : All (λ word. word ≡ deciding_word now.shape now.nodes slot) (backup_words now slot)
