-- A settling: the epoch is sealed, the clients that are inside a call pause, the nodes that are live get the words of those
-- of the old mask that are, and the next view is opened with all live nodes.
use Rattle.std.specs.Prelude.{◌≡◌, ℕ, ◌+◌, ◌-◌, ◌/◌, ◌%◌, ◌^◌, ◌<◌, ◌≤◌, Bool, true, false, ◌||◌, ◌==◌, nat_lt, if◌then◌else◌, List, length, slice_index_or}
use Rattle.std.specs.Option.{option_map_or}
use Rattle.machine.specs.declared.settling.Settled.{Settled}
use Rattle.machine.specs.declared.settling.Settled.TheVariants.{Going, Opened, NotYet}
use Rattle.machine.specs.Copying.{copied_words, read_place_of, sources_of, written_places_of}
use Rattle.machine.specs.EpochRead.{leaves_none_bare, open_mask}
use Rattle.machine.specs.Places.{control}
use Rattle.machine.specs.Turn.{Turn}
use Rattle.region_view.specs.Control.{EpochWord, Status, Begin, Pause}
use Rattle.region_view.specs.Epoch.{word_of_epoch}
use Rattle.region_view.specs.Placed.{Viewed, in_mask}
use Rattle.region_view.specs.Sizes.{IsWithinLimits, Sizes}
use Rattle.verb_words.specs.declared.verbs.Answer.{Answer}
use Rattle.verb_words.specs.declared.verbs.Answer.TheVariants.{Word, Done, Lost}
use Rattle.verb_words.specs.declared.verbs.Place.{Place}
use Rattle.verb_words.specs.declared.verbs.Verb.{Verb}
use Rattle.verb_words.specs.declared.verbs.Verb.TheVariants.{Read, Write}

-- ReadEpoch: reads the epoch word. Seal: writes it sealed. ReadBegin: reads a client's begin word. ReadPause: reads its
-- pause word, since it was read at this begin word, inside a call. ReadStatus: reads a node's status word; so far these
-- nodes are live. ReadWord: reads the present word on a source. WriteWord: writes it to the present one of its other
-- places. Open: writes the next view's epoch word
pub data Phase : Type 0 where
  ReadEpoch : Phase
  Seal : Phase
  ReadBegin : (client : ℕ) → Phase
  ReadPause : (client begin : ℕ) → Phase
  ReadStatus : (node live : ℕ) → Phase
  ReadWord : Phase
  WriteWord : (word target : ℕ) → Phase
  Open : Phase

-- Bit c - 1 of stopped is set where client c was stopped when the settling was chosen. Then the sealed epoch word, the masks
-- of the sources and of the next view, and the word that is copied, by its region and its offset there
pub record Settling : Type 0 where
  pub shape : Sizes
  pub stopped : ℕ
  pub sealed : ℕ
  pub sources : ℕ
  pub mask : ℕ
  pub region : ℕ
  pub offset : ℕ
  pub phase : Phase

abbrev pub settling_of : Sizes → ℕ → Settling
settling_of sizes stopped = record {
  shape = sizes;
  stopped = stopped;
  sealed = 0;
  sources = 0;
  mask = 0;
  region = 0;
  offset = 0;
  phase = ReadEpoch;
}

abbrev pub source_view : Settling → Viewed
source_view settling = record { shape = settling.shape; mask = settling.sources }

abbrev pub next_view : Settling → Viewed
next_view settling = record { shape = settling.shape; mask = settling.mask }

-- the mask of the view that is closing
abbrev pub old_mask : Settling → ℕ
old_mask settling = settling.sealed % 2 ^ 8

-- the epoch word of the next view
abbrev pub opened_word : Settling → ℕ
opened_word settling =
    word_of_epoch (record { view = (settling.sealed / 2 ^ 16 + 1) % 2 ^ 48; sealed = false; mask = settling.mask })

-- an open epoch word with the sealed bit
abbrev pub with_seal : ℕ → ℕ
with_seal word = word + 2 ^ 8

-- the places to which the present word goes
abbrev pub targets : Settling → List (ℕ × ℕ)
targets settling = written_places_of (source_view settling) (next_view settling) settling.region settling.offset

abbrev pub place_of_pair : ℕ × ℕ → Place
place_of_pair pair = record { node = pair.0; at = pair.1 }

abbrev pub read_place : Settling → Place
read_place settling = place_of_pair (read_place_of (source_view settling) settling.region settling.offset)

abbrev pub target_place : Settling → ℕ → Place
target_place settling target = place_of_pair (slice_index_or (targets settling) target (0, 0))

abbrev pub verb_at : Phase → Settling → Verb
verb_at ReadEpoch settling = Read (control EpochWord)
verb_at Seal settling = Write (control EpochWord) settling.sealed
verb_at (ReadBegin client) settling = Read (control (Begin client))
verb_at (ReadPause client begin) settling = Read (control (Pause client))
verb_at (ReadStatus node live) settling = Read (control (Status node))
verb_at ReadWord settling = Read (read_place settling)
verb_at (WriteWord word target) settling = Write (target_place settling target) word
verb_at Open settling = Write (control EpochWord) (opened_word settling)

abbrev pub next : Settling → Verb
next settling = verb_at settling.phase settling

abbrev pub goes_to : Settling → Phase → Turn Settling Settled
goes_to settling phase = record { state = record settling { phase = phase }; told = Going }

abbrev pub on_epoch : Settling → ℕ → Turn Settling Settled
on_epoch settling found =
    option_map_or
    (λ mask. goes_to (record settling { sealed = with_seal found }) Seal)
    (open_mask settling.shape found)
    (goes_to (record settling { sealed = found }) (ReadBegin 1))

-- the clients after this one are asked, and after the last the nodes
abbrev pub after_client : Settling → ℕ → Turn Settling Settled
after_client settling client =
    if nat_lt client settling.shape.clients then goes_to settling (ReadBegin (client + 1)) else goes_to settling (ReadStatus 1 0)

-- whether a client needs no pause word: it is between calls, or it was stopped
abbrev pub is_out : Settling → ℕ → ℕ → Bool
is_out settling client begin = (begin % 2 == 0) || in_mask settling.stopped client

abbrev pub on_begin : Settling → ℕ → ℕ → Turn Settling Settled
on_begin settling client found =
    if is_out settling client found then after_client settling client else goes_to settling (ReadPause client found)

-- a client that has not paused is waited for
abbrev pub waits : Settling → ℕ → ℕ → Turn Settling Settled
waits settling client begin = record { state = record settling { phase = ReadBegin client }; told = NotYet client begin }

abbrev pub on_pause : Settling → ℕ → ℕ → ℕ → Turn Settling Settled
on_pause settling client begin found =
    if found == settling.sealed then after_client settling client else waits settling client begin

-- the live nodes, once a node's status word was read
abbrev pub with_status : ℕ → ℕ → ℕ → ℕ
with_status live node found = if found == 0 then live + 2 ^ (node - 1) else live

-- the copying begins, from the nodes of the old mask that are live to all that are. Where a region has no source, nothing
-- is copied, and the mask stays
abbrev pub copies_from : Settling → ℕ → ℕ → Turn Settling Settled
copies_from settling live sources =
    if leaves_none_bare settling.shape sources
    then goes_to (record settling { sources = sources; mask = live; region = 0; offset = 0 }) ReadWord
    else goes_to (record settling { mask = old_mask settling }) Open

abbrev pub copies_to : Settling → ℕ → Turn Settling Settled
copies_to settling live = copies_from settling live (sources_of (old_mask settling) live)

abbrev pub after_status : Settling → ℕ → ℕ → Turn Settling Settled
after_status settling node live =
    if nat_lt node settling.shape.nodes then goes_to settling (ReadStatus (node + 1) live) else copies_to settling live

abbrev pub on_status : Settling → ℕ → ℕ → ℕ → Turn Settling Settled
on_status settling node live found = after_status settling node (with_status live node found)

-- the next word of the region, or the first of the next region; after the last the view is opened
abbrev pub next_word : Settling → Turn Settling Settled
next_word settling =
    if nat_lt (settling.offset + 1) (copied_words settling.shape settling.region)
    then goes_to (record settling { offset = settling.offset + 1 }) ReadWord
    else (if nat_lt settling.region settling.shape.regions
    then goes_to (record settling { region = settling.region + 1; offset = 0 }) ReadWord
    else goes_to settling Open)

-- the word goes to its places from this one on
abbrev pub writes_from : Settling → ℕ → ℕ → Turn Settling Settled
writes_from settling word target =
    if nat_lt target (length (targets settling)) then goes_to settling (WriteWord word target) else next_word settling

abbrev pub idles : Settling → Turn Settling Settled
idles settling = record { state = settling; told = Going }

-- a node was lost meanwhile: the nodes are asked anew
abbrev pub turn_at : Phase → Settling → Answer → Turn Settling Settled
turn_at ReadEpoch settling (Word found) = on_epoch settling found
turn_at Seal settling Done = goes_to settling (ReadBegin 1)
turn_at (ReadBegin client) settling (Word found) = on_begin settling client found
turn_at (ReadPause client begin) settling (Word found) = on_pause settling client begin found
turn_at (ReadStatus node live) settling (Word found) = on_status settling node live found
turn_at ReadWord settling (Word found) = writes_from settling found 0
turn_at ReadWord settling Lost = goes_to settling (ReadStatus 1 0)
turn_at (WriteWord word target) settling Done = writes_from settling word (target + 1)
turn_at (WriteWord word target) settling Lost = goes_to settling (ReadStatus 1 0)
turn_at Open settling Done = record { state = settling; told = Opened (opened_word settling) }
turn_at phase settling answer = idles settling

abbrev pub turn : Settling → Answer → Turn Settling Settled
turn settling answer = turn_at settling.phase settling answer

abbrev pub IsClient : Sizes → ℕ → Type 0
IsClient sizes client = (1 ≤ client) × (client ≤ sizes.clients)

-- what holds while words are copied: each region has a source, each source is in the next view, and the present word is one
-- of those that are copied
pub record IsCopying (settling : Settling) : Type 0 where
  pub covers : leaves_none_bare settling.shape settling.sources ≡ true
  pub within : (node : ℕ) → in_mask settling.sources node ≡ true → in_mask settling.mask node ≡ true
  pub region : settling.region ≤ settling.shape.regions
  pub offset : settling.offset < copied_words settling.shape settling.region

-- what holds of a phase: the clients and nodes that are asked are those of the pool, the live nodes were asked, and a
-- word is written to one of its places
abbrev pub IsAt : Phase → Settling → Type 0
IsAt (ReadBegin client) settling = IsClient settling.shape client
IsAt (ReadPause client begin) settling = IsClient settling.shape client
IsAt (ReadStatus node live) settling = (1 ≤ node) × (node ≤ settling.shape.nodes) × (live < 2 ^ (node - 1))
IsAt ReadWord settling = IsCopying settling
IsAt (WriteWord word target) settling = IsCopying settling × (target < length (targets settling))
IsAt phase settling = Unit {0}

-- what holds of each settling
pub record IsSettling (sizes : Sizes) (settling : Settling) : Type 0 where
  pub same_shape : settling.shape ≡ sizes
  pub limits : IsWithinLimits settling.shape
  pub phase : IsAt settling.phase settling
